use Rattle.std.proofs.Common.{sym, ap, ◌∙◌}
use Rattle.object_heap.specs.declared.built_in.BuiltIn.TheVariants as built
use Rattle.js_tree.specs.Plain.{expr}
use Rattle.js_machine.specs.Globals.{name_in}
use Rattle.js_machine.specs.Rest.{in_store}
use Rattle.js_machine.proofs.NameLaws.{store_bad}
use Rattle.js_machine.proofs.ThrowLaws.{raised}
use Rattle.js_machine.proofs.machine.Machine.store.Goals as goal

pub returns-else-branch-clause-same : goal.returns-else-branch-clause-same
returns-else-branch-clause-same c =
    let m = c.args.self.now in
    let now = c.write_name.new.self in
    let is = c.in_ok-write_name.ensures.after in
    raised (in_store (name_in (expr c.args.target.now)) c.args.v c.args.given) m now
    c.throw_error.new.self built.RangeErrorPrototype _ _ c.throw_error.result is
    (λ out. store_bad m.clock.1 m.frames m.values m.heap m.hosts m.beats m.clock.0 out _
    c.in-Some.name.now c.args.v c.args.given now.values now.heap c.in-Some.ensures (ap (λ m. m.values) is)
    (ap (λ m. m.heap) is) (sym c.in_ok-write_name.ensures.told ∙ c.if-branch.false))
    c.throw_error.ensures
