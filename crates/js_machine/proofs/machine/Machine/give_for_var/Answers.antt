use Rattle.std.proofs.Common.{sym, ap, ◌∙◌}
use Rattle.object_heap.specs.declared.built_in.BuiltIn.TheVariants as built
use Rattle.js_machine.specs.declared.frame.Frame.TheVariants as frame
use Rattle.js_machine.specs.Rest.{in_value}
use Rattle.js_machine.proofs.ThrowLaws.{raised}
use Rattle.js_machine.proofs.VariableLaws.{v_for_bad}
use Rattle.js_machine.proofs.machine.Machine.give_for_var.Goals as goal

pub returns-else-branch-clause-same : goal.returns-else-branch-clause-same
returns-else-branch-clause-same c =
    let m = c.args.self.now in
    let now = c.write_name.new.self in
    let is = c.in_ok-write_name.ensures.after in
    raised (in_value (frame.ForVar c.args.i c.args.items c.args.s)) m now c.throw_error.new.self
    built.RangeErrorPrototype _ _ c.throw_error.result is
    (λ out. v_for_bad m.clock.1 m.frames m.values m.heap m.hosts m.beats m.clock.0 out c.args.items
    c.args.i c.args.s _ _ c.pop-v.result now.values now.heap c.in-Some.ensures c.pop-v.ensures.value
    (ap (λ m. m.values) is ∙ c.pop-v.ensures.rest) (ap (λ m. m.heap) is)
    (sym c.in_ok-write_name.ensures.told ∙ c.if-branch.false))
    c.throw_error.ensures
