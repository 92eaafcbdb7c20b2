use Rattle.std.proofs.Common.{sym, ap, ◌∙◌}
use Rattle.object_heap.specs.declared.built_in.BuiltIn.TheVariants as built
use Rattle.js_machine.specs.declared.frame.Frame.TheVariants as frame
use Rattle.js_code.specs.View.{for_target_tree}
use Rattle.js_machine.specs.Rest.{in_value}
use Rattle.js_machine.proofs.ForInLaws.{from_bad}
use Rattle.js_machine.proofs.ThrowLaws.{raised}
use Rattle.js_machine.proofs.machine.Machine.give_visits_from.Goals as goal

pub returns-else-branch-clause-same : goal.returns-else-branch-clause-same
returns-else-branch-clause-same c =
    let m = c.args.self.now in
    let now = c.write_name.new.self in
    let is = c.in_ok-write_name.ensures.after in
    raised (in_value (frame.VisitsFrom c.args.s)) m now c.throw_error.new.self
    built.RangeErrorPrototype _ _ c.throw_error.result is
    (λ out. from_bad m.clock.1 m.frames m.values m.heap m.hosts m.beats m.clock.0 out c.args.s
    _ _ _ _ _ c.pop-v.result now.values now.heap c.in-Some.ensures (ap for_target_tree c.in-Var.is)
    c.pop-v.ensures.value
    (ap (λ m. m.values) is ∙ c.pop-v.ensures.rest) (ap (λ m. m.heap) is)
    (sym c.in_ok-write_name.ensures.told ∙ c.if-branch.false))
    c.throw_error.ensures
