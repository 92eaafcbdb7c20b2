use Rattle.std.proofs.Common.{Some, sym, ap, ◌∙◌}
use Rattle.js_tree.specs.Plain.{expr}
use Rattle.js_machine.proofs.AssignmentLaws.{change_goes, change_stops}
use Rattle.js_machine.proofs.ThrowLaws.{if_ok}
use Rattle.js_machine.proofs.machine.Machine.change.Goals as goal

pub returns-in-Some-Ok-clause-same : goal.returns-in-Some-Ok-clause-same
returns-in-Some-Ok-clause-same c =
    let m = c.args.self.now in
    if_ok c.change_from.result _ _ c.change_from.ensures.same (λ next same. λ out.
    change_goes m.clock.1 m.frames m.values m.heap m.hosts m.beats m.clock.0 out c.args.op
    c.args.gives_new (expr c.args.target.now) c.in-Some.name.now c.in-Some-2.old c.in-Some-Ok.before
    c.in-Some.ensures (sym c.in_ok-old.ensures ∙ c.in-Some-2.is)
    (sym c.number.ensures ∙ (c.in-Some-Ok.is ∙ ap Some c.in-Some-Ok.field-0-is)) ∙ same out)

pub returns-in-Some-Err-clause-same : goal.returns-in-Some-Err-clause-same
returns-in-Some-Err-clause-same c =
    let m = c.args.self.now in
    λ out. change_stops m.clock.1 m.frames m.values m.heap m.hosts m.beats m.clock.0 out c.args.op
    c.args.gives_new (expr c.args.target.now) c.in-Some.name.now c.in-Some-2.old c.in-Some-Err.reason
    c.in-Some.ensures (sym c.in_ok-old.ensures ∙ c.in-Some-2.is)
    (sym c.number.ensures ∙ (c.in-Some-Err.is ∙ ap Some c.in-Some-Err.field-0-is))
