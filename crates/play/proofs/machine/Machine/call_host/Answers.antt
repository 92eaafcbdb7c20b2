use Rattle.std.proofs.Common.{◌+◌, refl, ap, ◌∙◌}
use Rattle.std.specs.Prelude.{slice_get}
use Rattle.play.proofs.TurnLemmas.{keeps_out, out_runs_out}
use Rattle.play.proofs.machine.Machine.call_host.Goals as goal

pub returns-then-not-take-clause-turns : goal.returns-then-not-take-clause-turns
returns-then-not-take-clause-turns c =
    rw c.run_out.ensures.halt
    (out_runs_out c.args.table.now c.args.self.now c.run_out.new.self c.requires.0 c.requires.1 c.if-not-take.ensures.0 (c.run_out.ensures.steps ∙ ap (λ k. k.left + k.steps) c.if-not-take.ensures.1) c.run_out.ensures.report)

pub returns-clause-turns : goal.returns-clause-turns
returns-clause-turns c =
    keeps_out c.args.table.now c.args.self.now _ c.requires.0 c.requires.1
    c.if-not-take.ensures.0 c.if-not-take.ensures.1 c.if-not-take.ensures.2
    refl c.pass.ensures refl
    (c.in_ok-push_first.ensures c.requires.0 (ap (λ r. slice_get r 0) c.requires.1))
