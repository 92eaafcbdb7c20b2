use Rattle.std.proofs.Common.{◌+◌, ◌++◌, ap, sym, ◌∙◌, arith}
use Rattle.play.specs.Report.{IdleLine, line_text}
use Rattle.play.proofs.TurnLemmas.{name_runs_out, ends_uncaught}
use Rattle.play.proofs.machine.Machine.call_unbound.Goals as goal

pub returns-then-not-take-clause-turns : goal.returns-then-not-take-clause-turns
returns-then-not-take-clause-turns c =
    rw c.run_out.ensures.halt
    (name_runs_out c.args.table.now c.args.self.now c.run_out.new.self c.args.letter c.requires.here c.if-not-take.ensures.0 (c.run_out.ensures.steps ∙ ap (λ k. k.left + k.steps) c.if-not-take.ensures.1) c.run_out.ensures.report)

pub returns-clause-turns : goal.returns-clause-turns
returns-clause-turns c =
    let left = ap (λ k. k.left) c.in_ok-idle.ensures.clock in
    let steps = ap (λ k. k.steps) c.in_ok-idle.ensures.clock in
    ends_uncaught c.args.table.now c.args.self.now c.idle.new.self c.args.letter c.take.new.self.left c.requires.here c.requires.unbound
    c.if-not-take.ensures.0
    (omega (arith, c.if-not-take.ensures.1, steps))
    (c.in_ok-idle.ensures.report ∙ ap (λ r. r ++ line_text IdleLine) c.in_ok-push_uncaught.ensures)
