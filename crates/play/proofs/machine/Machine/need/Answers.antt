use Rattle.std.proofs.Common.{◌-◌, refl, arith}
use Rattle.play.proofs.TurnLemmas.{call_runs_out, keeps_same, needs_next}
use Rattle.play.proofs.machine.Machine.need.Goals as goal

pub returns-then-self-lt-CALL_STEPS-clause-turns : goal.returns-then-self-lt-CALL_STEPS-clause-turns
returns-then-self-lt-CALL_STEPS-clause-turns c =
    rw c.run_out.ensures.halt
    (call_runs_out c.args.table.now c.args.self.now c.run_out.new.self c.args.letter _ c.requires.here c.requires.named.is c.if-self-lt-CALL_STEPS.true c.run_out.ensures.steps c.run_out.ensures.report)

pub returns-clause-turns : goal.returns-clause-turns
returns-clause-turns c = (keeps_same c.args.table.now c.args.self.now c.args.self.now refl, needs_next c.args.table.now c.args.self.now c.args.self.now c.args.letter c.args.number (c.args.self.now.clock.left - 4) c.args.place c.requires.here c.requires.named c.requires.stub c.requires.absent (omega (arith, c.if-self-lt-CALL_STEPS.false)) refl)
