use Rattle.std.proofs.Common.{subst}
use Rattle.play.specs.Machine.{Turns}
use Rattle.play.proofs.TurnLemmas.{halts_then, turned_on}
use Rattle.play.proofs.machine.Machine.run.Goals as goal

pub returns-in-Some : goal.returns-in-Some
returns-in-Some c =
    halts_then c.args.table.now c.args.self.now c.turns.self c.turn.new.self c.in-Some.halt c.turns.invariant
    (subst (Turns c.args.table.now c.turns.self c.turn.new.self) c.in-Some.is c.in_ok-halt.ensures.turns)

pub turns-preserved : goal.turns-preserved
turns-preserved c =
    turned_on c.args.table.now c.args.self.now c.turns.self c.turn.new.self c.in_ok-halt.field-0 c.turns.invariant c.in_ok-halt.ensures.turns c.in_default.not-Some
