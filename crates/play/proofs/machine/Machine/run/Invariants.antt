use Rattle.play.specs.Machine.{Keeps, work}
use Rattle.play.proofs.machine.Machine.run.Given as goal

abbrev pub invariant-turns : goal.invariant-turns
invariant-turns l = Keeps l.table l.initial.self l.self

abbrev pub decreases-turns : goal.decreases-turns
decreases-turns l = work l.self
