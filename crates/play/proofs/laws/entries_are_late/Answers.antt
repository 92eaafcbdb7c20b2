use Rattle.play.proofs.sim.Lates.{entries_late}
use Rattle.play.proofs.laws.entries_are_late.Goals as goal

pub returns : goal.returns
returns c files folder m = entries_late files folder m
