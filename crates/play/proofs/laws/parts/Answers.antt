use Rattle.std.proofs.Common.{◌+◌, [], refl}
use Rattle.play.specs.Program.{program}
use Rattle.play.proofs.sim.Joins.{due_joins}
use Rattle.play.proofs.laws.parts.Goals as goal

pub returns : goal.returns
returns c entries node env s n ks = due_joins entries ks (n + s.steps) n (program entries node env) [] s refl
