use Rattle.play.proofs.sim.Monotone.{run_less}
use Rattle.play.proofs.laws.runs_grow.Goals as goal

pub returns : goal.returns
returns c entries n m le p ks s = run_less entries n m le p ks s
