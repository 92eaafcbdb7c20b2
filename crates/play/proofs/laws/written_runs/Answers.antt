use Rattle.play.proofs.sim.Back.{script_back}
use Rattle.play.proofs.sim.Whole.{joined}
use Rattle.play.specs.Site.{site_tree}
use Rattle.play.proofs.laws.written_runs.Goals as goal

pub returns : goal.returns
returns c entries late items ns listed original_script back =
    joined entries original_script (site_tree ns items) (script_back entries late ns items original_script back.original_is)
