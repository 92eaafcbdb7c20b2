use Rattle.play.proofs.HeadlineLemmas.{played_loads}
use Rattle.play.proofs.laws.played_loads_lazily.Goals as goal

pub returns : goal.returns
returns c files folder page n original_script back report e h = played_loads files folder page n original_script back report e h
