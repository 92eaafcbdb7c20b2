use Rattle.play.proofs.HeadlineLemmas.{played_shows}
use Rattle.play.proofs.laws.played_shows_original.Goals as goal

pub returns : goal.returns
returns c files folder page n original_script back report e h = played_shows files folder page n original_script back report e h
