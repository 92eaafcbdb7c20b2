use Rattle.play.proofs.HeadlineLemmas.{originals_are_lazy}
use Rattle.play.proofs.laws.waits_at_first_entries.Goals as goal

pub returns : goal.returns
returns c files folder original_script back n = originals_are_lazy files folder original_script back n
