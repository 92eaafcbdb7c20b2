use Rattle.cluster_files.proofs.PrintedScripts.{tokens_of_texts_are_read}
use Rattle.cluster_files.proofs.laws.tokens_of_texts_are_read.Goals as goal

pub returns : goal.returns
returns c = tokens_of_texts_are_read
