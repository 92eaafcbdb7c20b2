use Rattle.cluster_files.proofs.PrintedScripts.{printed_text_is_accepted}
use Rattle.cluster_files.proofs.laws.printed_text_is_accepted.Goals as goal

pub returns : goal.returns
returns c = printed_text_is_accepted
