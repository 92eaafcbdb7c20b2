use Rattle.cluster_files.proofs.PrintedScripts.{printed_text_reads_back}
use Rattle.cluster_files.proofs.laws.printed_text_reads_back.Goals as goal

pub returns : goal.returns
returns c = printed_text_reads_back
