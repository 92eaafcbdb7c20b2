use Rattle.cluster_files.proofs.PrintedScripts.{printed_tree_reads_back}
use Rattle.cluster_files.proofs.laws.printed_tree_reads_back.Goals as goal

pub returns : goal.returns
returns c = printed_tree_reads_back
