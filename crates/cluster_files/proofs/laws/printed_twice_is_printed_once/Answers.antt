use Rattle.cluster_files.proofs.PrintedScripts.{printed_twice_is_printed_once}
use Rattle.cluster_files.proofs.laws.printed_twice_is_printed_once.Goals as goal

pub returns : goal.returns
returns c = printed_twice_is_printed_once
