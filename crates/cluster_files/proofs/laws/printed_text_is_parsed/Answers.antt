use Rattle.cluster_files.proofs.PrintedScripts.{printed_text_is_parsed}
use Rattle.cluster_files.proofs.laws.printed_text_is_parsed.Goals as goal

pub returns : goal.returns
returns c = printed_text_is_parsed
