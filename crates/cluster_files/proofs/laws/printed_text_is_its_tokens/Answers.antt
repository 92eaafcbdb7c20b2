use Rattle.cluster_files.proofs.PrintedScripts.{printed_text_is_its_tokens}
use Rattle.cluster_files.proofs.laws.printed_text_is_its_tokens.Goals as goal

pub returns : goal.returns
returns c = printed_text_is_its_tokens
