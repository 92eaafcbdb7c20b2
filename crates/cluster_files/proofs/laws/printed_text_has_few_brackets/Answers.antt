use Rattle.cluster_files.proofs.PrintedScripts.{printed_text_has_few_brackets}
use Rattle.cluster_files.proofs.laws.printed_text_has_few_brackets.Goals as goal

pub returns : goal.returns
returns c = printed_text_has_few_brackets
