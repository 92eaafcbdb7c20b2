use Rattle.source_files.proofs.Sources.{one_tree}
use Rattle.source_files.proofs.laws.one_tree.Goals as goal

pub returns : goal.returns
returns c room bytes tree other a b = one_tree room bytes tree other a b
