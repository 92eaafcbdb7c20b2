use Rattle.source_files.proofs.Sources.{judged}
use Rattle.source_files.proofs.laws.sources_or_refused.Goals as goal

pub returns : goal.returns
returns c room bytes = judged room bytes
