use Rattle.source_files.proofs.Sources.{not_refused}
use Rattle.source_files.proofs.laws.sources_are_not_refused.Goals as goal

pub returns : goal.returns
returns c room bytes tree fault a r = not_refused room bytes tree fault a r
