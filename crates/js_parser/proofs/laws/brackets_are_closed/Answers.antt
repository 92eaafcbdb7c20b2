use Rattle.js_parser.proofs.Counts.{source_element}
use Rattle.js_parser.proofs.laws.brackets_are_closed.Goals as goal

pub returns : goal.returns
returns c form context u next s d n = (source_element d).closed n
