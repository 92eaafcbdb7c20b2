use Rattle.js_parser.proofs.StatementEnds.{none_inserted}
use Rattle.js_parser.proofs.laws.none_is_inserted_where_the_next_fits.Goals as goal

pub returns : goal.returns
returns c form context u next x d h = none_inserted form context u next x d h
