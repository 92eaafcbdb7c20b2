use Rattle.js_parser.proofs.FormalLists.{one_list}
use Rattle.js_parser.proofs.laws.one_list_of_formals.Goals as goal

pub returns : goal.returns
returns c form u ns others d e = one_list d e
