use Rattle.js_parser.proofs.FrontsScripts.{spent}
use Rattle.js_parser.proofs.laws.spent_where_there_is_no_room.Goals as goal

pub returns : goal.returns
returns c form limits tokens used rest e few run = spent form limits tokens used rest e few run
