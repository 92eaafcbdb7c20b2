use Rattle.js_lexer.proofs.OneCut as one
use Rattle.js_lexer.proofs.laws.faults_stand_where_no_piece_does.Goals as goal

pub returns : goal.returns
returns c = one.faults_stand_where_no_piece_does
