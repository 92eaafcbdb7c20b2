use Rattle.js_lexer.proofs.OneCut as one
use Rattle.js_lexer.proofs.laws.reading_finds_the_next_piece.Goals as goal

pub returns : goal.returns
returns c = one.reading_finds_the_next_piece
