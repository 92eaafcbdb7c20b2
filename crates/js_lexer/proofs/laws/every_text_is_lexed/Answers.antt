use Rattle.js_lexer.proofs.OneCut as one
use Rattle.js_lexer.proofs.laws.every_text_is_lexed.Goals as goal

pub returns : goal.returns
returns c = one.every_text_is_lexed
