use Rattle.js_lexer.proofs.OneCut as one
use Rattle.js_lexer.proofs.laws.no_text_has_both.Goals as goal

pub returns : goal.returns
returns c = one.no_text_has_both
