use Rattle.js_lexer.proofs.OneCut as one
use Rattle.js_lexer.proofs.laws.one_fault.Goals as goal

pub returns : goal.returns
returns c = one.one_fault
