use Rattle.std.proofs.Common.{◌≡◌, drop}
use Rattle.std.specs.List.{find}
use Rattle.js_lexer.specs.Words.{is_spelled, spelling}
use Rattle.js_lexer.proofs.word.find_word.Given as goal

abbrev pub invariant-loop-word : goal.invariant-loop-word
invariant-loop-word l = find (λ word. is_spelled (spelling word) l.units) (drop l.word-index l.words) ≡ find (λ word. is_spelled (spelling word) l.units) l.words
