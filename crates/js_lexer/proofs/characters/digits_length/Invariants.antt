use Rattle.std.proofs.Common.{◌≡◌, ◌+◌, drop}
use Rattle.js_lexer.specs.Characters.{run, is_digit}
use Rattle.js_lexer.proofs.characters.digits_length.Given as goal

abbrev pub invariant-loop-i : goal.invariant-loop-i
invariant-loop-i l = run is_digit l.text ≡ l.i + run is_digit (drop l.i l.text)
