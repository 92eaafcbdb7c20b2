use Rattle.std.proofs.Common.{◌≡◌, ◌+◌, drop}
use Rattle.js_lexer.specs.Characters.{run, is_hex_digit}
use Rattle.js_lexer.proofs.characters.hex_digits_length.Given as goal

abbrev pub invariant-loop-i : goal.invariant-loop-i
invariant-loop-i l = run is_hex_digit l.text ≡ l.i + run is_hex_digit (drop l.i l.text)
