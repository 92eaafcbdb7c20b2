use Rattle.std.proofs.Common.{◌≡◌, ◌+◌, drop}
use Rattle.js_lexer.specs.Characters.{run, continues_name}
use Rattle.js_lexer.proofs.characters.name_length.Given as goal

abbrev pub invariant-loop-i : goal.invariant-loop-i
invariant-loop-i l = run continues_name l.text ≡ l.i + run continues_name (drop l.i l.text)
