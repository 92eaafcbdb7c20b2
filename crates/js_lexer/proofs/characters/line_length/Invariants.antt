use Rattle.std.proofs.Common.{◌≡◌, ◌+◌, drop}
use Rattle.js_lexer.specs.Characters.{run, in_line}
use Rattle.js_lexer.proofs.characters.line_length.Given as goal

abbrev pub invariant-loop-i : goal.invariant-loop-i
invariant-loop-i l = run in_line l.text ≡ l.i + run in_line (drop l.i l.text)
