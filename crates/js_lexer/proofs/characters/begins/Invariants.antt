use Rattle.std.proofs.Common.{◌≡◌, drop}
use Rattle.js_lexer.specs.Characters.{begins}
use Rattle.js_lexer.proofs.characters.begins.Given as goal

abbrev pub invariant-loop-i : goal.invariant-loop-i
invariant-loop-i l = begins l.spelling l.text ≡ begins (drop l.i l.spelling) (drop l.i l.text)
