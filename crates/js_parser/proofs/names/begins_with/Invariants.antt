use Rattle.std.proofs.Common.{◌≡◌, drop}
use Rattle.js_lexer.specs.Characters.{begins}
use Rattle.js_parser.proofs.names.begins_with.Given as goal

abbrev pub invariant-loop-i : goal.invariant-loop-i
invariant-loop-i l = begins l.text l.name ≡ begins (drop l.i l.text) (drop l.i l.name)
