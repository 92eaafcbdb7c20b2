use Rattle.std.proofs.Common.{◌≡◌, ◌^◌, take, min}
use Rattle.js_lexer.specs.Characters.{number_of}
use Rattle.js_lexer.proofs.number.value_of.Given as goal

abbrev pub invariant-loop-digit : goal.invariant-loop-digit
invariant-loop-digit l = l.value ≡ min (2 ^ 53) (number_of l.base (take l.digit-index l.digits))
