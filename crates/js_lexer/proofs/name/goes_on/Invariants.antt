use Rattle.std.proofs.Common.{◌≡◌, length}
use Rattle.js_lexer.specs.Names.{goes_on}
use Rattle.js_lexer.proofs.name.goes_on.Given as goal

abbrev pub invariant-loop-c : goal.invariant-loop-c
invariant-loop-c l = goes_on l.rest ≡ goes_on l.units

abbrev pub decreases-loop-c : goal.decreases-loop-c
decreases-loop-c l = length l.rest
