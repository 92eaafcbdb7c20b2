use Rattle.std.proofs.Common.{◌≤◌, ◌-◌, length}
use Rattle.js_lexer.proofs.Strings.{Continues}
use Rattle.js_lexer.proofs.string.string_inside.Given as goal

abbrev pub invariant-loop-value : goal.invariant-loop-value
invariant-loop-value l = record { within : l.at ≤ length l.text; goes : Continues l.quote l.text l.at l.units }

abbrev pub decreases-loop-value : goal.decreases-loop-value
decreases-loop-value l = length l.text - l.at
