use Rattle.std.proofs.Common.{◌≡◌, length}
use Rattle.js_parser.specs.Fault as spec
use Rattle.js_parser.specs.Symbols.{symbols}
use Rattle.js_parser.proofs.told.is_earlier_formal.Given as goal

abbrev pub invariant-tokens : goal.invariant-tokens
invariant-tokens l =
    spec.is_earlier_formal l.name (symbols l.fn.used) ≡ spec.is_earlier_formal l.name (symbols l.rest)

abbrev pub decreases-tokens : goal.decreases-tokens
decreases-tokens l = length l.rest
