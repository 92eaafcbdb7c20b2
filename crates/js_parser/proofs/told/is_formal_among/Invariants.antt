use Rattle.std.proofs.Common.{◌≡◌, drop}
use Rattle.js_parser.specs.Fault as spec
use Rattle.js_parser.specs.Symbols.{symbols}
use Rattle.js_parser.proofs.told.is_formal_among.Given as goal

abbrev pub invariant-loop-token : goal.invariant-loop-token
invariant-loop-token l =
    spec.is_formal_among l.name (symbols l.tokens) ≡ spec.is_formal_among l.name (symbols (drop l.token-index l.tokens))
