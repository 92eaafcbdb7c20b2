use Rattle.std.proofs.Common.{◌≡◌, drop}
use Rattle.js_parser.specs.Fault as spec
use Rattle.js_parser.specs.Symbols.{symbols}
use Rattle.js_parser.proofs.told.all_list_names.Given as goal

abbrev pub invariant-loop-token : goal.invariant-loop-token
invariant-loop-token l =
    spec.all_list_names (symbols l.tokens) ≡ spec.all_list_names (symbols (drop l.token-index l.tokens))
