use Rattle.std.proofs.Common.{◌≡◌, ◌+◌, ◌≤◌, drop}
use Rattle.js_parser.specs.Accepted.{functions_in}
use Rattle.js_parser.specs.Symbols.{symbols}
use Rattle.js_parser.proofs.told.functions_in.Given as goal

abbrev pub invariant-loop-token : goal.invariant-loop-token
invariant-loop-token l = record {
  total : functions_in (symbols l.tokens) ≡ l.count + functions_in (symbols (drop l.token-index l.tokens));
  within : l.count ≤ l.token-index;
}
