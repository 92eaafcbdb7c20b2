use Rattle.std.proofs.Common.{◌≡◌, ◌≤◌, take}
use Rattle.js_parser.specs.Accepted.{functions_in}
use Rattle.js_parser.specs.Symbols.{symbols}
use Rattle.js_parser.proofs.cuts.first_function_over.Given as goal

abbrev pub invariant-loop-i : goal.invariant-loop-i
invariant-loop-i l = record {
  same : l.functions ≡ functions_in (symbols (take l.i l.tokens));
  within : l.functions ≤ l.most;
}
