use Rattle.std.proofs.Common.{◌≡◌, ◌≤◌, take}
use Rattle.js_parser.specs.Accepted.{most_open}
use Rattle.js_parser.specs.Symbols.{symbols}
use Rattle.js_parser.specs.Laws.{open_behind}
use Rattle.js_parser.proofs.cuts.first_bracket_over.Given as goal

abbrev pub invariant-loop-i : goal.invariant-loop-i
invariant-loop-i l = record {
  same : l.brackets ≡ open_behind 0 (symbols (take l.i l.tokens));
  keeps : most_open 0 (symbols (take l.i l.tokens)) ≤ l.most;
  within : l.brackets ≤ l.most;
}
