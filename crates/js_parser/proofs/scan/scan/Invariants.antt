use Rattle.std.proofs.Common.{◌≤◌, length}
use Rattle.std.specs.Prelude.{map}
use Rattle.js_tree.specs.Plain.{stmt}
use Rattle.js_parser.specs.Scanned.{Progress}
use Rattle.js_parser.specs.Symbols.{symbols}
use Rattle.js_parser.proofs.scan.scan.Given as goal

abbrev pub invariant-elements : goal.invariant-elements
invariant-elements l = record {
  progress : Progress l.form l.limits (symbols l.front) l.tokens (map stmt l.body);
  shorter : length l.tokens ≤ length (symbols l.front);
}

abbrev pub decreases-elements : goal.decreases-elements
decreases-elements l = length l.tokens
