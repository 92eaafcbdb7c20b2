use Rattle.std.proofs.Common.{◌≡◌, ◌≤◌, drop}
use Rattle.js_parser.specs.Names.{is_numeral}
use Rattle.js_parser.proofs.Numerals.{goes_on}
use Rattle.js_parser.proofs.names.is_numeral.Given as goal

abbrev pub invariant-loop-unit : goal.invariant-loop-unit
invariant-loop-unit l = record {
  same : is_numeral l.digits ≡ goes_on l.number (drop l.unit-index l.digits);
  small : l.number ≤ 65535;
}
