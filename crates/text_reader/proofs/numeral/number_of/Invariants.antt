use Rattle.std.proofs.Common.{◌≡◌, ◌^◌, ◌<◌, drop}
use Rattle.text_reader.specs.Reader.{value_after}
use Rattle.text_reader.proofs.numeral.number_of.Given as goal

-- the digits that are left complete the number
abbrev pub invariant-loop-digit : goal.invariant-loop-digit
invariant-loop-digit l = record {
  small : l.value < 2 ^ 32;
  completes : value_after l.value (drop l.digit-index l.digits) ≡ value_after 0 l.digits;
}
