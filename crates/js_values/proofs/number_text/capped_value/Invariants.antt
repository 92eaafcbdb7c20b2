use Rattle.std.proofs.Common.{◌≡◌, ◌^◌, min, take}
use Rattle.std.specs.Str.Parse.{digits_value}
use Rattle.js_values.proofs.number_text.capped_value.Given as goal

abbrev pub invariant-loop-unit : goal.invariant-loop-unit
invariant-loop-unit l = l.value ≡ min (2 ^ 53) (digits_value l.radix (take l.unit-index l.digits))
