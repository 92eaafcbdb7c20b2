use Rattle.std.proofs.Common.{◌≡◌, ◌∷◌, take}
use Rattle.std.specs.List.{flat_map}
use Rattle.dl_text.specs.Quote.{quoted_unit}
use Rattle.dl_text.proofs.quote.quote_units.Given as goal

abbrev pub invariant-loop-unit : goal.invariant-loop-unit
invariant-loop-unit l = l.text ≡ 34 ∷ flat_map quoted_unit (take l.unit-index l.unit-items)
