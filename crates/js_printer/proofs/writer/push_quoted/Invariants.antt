use Rattle.std.proofs.Common.{◌≡◌, ◌++◌, [], ◌∷◌, drop}
use Rattle.std.specs.Prelude.{encode_utf8_all}
use Rattle.std.specs.List.{flat_map}
use Rattle.dl_text.specs.Quote.{quoted_unit}
use Rattle.js_printer.proofs.writer.push_quoted.Given as goal

abbrev pub invariant-loop-unit : goal.invariant-loop-unit
invariant-loop-unit l =
    l.text ++ encode_utf8_all (flat_map quoted_unit (drop l.unit-index l.units) ++ (34 ∷ []))
    ≡ l.initial.text ++ encode_utf8_all (flat_map quoted_unit l.units ++ (34 ∷ []))
