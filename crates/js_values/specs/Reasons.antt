-- The names of stops, as reports and faults tell them.
use Rattle.std.specs.Prelude.{ℕ, List, codes}
use Rattle.js_values.specs.declared.reason.Reason.{Reason}
use Rattle.js_values.specs.declared.reason.Reason.TheVariants as reason

abbrev pub reason_text : Reason → List ℕ
reason_text reason.Fraction = codes "Fraction"
reason_text reason.TooLarge = codes "TooLarge"
reason_text reason.Infinite = codes "Infinite"
reason_text reason.NumberText = codes "NumberText"
reason_text reason.FunctionText = codes "FunctionText"
reason_text reason.Wrapper = codes "Wrapper"
reason_text reason.ReservedName = codes "ReservedName"
reason_text reason.LongText = codes "LongText"
