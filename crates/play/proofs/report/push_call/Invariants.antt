use Rattle.std.proofs.Common.{◌≡◌, ◌++◌, take}
use Rattle.std.specs.List.{flat_map}
use Rattle.dl_text.specs.Quote.{quoted_unit}
use Rattle.play.proofs.report.push_call.Given as goal

abbrev pub invariant-loop-byte : goal.invariant-loop-byte
invariant-loop-byte l = l.report ≡ l.initial.report ++ flat_map quoted_unit (take l.byte-index l.byte-items)
