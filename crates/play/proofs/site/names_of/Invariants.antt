use Rattle.std.proofs.Common.{take}
use Rattle.play.specs.Machine.{NamesAre}
use Rattle.play.proofs.site.names_of.Given as goal

abbrev pub invariant-loop-place : goal.invariant-loop-place
invariant-loop-place l = NamesAre (take l.place l.functions) l.names.items
