use Rattle.std.proofs.Common.{◌≡◌, ◌++◌, drop}
use Rattle.play.specs.Tables.{statements_of}
use Rattle.play.proofs.site.statements_of.Given as goal

abbrev pub invariant-loop-item : goal.invariant-loop-item
invariant-loop-item l = l.statements ++ statements_of (drop l.item-index l.items) ≡ statements_of l.items
