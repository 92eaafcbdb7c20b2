use Rattle.std.proofs.Common.{◌≡◌, ◌++◌, length, map, reverse}
use Rattle.play.specs.Tables.{loaded_entry}
use Rattle.play.proofs.clusters.load_entries.Given as goal

abbrev pub invariant-loop-entry : goal.invariant-loop-entry
invariant-loop-entry l = map loaded_entry l.rest ++ reverse l.loaded.items ≡ map loaded_entry l.initial.rest

abbrev pub decreases-loop-entry : goal.decreases-loop-entry
decreases-loop-entry l = length l.rest
