use Rattle.std.proofs.Common.{◌≡◌, ◌++◌, drop}
use Rattle.object_heap.specs.Visited.{keys_in}
use Rattle.object_heap.proofs.visited.keys.Given as goal

-- the names so far, and those of the properties that are left
abbrev pub invariant-loop-place : goal.invariant-loop-place
invariant-loop-place l = l.names.items ++ keys_in (drop l.place l.object.properties) ≡ keys_in l.object.properties
