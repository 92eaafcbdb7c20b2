use Rattle.std.proofs.Common.{◌≡◌, map, take}
use Rattle.object_heap.specs.Start.{object}
use Rattle.object_heap.proofs.start_objects.objects.Given as goal

abbrev pub invariant-loop-b : goal.invariant-loop-b
invariant-loop-b l = l.objects.items ≡ map object (take l.b-index l.all)
