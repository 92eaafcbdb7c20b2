use Rattle.std.proofs.Common.{◌≡◌, map, sym, ap, subst, ◌∙◌}
use Rattle.object_heap.specs.Objects.{Heap}
use Rattle.object_heap.specs.Start.{object, heap_at_start}
use Rattle.object_heap.specs.Invariant.{IsHeap}
use Rattle.object_heap.proofs.Starting.{is_heap_at_first}
use Rattle.object_heap.proofs.heap.Heap.new.Goals as goal

pub invariant_of-result : goal.invariant_of-result
invariant_of-result c =
    let P : Heap → Type 0 = λ heap. IsHeap heap c.in_ok-length.length in
    subst P (sym (c.in_ok-objects.ensures ∙ ap (map object) c.as_slice.ensures)) (is_heap_at_first c.in_ok-length.length c.in_ok-length.ensures)
