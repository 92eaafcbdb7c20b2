use Rattle.std.proofs.Common.{◌≡◌, ◌<◌, Some, None, Ok, Bool, length, true, false, refl, sym, ap, ◌∙◌}
use Rattle.std.specs.Prelude.{slice_get, slice_set}
use Rattle.object_heap.specs.Answers.{told}
use Rattle.object_heap.specs.Laws.{PrototypesComeBefore}
use Rattle.object_heap.specs.Invariant.{HasLength}
use Rattle.object_heap.specs.Objects.{own_in, properties_in, with_properties}
use Rattle.object_heap.specs.Put.{Put, put, heap_after, Ignored, Done}
use Rattle.object_heap.specs.Writes.{added}
use Rattle.object_heap.proofs.Puts.{heap_with, has_length_at, new_ignored, new_done, read_at, further_by}
use Rattle.object_heap.proofs.heap.Heap.put_new.Goals as goal

pub returns-then-not-is_writable-clause-answer : goal.returns-then-not-is_writable-clause-answer
returns-then-not-is_writable-clause-answer c =
    let now = c.args.self.now in
    let before : PrototypesComeBefore now = rw c.self.view_is at c.self.invariant.prototypes_before in
    let cannot = further_by now _ _ c.args.o.0 _ c.args.name.now _ (c.as_slice.ensures.value ∙ c.self.view_is) (c.as_slice-2.ensures.value ∙ c.self.view_is) c.prototype-prototype.ensures.value c.is_writable.ensures in
    sym (ap told (new_ignored now before c.args.o.0 c.args.name.now c.args.v c.requires.absent (cannot ∙ c.if-not-is_writable.true)))

pub returns-then-not-is_writable-clause-ok : goal.returns-then-not-is_writable-clause-ok
returns-then-not-is_writable-clause-ok c =
    let now = c.args.self.now in
    let before : PrototypesComeBefore now = rw c.self.view_is at c.self.invariant.prototypes_before in
    let cannot = further_by now _ _ c.args.o.0 _ c.args.name.now _ (c.as_slice.ensures.value ∙ c.self.view_is) (c.as_slice-2.ensures.value ∙ c.self.view_is) c.prototype-prototype.ensures.value c.is_writable.ensures in
    sym (ap (heap_after now) (new_ignored now before c.args.o.0 c.args.name.now c.args.v c.requires.absent (cannot ∙ c.if-not-is_writable.true)))

pub add-requires-clause-has_length : goal.add-requires-clause-has_length
add-requires-clause-has_length c =
    let now = c.args.self.now in
    let at = read_at _ now c.args.o.0 _ c.self.view_is c.requires.there c.index_mut.ensures.value in
    has_length_at now c.args.o.0 _ at (rw c.self.view_is at c.self.invariant.arrays_have_length)

pub add-requires-clause-absent : goal.add-requires-clause-absent
add-requires-clause-absent c =
    let now = c.args.self.now in
    let at = read_at _ now c.args.o.0 _ c.self.view_is c.requires.there c.index_mut.ensures.value in
    ap (λ found. own_in (properties_in found) c.args.name.now) (sym at) ∙ c.requires.absent

pub invariant_of-self-2 : goal.invariant_of-self-2
invariant_of-self-2 c =
    let now = c.args.self.now in
    let at = read_at _ now c.args.o.0 _ c.self.view_is c.requires.there c.index_mut.ensures.value in
    let after = c.in_ok-add.ensures in
    heap_with _ now c.args.o.0 _ _ _ _ c.self.view_is at after.ok after.has_length c.self.invariant

pub returns-clause-answer : goal.returns-clause-answer
returns-clause-answer c =
    let now = c.args.self.now in
    let before : PrototypesComeBefore now = rw c.self.view_is at c.self.invariant.prototypes_before in
    let at = read_at _ now c.args.o.0 _ c.self.view_is c.requires.there c.index_mut.ensures.value in
    let has = has_length_at now c.args.o.0 _ at (rw c.self.view_is at c.self.invariant.arrays_have_length) in
    let can = further_by now _ _ c.args.o.0 _ c.args.name.now _ (c.as_slice.ensures.value ∙ c.self.view_is) (c.as_slice-2.ensures.value ∙ c.self.view_is) c.prototype-prototype.ensures.value c.is_writable.ensures in
    sym (ap told (new_done now before c.args.o.0 c.args.name.now c.args.v c.requires.absent _ at has (can ∙ c.if-not-is_writable.false)))

pub returns-clause-ok : goal.returns-clause-ok
returns-clause-ok c =
    let now = c.args.self.now in
    let before : PrototypesComeBefore now = rw c.self.view_is at c.self.invariant.prototypes_before in
    let at = read_at _ now c.args.o.0 _ c.self.view_is c.requires.there c.index_mut.ensures.value in
    let has = has_length_at now c.args.o.0 _ at (rw c.self.view_is at c.self.invariant.arrays_have_length) in
    let can = further_by now _ _ c.args.o.0 _ c.args.name.now _ (c.as_slice.ensures.value ∙ c.self.view_is) (c.as_slice-2.ensures.value ∙ c.self.view_is) c.prototype-prototype.ensures.value c.is_writable.ensures in
    let after = c.in_ok-add.ensures in
    ap (λ h. slice_set h c.args.o.0 c.add.new.self) c.self.view_is ∙ ap (slice_set now c.args.o.0) after.ok ∙ sym (ap (heap_after now) (new_done now before c.args.o.0 c.args.name.now c.args.v c.requires.absent _ at has (can ∙ c.if-not-is_writable.false)))
