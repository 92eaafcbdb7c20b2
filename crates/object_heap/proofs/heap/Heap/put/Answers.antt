use Rattle.std.proofs.Common.{◌≡◌, Some, None, Ok, Err, sym, ap, subst, ◌∙◌}
use Rattle.std.specs.Prelude.{slice_get, slice_set}
use Rattle.object_heap.specs.declared.entry.Written.TheVariants as written
use Rattle.std.proofs.lemmas.Result.{err_from_is_err_and, IfOk-equal}
use Rattle.object_heap.specs.Answers.{told, IsAnswer}
use Rattle.object_heap.specs.Objects.{own_of, own_in, properties_in, with_properties}
use Rattle.object_heap.specs.Put.{put, heap_after, written as put_written}
use Rattle.object_heap.proofs.Puts.{is_there, heap_with, read_at, put_seen, kept_heap}
use Rattle.object_heap.proofs.heap.Heap.put.Goals as goal

pub returns-in_err-put_own-clause-answer : goal.returns-in_err-put_own-clause-answer
returns-in_err-put_own-clause-answer c =
    let seen = put_seen _ c.args.self.now c.args.o.0 _ c.args.name.now c.args.v _ _ (Err c.in_err-put_own.field-0.0) c.self.view_is c.self.invariant (is_there _ c.args.o.0 _ c.is_there.ensures c.if-not-is_there.false) c.index_mut.ensures.value c.put_own.ensures.what c.in_err-put_own.was in
    let p = err_from_is_err_and c.from_residual.result c.from_residual.ensures.1 in
    rw (p.1, p.2, seen.1) (sym (ap told seen.0))

pub invariant_of-self-in-Done : goal.invariant_of-self-in-Done
invariant_of-self-in-Done c =
    let now = c.args.self.now in
    let at = read_at _ now c.args.o.0 _ c.self.view_is (is_there _ c.args.o.0 _ c.is_there.ensures c.if-not-is_there.false) c.index_mut.ensures.value in
    heap_with _ now c.args.o.0 _ _ _ _ c.self.view_is at c.put_own.ensures.after c.put_own.ensures.has_length c.self.invariant

pub returns-in-Done-clause-answer : goal.returns-in-Done-clause-answer
returns-in-Done-clause-answer c =
    let seen = put_seen _ c.args.self.now c.args.o.0 _ c.args.name.now c.args.v _ _ (Ok written.Done) c.self.view_is c.self.invariant (is_there _ c.args.o.0 _ c.is_there.ensures c.if-not-is_there.false) c.index_mut.ensures.value c.put_own.ensures.what (c.in_ok-put_own.was ∙ ap Ok c.in-Done.is) in
    sym (ap told seen)

pub returns-in-Done-clause-ok : goal.returns-in-Done-clause-ok
returns-in-Done-clause-ok c =
    let seen = put_seen _ c.args.self.now c.args.o.0 _ c.args.name.now c.args.v _ _ (Ok written.Done) c.self.view_is c.self.invariant (is_there _ c.args.o.0 _ c.is_there.ensures c.if-not-is_there.false) c.index_mut.ensures.value c.put_own.ensures.what (c.in_ok-put_own.was ∙ ap Ok c.in-Done.is) in
    let now = c.args.self.now in
    ap (λ h. slice_set h c.args.o.0 c.put_own.new.self) c.self.view_is ∙ ap (slice_set now c.args.o.0) c.put_own.ensures.after ∙ sym (ap (heap_after now) seen)

pub returns-in-ReadOnly-clause-answer : goal.returns-in-ReadOnly-clause-answer
returns-in-ReadOnly-clause-answer c =
    let seen = put_seen _ c.args.self.now c.args.o.0 _ c.args.name.now c.args.v _ _ (Ok written.ReadOnly) c.self.view_is c.self.invariant (is_there _ c.args.o.0 _ c.is_there.ensures c.if-not-is_there.false) c.index_mut.ensures.value c.put_own.ensures.what (c.in_ok-put_own.was ∙ ap Ok c.in-ReadOnly.is) in
    sym (ap told seen.0)

pub returns-in-ReadOnly-clause-ok : goal.returns-in-ReadOnly-clause-ok
returns-in-ReadOnly-clause-ok c =
    let seen = put_seen _ c.args.self.now c.args.o.0 _ c.args.name.now c.args.v _ _ (Ok written.ReadOnly) c.self.view_is c.self.invariant (is_there _ c.args.o.0 _ c.is_there.ensures c.if-not-is_there.false) c.index_mut.ensures.value c.put_own.ensures.what (c.in_ok-put_own.was ∙ ap Ok c.in-ReadOnly.is) in
    let now = c.args.self.now in
    let at = read_at _ now c.args.o.0 _ c.self.view_is (is_there _ c.args.o.0 _ c.is_there.ensures c.if-not-is_there.false) c.index_mut.ensures.value in
    kept_heap _ now c.args.o.0 _ _ _ c.self.view_is at c.put_own.ensures.after seen.1 ∙ sym (ap (heap_after now) seen.0)

pub returns-in-Shared-clause-answer : goal.returns-in-Shared-clause-answer
returns-in-Shared-clause-answer c =
    let seen = put_seen _ c.args.self.now c.args.o.0 _ c.args.name.now c.args.v _ _ (Ok (written.Shared c.in-Shared.scope c.in-Shared.place)) c.self.view_is c.self.invariant (is_there _ c.args.o.0 _ c.is_there.ensures c.if-not-is_there.false) c.index_mut.ensures.value c.put_own.ensures.what (c.in_ok-put_own.was ∙ ap Ok c.in-Shared.is) in
    sym (ap told seen.0)

pub returns-in-Shared-clause-ok : goal.returns-in-Shared-clause-ok
returns-in-Shared-clause-ok c =
    let seen = put_seen _ c.args.self.now c.args.o.0 _ c.args.name.now c.args.v _ _ (Ok (written.Shared c.in-Shared.scope c.in-Shared.place)) c.self.view_is c.self.invariant (is_there _ c.args.o.0 _ c.is_there.ensures c.if-not-is_there.false) c.index_mut.ensures.value c.put_own.ensures.what (c.in_ok-put_own.was ∙ ap Ok c.in-Shared.is) in
    let now = c.args.self.now in
    let at = read_at _ now c.args.o.0 _ c.self.view_is (is_there _ c.args.o.0 _ c.is_there.ensures c.if-not-is_there.false) c.index_mut.ensures.value in
    kept_heap _ now c.args.o.0 _ _ _ c.self.view_is at c.put_own.ensures.after seen.1 ∙ sym (ap (heap_after now) seen.0)

pub put_new-requires-clause-absent : goal.put_new-requires-clause-absent
put_new-requires-clause-absent c =
    let now = c.args.self.now in
    let seen = put_seen _ now c.args.o.0 _ c.args.name.now c.args.v _ _ (Ok (written.Absent c.in-Absent.v)) c.self.view_is c.self.invariant (is_there _ c.args.o.0 _ c.is_there.ensures c.if-not-is_there.false) c.index_mut.ensures.value c.put_own.ensures.what (c.in_ok-put_own.was ∙ ap Ok c.in-Absent.is) in
    let at = read_at _ now c.args.o.0 _ c.self.view_is (is_there _ c.args.o.0 _ c.is_there.ensures c.if-not-is_there.false) c.index_mut.ensures.value in
    let same = kept_heap _ now c.args.o.0 _ _ _ c.self.view_is at c.put_own.ensures.after seen.2 in
    ap (λ h. own_of h c.args.o.0 c.args.name.now) same ∙ ap (λ found. own_in (properties_in found) c.args.name.now) at ∙ seen.0

pub returns-in-Absent-clause-answer : goal.returns-in-Absent-clause-answer
returns-in-Absent-clause-answer c =
    let now = c.args.self.now in
    let seen = put_seen _ now c.args.o.0 _ c.args.name.now c.args.v _ _ (Ok (written.Absent c.in-Absent.v)) c.self.view_is c.self.invariant (is_there _ c.args.o.0 _ c.is_there.ensures c.if-not-is_there.false) c.index_mut.ensures.value c.put_own.ensures.what (c.in_ok-put_own.was ∙ ap Ok c.in-Absent.is) in
    let at = read_at _ now c.args.o.0 _ c.self.view_is (is_there _ c.args.o.0 _ c.is_there.ensures c.if-not-is_there.false) c.index_mut.ensures.value in
    let same = kept_heap _ now c.args.o.0 _ _ _ c.self.view_is at c.put_own.ensures.after seen.2 in
    let told_same = ap (λ h. told (put h c.args.o.0 c.args.name.now c.in-Absent.v)) same ∙ ap (λ v. told (put now c.args.o.0 c.args.name.now v)) seen.1 in
    subst (IsAnswer c.put_new.result) told_same c.put_new.ensures.answer

pub returns-in-Absent-clause-ok : goal.returns-in-Absent-clause-ok
returns-in-Absent-clause-ok c =
    let now = c.args.self.now in
    let seen = put_seen _ now c.args.o.0 _ c.args.name.now c.args.v _ _ (Ok (written.Absent c.in-Absent.v)) c.self.view_is c.self.invariant (is_there _ c.args.o.0 _ c.is_there.ensures c.if-not-is_there.false) c.index_mut.ensures.value c.put_own.ensures.what (c.in_ok-put_own.was ∙ ap Ok c.in-Absent.is) in
    let at = read_at _ now c.args.o.0 _ c.self.view_is (is_there _ c.args.o.0 _ c.is_there.ensures c.if-not-is_there.false) c.index_mut.ensures.value in
    let same = kept_heap _ now c.args.o.0 _ _ _ c.self.view_is at c.put_own.ensures.after seen.2 in
    let after = ap (λ h. put_written h c.args.o.0 c.args.name.now c.in-Absent.v) same ∙ ap (λ v. put_written now c.args.o.0 c.args.name.now v) seen.1 in
    IfOk-equal c.put_new.result _ _ _ c.put_new.ensures.ok after
