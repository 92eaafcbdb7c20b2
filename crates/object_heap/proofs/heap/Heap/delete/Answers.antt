use Rattle.std.proofs.Common.{sym, ◌∙◌}
use Rattle.object_heap.proofs.Changing.{deletable_at, deleted_at}
use Rattle.object_heap.proofs.Puts.{is_there, read_at, heap_with}
use Rattle.object_heap.proofs.heap.Heap.delete.Goals as goal

pub invariant_of-self : goal.invariant_of-self
invariant_of-self c =
    let now = c.args.self.now in
    let at = read_at _ now c.args.o.0 _ c.self.view_is (is_there _ c.args.o.0 _ c.is_there.ensures c.if-not-is_there.false) c.index_mut.ensures.value in
    heap_with _ now c.args.o.0 _ _ _ _ c.self.view_is at c.delete.ensures.after c.delete.ensures.has_length c.self.invariant

pub returns-clause-what : goal.returns-clause-what
returns-clause-what c =
    let now = c.args.self.now in
    let at = read_at _ now c.args.o.0 _ c.self.view_is (is_there _ c.args.o.0 _ c.is_there.ensures c.if-not-is_there.false) c.index_mut.ensures.value in
    c.delete.ensures.what ∙ sym (deletable_at now c.args.o.0 _ c.args.name.now at)

pub returns-clause-after : goal.returns-clause-after
returns-clause-after c =
    let now = c.args.self.now in
    let at = read_at _ now c.args.o.0 _ c.self.view_is (is_there _ c.args.o.0 _ c.is_there.ensures c.if-not-is_there.false) c.index_mut.ensures.value in
    deleted_at _ now c.args.o.0 _ _ c.args.name.now c.delete.result c.self.view_is at c.delete.ensures.what c.delete.ensures.after
