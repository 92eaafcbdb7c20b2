use Rattle.std.proofs.Common.{subst}
use Rattle.object_heap.specs.Answers.{IsPlainName}
use Rattle.object_heap.proofs.Changing.{tried, property_put, nothing_put, class_at}
use Rattle.object_heap.proofs.Puts.{is_there, read_at}
use Rattle.object_heap.proofs.heap.Heap.put_property.Goals as goal

pub invariant_of-self : goal.invariant_of-self
invariant_of-self c =
    let now = c.args.self.now in
    let at = read_at _ now c.args.o.0 _ c.self.view_is (is_there _ c.args.o.0 _ c.is_there.ensures c.if-not-is_there.false) c.index_mut.ensures.value in
    tried _ now c.args.o.0 _ _ _ _ c.put_property.result c.self.view_is at c.put_property.ensures.ok c.put_property.ensures.err c.put_property.ensures.has_length c.self.invariant

pub put_property-requires-clause-plain : goal.put_property-requires-clause-plain
put_property-requires-clause-plain c =
    let now = c.args.self.now in
    let at = read_at _ now c.args.o.0 _ c.self.view_is (is_there _ c.args.o.0 _ c.is_there.ensures c.if-not-is_there.false) c.index_mut.ensures.value in
    subst (λ k. IsPlainName k c.args.name.now) (class_at now c.args.o.0 _ at) c.requires

pub returns-clause-ok : goal.returns-clause-ok
returns-clause-ok c =
    let now = c.args.self.now in
    let at = read_at _ now c.args.o.0 _ c.self.view_is (is_there _ c.args.o.0 _ c.is_there.ensures c.if-not-is_there.false) c.index_mut.ensures.value in
    property_put _ now c.args.o.0 _ _ _ c.put_property.result c.self.view_is at c.put_property.ensures.ok
