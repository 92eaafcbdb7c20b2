use Rattle.std.proofs.Common.{◌≡◌, ◌+◌, ◌<◌, ◌≤◌, ◌++◌, [], suc, Some, length, drop, take, map, refl, sym, ap, ◌∙◌, arith}
use Rattle.std.specs.Prelude.{slice_get}
use Rattle.std.proofs.lemmas.Option.{slice_get_read}
use Rattle.object_heap.specs.Answers.{properties_along, visit_shown}
use Rattle.object_heap.specs.Objects.{chain_of, chain_on}
use Rattle.object_heap.specs.Visited.{visits, visits_along}
use Rattle.object_heap.proofs.Chains.{below, next_there, next_below}
use Rattle.object_heap.proofs.Visiting.{next_left, visits_next}
use Rattle.object_heap.proofs.visited.visits.Goals as goal

pub loop-next-preserved : goal.loop-next-preserved
loop-next-preserved c =
    let heap = c.args.objects.now in
    let o = c.in-Some.o in
    let object = c.index-objects-o.result in
    let chain = chain_of heap c.args.first in
    let i = c.loop-next.count in
    let lt : o < length heap = rw c.in-Some.is at c.loop-next.invariant.there in
    let at : slice_get heap o ≡ Some object = slice_get_read heap (length heap) o object refl lt c.index-objects-o.is in
    let left : drop i chain ≡ chain_of heap o = rw c.in-Some.is at c.loop-next.invariant.left in
    let few : i + suc o ≤ suc c.args.first = rw c.in-Some.is at c.loop-next.invariant.few in
    let so_far : map visit_shown c.loop-next.visits.items ++ visits_along heap (properties_along heap (take i chain)) (chain_of heap o) ≡ visits heap c.args.first = rw c.in-Some.is at c.loop-next.invariant.so_far in
    let lower = next_below heap c.requires.before o object at in
    record {
      few = rw c.prototype-next.ensures (omega arith);
      there = rw c.prototype-next.ensures (next_there heap c.requires.before o object at lt);
      left = rw c.prototype-next.ensures (next_left heap c.requires.before chain i o object [] at left);
      so_far = rw c.prototype-next.ensures (visits_next heap c.requires.before chain i o object at left (map visit_shown c.loop-next.visits.items) (map visit_shown c.push_visits.new.visits.items) (visits heap c.args.first) c.in_ok-push_visits.ensures so_far);
    }
