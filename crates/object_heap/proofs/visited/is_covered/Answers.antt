use Rattle.std.proofs.Common.{◌≡◌, ◌<◌, [], None, Some, length, drop, take, refl, sym, ap, ◌∙◌, arith}
use Rattle.std.specs.Prelude.{slice_get, is_some}
use Rattle.std.proofs.lemmas.Option.{slice_get_read}
use Rattle.object_heap.specs.Objects.{chain_of, chain_on}
use Rattle.object_heap.proofs.Chains.{next_there}
use Rattle.object_heap.proofs.Visiting.{covered, all_taken, next_left, covered_here, not_covered_yet}
use Rattle.object_heap.proofs.visited.is_covered.Goals as goal

pub returns-in_default : goal.returns-in_default
returns-in_default c =
    let heap = c.args.objects.now in
    let chain = chain_of heap c.args.first in
    let i = c.loop-passed._passed in
    let end : drop i chain ≡ [] = rw c.in_default.is at c.loop-passed.invariant.left in
    sym (ap (λ os. is_some (covered heap c.args.name.now os)) (all_taken chain i c.args.count end c.loop-passed.auto._passed-end) ∙ ap is_some c.loop-passed.invariant.none)

pub returns-then-has : goal.returns-then-has
returns-then-has c =
    let heap = c.args.objects.now in
    let o = c.in-Some.o in
    let object = c.index-objects-o.result in
    let lt : o < length heap = rw c.in-Some.is at c.loop-passed.invariant.there in
    let at : slice_get heap o ≡ Some object = slice_get_read heap (length heap) o object refl lt c.index-objects-o.is in
    let left : drop c.loop-passed._passed (chain_of heap c.args.first) ≡ chain_of heap o = rw c.in-Some.is at c.loop-passed.invariant.left in
    sym (covered_here heap c.requires.before (chain_of heap c.args.first) c.loop-passed._passed o object c.args.name.now at left c.args.count c.loop-passed.invariant.none (sym c.has.ensures ∙ c.if-has.true) c.loop-passed-test.true)

pub loop-passed-preserved : goal.loop-passed-preserved
loop-passed-preserved c =
    let heap = c.args.objects.now in
    let o = c.in-Some.o in
    let object = c.index-objects-o.result in
    let lt : o < length heap = rw c.in-Some.is at c.loop-passed.invariant.there in
    let at : slice_get heap o ≡ Some object = slice_get_read heap (length heap) o object refl lt c.index-objects-o.is in
    let left : drop c.loop-passed._passed (chain_of heap c.args.first) ≡ chain_of heap o = rw c.in-Some.is at c.loop-passed.invariant.left in
    record {
      there = rw c.prototype-next.ensures (next_there heap c.requires.before o object at lt);
      left = rw c.prototype-next.ensures (next_left heap c.requires.before (chain_of heap c.args.first) c.loop-passed._passed o object c.args.name.now at left);
      none = not_covered_yet heap c.requires.before (chain_of heap c.args.first) c.loop-passed._passed o object c.args.name.now at left c.loop-passed.invariant.none (sym c.has.ensures ∙ c.if-has.false);
    }
