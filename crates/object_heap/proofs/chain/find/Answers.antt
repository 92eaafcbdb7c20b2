use Rattle.std.proofs.Common.{◌≡◌, ◌<◌, length, None, Some, refl, sym, ap, ◌∙◌}
use Rattle.std.specs.Prelude.{slice_get}
use Rattle.std.proofs.lemmas.Option.{slice_get_read}
use Rattle.object_heap.specs.Get.{met_along}
use Rattle.object_heap.specs.Objects.{own_in, chain_on, chain_of}
use Rattle.object_heap.specs.Laws.{IsThere}
use Rattle.object_heap.proofs.Chains.{next_there, met_further}
use Rattle.object_heap.proofs.chain.find.Goals as goal

pub loop-next-preserved : goal.loop-next-preserved
loop-next-preserved c =
    let heap = c.args.objects.now in
    let o = c.in-Some.o in
    let object = c.index-objects-o.result in
    let lt : o < length heap = rw c.in-Some.is at c.loop-next.invariant.there in
    let at : slice_get heap o ≡ Some object = slice_get_read heap (length heap) o object refl lt c.index-objects-o.is in
    let none : own_in object.properties c.args.name.now ≡ None = rw c.in_default-get.is at (sym c.get.ensures) in
    record {
      there = rw c.prototype-next.ensures (next_there heap c.requires.before o object at lt);
      same = rw c.prototype-next.ensures (sym (met_further heap c.requires.before o object at c.args.name.now none) ∙ ap (λ n. met_along heap (chain_on n (chain_of heap)) c.args.name.now) (sym c.in-Some.is) ∙ c.loop-next.invariant.same);
    }
