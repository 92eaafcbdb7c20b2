use Rattle.std.proofs.Common.{◌≡◌, ◌<◌, length, None, Some, nat_eq, false, refl, sym, ap, ◌∙◌, arith}
use Rattle.std.proofs.lemmas.Bool.Decides.{nat_tests}
use Rattle.std.specs.Prelude.{slice_get}
use Rattle.std.specs.List.{list_any}
use Rattle.std.proofs.lemmas.Option.{slice_get_read}
use Rattle.object_heap.specs.Objects.{chain_on, chain_of}
use Rattle.object_heap.proofs.Chains.{next_there, among_further}
use Rattle.object_heap.proofs.chain.is_among.Goals as goal

pub loop-next-preserved : goal.loop-next-preserved
loop-next-preserved c =
    let heap = c.args.objects.now in
    let o = c.in-Some.o in
    let object = c.index-objects-o.result in
    let lt : o < length heap = rw c.in-Some.is at c.loop-next.invariant.there in
    let at : slice_get heap o ≡ Some object = slice_get_read heap (length heap) o object refl lt c.index-objects-o.is in
    let other : nat_eq o c.args.target ≡ false = grind (arith, nat_tests) in
    record {
      there = rw c.prototype-next.ensures (next_there heap c.requires.before o object at lt);
      same = rw c.prototype-next.ensures (sym (among_further heap c.requires.before o object at c.args.target other) ∙ ap (λ n. list_any (λ p. nat_eq p c.args.target) (chain_on n (chain_of heap))) (sym c.in-Some.is) ∙ c.loop-next.invariant.same);
    }
