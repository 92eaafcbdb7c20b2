use Rattle.std.proofs.Common.{◌≡◌, nat_eq}
use Rattle.std.specs.List.{list_any}
use Rattle.object_heap.specs.Laws.{IsThere}
use Rattle.object_heap.specs.Objects.{chain_of, chain_on}
use Rattle.object_heap.proofs.Chains.{below}
use Rattle.object_heap.proofs.chain.is_among.Given as goal

abbrev pub invariant-loop-next : goal.invariant-loop-next
invariant-loop-next l = record {
  there : IsThere l.objects l.next;
  same : list_any (λ p. nat_eq p l.target) (chain_on l.next (chain_of l.objects)) ≡ list_any (λ p. nat_eq p l.target) (chain_on l.fn.first (chain_of l.objects));
}

abbrev pub decreases-loop-next : goal.decreases-loop-next
decreases-loop-next l = below l.next
