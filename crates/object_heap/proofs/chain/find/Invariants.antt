use Rattle.std.proofs.Common.{◌≡◌}
use Rattle.object_heap.specs.Get.{met_along}
use Rattle.object_heap.specs.Laws.{IsThere}
use Rattle.object_heap.specs.Objects.{chain_of, chain_on}
use Rattle.object_heap.proofs.Chains.{below}
use Rattle.object_heap.proofs.chain.find.Given as goal

abbrev pub invariant-loop-next : goal.invariant-loop-next
invariant-loop-next l = record {
  there : IsThere l.objects l.next;
  same : met_along l.objects (chain_on l.next (chain_of l.objects)) l.name ≡ met_along l.objects (chain_on l.fn.first (chain_of l.objects)) l.name;
}

abbrev pub decreases-loop-next : goal.decreases-loop-next
decreases-loop-next l = below l.next
