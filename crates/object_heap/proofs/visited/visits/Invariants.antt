use Rattle.std.proofs.Common.{◌≡◌, ◌+◌, ◌≤◌, suc, ◌++◌, drop, take, map}
use Rattle.object_heap.specs.Answers.{properties_along, visit_shown}
use Rattle.object_heap.specs.Laws.{IsThere}
use Rattle.object_heap.specs.Objects.{chain_of, chain_on}
use Rattle.object_heap.specs.Visited.{visits, visits_along}
use Rattle.object_heap.proofs.Chains.{below}
use Rattle.object_heap.proofs.visited.visits.Given as goal

abbrev pub invariant-loop-next : goal.invariant-loop-next
invariant-loop-next l =
    let chain = chain_of l.objects l.first in
    record {
      few : l.count + below l.next ≤ suc l.first;
      there : IsThere l.objects l.next;
      left : drop l.count chain ≡ chain_on l.next (chain_of l.objects);
      so_far : map visit_shown l.visits.items ++ visits_along l.objects (properties_along l.objects (take l.count chain)) (chain_on l.next (chain_of l.objects)) ≡ visits l.objects l.first;
    }

abbrev pub decreases-loop-next : goal.decreases-loop-next
decreases-loop-next l = below l.next
