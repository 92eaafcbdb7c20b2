use Rattle.std.proofs.Common.{◌≡◌, drop, take, None}
use Rattle.object_heap.specs.Answers.{properties_along}
use Rattle.object_heap.specs.Laws.{IsThere}
use Rattle.object_heap.specs.Objects.{chain_of, chain_on, own_in}
use Rattle.object_heap.proofs.visited.is_covered.Given as goal

abbrev pub invariant-loop-passed : goal.invariant-loop-passed
invariant-loop-passed l =
    let chain = chain_of l.objects l.first in
    record {
      there : IsThere l.objects l.next;
      left : drop l._passed chain ≡ chain_on l.next (chain_of l.objects);
      none : own_in (properties_along l.objects (take l._passed chain)) l.name ≡ None;
    }
