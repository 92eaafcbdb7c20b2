use Rattle.std.proofs.Common.{◌≡◌, length, map}
use Rattle.object_heap.specs.Answers.{visit_shown}
use Rattle.object_heap.specs.Visited.{visits}
use Rattle.js_machine.specs.Visiting.{with_visits}
use Rattle.js_machine.proofs.machine.Machine.push_visits.Given as goal

-- the visits that are not pushed yet belong above those that are
abbrev pub invariant-loop-visit : goal.invariant-loop-visit
invariant-loop-visit l =
    (with_visits (map visit_shown l.visits.items) l.self.values
    ≡ with_visits (visits l.fn.self.heap l.fn.o.0) l.fn.self.values)
    × (l.self ≡ record l.fn.self { values = l.self.values })

abbrev pub decreases-loop-visit : goal.decreases-loop-visit
decreases-loop-visit l = length l.visits.items
