use Rattle.std.proofs.Common.{◌≡◌}
use Rattle.js_machine.specs.Visiting.{from_next, visits_on, without_visits}
use Rattle.js_machine.proofs.machine.Machine.skip_visits.Given as goal

-- what was dropped is skipped
abbrev pub invariant-loop-left : goal.invariant-loop-left
invariant-loop-left l =
    (from_next l.fn.self.heap (visits_on l.left l.self.values)
    ≡ from_next l.fn.self.heap (visits_on l.fn.count l.fn.self.values))
    × ((without_visits l.left l.self.values ≡ without_visits l.fn.count l.fn.self.values)
    × (l.self ≡ record l.fn.self { values = l.self.values }))

abbrev pub decreases-loop-left : goal.decreases-loop-left
decreases-loop-left l = l.left
