use Rattle.std.proofs.Common.{◌≡◌, ◌++◌, drop, take, map}
use Rattle.object_heap.specs.Answers.{properties_along, visit_shown}
use Rattle.object_heap.specs.Objects.{chain_of, properties_of}
use Rattle.object_heap.specs.Visited.{visits_in}
use Rattle.object_heap.proofs.visited.push_visits.Given as goal

-- the visits so far, and those of the properties that are left
abbrev pub invariant-loop-place : goal.invariant-loop-place
invariant-loop-place l =
    let before = properties_along l.objects (take l.passed.count (chain_of l.objects l.passed.first)) in
    map visit_shown l.visits.items ++ visits_in l.passed.object before (drop l.place l.object.properties) ≡ map visit_shown l.initial.visits.items ++ visits_in l.passed.object before l.object.properties
