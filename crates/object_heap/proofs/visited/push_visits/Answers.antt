use Rattle.std.proofs.Common.{◌≡◌, ◌≤◌, length, take, map, refl, sym, subst, arith}
use Rattle.std.proofs.lemmas.Option.{slice_get_read}
use Rattle.object_heap.specs.Answers.{properties_along, visit_shown}
use Rattle.object_heap.specs.Objects.{chain_of}
use Rattle.object_heap.proofs.Visiting.{visits_step, visits_done}
use Rattle.object_heap.proofs.visited.push_visits.Goals as goal

pub loop-place-preserved : goal.loop-place-preserved
loop-place-preserved c =
    let heap = c.args.objects.now in
    let seen = properties_along heap (take c.args.passed.count (chain_of heap c.args.passed.first)) in
    visits_step c.args.passed.object seen (map visit_shown c.loop-place.visits.items) (map visit_shown c.push_visit.new.visits.items) _ c.index-objects-passed.result.properties c.loop-place.place _ c.at.ensures c.in_ok-push_visit.ensures c.loop-place.invariant

pub returns : goal.returns
returns c =
    let heap = c.args.objects.now in
    let o = c.args.passed.object in
    let object = c.index-objects-passed.result in
    let seen = properties_along heap (take c.args.passed.count (chain_of heap c.args.passed.first)) in
    let at = slice_get_read heap (length heap) o object refl c.requires.visited c.index-objects-passed.is in
    let le : length object.properties ≤ c.loop-place.place = omega arith in
    visits_done heap o object seen (map visit_shown c.loop-place.visits.items) (map visit_shown c.args.visits.now.items) c.loop-place.place at le c.loop-place.invariant
