use Rattle.object_heap.proofs.Visiting.{keys_step}
use Rattle.object_heap.proofs.visited.keys.Goals as goal

pub loop-place-preserved : goal.loop-place-preserved
loop-place-preserved c =
    keys_step c.loop-place.names.items c.push_key.new.names.items _ c.args.object.now.properties c.loop-place.place _ c.at.ensures c.in_ok-push_key.ensures c.loop-place.invariant
