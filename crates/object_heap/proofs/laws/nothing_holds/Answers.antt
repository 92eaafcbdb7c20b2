use Rattle.object_heap.proofs.laws.nothing_holds.Goals as goal
use Rattle.object_heap.proofs.Held.{nothing_holds}

pub returns : goal.returns
returns c = nothing_holds
