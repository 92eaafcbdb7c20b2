use Rattle.object_heap.proofs.laws.prototypes_come_before.Goals as goal
use Rattle.object_heap.proofs.Prototypes.{stay_before}

pub returns : goal.returns
returns c = stay_before
