use Rattle.object_heap.proofs.laws.chains_go_up.Goals as goal
use Rattle.object_heap.proofs.Prototypes.{goes_up}

pub returns : goal.returns
returns c = λ heap o before. goes_up heap before o
