use Rattle.scope_arena.proofs.laws.parents_come_before.Goals as goal
use Rattle.scope_arena.proofs.Parents.{stay_before}

pub returns : goal.returns
returns c = stay_before
