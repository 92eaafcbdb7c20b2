use Rattle.scope_arena.proofs.laws.chains_go_outwards.Goals as goal
use Rattle.scope_arena.proofs.Parents.{outwards}

pub returns : goal.returns
returns c = λ scopes s before. outwards scopes before s
