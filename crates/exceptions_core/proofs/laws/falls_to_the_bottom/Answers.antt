use Rattle.exceptions_core.proofs.laws.falls_to_the_bottom.Goals as goal
use Rattle.exceptions_core.proofs.Unwinding.{falls}

pub returns : goal.returns
returns c = falls
