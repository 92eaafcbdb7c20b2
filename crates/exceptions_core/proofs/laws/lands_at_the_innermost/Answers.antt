use Rattle.exceptions_core.proofs.laws.lands_at_the_innermost.Goals as goal
use Rattle.exceptions_core.proofs.Unwinding.{lands}

pub returns : goal.returns
returns c = lands
