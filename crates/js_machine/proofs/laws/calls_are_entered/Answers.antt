use Rattle.js_machine.proofs.laws.calls_are_entered.Goals as goal
use Rattle.js_machine.proofs.ScriptLaws.{calls_are_entered}

pub returns : goal.returns
returns c = calls_are_entered
