use Rattle.std.proofs.Common.{◌-◌}
use Rattle.js_machine.specs.Skipped.{Skips}
use Rattle.js_machine.proofs.variables.first_initialised.Given as goal

abbrev pub invariant-items : goal.invariant-items
invariant-items l = Skips l.fn.items l.fn.from l.at

abbrev pub decreases-items : goal.decreases-items
decreases-items l = 4294967295 - l.at
