use Rattle.std.proofs.Common.{◌≡◌, take}
use Rattle.js_machine.specs.Globals.{with_variables}
use Rattle.js_machine.proofs.variables.declare.Given as goal

abbrev pub invariant-loop-name : goal.invariant-loop-name
invariant-loop-name l = l.heap ≡ with_variables (take l.name-index l.name-items) l.fn.heap
