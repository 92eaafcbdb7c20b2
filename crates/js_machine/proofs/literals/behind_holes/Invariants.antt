use Rattle.std.proofs.Common.{◌-◌, length}
use Rattle.js_code.specs.Cursors.{elements_from}
use Rattle.js_machine.specs.Literals.{Skips}
use Rattle.js_machine.proofs.literals.behind_holes.Given as goal

-- what stands before is holes
abbrev pub invariant-loop-i : goal.invariant-loop-i
invariant-loop-i l =
    Skips (elements_from l.fn.elements l.fn.from) l.fn.from (elements_from l.fn.elements l.i) l.i

abbrev pub decreases-loop-i : goal.decreases-loop-i
decreases-loop-i l = length l.fn.elements - l.i
