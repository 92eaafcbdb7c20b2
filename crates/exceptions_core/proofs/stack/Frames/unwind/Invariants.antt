use Rattle.std.proofs.Common.{◌≡◌, length}
use Rattle.exceptions_core.specs.Unwind.{unwind}
use Rattle.exceptions_core.proofs.stack.Frames.unwind.Given as goal

abbrev pub invariant-loop-c : goal.invariant-loop-c
invariant-loop-c l = unwind l.self l.c ≡ unwind l.fn.self l.fn.c

abbrev pub decreases-loop-c : goal.decreases-loop-c
decreases-loop-c l = length l.self
