use Rattle.js_machine.specs.Given.{LeadsTo}
use Rattle.js_machine.specs.NotBuilt.{StopsRightly}
use Rattle.js_machine.specs.Rest.{rest, measure}
use Rattle.js_machine.proofs.machine.Machine.go.Given as goal

abbrev pub invariant-turns : goal.invariant-turns
invariant-turns g l =
    LeadsTo (rest l.fn.from) l.fn.self (g.W.Host.given l.fn.world) l.control l.self (g.W.Host.given l.world)
    × StopsRightly l.control l.self

abbrev pub decreases-turns : goal.decreases-turns
decreases-turns g l = measure l.control l.self
