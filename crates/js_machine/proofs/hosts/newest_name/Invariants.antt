use Rattle.std.proofs.Common.{◌≤◌, length}
use Rattle.js_machine.proofs.HostLaws.{AllLeft}
use Rattle.js_machine.proofs.hosts.newest_name.Given as goal

abbrev pub invariant-calls : goal.invariant-calls
invariant-calls l = AllLeft l.fn.calls l.left l.fn.o × l.left ≤ length l.fn.calls

abbrev pub decreases-calls : goal.decreases-calls
decreases-calls l = l.left
