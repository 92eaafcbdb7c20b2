use Rattle.std.proofs.Common.{◌≡◌, take}
use Rattle.std.specs.Prelude.{map}
use Rattle.js_machine.specs.Globals.{host_body}
use Rattle.js_machine.specs.HostCalls.{HostHolds, state_with}
use Rattle.js_machine.specs.Page.{with_host_calls}
use Rattle.js_machine.proofs.hosts.add_hosts.Given as goal

abbrev pub invariant-loop-name : goal.invariant-loop-name
invariant-loop-name l =
    (state_with l.heap (map host_body l.hosts)
    ≡ with_host_calls (take l.name-index l.name-items) (state_with l.fn.heap (map host_body l.fn.hosts)))
    × HostHolds l.heap
