use Rattle.std.proofs.Common.{◌≡◌, ◌≤◌, length}
use Rattle.dl_ports.proofs.Progress.{Progress}
use Rattle.dl_ports.proofs.sink.put_all.Given as goal

abbrev pub invariant-loop-rest : goal.invariant-loop-rest
invariant-loop-rest g l =
    Progress (g.K.Port.written l.initial.sink) l.bytes l.rest (g.K.Port.written l.sink)
    × (g.K.Port.faults l.sink ≡ g.K.Port.faults l.initial.sink)
    × (g.K.Port.left l.sink ≡ g.K.Port.left l.initial.sink)

abbrev pub decreases-loop-rest : goal.decreases-loop-rest
decreases-loop-rest g l = length l.rest
