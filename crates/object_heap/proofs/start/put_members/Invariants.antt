use Rattle.std.proofs.Common.{◌≡◌, drop}
use Rattle.object_heap.specs.Building.{members, put_all}
use Rattle.object_heap.proofs.start.put_members.Given as goal

abbrev pub invariant-loop-name : goal.invariant-loop-name
invariant-loop-name l = put_all l.properties (members (drop l.name-index l.table)) ≡ put_all l.initial.properties (members l.table)
