use Rattle.std.proofs.Common.{sym}
use Rattle.object_heap.proofs.Tables.{own_found}
use Rattle.object_heap.proofs.table.get.Goals as goal

pub returns : goal.returns
returns c = sym (own_found c.args.table.now.entries c.args.name.now _ c.get.ensures.value)
