use Rattle.std.proofs.Common.{◌≡◌, Some, length, refl, sym, ap}
use Rattle.std.specs.Prelude.{slice_get}
use Rattle.std.proofs.lemmas.Option.{slice_get_read, slice_get_past}
use Rattle.object_heap.specs.Objects.{prototype_in}
use Rattle.object_heap.proofs.Chains.{next_there}
use Rattle.object_heap.proofs.chain.prototype.Goals as goal

pub returns-in-Some-clause-there : goal.returns-in-Some-clause-there
returns-in-Some-clause-there c =
    let heap = c.args.objects.now in
    let object = c.in-Some.object.now in
    let found = c.in-Some.ensures.lookup in
    let at : slice_get heap c.args.o ≡ Some object = slice_get_read heap (length heap) c.args.o object refl found.3.0 found.1 in
    rw c.prototype.ensures (next_there heap c.requires c.args.o object at found.3.0)

pub returns-in-None-clause-value : goal.returns-in-None-clause-value
returns-in-None-clause-value c =
    sym (ap prototype_in (slice_get_past c.args.objects.now c.args.o c.in-None.ensures.lookup.3))
