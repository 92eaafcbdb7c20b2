use Rattle.std.proofs.Common.{◌≡◌, None, Some, length, refl, sym, ◌∙◌}
use Rattle.std.specs.Prelude.{slice_get}
use Rattle.std.proofs.lemmas.Option.{slice_get_read}
use Rattle.object_heap.specs.Objects.{own_in}
use Rattle.object_heap.specs.Stored.{property_of}
use Rattle.object_heap.proofs.Chains.{next_there, met_here, met_further}
use Rattle.object_heap.proofs.chain.met.Goals as goal

pub find-requires-clause-there : goal.find-requires-clause-there
find-requires-clause-there c =
    let heap = c.args.objects.now in
    let object = c.in_ok-object.object.now in
    let found = c.in_ok-object.ensures.lookup in
    let at : slice_get heap c.args.o ≡ Some object = slice_get_read heap (length heap) c.args.o object refl found.3.0 found.1 in
    rw c.prototype.ensures (next_there heap c.requires c.args.o object at found.3.0)

pub returns-in-Some : goal.returns-in-Some
returns-in-Some c =
    let heap = c.args.objects.now in
    let name = c.args.name.now in
    let object = c.in_ok-object.object.now in
    let found = c.in_ok-object.ensures.lookup in
    let at : slice_get heap c.args.o ≡ Some object = slice_get_read heap (length heap) c.args.o object refl found.3.0 found.1 in
    let own : own_in object.properties name ≡ Some (property_of name c.in-Some.entry.now) = rw c.in-Some.is at (sym c.get-2.ensures) in
    sym (met_here heap c.requires c.args.o object at name _ own)

pub returns-in-None : goal.returns-in-None
returns-in-None c =
    let heap = c.args.objects.now in
    let name = c.args.name.now in
    let object = c.in_ok-object.object.now in
    let found = c.in_ok-object.ensures.lookup in
    let at : slice_get heap c.args.o ≡ Some object = slice_get_read heap (length heap) c.args.o object refl found.3.0 found.1 in
    let none : own_in object.properties name ≡ None = rw c.in-None.is at (sym c.get-2.ensures) in
    let further = rw c.prototype.ensures at c.find.ensures in
    further ∙ sym (met_further heap c.requires c.args.o object at name none)
