use Rattle.std.proofs.Common.{Some}
use Rattle.object_heap.specs.Answers.{IsPlainName}
use Rattle.object_heap.specs.Invariant.{HasLength}
use Rattle.object_heap.specs.Stored.{property_of}
use Rattle.object_heap.proofs.Writing.{has_length_tried}
use Rattle.object_heap.proofs.stored.StoredObject.put_property.Goals as goal

pub returns-clause-has_length : goal.returns-clause-has_length
returns-clause-has_length c =
    let o = c.self.inside in
    let name = c.args.name.now in
    let has : HasLength o.class o.properties = rw (← c.self.view_is) at c.requires.has_length in
    let plain : IsPlainName (Some o.class) name = rw (← c.self.view_is) at c.requires.plain in
    has_length_tried o.class o.properties _ (property_of name c.args.entry) c.put_property.result has plain c.put_property.ensures.ok c.put_property.ensures.err
