use Rattle.std.proofs.Common.{◌≡◌, Some, ap, ◌∙◌}
use Rattle.std.specs.Prelude.{slice_get}
use Rattle.std.specs.Map.{values_of}
use Rattle.indexmap.specs.IndexMap.{set_value_at}
use Rattle.js_values.specs.declared.value.Value.TheVariants as value
use Rattle.object_heap.specs.Stored.{properties_of_entries, holding_in}
use Rattle.object_heap.proofs.Tables.{length_to_table}
use Rattle.object_heap.proofs.table.set_first_length.Goals as goal

pub returns-in-Some : goal.returns-in-Some
returns-in-Some c =
    let es = c.args.table.now.entries in
    let found : Some c.in-Some.entry.now ≡ slice_get (values_of es) 0 = rw c.in-Some.is at c.get_index_mut.ensures.value in
    ap (λ e. properties_of_entries (set_value_at es 0 e)) (c.hold.ensures ∙ ap (λ n. holding_in c.in-Some.entry.now (value.Num n)) c.from.ensures) ∙ length_to_table es c.in-Some.entry.now c.args.n found
