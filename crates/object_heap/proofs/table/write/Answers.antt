use Rattle.std.proofs.Common.{◌≡◌, Some, None, sym, ap, ◌∙◌}
use Rattle.std.specs.Map.{lookup, set_value}
use Rattle.object_heap.specs.Names.{is_same_name}
use Rattle.object_heap.specs.Stored.{properties_of_entries}
use Rattle.object_heap.specs.Writes.{written_own}
use Rattle.object_heap.proofs.Tables.{own_found, written_to_table}
use Rattle.object_heap.proofs.table.write.Goals as goal

pub returns-in-None-clause-what : goal.returns-in-None-clause-what
returns-in-None-clause-what c =
    let es = c.args.table.now.entries in
    let found : None ≡ lookup (is_same_name c.args.name.now) es = rw c.in-None.is at c.get_mut.ensures.value in
    ap (λ o. written_own o c.args.v) (sym (own_found es c.args.name.now None found))

pub returns-in-Some-clause-what : goal.returns-in-Some-clause-what
returns-in-Some-clause-what c =
    let es = c.args.table.now.entries in
    let found : Some c.in-Some.entry.now ≡ lookup (is_same_name c.args.name.now) es = rw c.in-Some.is at c.get_mut.ensures.value in
    c.write.ensures.what ∙ ap (λ o. written_own o c.args.v) (sym (own_found es c.args.name.now (Some c.in-Some.entry.now) found))

pub returns-in-Some-clause-after : goal.returns-in-Some-clause-after
returns-in-Some-clause-after c =
    let es = c.args.table.now.entries in
    let found : Some c.in-Some.entry.now ≡ lookup (is_same_name c.args.name.now) es = rw c.in-Some.is at c.get_mut.ensures.value in
    ap properties_of_entries ((c.get_mut.follows.holds c.write.new.self).0 ∙ ap (λ e. set_value (is_same_name c.args.name.now) es e) c.write.ensures.after) ∙ written_to_table es c.args.name.now c.in-Some.entry.now c.write.result c.args.v found
