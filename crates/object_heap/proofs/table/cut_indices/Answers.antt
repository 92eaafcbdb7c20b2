use Rattle.std.proofs.Common.{ap, ◌∙◌, rules}
use Rattle.std.specs.Prelude.{not}
use Rattle.indexmap.proofs.CallerLemmas.{filter-RetainsPairs}
use Rattle.object_heap.specs.Arrays.{is_between}
use Rattle.object_heap.specs.Names.{index_of}
use Rattle.object_heap.specs.Stored.{properties_of_entries}
use Rattle.object_heap.proofs.Tables.{cut_from_table}
use Rattle.object_heap.proofs.table.cut_indices.Goals as goal

pub returns : goal.returns
returns c =
    let kept = filter-RetainsPairs _ (λ e. not (is_between c.args.length c.args.old (index_of e.0))) _ (λ k v b w g call. search rules) _ _ c.retain.ensures.filtered in
    ap properties_of_entries kept ∙ cut_from_table c.args.length c.args.old c.args.table.now.entries
