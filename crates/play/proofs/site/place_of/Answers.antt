use Rattle.std.proofs.Common.{sym, ap, ◌∙◌, arith}
use Rattle.std.specs.Prelude.{nat_eq, slice_get}
use Rattle.std.specs.List.{list_any}
use Rattle.play.proofs.ListLemmas.{got_index, line_found}
use Rattle.play.proofs.site.place_of.Goals as goal

pub returns-in-Some : goal.returns-in-Some
returns-in-Some c =
    let line = c.line-item.result in
    let at = ap (λ l. slice_get l c.loop-cluster.cluster) (sym c.as_slice-line-items.ensures) ∙ got_index c.as_slice-line-items.result.now c.loop-cluster.cluster line line (omega arith) c.line-item.is in
    record {
      line = line;
      line_at = at;
      listed = sym c.loop-cluster.invariant ∙ line_found c.args.manifest.now.clusters c.loop-cluster.cluster line c.args.number at (ap (list_any (nat_eq c.args.number)) (sym c.as_slice.ensures) ∙ c.in-Some.ensures.1);
      entry_at = ap (λ l. slice_get l c.in-Some.entry) (sym c.as_slice.ensures) ∙ c.in-Some.ensures.0;
    }
