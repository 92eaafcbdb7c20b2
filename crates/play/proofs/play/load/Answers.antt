use Rattle.std.proofs.Common.{◌≡◌, List, None, inr, length, sym, ap, ◌∙◌, subst, arith}
use Rattle.std.proofs.lemmas.Result.{err_from_is_err_and}
use Rattle.dl_ports.specs.Files.{and_name}
use Rattle.play.specs.declared.manifest.ClusterLine.{ClusterLine}
use Rattle.play.specs.Site.{cluster_name}
use Rattle.play.specs.Answers.{FetchFails, Fetches}
use Rattle.play.specs.Machine.{with_arrival}
use Rattle.play.proofs.TableLemmas.{same_element, within_got}
use Rattle.play.proofs.EntryLemmas.{one_more}
use Rattle.play.proofs.LoadLemmas.{memory_front, fails, loads}
use Rattle.play.proofs.play.load.Goals as goal

pub arrive-requires : goal.arrive-requires
arrive-requires g c = within_got c.args.table.now.loaded c.args.place None c.requires.needs.absent

pub returns-in_err-entries-clause-refused : goal.returns-in_err-entries-clause-refused
returns-in_err-entries-clause-refused g c =
    let p = err_from_is_err_and c.from_residual.result c.from_residual.ensures.1 in rw (p.1, p.2) (λ files told.
    let needs = c.requires.needs in
    let same = same_element c.args.table.now.manifest.clusters c.as_slice.result.now c.args.place needs.line c.index-as_slice-place.result (omega (arith, within_got c.args.table.now.manifest.clusters c.args.place needs.line needs.line_at, ap (λ (l : List ClusterLine). length l) c.as_slice.ensures)) c.as_slice.ensures c.index-as_slice-place.is needs.line_at in
    fails files c.args.folder.now c.args.table.now c.args.machine.now c.args.place c.requires.sound needs (g.S.Store.asked c.args.store.now) (g.S.Store.asked c.fetch.new.store) c.in_err-entries.field-0.0
    (subst (λ l. FetchFails files c.args.folder.now l (g.S.Store.asked c.args.store.now) (g.S.Store.asked c.fetch.new.store) c.in_err-entries.field-0.0) (sym same) (c.in_err-entries.ensures.refused files told)))

pub returns-in_err-arrive-clause-refused : goal.returns-in_err-arrive-clause-refused
returns-in_err-arrive-clause-refused g c =
    let p = err_from_is_err_and c.from_residual-in_err-arrive.result c.from_residual-in_err-arrive.ensures.1 in rw (p.1, p.2) (λ files told.
    let needs = c.requires.needs in
    let same = same_element c.args.table.now.manifest.clusters c.as_slice.result.now c.args.place needs.line c.index-as_slice-place.result (omega (arith, within_got c.args.table.now.manifest.clusters c.args.place needs.line needs.line_at, ap (λ (l : List ClusterLine). length l) c.as_slice.ensures)) c.as_slice.ensures c.index-as_slice-place.is needs.line_at in
    memory_front files c.args.folder.now c.args.table.now c.args.machine.now c.args.place c.requires.sound needs (g.S.Store.asked c.args.store.now) (g.S.Store.asked c.fetch.new.store)
    (inr (subst (λ (l : ClusterLine). g.S.Store.asked c.fetch.new.store ≡ and_name (g.S.Store.asked c.args.store.now) (cluster_name c.args.folder.now l.cluster)) (sym same) (c.in_ok-entries.ensures.fetched files told).asked_is)))

pub returns-clause-more : goal.returns-clause-more
returns-clause-more g c =
    let needs = c.requires.needs in
    let same = same_element c.args.table.now.manifest.clusters c.as_slice.result.now c.args.place needs.line c.index-as_slice-place.result (omega (arith, within_got c.args.table.now.manifest.clusters c.args.place needs.line needs.line_at, ap (λ (l : List ClusterLine). length l) c.as_slice.ensures)) c.as_slice.ensures c.index-as_slice-place.is needs.line_at in
    one_more c.args.table.now c.arrive.new.table c.args.machine.now c.args.place c.in_ok-entries.entries c.requires.sound needs (c.in_ok-entries.ensures.listed ∙ ap (λ (l : ClusterLine). l.entries) (sym same)) c.in_ok-arrive.ensures.table

pub returns-clause-loads : goal.returns-clause-loads
returns-clause-loads g c files told =
    let needs = c.requires.needs in
    let same = same_element c.args.table.now.manifest.clusters c.as_slice.result.now c.args.place needs.line c.index-as_slice-place.result (omega (arith, within_got c.args.table.now.manifest.clusters c.args.place needs.line needs.line_at, ap (λ (l : List ClusterLine). length l) c.as_slice.ensures)) c.as_slice.ensures c.index-as_slice-place.is needs.line_at in
    loads files c.args.folder.now c.args.table.now c.args.machine.now c.args.place c.requires.sound needs c.arrive.new.table c.arrive.new.machine c.in_ok-entries.entries (g.S.Store.asked c.args.store.now) (g.S.Store.asked c.fetch.new.store) c.in_ok-arrive.ensures.table
    (c.in_ok-arrive.ensures.machine ∙ ap (λ (l : ClusterLine). with_arrival c.args.machine.now l.cluster) (sym same))
    (subst (λ l. Fetches files c.args.folder.now l c.in_ok-entries.entries (g.S.Store.asked c.args.store.now) (g.S.Store.asked c.fetch.new.store)) (sym same) (c.in_ok-entries.ensures.fetched files told))
