use Rattle.std.proofs.Common.{Some, sym, ap, ◌∙◌, subst}
use Rattle.std.proofs.lemmas.Result.{err_from_is_err_and}
use Rattle.play.specs.Played.{for_script}
use Rattle.play.specs.Answers.{Meets, site_left}
use Rattle.play.proofs.LoadLemmas.{front_none}
use Rattle.play.proofs.StartLemmas.{started, none_agree}
use Rattle.play.proofs.play.run_script.Goals as goal

pub returns-in_err-machine-clause-meets : goal.returns-in_err-machine-clause-meets
returns-in_err-machine-clause-meets g c files told =
    let p = err_from_is_err_and c.from_residual-in_err-machine.result c.from_residual-in_err-machine.ensures.1 in
    rw (p.1, p.2) (front_none (g.S.Store.asked c.args.store.now) (for_script files c.args.folder.now c.args.steps c.args.manifest (Some c.args.items.now)).asked)

pub returns-clause-meets : goal.returns-clause-meets
returns-clause-meets g c files told =
    let b = c.in_ok-table.ensures in
    let k = c.in-Some.ensures in
    subst (λ r. Meets r (g.S.Store.asked c.args.store.now) (g.S.Store.asked c.run_site.new.store) c.run_site.result)
    (sym (started files c.args.folder.now c.args.manifest c.args.items.now c.in_ok-table.table b c.in-Some.clock c.args.steps k.1 k.2 k.0 ∙ ap (λ x. site_left files c.args.folder.now c.in_ok-table.table x) (sym c.in_ok-machine.ensures)))
    (c.run_site.ensures.meets files told (none_agree files c.args.folder.now c.args.manifest c.args.items.now c.in_ok-table.table b))
