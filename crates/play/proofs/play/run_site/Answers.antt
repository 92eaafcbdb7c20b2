use Rattle.std.proofs.Common.{◌∙◌, arith}
use Rattle.std.proofs.lemmas.Result.{err_from_is_err_and}
use Rattle.play.specs.declared.outcome.End.TheVariants as end
use Rattle.play.specs.Report.{ended_text, out_of_steps_text}
use Rattle.play.specs.Answers.{site_left}
use Rattle.play.proofs.AnswerLemmas.{ahead_memory, ahead_refused, ahead_kept, ahead_loaded, ahead_ended}
use Rattle.play.proofs.play.run_site.Goals as goal

pub returns-in_err-run-clause-meets : goal.returns-in_err-run-clause-meets
returns-in_err-run-clause-meets g c files told agrees =
    let p = err_from_is_err_and c.from_residual.result c.from_residual.ensures.1 in
    rw (p.1, p.2)
    (ahead_memory files c.args.folder.now (site_left files c.args.folder.now c.args.table c.args.machine) (g.S.Store.asked c.args.store.now) (g.S.Store.asked c.clusters.store) c.clusters.table c.clusters.machine (c.clusters.invariant.ahead files told agrees))

pub returns-in-Ended-clause-meets : goal.returns-in-Ended-clause-meets
returns-in-Ended-clause-meets g c files told agrees =
    ahead_ended files c.args.folder.now (site_left files c.args.folder.now c.args.table c.args.machine) (g.S.Store.asked c.args.store.now) (g.S.Store.asked c.clusters.store) c.clusters.table c.clusters.machine (c.clusters.invariant.ahead files told agrees)
    c.run.new.self ended_text end.Ended c.finish.result (rw c.in-Ended.is at c.in_ok-run.ensures) c.finish.ensures.outcome c.finish.ensures.memory

pub returns-in-OutOfSteps-clause-meets : goal.returns-in-OutOfSteps-clause-meets
returns-in-OutOfSteps-clause-meets g c files told agrees =
    ahead_ended files c.args.folder.now (site_left files c.args.folder.now c.args.table c.args.machine) (g.S.Store.asked c.args.store.now) (g.S.Store.asked c.clusters.store) c.clusters.table c.clusters.machine (c.clusters.invariant.ahead files told agrees)
    c.run.new.self out_of_steps_text end.OutOfSteps c.finish-in-OutOfSteps.result (rw c.in-OutOfSteps.is at c.in_ok-run.ensures) c.finish-in-OutOfSteps.ensures.outcome c.finish-in-OutOfSteps.ensures.memory

pub returns-in_err-load-in-Needs-clause-meets : goal.returns-in_err-load-in-Needs-clause-meets
returns-in_err-load-in-Needs-clause-meets g c files told agrees =
    let a = c.clusters.invariant.ahead files told agrees in
    let k = ahead_kept files c.args.folder.now (site_left files c.args.folder.now c.args.table c.args.machine) (g.S.Store.asked c.args.store.now) (g.S.Store.asked c.clusters.store) c.clusters.table c.clusters.machine a c.run.new.self (rw c.in-Needs.is at c.in_ok-run.ensures).0 in
    let p = err_from_is_err_and c.from_residual-in_err-load-in-Needs.result c.from_residual-in_err-load-in-Needs.ensures.1 in
    rw (p.1, p.2)
    (ahead_refused files c.args.folder.now (site_left files c.args.folder.now c.args.table c.args.machine) (g.S.Store.asked c.args.store.now) (g.S.Store.asked c.clusters.store) c.clusters.table c.run.new.self k
    (g.S.Store.asked c.load.new.store) c.in_err-load-in-Needs.field-0.0 (c.in_err-load-in-Needs.ensures.refused files (c.clusters.invariant.files ∙ told)))

pub clusters-preserved : goal.clusters-preserved
clusters-preserved g c = record {
  sound = c.in_ok-load-in-Needs.ensures.more.sound;
  files = c.load.ensures.reads.same_files ∙ c.clusters.invariant.files;
  ahead = λ files told agrees.
      let a = c.clusters.invariant.ahead files told agrees in
      let k = ahead_kept files c.args.folder.now (site_left files c.args.folder.now c.args.table c.args.machine) (g.S.Store.asked c.args.store.now) (g.S.Store.asked c.clusters.store) c.clusters.table c.clusters.machine a c.run.new.self (rw c.in-Needs.is at c.in_ok-run.ensures).0 in
      ahead_loaded files c.args.folder.now (site_left files c.args.folder.now c.args.table c.args.machine) (g.S.Store.asked c.args.store.now) (g.S.Store.asked c.clusters.store) c.clusters.table c.run.new.self k
      c.load.new.table c.load.new.machine (g.S.Store.asked c.load.new.store) (c.in_ok-load-in-Needs.ensures.loads files (c.clusters.invariant.files ∙ told));
  faults = grind (arith, c.load.ensures.reads.faults.kept, c.clusters.invariant.faults);
  write_faults = c.load.ensures.reads.same_write_faults ∙ c.clusters.invariant.write_faults;
}
