use Rattle.std.proofs.Common.{◌≡◌, Some, sym, ap, ◌∙◌, subst}
use Rattle.std.proofs.lemmas.Result.{err_from_is_err_and}
use Rattle.dl_ports.specs.Files.{and_name}
use Rattle.play.specs.Site.{script_name, read_script_file}
use Rattle.play.specs.Played.{for_script, for_script_file}
use Rattle.play.specs.Answers.{Meets, NeedFails}
use Rattle.play.proofs.LoadLemmas.{front_one}
use Rattle.play.proofs.AnswerLemmas.{after_meets, need_meets}
use Rattle.play.proofs.play.play_script.Goals as goal

pub returns-in_err-bytes-clause-meets : goal.returns-in_err-bytes-clause-meets
returns-in_err-bytes-clause-meets g c files told =
    let v = c.as_str.ensures.value in
    let e = c.in_ok-name.ensures in
    let same : c.as_str.result.now ≡ script_name c.args.folder.now = cc in
    let p = err_from_is_err_and c.from_residual-in_err-bytes.result c.from_residual-in_err-bytes.ensures.1 in
    rw (p.1, p.2)
    (need_meets (script_name c.args.folder.now) (g.S.Store.asked c.args.store.now) (g.S.Store.asked c.read_needed.new.store) files
    (for_script_file files c.args.folder.now c.args.steps c.args.manifest (files (script_name c.args.folder.now))) c.in_err-bytes.field-0.0
    (λ h. ap (for_script_file files c.args.folder.now c.args.steps c.args.manifest) h)
    (subst (λ name. NeedFails files name (g.S.Store.asked c.args.store.now) (g.S.Store.asked c.read_needed.new.store) c.in_err-bytes.field-0.0) same (c.in_err-bytes.ensures.refused files told)))

pub returns-in_err-read_script-clause-meets : goal.returns-in_err-read_script-clause-meets
returns-in_err-read_script-clause-meets g c files told =
    let v = c.as_str.ensures.value in
    let e = c.in_ok-name.ensures in
    let same : c.as_str.result.now ≡ script_name c.args.folder.now = cc in
    let p = err_from_is_err_and c.from_residual-in_err-read_script.result c.from_residual-in_err-read_script.ensures.1 in
    rw (p.1, p.2)
    (front_one (g.S.Store.asked c.args.store.now) (g.S.Store.asked c.read_needed.new.store) (script_name c.args.folder.now)
    (for_script_file files c.args.folder.now c.args.steps c.args.manifest (files (script_name c.args.folder.now))).asked
    ((c.in_ok-bytes.ensures.found files told).1 ∙ ap (and_name (g.S.Store.asked c.args.store.now)) same))

pub returns-in-Some-clause-meets : goal.returns-in-Some-clause-meets
returns-in-Some-clause-meets g c files told =
    let v = c.as_str.ensures.value in
    let e = c.in_ok-name.ensures in
    let same : c.as_str.result.now ≡ script_name c.args.folder.now = cc in
    let found = c.in_ok-bytes.ensures.found files told in
    let slice = c.as_slice.ensures.value in
    let reads = c.in_ok-read_script.ensures.reads in
    let some = c.in-Some.is in
    let items = c.as_slice-in-Some.ensures in
    let read : read_script_file c.args.manifest c.in_ok-bytes.bytes.items ≡ Some c.as_slice-in-Some.result.now = cc in
    let r = ap (for_script_file files c.args.folder.now c.args.steps c.args.manifest) (ap files (sym same) ∙ found.0)
    ∙ ap (for_script files c.args.folder.now c.args.steps c.args.manifest) read in
    after_meets (script_name c.args.folder.now) (g.S.Store.asked c.args.store.now) (g.S.Store.asked c.read_needed.new.store)
    (for_script_file files c.args.folder.now c.args.steps c.args.manifest (files (script_name c.args.folder.now)))
    (g.S.Store.asked c.run_script.new.store) c.run_script.result (found.1 ∙ ap (and_name (g.S.Store.asked c.args.store.now)) same)
    (subst (λ r. Meets r (g.S.Store.asked c.read_needed.new.store) (g.S.Store.asked c.run_script.new.store) c.run_script.result) (sym r)
    (c.run_script.ensures.meets files (c.read_needed.ensures.reads.same_files ∙ told)))
