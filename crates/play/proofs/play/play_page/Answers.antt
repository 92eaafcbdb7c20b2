use Rattle.std.proofs.Common.{sym, ap, ◌∙◌, subst}
use Rattle.play.specs.Played.{played, for_page_file}
use Rattle.play.specs.Answers.{Meets}
use Rattle.play.proofs.AnswerLemmas.{after_meets}
use Rattle.play.proofs.play.play_page.Goals as goal

pub returns-clause-meets : goal.returns-clause-meets
returns-clause-meets g c files told =
    let found = c.in_ok-bytes.ensures.found files told in
    let slice = c.as_slice.ensures.value in
    let r = ap (for_page_file files c.args.folder.now c.args.page.now c.args.steps) found.0
    ∙ ap (λ bytes. played files c.args.folder.now bytes c.args.steps) (sym slice) in
    after_meets c.args.page.now (g.S.Store.asked c.args.store.now) (g.S.Store.asked c.read_needed.new.store)
    (for_page_file files c.args.folder.now c.args.page.now c.args.steps (files c.args.page.now))
    (g.S.Store.asked c.play_first.new.store) c.play_first.result found.1
    (subst (λ r. Meets r (g.S.Store.asked c.read_needed.new.store) (g.S.Store.asked c.play_first.new.store) c.play_first.result) (sym r)
    (c.play_first.ensures.meets files (c.read_needed.ensures.reads.same_files ∙ told)))

pub returns-clause-headline : goal.returns-clause-headline
returns-clause-headline g c files told script back = c.play_first.ensures.headline files (c.read_needed.ensures.reads.same_files ∙ told) script back

pub returns-clause-laziness : goal.returns-clause-laziness
returns-clause-laziness g c files told script back = c.play_first.ensures.laziness files (c.read_needed.ensures.reads.same_files ∙ told) script back
