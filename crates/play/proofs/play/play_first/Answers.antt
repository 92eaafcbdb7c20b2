use Rattle.play.proofs.HeadlineLemmas.{folder_result, folder_result_loads}
use Rattle.play.proofs.play.play_first.Goals as goal

pub returns-clause-headline : goal.returns-clause-headline
returns-clause-headline g c files told script back =
    folder_result files c.args.folder.now c.args.steps script back (g.S.Store.asked c.args.store.now) (g.S.Store.asked c.play_folder.new.store) c.play_folder.result (c.play_folder.ensures.meets files told)

pub returns-clause-laziness : goal.returns-clause-laziness
returns-clause-laziness g c files told script back =
    folder_result_loads files c.args.folder.now c.args.steps script back (g.S.Store.asked c.args.store.now) (g.S.Store.asked c.play_folder.new.store) c.play_folder.result (c.play_folder.ensures.meets files told)
