use Rattle.doloto_app.proofs.Whole.{fails_end, puts_end, puts_loads, puts_original}
use Rattle.doloto_app.proofs.playing.play_out.Goals as goal

pub returns-in-Ok-clause-plays : goal.returns-in-Ok-clause-plays
returns-in-Ok-clause-plays g c files told = puts_end _ _ _ _ _ _ _ (c.in-Ok.ensures.meets files told) c.write_report.ensures.puts

pub returns-in-Ok-clause-headline : goal.returns-in-Ok-clause-headline
returns-in-Ok-clause-headline g c files told script back = puts_original _ _ _ _ script _ (c.in-Ok.ensures.headline files told script back) c.write_report.ensures.puts

pub returns-in-Ok-clause-laziness : goal.returns-in-Ok-clause-laziness
returns-in-Ok-clause-laziness g c files told script back = puts_loads _ _ _ _ _ script _ (c.in-Ok.ensures.laziness files told script back) c.write_report.ensures.puts
