use Rattle.std.proofs.Common.{None, refl, sym, ◌∙◌}
use Rattle.js_machine.proofs.HaltLaws.{run_halts}
use Rattle.js_machine.proofs.machine.Machine.run.Goals as goal

-- the machine begins the task with its steps allowed and no frames
pub returns-clause-runs : goal.returns-clause-runs
returns-clause-runs g c =
    let start = record c.args.self.now {
      clock = c.allow.new.self;
      frames = c.new.result;
      task = c.take.new.self;
    } in
    run_halts c.unwrap-task.result c.args.budget c.args.self.now start c.begin_task.new.self
    c.go.new.self (record c.go.new.self { task = None }) c.in_ok-first.first c.in_ok-over.over
    c.in_ok-halt.halt (g.W.Host.given c.args.world.now) (g.W.Host.given c.go.new.world)
    (sym c.take.ensures.value ∙ c.unwrap-task.ensures) c.allow.ensures c.new.ensures
    refl refl refl c.in_ok-first.ensures.same c.in_ok-over.ensures.same refl c.in_ok-halt.ensures
