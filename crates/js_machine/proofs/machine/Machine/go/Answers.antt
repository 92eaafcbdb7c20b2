use Rattle.std.proofs.Common.{subst}
use Rattle.js_machine.specs.declared.frame.Control.{Control}
use Rattle.js_machine.specs.declared.frame.Control.TheVariants as control
use Rattle.js_machine.specs.Given.{LeadsTo}
use Rattle.js_machine.specs.Rest.{rest}
use Rattle.js_machine.proofs.GivenLaws.{asked_more}
use Rattle.js_machine.proofs.machine.Machine.go.Goals as goal

-- an entry may ask the host
pub turns-preserved-in-Enter : goal.turns-preserved-in-Enter
turns-preserved-in-Enter g c =
    let old = c.args.self.now in
    let given = g.W.Host.given c.args.world.now in
    let told = g.W.Host.given c.turns.world in
    let P : Control → Type 0 = λ k. LeadsTo (rest c.args.from) old given k c.turns.self told in (
      asked_more (rest c.args.from) old given (control.Enter c.in-Enter.count c.in-Enter.o)
          c.in_ok-control-in-Enter.control c.turns.self c.turn_enter.new.self told
          (g.W.Host.given c.turn_enter.new.world) (subst P c.in-Enter.is c.turns.invariant.0)
          c.in_ok-control-in-Enter.ensures.same,
      c.in_ok-control-in-Enter.ensures.rightly,
    )
