use Rattle.std.proofs.Common.{sym, ap, ◌∙◌}
use Rattle.js_machine.specs.declared.frame.Control.TheVariants as control
use Rattle.js_machine.specs.declared.frame.End.TheVariants as end
use Rattle.js_machine.specs.Rest.{rest}
use Rattle.js_machine.specs.Stacks.{below}
use Rattle.js_machine.proofs.CallLaws.{host_asked, host_out}
use Rattle.js_machine.proofs.GivenLaws.{unasked}
use Rattle.js_machine.proofs.ThrowLaws.{if_ok}
use Rattle.js_machine.proofs.machine.Machine.turn_enter.Goals as goal

pub returns-in_default-clause-same : goal.returns-in_default-clause-same
returns-in_default-clause-same g c =
    if_ok c.enter_other.result _ _ c.enter_other.ensures.same (λ next same.
    unasked (rest (control.Enter c.args.count c.args.o)) c.args.self.now
    (g.W.Host.given c.args.world.now) next c.enter_other.new.self same)

pub returns-then-left-eq0-clause-same : goal.returns-then-left-eq0-clause-same
returns-then-left-eq0-clause-same g c =
    let m = c.args.self.now in
    unasked (rest (control.Enter c.args.count c.args.o)) m (g.W.Host.given c.args.world.now)
    (control.End end.OutOfSteps) m (λ out. host_out m.clock.1 m.frames m.values m.heap m.hosts m.beats
    m.clock.0 out c.args.count c.args.o c.in-Some.name.now c.in-Some.ensures
    (sym c.left.ensures ∙ c.if-left-eq0.true))

pub returns-clause-same : goal.returns-clause-same
returns-clause-same g c =
    let m = c.args.self.now in
    if_ok c.answer.result _ _ c.answer.ensures (λ next is.
    host_asked m c.answer.new.self (g.W.Host.given c.args.world.now) (g.W.Host.given c.call.new.self)
    c.args.count c.args.o c.in-Some.name.now c.newest_of.result.now c.pop-base.new.self c.in_ok-v.v
    c.spend.new.self next c.in-Some.ensures (λ e. c.if-left-eq0.false (c.left.ensures ∙ e))
    c.newest_of.ensures c.in_ok-v.ensures.given c.spend.ensures
    (c.pop-base.ensures.rest ∙ ap below c.forget.ensures) is.0 is.1)
