use Rattle.std.proofs.Common.{◌+◌, [], ◌∷◌, ◌++◌, ap, ◌∙◌, arith}
use Rattle.play.specs.declared.table.Frame.TheVariants as frame
use Rattle.play.proofs.TurnLemmas.{call_runs_out, keeps_plain}
use Rattle.play.proofs.machine.Machine.call_plain.Goals as goal

pub returns-then-not-take-clause-turns : goal.returns-then-not-take-clause-turns
returns-then-not-take-clause-turns c =
    rw c.run_out.ensures.halt
    (call_runs_out c.args.table.now c.args.self.now c.run_out.new.self c.args.letter _ c.requires.here c.requires.named.is c.if-not-take.ensures.0 (c.run_out.ensures.steps ∙ ap (λ k. k.left + k.steps) c.if-not-take.ensures.1) c.run_out.ensures.report)

pub returns-clause-turns : goal.returns-clause-turns
returns-clause-turns c =
    let clock = c.in_ok-back.ensures.others.1 in
    let left = ap (λ k. k.left) clock in
    let steps = ap (λ k. k.steps) clock in
    let beats = ap (λ k. k.beats) clock in
    keeps_plain c.args.table.now c.args.self.now _ c.in_ok-back.back c.args.letter c.args.number c.args.code.now c.requires.here c.requires.named
    (omega (arith, c.if-not-take.ensures.0, c.beat.ensures.left, left))
    (omega (arith, c.if-not-take.ensures.1, c.beat.ensures.steps, steps))
    (omega (arith, c.if-not-take.ensures.2, c.beat.ensures.beats, beats))
    (c.in_ok-push.ensures.ok ∙ ap (λ fs. fs ++ frame.Call c.in_ok-back.back ∷ []) c.in_ok-back.ensures.others.0)
    c.in_ok-back.ensures.back.0 c.in_ok-back.ensures.back.1 c.in_ok-back.ensures.place.0 c.in_ok-back.ensures.place.1 c.in_ok-back.ensures.others.2
