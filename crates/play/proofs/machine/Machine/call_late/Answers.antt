use Rattle.std.proofs.Common.{◌+◌, [], ◌∷◌, ◌++◌, ap, ◌∙◌, arith}
use Rattle.play.specs.declared.table.Frame.TheVariants as frame
use Rattle.play.proofs.TurnLemmas.{call_runs_out, late_runs_out, keeps_late}
use Rattle.play.proofs.machine.Machine.call_late.Goals as goal

pub returns-then-not-take-clause-turns : goal.returns-then-not-take-clause-turns
returns-then-not-take-clause-turns c =
    rw c.run_out.ensures.halt
    (call_runs_out c.args.table.now c.args.self.now c.run_out.new.self c.args.letter _ c.requires.here c.requires.named.is c.if-not-take.ensures.0 (c.run_out.ensures.steps ∙ ap (λ k. k.left + k.steps) c.if-not-take.ensures.1) c.run_out.ensures.report)

pub returns-then-not-take-2-clause-turns : goal.returns-then-not-take-2-clause-turns
returns-then-not-take-2-clause-turns c =
    let same = c.if-not-take-2.ensures.1 in
    let left = ap (λ k. k.left) same in
    let steps = ap (λ k. k.steps) same in
    rw c.run_out-then-not-take-2.ensures.halt
    (late_runs_out c.args.table.now c.args.self.now c.run_out-then-not-take-2.new.self c.args.letter c.args.number c.beat.new.self.left c.args.entry.now c.requires.sound c.requires.here c.requires.named c.requires.entry
    (omega (arith, c.if-not-take.ensures.0, c.beat.ensures.left))
    c.if-not-take-2.ensures.0
    (omega (arith, c.run_out-then-not-take-2.ensures.steps, left, steps, c.if-not-take.ensures.0, c.if-not-take.ensures.1, c.beat.ensures.steps, c.beat.ensures.left))
    c.run_out-then-not-take-2.ensures.report)

pub returns-clause-turns : goal.returns-clause-turns
returns-clause-turns c =
    let clock = c.in_ok-back.ensures.others.1 in
    let left = ap (λ k. k.left) clock in
    let steps = ap (λ k. k.steps) clock in
    let beats = ap (λ k. k.beats) clock in
    keeps_late c.args.table.now c.args.self.now _ c.in_ok-back.back c.args.letter c.args.number c.args.entry.now c.requires.sound c.requires.here c.requires.named c.requires.entry
    (omega (arith, c.if-not-take.ensures.0, c.beat.ensures.left, c.if-not-take-2.ensures.0, left))
    (omega (arith, c.if-not-take.ensures.1, c.beat.ensures.steps, c.if-not-take-2.ensures.1, steps))
    (omega (arith, c.if-not-take.ensures.2, c.beat.ensures.beats, c.if-not-take-2.ensures.2, beats))
    (c.in_ok-push.ensures.ok ∙ ap (λ fs. fs ++ frame.Late c.in_ok-back.back ∷ []) c.in_ok-back.ensures.others.0)
    c.in_ok-back.ensures.back.0 c.in_ok-back.ensures.back.1 c.in_ok-back.ensures.place.0 c.in_ok-back.ensures.place.1 c.in_ok-back.ensures.others.2
