use Rattle.std.proofs.Common.{◌≡◌, ◌≤◌, ◌∙◌, Some, refl, arith}
use Rattle.js_tree.specs.Plain.{expr}
use Rattle.js_machine.specs.AtOnce.{value_at_once}
use Rattle.js_machine.proofs.AtOnceLaws.{pushed, is_cost, is_there}
use Rattle.js_machine.proofs.machine.Machine.push_at_once.Goals as goal

pub returns-in_ok-push-in-Some : goal.returns-in_ok-push-in-Some
returns-in_ok-push-in-Some c =
    let f : c.from-cost.result ≡ c.cost.result = c.from-cost.ensures in
    let h : c.from-cost.result ≤ c.args.self.now.clock.1 = omega (arith, c.if-cost-left.false, c.left.ensures) in
    pushed c.args.e.now c.in-Some.v c.args.self.now _ c.from-cost.result
    (is_there c.in_ok-at_once.field-0 (λ v. value_at_once (expr c.args.e.now) c.args.self.now.heap ≡ Some v) c.in-Some.v c.in_ok-at_once.ensures c.in-Some.is)
    (f ∙ is_cost c.cost.result (expr c.args.e.now) c.cost.ensures.steps (λ z. c.if-cost-eq0.false (f ∙ z))) c.if-cost-eq0.false h
    c.in_ok-push-in-Some.ensures c.spend.ensures refl refl refl refl
