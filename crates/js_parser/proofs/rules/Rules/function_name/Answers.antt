use Rattle.std.proofs.Common.{sym, ◌∙◌, ap}
use Rattle.std.specs.Option.{option_copied}
use Rattle.js_parser.specs.Reads.{goes_on, is_stuck}
use Rattle.js_parser.proofs.Steps.{made}
use Rattle.js_parser.proofs.OperandSteps.{function-over, no-function-name, no-binding, binding}
use Rattle.js_parser.proofs.rules.Rules.function_name.Goals as goal

pub returns-then-are_over-clause-reads : goal.returns-then-are_over-clause-reads
returns-then-are_over-clause-reads g c next = is_stuck (function-over next _ (sym c.are_over.ensures ∙ c.if-are_over.true))

pub returns-in_default-clause-reads : goal.returns-in_default-clause-reads
returns-in_default-clause-reads g c next = goes_on (no-function-name next _ (sym c.are_over.ensures ∙ c.if-are_over.false) (sym c.name.ensures ∙ ap option_copied c.in_default.is))

pub returns-then-not-is_binding-clause-reads : goal.returns-then-not-is_binding-clause-reads
returns-then-not-is_binding-clause-reads g c next = is_stuck (no-binding next _ _ (sym c.name.ensures ∙ ap option_copied c.in-Some.is) (sym c.is_binding.ensures ∙ c.if-not-is_binding.true))

pub returns-clause-reads : goal.returns-clause-reads
returns-clause-reads g c next = made (λ n. n) next _ _ _ c.share_some.ensures (binding next _ _ _ (sym c.name.ensures ∙ ap option_copied c.in-Some.is) (sym c.is_binding.ensures ∙ c.if-not-is_binding.false) c.take.ensures.passed)
