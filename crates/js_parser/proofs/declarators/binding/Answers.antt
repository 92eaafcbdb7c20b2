use Rattle.std.proofs.Common.{sym, ap, ◌∙◌}
use Rattle.std.specs.Option.{option_copied}
use Rattle.js_parser.specs.Reads.{is_stuck}
use Rattle.js_parser.proofs.Steps.{made}
use Rattle.js_parser.proofs.DeclaratorSteps.{at_a_binding, at_no_name, at_no_binding, shared}
use Rattle.js_parser.proofs.declarators.binding.Goals as goal

pub returns-in_default-clause-reads : goal.returns-in_default-clause-reads
returns-in_default-clause-reads c next = is_stuck (at_no_name next _ (sym c.name.ensures ∙ ap option_copied c.in_default.is))

pub returns-then-not-is_binding-clause-reads : goal.returns-then-not-is_binding-clause-reads
returns-then-not-is_binding-clause-reads c next = is_stuck (at_no_binding next _ _ (sym c.name.ensures ∙ ap option_copied c.in-Some.is) (sym c.is_binding.ensures ∙ c.if-not-is_binding.true))

pub returns-clause-reads : goal.returns-clause-reads
returns-clause-reads c next = made (λ name. name) next _ _ _ (shared _ _ c.share.ensures.ok c.share.ensures.err) (at_a_binding next _ _ _ (sym c.name.ensures ∙ ap option_copied c.in-Some.is) (sym c.is_binding.ensures ∙ c.if-not-is_binding.false) c.take.ensures.passed)
