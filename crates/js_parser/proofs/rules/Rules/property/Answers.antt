use Rattle.std.proofs.Common.{sym, ◌∙◌, ap}
use Rattle.std.specs.Option.{option_copied}
use Rattle.js_parser.specs.Reads.{is_stuck}
use Rattle.js_parser.proofs.Steps.{made}
use Rattle.js_parser.proofs.DeclaratorSteps.{shared}
use Rattle.js_parser.proofs.OperandSteps.{no-name, no-property, property}
use Rattle.js_parser.proofs.rules.Rules.property.Goals as goal

pub returns-in_default-clause-reads : goal.returns-in_default-clause-reads
returns-in_default-clause-reads g c next = is_stuck (no-name next _ (sym c.name.ensures ∙ ap option_copied c.in_default.is))

pub returns-then-not-is_property-clause-reads : goal.returns-then-not-is_property-clause-reads
returns-then-not-is_property-clause-reads g c next = is_stuck (no-property next _ _ (sym c.name.ensures ∙ ap option_copied c.in-Some.is) (sym c.is_property.ensures ∙ c.if-not-is_property.true))

pub returns-clause-reads : goal.returns-clause-reads
returns-clause-reads g c next = made (λ n. n) next _ _ _ (shared _ _ c.share.ensures.ok c.share.ensures.err) (property next _ _ _ (sym c.name.ensures ∙ ap option_copied c.in-Some.is) (sym c.is_property.ensures ∙ c.if-not-is_property.false) c.take.ensures.passed)
