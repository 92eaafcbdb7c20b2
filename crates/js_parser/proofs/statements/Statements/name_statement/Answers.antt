use Rattle.std.proofs.Common.{sym, ◌∙◌, ap}
use Rattle.std.specs.Option.{option_copied}
use Rattle.js_parser.specs.View as view
use Rattle.js_parser.proofs.Steps.{after}
use Rattle.js_parser.proofs.KindSteps.{at_a_label, at_a_forbidden_label, at_no_label}
use Rattle.js_parser.proofs.statements.Statements.name_statement.Goals as goal

pub returns-in_default-clause-reads : goal.returns-in_default-clause-reads
returns-in_default-clause-reads g c next = after (at_no_label (view.room c.args.room) (view.context c.args.context.now) next _ (sym c.label.ensures ∙ ap option_copied c.in_default.is)) (c.stated.ensures.reads next)

pub returns-then-not-is_reference-clause-reads : goal.returns-then-not-is_reference-clause-reads
returns-then-not-is_reference-clause-reads g c next = after (at_a_forbidden_label (view.room c.args.room) (view.context c.args.context.now) _ next _ (sym c.label.ensures ∙ ap option_copied c.in-Some.is) (sym c.is_reference.ensures ∙ c.if-not-is_reference.true)) (c.stated-then-not-is_reference.ensures.reads next)

pub returns-clause-reads : goal.returns-clause-reads
returns-clause-reads g c next = after (at_a_label (view.room c.args.room) (view.context c.args.context.now) _ next c.args.tokens.now c.take.new.self (sym c.label.ensures ∙ ap option_copied c.in-Some.is) (sym c.is_reference.ensures ∙ c.if-not-is_reference.false) c.take.ensures.passed) (c.behind_label.ensures.reads next)
