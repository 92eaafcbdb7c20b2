use Rattle.std.proofs.Common.{sym, ◌∙◌}
use Rattle.js_tree.specs.Plain.{stmt}
use Rattle.js_parser.specs.View as view
use Rattle.js_parser.proofs.Steps.{after, made}
use Rattle.js_parser.proofs.JumpSteps.{returns_nothing, returns_at_semicolon, returns_value}
use Rattle.js_parser.proofs.statements.Statements.returned.Goals as goal

pub returns-then-may_end-clause-reads : goal.returns-then-may_end-clause-reads
returns-then-may_end-clause-reads g c next = made stmt next _ _ _ c.return_nothing.ensures (returns_nothing (view.room c.args.room) next _ (sym c.may_end.ensures ∙ c.if-may_end.true))

pub returns-then-not-at_semicolon-clause-reads : goal.returns-then-not-at_semicolon-clause-reads
returns-then-not-at_semicolon-clause-reads g c next = after (returns_value (view.room c.args.room) next _ (sym c.may_end.ensures ∙ c.if-may_end.false) (sym c.at_semicolon.ensures.is ∙ c.if-not-at_semicolon.true)) (c.return_value.ensures.reads next)

pub returns-clause-reads : goal.returns-clause-reads
returns-clause-reads g c next = made stmt next _ _ _ c.return_nothing-2.ensures (returns_at_semicolon (view.room c.args.room) next _ _ (sym c.may_end.ensures ∙ c.if-may_end.false) (sym c.at_semicolon.ensures.is ∙ c.if-not-at_semicolon.false) c.take.ensures.passed)
