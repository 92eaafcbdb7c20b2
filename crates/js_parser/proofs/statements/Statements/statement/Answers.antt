use Rattle.std.proofs.Common.{◌≡◌, [], sym, ◌∙◌, arith}
use Rattle.js_parser.specs.declared.statement_kind.Kind.TheVariants as kind
use Rattle.js_parser.specs.Reads.{is_stuck}
use Rattle.js_parser.specs.View as view
use Rattle.js_parser.proofs.Steps.{after}
use Rattle.js_parser.proofs.KindSteps.{begins_as, begins_behind}
use Rattle.js_parser.proofs.KindSteps.{nothing_begins}
use Rattle.js_parser.proofs.statements.Statements.statement.Goals as goal

pub returns-then-is_empty-clause-reads : goal.returns-then-is_empty-clause-reads
returns-then-is_empty-clause-reads g c next =
    let e = c.is_empty.ensures.none in let t = c.if-is_empty.true in let none : c.args.tokens.now ≡ [] = grind arith in
    is_stuck (nothing_begins (view.room c.args.room) (view.context c.args.context.now) next c.args.tokens.now none)

pub returns-in-Continue-clause-reads : goal.returns-in-Continue-clause-reads
returns-in-Continue-clause-reads g c next = after (begins_as (view.room c.args.room) (view.context c.args.context.now) next _ kind.Continue (sym c.in-Continue.is ∙ c.kind_at.ensures)) (c.continue_statement.ensures.reads next)

pub returns-in-Break-clause-reads : goal.returns-in-Break-clause-reads
returns-in-Break-clause-reads g c next = after (begins_as (view.room c.args.room) (view.context c.args.context.now) next _ kind.Break (sym c.in-Break.is ∙ c.kind_at.ensures)) (c.break_statement.ensures.reads next)

pub returns-in-Return-clause-reads : goal.returns-in-Return-clause-reads
returns-in-Return-clause-reads g c next = after (begins_as (view.room c.args.room) (view.context c.args.context.now) next _ kind.Return (sym c.in-Return.is ∙ c.kind_at.ensures)) (c.return_statement.ensures.reads next)

pub returns-in-Named-clause-reads : goal.returns-in-Named-clause-reads
returns-in-Named-clause-reads g c next = after (begins_as (view.room c.args.room) (view.context c.args.context.now) next _ kind.Named (sym c.in-Named.is ∙ c.kind_at.ensures)) (c.name_statement.ensures.reads next)

pub returns-in-Expression-clause-reads : goal.returns-in-Expression-clause-reads
returns-in-Expression-clause-reads g c next = after (begins_as (view.room c.args.room) (view.context c.args.context.now) next _ kind.Expression (sym c.in-Expression.is ∙ c.kind_at.ensures)) (c.stated.ensures.reads next)

pub returns-in-Refused-clause-reads : goal.returns-in-Refused-clause-reads
returns-in-Refused-clause-reads g c next = is_stuck (begins_as (view.room c.args.room) (view.context c.args.context.now) next _ kind.Refused (sym c.in-Refused.is ∙ c.kind_at.ensures))

pub returns-in-Behind-clause-reads : goal.returns-in-Behind-clause-reads
returns-in-Behind-clause-reads g c next = after (begins_behind (view.room c.args.room) (view.context c.args.context.now) next _ _ c.in-Behind.kind (sym c.in-Behind.is ∙ c.kind_at.ensures) c.take.ensures.passed) (c.behind_first_token.ensures.reads next)
