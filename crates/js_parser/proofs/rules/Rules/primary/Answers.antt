use Rattle.std.proofs.Common.{sym, ◌∙◌, ap}
use Rattle.std.specs.Option.{option_copied}
use Rattle.js_parser.specs.View as view
use Rattle.js_parser.proofs.Steps.{after}
use Rattle.js_parser.proofs.OperandSteps.{at-name, at-opening, at-leaf}
use Rattle.js_parser.proofs.rules.Rules.primary.Goals as goal

pub returns-in-Some-clause-reads : goal.returns-in-Some-clause-reads
returns-in-Some-clause-reads g c next = after (at-name (view.room c.args.room) next c.args.tokens.now c.in-Some.name.now (sym c.name.ensures ∙ ap option_copied c.in-Some.is)) (c.name-in-Some.ensures.reads next)

pub returns-in_default-opening_at-clause-reads : goal.returns-in_default-opening_at-clause-reads
returns-in_default-opening_at-clause-reads g c next = after (at-leaf (view.room c.args.room) next c.args.tokens.now (sym c.name.ensures ∙ ap option_copied c.in_default.is) (sym c.opening_at.ensures.is ∙ c.in_default-opening_at.is)) (c.leaf.ensures.reads next)

pub returns-clause-reads : goal.returns-clause-reads
returns-clause-reads g c next =
    after (at-opening (view.room c.args.room) next c.args.tokens.now c.in-Some-opening_at.opening c.take.new.self (sym c.name.ensures ∙ ap option_copied c.in_default.is) (sym c.opening_at.ensures.is ∙ c.in-Some-opening_at.is) c.take.ensures.passed) (c.opened.ensures.reads next)
