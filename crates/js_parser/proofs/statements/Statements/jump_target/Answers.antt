use Rattle.std.proofs.Common.{sym, ◌∙◌, ap}
use Rattle.std.specs.Option.{option_copied}
use Rattle.js_parser.proofs.Steps.{after}
use Rattle.js_parser.proofs.JumpSteps.{with_label, with_no_label}
use Rattle.js_parser.proofs.statements.Statements.jump_target.Goals as goal

pub returns-in_default-clause-reads : goal.returns-in_default-clause-reads
returns-in_default-clause-reads g c next = after (with_no_label c.args.may c.args.names.now next _ (sym c.label_on_line.ensures ∙ ap option_copied c.in_default.is)) (c.no_label.ensures.reads next)

pub returns-clause-reads : goal.returns-clause-reads
returns-clause-reads g c next = after (with_label c.args.may c.args.names.now _ next _ (sym c.label_on_line.ensures ∙ ap option_copied c.in-Some.is)) (c.jump_to.ensures.reads next)
