use Rattle.std.proofs.Common.{subst}
use Rattle.js_parser.specs.Reads.{Reads}
use Rattle.js_parser.specs.StatementKinds.{jump_target}
use Rattle.js_parser.proofs.statements.Statements.break_target.Goals as goal

pub returns-clause-reads : goal.returns-clause-reads
returns-clause-reads g c = subst (λ may. Reads c.args.self.now.rules.form (λ label. label) (jump_target c.args.self.now.rules.form may c.args.context.now.labels) c.jump_target.result c.args.tokens.now c.jump_target.new.tokens) c.may_break.ensures c.jump_target.ensures.reads
