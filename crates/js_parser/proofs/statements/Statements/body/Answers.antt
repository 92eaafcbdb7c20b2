use Rattle.std.proofs.Common.{subst}
use Rattle.js_tree.specs.Plain.{body}
use Rattle.js_parser.specs.Machine.{source}
use Rattle.js_parser.specs.Reads.{Reads}
use Rattle.js_parser.specs.View as view
use Rattle.js_parser.proofs.statements.Statements.body.Goals as goal

pub returns-clause-reads : goal.returns-clause-reads
returns-clause-reads g c = subst (λ context. Reads c.args.self.now.rules.form body (source (view.room c.args.room) context) c.source.result c.args.tokens.now c.source.new.tokens) c.function-context.ensures c.source.ensures.reads
