use Rattle.std.proofs.Common.{subst}
use Rattle.js_tree.specs.Plain.{expr}
use Rattle.js_parser.specs.Machine as rule
use Rattle.js_parser.specs.Reads.{Reads}
use Rattle.js_parser.proofs.rules.Rules.comma_inside.Goals as goal

pub returns-clause-reads : goal.returns-clause-reads
returns-clause-reads g c = subst (λ room. Reads c.args.self.now.form expr (rule.comma room c.args.with_in) c.comma.result c.args.tokens.now c.comma.new.tokens) c.inside.ensures c.comma.ensures.reads
