use Rattle.std.proofs.Common.{subst}
use Rattle.js_tree.specs.Plain.{expr}
use Rattle.js_parser.specs.Pieces as pieces
use Rattle.js_parser.specs.Reads.{Reads}
use Rattle.js_parser.proofs.rules.Rules.inside.Goals as goal

pub returns-clause-reads : goal.returns-clause-reads
returns-clause-reads g c = subst (λ room. Reads c.args.self.now.form expr (pieces.part_rule c.args.part room c.args.with_in) c.part.result c.args.tokens.now c.part.new.tokens) c.inside.ensures c.part.ensures.reads
