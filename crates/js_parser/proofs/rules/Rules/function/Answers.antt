use Rattle.std.proofs.Common.{subst}
use Rattle.js_tree.specs.Plain.{func}
use Rattle.js_parser.specs.Pieces as pieces
use Rattle.js_parser.specs.Reads.{Reads}
use Rattle.js_parser.proofs.rules.Rules.function.Goals as goal

pub returns-clause-reads : goal.returns-clause-reads
returns-clause-reads g c = subst (λ room. Reads c.args.self.now.form func (pieces.function_rule c.args.name room) c.function.result c.args.tokens.now c.function.new.arg3) c.in_function.ensures (c.requires.functions.reads _ _ _ _ _ _ c.function.ensures)
