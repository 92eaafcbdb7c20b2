use Rattle.js_parser.proofs.rules.Rules.part.Goals as goal

pub returns-clause-reads : goal.returns-clause-reads
returns-clause-reads g c = c.requires.expressions.reads _ _ _ _ _ _ _ c.expression.ensures
