use Rattle.js_parser.proofs.statements.Statements.nested.Goals as goal

pub returns-clause-reads : goal.returns-clause-reads
returns-clause-reads g c = c.requires.statements.reads _ _ _ _ _ _ c.statement.ensures
