use Rattle.js_parser.proofs.Levels.{expression-any, argument-any, declarator-any, element-any}
use Rattle.js_parser.proofs.laws.have_tokens.Goals as goal

pub returns-clause-expressions : goal.returns-clause-expressions
returns-clause-expressions c form i l u x d = expression-any form i l u x d

pub returns-clause-argument_lists : goal.returns-clause-argument_lists
returns-clause-argument_lists c form u xs d = argument-any form u xs d

pub returns-clause-declarator_lists : goal.returns-clause-declarator_lists
returns-clause-declarator_lists c form i u items d = declarator-any form i u items d

pub returns-clause-statements : goal.returns-clause-statements
returns-clause-statements c form context u next s d = element-any form context u next s d
