use Rattle.js_tree.specs.Plain.{stmt}
use Rattle.js_parser.specs.StatementKinds.{behind_first}
use Rattle.js_parser.specs.View as view
use Rattle.js_parser.proofs.KindSteps.{of_kind}
use Rattle.js_parser.proofs.statements.Statements.behind_first_token.Goals as goal

pub returns-in-Block-clause-reads : goal.returns-in-Block-clause-reads
returns-in-Block-clause-reads g c = of_kind stmt (λ kind. behind_first kind c.args.self.now.rules.form (view.room c.args.room) (view.context c.args.context.now)) c.in-Block.is c.braces.ensures.reads

pub returns-in-Empty-clause-reads : goal.returns-in-Empty-clause-reads
returns-in-Empty-clause-reads g c = of_kind stmt (λ kind. behind_first kind c.args.self.now.rules.form (view.room c.args.room) (view.context c.args.context.now)) c.in-Empty.is c.empty.ensures.reads

pub returns-in-Variables-clause-reads : goal.returns-in-Variables-clause-reads
returns-in-Variables-clause-reads g c = of_kind stmt (λ kind. behind_first kind c.args.self.now.rules.form (view.room c.args.room) (view.context c.args.context.now)) c.in-Variables.is c.variables.ensures.reads

pub returns-in-If-clause-reads : goal.returns-in-If-clause-reads
returns-in-If-clause-reads g c = of_kind stmt (λ kind. behind_first kind c.args.self.now.rules.form (view.room c.args.room) (view.context c.args.context.now)) c.in-If.is c.if_statement.ensures.reads

pub returns-in-Do-clause-reads : goal.returns-in-Do-clause-reads
returns-in-Do-clause-reads g c = of_kind stmt (λ kind. behind_first kind c.args.self.now.rules.form (view.room c.args.room) (view.context c.args.context.now)) c.in-Do.is c.do_statement.ensures.reads

pub returns-in-While-clause-reads : goal.returns-in-While-clause-reads
returns-in-While-clause-reads g c = of_kind stmt (λ kind. behind_first kind c.args.self.now.rules.form (view.room c.args.room) (view.context c.args.context.now)) c.in-While.is c.while_statement.ensures.reads

pub returns-in-For-clause-reads : goal.returns-in-For-clause-reads
returns-in-For-clause-reads g c = of_kind stmt (λ kind. behind_first kind c.args.self.now.rules.form (view.room c.args.room) (view.context c.args.context.now)) c.in-For.is c.for_statement.ensures.reads

pub returns-in-Switch-clause-reads : goal.returns-in-Switch-clause-reads
returns-in-Switch-clause-reads g c = of_kind stmt (λ kind. behind_first kind c.args.self.now.rules.form (view.room c.args.room) (view.context c.args.context.now)) c.in-Switch.is c.switch_statement.ensures.reads

pub returns-in-Throw-clause-reads : goal.returns-in-Throw-clause-reads
returns-in-Throw-clause-reads g c = of_kind stmt (λ kind. behind_first kind c.args.self.now.rules.form (view.room c.args.room) (view.context c.args.context.now)) c.in-Throw.is c.throw_statement.ensures.reads

pub returns-in-Try-clause-reads : goal.returns-in-Try-clause-reads
returns-in-Try-clause-reads g c = of_kind stmt (λ kind. behind_first kind c.args.self.now.rules.form (view.room c.args.room) (view.context c.args.context.now)) c.in-Try.is c.try_statement.ensures.reads
