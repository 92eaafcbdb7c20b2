-- The program of each node, once its step is taken.
use Rattle.std.specs.Prelude.{[]}
use Rattle.js_machine.specs.Asks.{Program, CountTurn, Node, AnExpr, AStmt, ATurn, AScript, Env}
use Rattle.js_machine.specs.Expressions.{expression}
use Rattle.js_machine.specs.Statements.{statement}
use Rattle.js_machine.specs.Entries.{enter_script}

abbrev pub program : Node → Env → Program
program (AnExpr e) env = expression e env
program (AStmt labels s) env = statement labels s env
program (ATurn body) env = CountTurn (statement [] body env)
program (AScript script) env = enter_script script env
