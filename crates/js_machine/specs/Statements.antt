-- Statements (ES3 12): what each node does once its step is taken.
use Rattle.std.specs.Prelude.{if◌then◌else◌, List, [], ◌∷◌, ◌++◌}
use Rattle.js_values.specs.declared.value.Value.{Value}
use Rattle.js_values.specs.declared.value.Value.TheVariants as value
use Rattle.js_values.specs.Values.{truth_of}
use Rattle.exceptions_core.specs.declared.completion.Completion.TheVariants.{Break, Continue}
use Rattle.exceptions_core.specs.declared.completion.Completion.TheVariants.{Return, Throw}
use Rattle.exceptions_core.specs.declared.completion.Frame.TheVariants as frame
use Rattle.exceptions_core.specs.declared.completion.Landing.{Landing}
use Rattle.exceptions_core.specs.declared.completion.Landing.TheVariants as landing
use Rattle.object_heap.specs.Names.{Name}
use Rattle.js_tree.specs.Tree.{Expr, MaybeExpr, NoExpr, AnExpr, Stmt, Stmts, NoStmts, MoreStmts}
use Rattle.js_tree.specs.Tree.{MaybeStmt, NoStmt, AStmt, Handler, NoHandler, ACatch}
use Rattle.js_tree.specs.Tree.{Cases, NoCases, MoreCases}
use Rattle.js_tree.specs.Tree as tree
use Rattle.js_machine.specs.Asks as ask
use Rattle.js_machine.specs.Asks.{Program, Begin, Tail, Under, Open, Write, Compare, TellUse, Env}
use Rattle.js_machine.specs.Asks.{Outcome}
use Rattle.js_machine.specs.Frames.{◌>>=◌, ◌>>◌, done, completes, value_of}
use Rattle.js_machine.specs.Frames.{after_statement, at_frame}
use Rattle.js_machine.specs.Loops.{do_while, while, for, for_in}
use Rattle.js_machine.specs.Variables.{variables}

-- ---- lists of statements (12.1)

-- a declaration takes no step and does nothing here; `$dl_use` (Doloto's own) takes none and tells
abbrev pub begin_statement : Stmt → Env → Program → Program
begin_statement (tree.Declare f) env rest = rest
begin_statement (tree.Used n) env rest = TellUse n rest
begin_statement s env rest = Begin (ask.AStmt [] s) env (after_statement rest)

-- the last one ends as the list does
abbrev pub last_statement : Stmt → Env → Program
last_statement (tree.Declare f) env = done
last_statement (tree.Used n) env = TellUse n done
last_statement s env = Tail (ask.AStmt [] s) env

abbrev pub statements : Stmts → Env → Program
statements NoStmts env = done
statements (MoreStmts s NoStmts) env = last_statement s env
statements (MoreStmts s (MoreStmts t rest)) env =
    begin_statement s env (statements (MoreStmts t rest) env)

-- ---- 12.5

abbrev pub otherwise : MaybeStmt → Env → Program
otherwise NoStmt env = done
otherwise (AStmt s) env = Tail (ask.AStmt [] s) env

abbrev pub if_statement : Expr → Stmt → MaybeStmt → Env → Program
if_statement test first second env = do
  v ← value_of test env
  if truth_of v then Tail (ask.AStmt [] first) env else otherwise second env

-- ---- 12.9

abbrev pub return : MaybeExpr → Env → Program
return NoExpr env = completes (Return value.Undefined)
return (AnExpr e) env = do
  v ← value_of e env
  completes (Return v)

-- ---- 12.11

abbrev pub joined : Stmts → Stmts → Stmts
joined NoStmts more = more
joined (MoreStmts s rest) more = MoreStmts s (joined rest more)

-- the statements from a clause on
abbrev pub bodies_of : Cases → Stmts
bodies_of NoCases = NoStmts
bodies_of (MoreCases test body rest) = joined body (bodies_of rest)

abbrev pub bodies_from_default : Cases → Stmts
bodies_from_default NoCases = NoStmts
bodies_from_default (MoreCases NoExpr body rest) = joined body (bodies_of rest)
bodies_from_default (MoreCases (AnExpr e) body rest) = bodies_from_default rest

-- from the first clause, in the order of the text, whose value is the same; where there is none,
-- from `default`
abbrev pub select : Cases → Value → Env → Program → Program
select NoCases v env default = default
select (MoreCases NoExpr body rest) v env default = select rest v env default
select (MoreCases (AnExpr e) body rest) v env default = do
  w ← value_of e env
  is_same ← Compare v w
  (if is_same then statements (joined body (bodies_of rest)) env else select rest v env default)

abbrev pub left : Landing → Program
left _ = done

abbrev pub after_switch : List Name → Outcome → Program
after_switch labels = at_frame (frame.Switch labels) left

abbrev pub switch : List Name → Expr → Cases → Env → Program
switch labels e cases env = do
  v ← value_of e env
  Under (select cases v env (statements (bodies_from_default cases) env)) (after_switch labels)

-- ---- 12.12

abbrev pub after_labelled : List Name → Outcome → Program
after_labelled labels = at_frame (frame.Label labels) left

-- a loop, a `switch` and another label have the labels that stand before them
abbrev pub labelled : List Name → Stmt → Env → Program
labelled labels (tree.DoWhile body test) env = Tail (ask.AStmt labels (tree.DoWhile body test)) env
labelled labels (tree.While test body) env = Tail (ask.AStmt labels (tree.While test body)) env
labelled labels (tree.For first test update body) env =
    Tail (ask.AStmt labels (tree.For first test update body)) env
labelled labels (tree.ForIn target object body) env =
    Tail (ask.AStmt labels (tree.ForIn target object body)) env
labelled labels (tree.Switch e cases) env = Tail (ask.AStmt labels (tree.Switch e cases)) env
labelled labels (tree.Label name body) env = Tail (ask.AStmt labels (tree.Label name body)) env
labelled labels s env = Begin (ask.AStmt [] s) env (after_labelled labels)

-- ---- 12.14

-- the block of `catch`, in a scope that holds exactly its name
abbrev pub caught : Name → Stmt → Env → Landing → Program
caught name block env (landing.Catch v) = do
  scope ← Open (name ∷ []) env.chain
  Write (scope ∷ []) name v
  Tail (ask.AStmt [] block) (record env { chain = scope ∷ env.chain })
caught name block env _ = done

abbrev pub on_catch : Name → Stmt → Env → Outcome → Program
on_catch name block env = at_frame frame.Catch (caught name block env)

-- `finally`, and then the completion that waits for its end, unless that end is abrupt
abbrev pub finished : Stmt → Env → Landing → Program
finished block env (landing.Finally c) =
    Begin (ask.AStmt [] block) env (after_statement (completes c))
finished block env _ = done

abbrev pub on_finally : Stmt → Env → Outcome → Program
on_finally block env = at_frame frame.Finally (finished block env)

abbrev pub try : Stmt → Handler → MaybeStmt → Env → Program
try block NoHandler NoStmt env = Tail (ask.AStmt [] block) env
try block (ACatch name handler) NoStmt env =
    Begin (ask.AStmt [] block) env (on_catch name handler env)
try block NoHandler (AStmt last) env = Begin (ask.AStmt [] block) env (on_finally last env)
try block (ACatch name handler) (AStmt last) env =
    Under (Begin (ask.AStmt [] block) env (on_catch name handler env)) (on_finally last env)

-- ---- all of them

-- behind these labels
abbrev pub statement : List Name → Stmt → Env → Program
-- 12.1
statement labels (tree.Block body) env = statements body env
-- 12.2
statement labels (tree.Variables items) env = variables items env done
-- 12.3
statement labels tree.Empty env = done
-- 12.4
statement labels (tree.Do e) env = do
  v ← value_of e env
  done
-- 12.5
statement labels (tree.If test first second) env = if_statement test first second env
-- 12.6
statement labels (tree.DoWhile body test) env = do_while labels body test env
statement labels (tree.While test body) env = while labels test body env
statement labels (tree.For first test update body) env = for labels first test update body env
statement labels (tree.ForIn target object body) env = for_in labels target object body env
-- 12.7, 12.8
statement labels (tree.Continue label) env = completes (Continue label)
statement labels (tree.Break label) env = completes (Break label)
-- 12.9
statement labels (tree.Return e) env = return e env
-- 12.11
statement labels (tree.Switch e cases) env = switch labels e cases env
-- 12.12
statement labels (tree.Label name body) env = labelled (labels ++ name ∷ []) body env
-- 12.13
statement labels (tree.Throw e) env = do
  v ← value_of e env
  completes (Throw v)
-- 12.14
statement labels (tree.Try block handler last) env = try block handler last env
-- no statements that are begun
statement labels (tree.Declare f) env = done
statement labels (tree.Used n) env = TellUse n done
