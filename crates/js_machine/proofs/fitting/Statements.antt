-- Statements.
use Rattle.std.proofs.Common.{List, [], ◌∷◌, ◌++◌}
use Rattle.js_values.specs.declared.value.Value.{Value}
use Rattle.js_values.specs.Values.{truth_of}
use Rattle.exceptions_core.specs.declared.completion.Frame.TheVariants as frame
use Rattle.object_heap.specs.Names.{Name}
use Rattle.js_tree.specs.Tree.{Expr, MaybeExpr, NoExpr, AnExpr, Stmt, Stmts, NoStmts, MoreStmts, MaybeStmt, NoStmt, AStmt, Handler, NoHandler, ACatch, Cases, NoCases, MoreCases}
use Rattle.js_tree.specs.Tree as tree
use Rattle.js_machine.specs.Asks as ask
use Rattle.js_machine.specs.Asks.{Program, Env}
use Rattle.js_machine.specs.Frames.{after_statement}
use Rattle.js_machine.specs.Statements.{begin_statement, last_statement, statements, otherwise, if_statement, return, joined, bodies_of, bodies_from_default, select, left, switch, after_labelled, labelled, caught, on_catch, finished, on_finally, try, statement}
use Rattle.js_machine.specs.Reachable as fits
use Rattle.js_machine.specs.Reachable.{Counts, ValueFits, EnvFits}
use Rattle.js_machine.proofs.fitting.Growth.{grows_on, later_value, later_chain, later_env}
use Rattle.js_machine.proofs.fitting.Family as asks
use Rattle.js_machine.proofs.fitting.Family.{ProgramFits, OnOutcomes, later_program}
use Rattle.js_machine.proofs.fitting.Frames as landings
use Rattle.js_machine.proofs.fitting.Frames.{if_fits, completes_fits, done_fits, value_of_fits, after_statement_fits, OnLandings, at_frame_fits}
use Rattle.js_machine.proofs.fitting.Loops.{do_while_fits, while_fits, for_fits, for_in_fits}
use Rattle.js_machine.proofs.fitting.Variables.{variables_fit}

-- ---- lists of statements

begins : (s : Stmt) {w : Counts} {env : Env} {rest : Program} → EnvFits w env → ProgramFits w rest → ProgramFits w (ask.Begin (ask.AStmt [] s) env (after_statement rest))
begins s env rest = asks.begin env (after_statement_fits rest)

begin_statement_fits : (s : Stmt) {w : Counts} {env : Env} {rest : Program} → EnvFits w env → ProgramFits w rest → ProgramFits w (begin_statement s env rest)
begin_statement_fits (tree.Declare f) env rest = rest
begin_statement_fits (tree.Used n) env rest = asks.tell_use rest
begin_statement_fits s env rest = begins s env rest

last_statement_fits : (s : Stmt) {w : Counts} {env : Env} → EnvFits w env → ProgramFits w (last_statement s env)
last_statement_fits (tree.Declare f) env = done_fits
last_statement_fits (tree.Used n) env = asks.tell_use done_fits
last_statement_fits s env = asks.tail env

pub statements_fit : (ss : Stmts) {w : Counts} {env : Env} → EnvFits w env → ProgramFits w (statements ss env)
statements_fit NoStmts env = done_fits
statements_fit (MoreStmts s NoStmts) env = last_statement_fits s env
statements_fit (MoreStmts s (MoreStmts t rest)) env = begin_statement_fits s env (statements_fit (MoreStmts t rest) env)

-- ---- 12.5, 12.9

otherwise_fits : (second : MaybeStmt) {w : Counts} {env : Env} → EnvFits w env → ProgramFits w (otherwise second env)
otherwise_fits NoStmt env = done_fits
otherwise_fits (AStmt s) env = asks.tail env

if_statement_fits : (test : Expr) (first : Stmt) (second : MaybeStmt) {w : Counts} {env : Env} → EnvFits w env → ProgramFits w (if_statement test first second env)
if_statement_fits test first second env = value_of_fits test env (λ v g a p. if_fits (truth_of a) (asks.tail (later_env g env)) (otherwise_fits second (later_env g env)))

return_fits : (e : MaybeExpr) {w : Counts} {env : Env} → EnvFits w env → ProgramFits w (return e env)
return_fits NoExpr env = completes_fits (fits.a_return fits.undefined)
return_fits (AnExpr e) env = value_of_fits e env (λ v g a p. completes_fits (fits.a_return p))

-- ---- 12.11

select_fits : (cases : Cases) {w : Counts} {a : Value} {env : Env} {default : Program} → ValueFits w a → EnvFits w env → ProgramFits w default → ProgramFits w (select cases a env default)
select_fits NoCases a env default = default
select_fits (MoreCases NoExpr body rest) a env default = select_fits rest a env default
select_fits (MoreCases (AnExpr e) body rest) a env default =
    value_of_fits e env (λ v g b p. asks.compare (later_value g a) p (λ u f same.
    if_fits same (statements_fit (joined body (bodies_of rest)) (later_env (grows_on g f) env))
    (select_fits rest (later_value (grows_on g f) a) (later_env (grows_on g f) env) (later_program default (grows_on g f)))))

left_fits : {w : Counts} → OnLandings w left
left_fits v g l p = done_fits

switch_fits : (labels : List Name) (e : Expr) (cases : Cases) {w : Counts} {env : Env} → EnvFits w env → ProgramFits w (switch labels e cases env)
switch_fits labels e cases env =
    value_of_fits e env (λ v g a p. asks.under (select_fits cases p (later_env g env) (statements_fit (bodies_from_default cases) (later_env g env)))
    (at_frame_fits (frame.Switch labels) left_fits))

-- ---- 12.12

begins_labelled : (labels : List Name) (s : Stmt) {w : Counts} {env : Env} → EnvFits w env → ProgramFits w (ask.Begin (ask.AStmt [] s) env (after_labelled labels))
begins_labelled labels s env = asks.begin env (at_frame_fits (frame.Label labels) left_fits)

labelled_fits : (labels : List Name) (s : Stmt) {w : Counts} {env : Env} → EnvFits w env → ProgramFits w (labelled labels s env)
labelled_fits labels (tree.DoWhile body test) env = asks.tail env
labelled_fits labels (tree.While test body) env = asks.tail env
labelled_fits labels (tree.For first test update body) env = asks.tail env
labelled_fits labels (tree.ForIn target object body) env = asks.tail env
labelled_fits labels (tree.Switch e cases) env = asks.tail env
labelled_fits labels (tree.Label name body) env = asks.tail env
labelled_fits labels s env = begins_labelled labels s env

-- ---- 12.14

caught_fits : (name : Name) (block : Stmt) {w : Counts} {env : Env} → EnvFits w env → OnLandings w (caught name block env)
caught_fits name block env v g l (landings.catch p) =
    asks.open_scope (later_chain g env.chain) (λ u f scope s. asks.write (fits.more s fits.empty) (later_value f p)
    (asks.tail (record { chain = fits.more s (later_chain (grows_on g f) env.chain); this = later_value (grows_on g f) env.this })))
caught_fits name block env v g l landings.next = done_fits
caught_fits name block env v g l landings.left = done_fits
caught_fits name block env v g l (landings.finally c) = done_fits
caught_fits name block env v g l (landings.caller c) = done_fits
caught_fits name block env v g l (landings.bottom c) = done_fits

on_catch_fits : (name : Name) (block : Stmt) {w : Counts} {env : Env} → EnvFits w env → OnOutcomes w (on_catch name block env)
on_catch_fits name block env = at_frame_fits frame.Catch (caught_fits name block env)

finished_fits : (block : Stmt) {w : Counts} {env : Env} → EnvFits w env → OnLandings w (finished block env)
finished_fits block env v g l (landings.finally c) = asks.begin (later_env g env) (after_statement_fits (completes_fits c))
finished_fits block env v g l landings.next = done_fits
finished_fits block env v g l landings.left = done_fits
finished_fits block env v g l (landings.catch a) = done_fits
finished_fits block env v g l (landings.caller c) = done_fits
finished_fits block env v g l (landings.bottom c) = done_fits

on_finally_fits : (block : Stmt) {w : Counts} {env : Env} → EnvFits w env → OnOutcomes w (on_finally block env)
on_finally_fits block env = at_frame_fits frame.Finally (finished_fits block env)

try_fits : (block : Stmt) (handler : Handler) (last : MaybeStmt) {w : Counts} {env : Env} → EnvFits w env → ProgramFits w (try block handler last env)
try_fits block NoHandler NoStmt env = asks.tail env
try_fits block (ACatch name handler) NoStmt env = asks.begin env (on_catch_fits name handler env)
try_fits block NoHandler (AStmt last) env = asks.begin env (on_finally_fits last env)
try_fits block (ACatch name handler) (AStmt last) env = asks.under (asks.begin env (on_catch_fits name handler env)) (on_finally_fits last env)

-- ---- all of them

pub statement_fits : (labels : List Name) (s : Stmt) {w : Counts} {env : Env} → EnvFits w env → ProgramFits w (statement labels s env)
statement_fits labels (tree.Block body) env = statements_fit body env
statement_fits labels (tree.Variables items) env = variables_fit items env done_fits
statement_fits labels tree.Empty env = done_fits
statement_fits labels (tree.Do e) env = value_of_fits e env (λ v g a p. done_fits)
statement_fits labels (tree.If test first second) env = if_statement_fits test first second env
statement_fits labels (tree.DoWhile body test) env = do_while_fits labels body test env
statement_fits labels (tree.While test body) env = while_fits labels test body env
statement_fits labels (tree.For first test update body) env = for_fits labels first test update body env
statement_fits labels (tree.ForIn target object body) env = for_in_fits labels target object body env
statement_fits labels (tree.Continue label) env = completes_fits fits.a_continue
statement_fits labels (tree.Break label) env = completes_fits fits.a_break
statement_fits labels (tree.Return e) env = return_fits e env
statement_fits labels (tree.Switch e cases) env = switch_fits labels e cases env
statement_fits labels (tree.Label name body) env = labelled_fits (labels ++ name ∷ []) body env
statement_fits labels (tree.Throw e) env = value_of_fits e env (λ v g a p. completes_fits (fits.a_throw p))
statement_fits labels (tree.Try block handler last) env = try_fits block handler last env
statement_fits labels (tree.Declare f) env = done_fits
statement_fits labels (tree.Used n) env = asks.tell_use done_fits
