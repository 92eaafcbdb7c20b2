-- What is left of a run, by the machine's control, its frames and its values.
use Rattle.std.specs.Prelude.{◌≡◌, ◌≤◌, ℕ, ◌+◌, ◌*◌, Bool, if◌then◌else◌}
use Rattle.std.specs.Prelude.{List, [], ◌∷◌, ◌++◌, length, map, Option, Some, None}
use Rattle.js_values.specs.declared.number.Num.{Num}
use Rattle.js_values.specs.declared.reason.Reason.TheVariants.{ReservedName}
use Rattle.js_values.specs.declared.value.ObjectId.{ObjectId}
use Rattle.js_values.specs.declared.value.Value.{Value}
use Rattle.js_values.specs.declared.value.Value.TheVariants as value
use Rattle.js_values.specs.Shown.{Passed}
use Rattle.js_values.specs.Values.{truth_of}
use Rattle.exceptions_core.specs.declared.completion.Completion.TheVariants as completion
use Rattle.exceptions_core.specs.declared.completion.Frame.TheVariants as frames
use Rattle.exceptions_core.specs.declared.completion.Landing.{Landing}
use Rattle.object_heap.specs.Names.{Name, is_reserved}
use Rattle.object_heap.specs.Objects.{Heap}
use Rattle.js_tree.specs.declared.tree.BinaryOp.{BinaryOp}
use Rattle.js_tree.specs.declared.tree.BinaryOp.TheVariants as op
use Rattle.js_tree.specs.declared.tree.Pair.{Pair}
use Rattle.js_tree.specs.declared.tree.PostfixOp.{PostfixOp}
use Rattle.js_tree.specs.declared.tree.Expr as declared_expr
use Rattle.js_tree.specs.declared.tree.Stmt as declared_stmt
use Rattle.js_tree.specs.declared.tree.VarItem.{VarItem}
use Rattle.js_tree.specs.Tree.{Expr, NoElements, Stmt}
use Rattle.js_tree.specs.Plain.{expr, stmt}
use Rattle.js_tree.specs.Plain as view
use Rattle.js_code.specs.Cursors.{elements_from, exprs_from, pairs_from, stmts_from, var_items_from}
use Rattle.js_code.specs.Projections.{IfTree, LoopTree, for_in_parts, if_parts, loop_parts}
use Rattle.js_machine.specs.declared.hosts.HostCall.{HostCall}
use Rattle.js_machine.specs.declared.machine.Machine.{Machine}
use Rattle.js_machine.specs.declared.frame.Frame.{Frame}
use Rattle.js_machine.specs.declared.frame.Frame.TheVariants as frame
use Rattle.js_machine.specs.declared.frame.Control.{Control}
use Rattle.js_machine.specs.declared.frame.Control.TheVariants as control
use Rattle.js_machine.specs.declared.frame.End.{End}
use Rattle.js_machine.specs.declared.frame.End.TheVariants as end
use Rattle.js_machine.specs.declared.frame.Over.{Over}
use Rattle.js_machine.specs.declared.frame.Over.TheVariants as over
use Rattle.js_machine.specs.declared.frame.Unbuilt.TheVariants as unbuilt
use Rattle.js_machine.specs.Asks.{Program, Tail, Turn, CountTurn, Outcome, Gives, Enter, Ret, Stop}
use Rattle.js_machine.specs.Asks.{Ends, AnExpr, AStmt, ATurn, Loop}
use Rattle.js_machine.specs.Frames.{gives, done, on_value, value_of, after_statement, at_frame}
use Rattle.js_machine.specs.Operators.{operate}
use Rattle.js_machine.specs.Statements.{statement, statements, otherwise}
use Rattle.js_machine.specs.Expressions.{expression}
use Rattle.js_machine.specs.Loops.{on_test, next_turn, updated}
use Rattle.js_machine.specs.Entries.{enter_script}
use Rattle.js_machine.specs.Programs.{program}
use Rattle.js_machine.specs.State.{State}
use Rattle.js_machine.specs.Variables.{variables}
use Rattle.js_machine.specs.Globals.{changed_from, changing, host_body, initialised, name_in}
use Rattle.js_machine.specs.Globals.{no_names, stored, type_told, unary}
use Rattle.js_machine.specs.Run.{World, Trace, Stack, pop, due, run}
use Rattle.js_machine.specs.Run as trace
use Rattle.js_machine.specs.Page.{script_env}
use Rattle.js_machine.specs.Calls.{arguments}
use Rattle.js_machine.specs.Conversions.{to_object}
use Rattle.js_machine.specs.Literals.{element_given, elements_left, object_number}
use Rattle.js_machine.specs.Literals.{pair_given, pairs_left}
use Rattle.js_machine.specs.Members.{arguments_on, base_on, based, changed_member, dot_name}
use Rattle.js_machine.specs.Members.{changed_to, has_named, keyed, member_called, named, putting}
use Rattle.js_machine.specs.Members.{putting_with, target_of, text_in, with_member}
use Rattle.js_machine.specs.References.{get_on, put_on}
use Rattle.js_machine.specs.Stacks.{top, below, without}
use Rattle.js_machine.specs.Visiting.{before_visits, for_in_begun, named_turn, next_visit, on_key}
use Rattle.js_machine.specs.Visiting.{visit_based, visit_begun, visiting, visits_from, visits_left}
use Rattle.js_machine.specs.Visiting.{visits_on, without_visits}

-- ---- parts of nodes

-- a loop without labels
abbrev pub loop_with : LoopTree → Loop
loop_with p = record { labels = []; test = p.test; update = p.update; body = p.body }

-- ---- what the machine does not keep: what a run is given, and what the host has seen of it

pub record Outside : Type 0 where
  pub world : World
  pub called : List Name
  pub passed : Passed

abbrev pub state_of : Heap → List HostCall → ℕ → ℕ → Outside → State
state_of heap hosts beats steps out = record {
  heap = heap;
  bodies = map host_body hosts;
  scopes = no_names;
  listeners = [];
  called = out.called;
  passed = out.passed;
  beats = beats;
  steps = steps;
}

-- ---- what waits

-- the test of an `if` has its value; what is no `if` ends
abbrev pub branched : Option IfTree → Value → Program
branched None v = done
branched (Some p) v =
    if truth_of v then Tail (AStmt [] p.first) script_env else otherwise p.second script_env

-- ---- loops; what is no loop ends

abbrev pub turning : Option LoopTree → Program
turning None = done
turning (Some p) = Turn (loop_with p) script_env

abbrev pub updating : Option LoopTree → Program
updating None = done
updating (Some p) = updated p.update (loop_with p) script_env

abbrev pub tested : Option LoopTree → Value → Program
tested None = λ v. done
tested (Some p) = on_test (loop_with p) script_env

abbrev pub next_of : Option LoopTree → Landing → Program
next_of None = λ landing. done
next_of (Some p) = next_turn (loop_with p) script_env

abbrev pub waits : Frame → List Value → Outcome → Program
waits (frame.Left op right) vs =
    on_value (λ v. value_of (expr right) script_env (λ w. operate op v w gives))
waits (frame.Right op) vs = on_value (λ w. operate op (top vs) w gives)
waits (frame.And right) vs =
    on_value (λ v. if truth_of v then Tail (AnExpr (expr right)) script_env else gives v)
waits (frame.Or right) vs =
    on_value (λ v. if truth_of v then gives v else Tail (AnExpr (expr right)) script_env)
waits (frame.Comma right) vs = on_value (λ v. Tail (AnExpr (expr right)) script_env)
waits (frame.Cond first second) vs =
    on_value (λ v. if truth_of v then Tail (AnExpr (expr first)) script_env
    else Tail (AnExpr (expr second)) script_env)
waits frame.Do vs = on_value (λ v. done)
waits (frame.Next ss i) vs = after_statement (statements (stmts_from ss i) script_env)
waits (frame.If s) vs = on_value (branched (if_parts (stmt s)))
waits (frame.Test s) vs = on_value (tested (loop_parts (stmt s)))
waits (frame.Turn s) vs = at_frame (frames.Loop []) (next_of (loop_parts (stmt s)))
waits (frame.Again s) vs = on_value (λ v. turning (loop_parts (stmt s)))
waits (frame.Store target) vs = on_value (λ v. stored (name_in (expr target)) v v)
waits (frame.StoreWith op target) vs =
    on_value (λ w. operate op (top vs) w (λ r. stored (name_in (expr target)) r r))
waits (frame.Unary op) vs = on_value (unary op)
waits frame.Type vs = on_value type_told
waits (frame.Var i items) vs = on_value (initialised (var_items_from items i) done)
waits (frame.ForVar i items s) vs =
    on_value (initialised (var_items_from items i) (turning (loop_parts (stmt s))))
waits (frame.Callee callee es) vs = on_value (λ base. to_object base
    (arguments (exprs_from es 0) script_env [] (member_called (dot_name (expr callee)) base)))
waits (frame.Argument i callee es) vs = on_value (λ v.
    arguments (exprs_from es (i + 1)) script_env (arguments_on i vs ++ v ∷ [])
    (member_called (dot_name (expr callee)) (base_on i vs)))
waits (frame.Base e) vs = on_value (based (target_of (expr e)) (expr e))
waits (frame.Key e) vs = on_value (keyed (expr e) (top vs))
waits frame.Put vs = on_value (λ v. put_on (top (below vs)) (text_in (top vs)) v (gives v))
waits (frame.PutWith op) vs = on_value (λ w. operate op (top vs) w (λ r.
    put_on (top (below (below vs))) (text_in (top (below vs))) r (gives r)))
waits (frame.Changed op gives_new) vs =
    on_value (changed_member op gives_new (top (below vs)) (text_in (top vs)))
waits (frame.Element i es) vs =
    on_value (element_given (elements_from es (i + 1)) (object_number (top vs)) i)
waits (frame.Pair i ps) vs = on_value (pair_given (pairs_from ps i) (object_number (top vs)))
waits frame.In vs = on_value (λ w. operate op.In (top vs) w gives)
waits (frame.VisitsFrom s) vs = on_value (visits_from (for_in_parts (stmt s)))
waits (frame.Visits s) vs = on_value (visiting (for_in_parts (stmt s)))
waits (frame.Visit left s) vs =
    at_frame (frames.Loop []) (next_visit (for_in_parts (stmt s)) (visits_on left vs))
waits (frame.VisitBase left s) vs = on_value
    (visit_based (for_in_parts (stmt s)) (text_in (top vs)) (visits_on left (below vs)))
waits (frame.VisitKey left s) vs = on_value (on_key (top vs) (text_in (top (below vs)))
    (named_turn (for_in_parts (stmt s)) (visits_on left (below (below vs)))))

-- the values below those that the frame owns
abbrev pub under : Frame → List Value → List Value
under (frame.Left op right) vs = vs
under (frame.Right op) vs = below vs
under (frame.And right) vs = vs
under (frame.Or right) vs = vs
under (frame.Comma right) vs = vs
under (frame.Cond first second) vs = vs
under frame.Do vs = vs
under (frame.Next ss i) vs = vs
under (frame.If s) vs = vs
under (frame.Test s) vs = vs
under (frame.Turn s) vs = vs
under (frame.Again s) vs = vs
under (frame.Store target) vs = vs
under (frame.StoreWith op target) vs = below vs
under (frame.Unary op) vs = vs
under frame.Type vs = vs
under (frame.Var i items) vs = vs
under (frame.ForVar i items s) vs = vs
under (frame.Callee callee es) vs = vs
under (frame.Argument i callee es) vs = below (without i vs)
under (frame.Base e) vs = vs
under (frame.Key e) vs = below vs
under frame.Put vs = below (below vs)
under (frame.PutWith op) vs = below (below (below vs))
under (frame.Changed op gives_new) vs = below (below vs)
under (frame.Element i es) vs = below vs
under (frame.Pair i ps) vs = below vs
under frame.In vs = below vs
under (frame.VisitsFrom s) vs = vs
under (frame.Visits s) vs = vs
under (frame.Visit left s) vs = without_visits left vs
under (frame.VisitBase left s) vs = without_visits left (below vs)
under (frame.VisitKey left s) vs = without_visits left (below (below vs))

abbrev pub stack : List Frame → List Value → Stack
stack [] vs = []
stack (f ∷ fs) vs = waits f vs ∷ stack fs (under f vs)

-- ---- what is left

-- at some place of the machine, by the steps that are left, its frames, values, heap, host calls,
-- beats and steps
abbrev pub Left : Type 0
Left = ℕ → List Frame → List Value → Heap → List HostCall → ℕ → ℕ → Outside → Trace

-- a program goes on, and one whose step is due
abbrev pub running : Program → Left
running p n fs vs heap hosts beats steps out =
    run out.world n p (stack fs vs) (state_of heap hosts beats steps out)

abbrev pub starting : Program → Left
starting p n fs vs heap hosts beats steps out =
    due out.world n p (stack fs vs) (state_of heap hosts beats steps out)

-- an outcome goes to what waits, and one that has the newest value
abbrev pub popped : Outcome → Left
popped o n fs vs heap hosts beats steps out =
    pop out.world (due out.world n) (stack fs vs) o (state_of heap hosts beats steps out)

abbrev pub popped_with : (Value → Outcome) → Left
popped_with o n fs vs heap hosts beats steps out =
    pop out.world (due out.world n) (stack fs (below vs)) (o (top vs))
    (state_of heap hosts beats steps out)

abbrev pub thrown : Value → Outcome
thrown v = Ends (completion.Throw v)

abbrev pub ended : End → List Value → State → Trace
ended end.Gave vs s = trace.End (Gives (top vs)) s
ended end.Done vs s = trace.End (Ends completion.Normal) s
ended end.Broke vs s = trace.End (Ends (completion.Break None)) s
ended end.Continued vs s = trace.End (Ends (completion.Continue None)) s
ended end.Threw vs s = trace.End (thrown (top vs)) s
ended end.OutOfSteps vs s = trace.OutOfSteps s
ended (end.Stopped reason) vs s = trace.Stopped reason s

abbrev pub at_end : End → Left
at_end e n fs vs heap hosts beats steps out = ended e vs (state_of heap hosts beats steps out)

-- the call of a property, with so many arguments above its base
abbrev pub calling : ℕ → declared_expr.Expr → Left
calling count callee n fs vs = running
    (member_called (dot_name (expr callee)) (base_on count vs) (arguments_on count vs))
    n fs (below (without count vs))

-- the entry of an object, with so many arguments above its `this`
abbrev pub entering : ℕ → ObjectId → Left
entering count o n fs vs = running
    (Enter (value.Object o) (base_on count vs) (arguments_on count vs) Ret)
    n fs (below (without count vs))

unfoldable pub rest : Control → Left
rest (control.Expr e) = starting (program (AnExpr (expr e)) script_env)
rest (control.Stmt s) = starting (program (AStmt [] (stmt s)) script_env)
rest (control.Body s) = starting (program (ATurn (stmt s)) script_env)
rest (control.Call count callee) = calling count callee
rest (control.Enter count o) = entering count o
rest control.Give = popped_with Gives
rest control.Done = popped (Ends completion.Normal)
rest control.Break = popped (Ends (completion.Break None))
rest control.Continue = popped (Ends (completion.Continue None))
rest control.Throw = popped_with thrown
rest (control.End e) = at_end e
rest (control.Unbuilt (unbuilt.Expr e)) = starting (program (AnExpr (expr e)) script_env)
rest (control.Unbuilt (unbuilt.Stmt s)) = starting (program (AStmt [] (stmt s)) script_env)
rest (control.Unbuilt (unbuilt.Body s)) = starting (program (ATurn (stmt s)) script_env)
rest (control.Unbuilt unbuilt.Give) = popped_with Gives
rest (control.Unbuilt (unbuilt.List ss i)) = running (statements (stmts_from ss i) script_env)
rest (control.Unbuilt (unbuilt.Script ss)) = starting (enter_script (view.body ss) script_env)
rest (control.Unbuilt (unbuilt.Change op gives_new target)) =
    running (changing op gives_new (name_in (expr target)))
rest (control.Unbuilt (unbuilt.Enter count o)) = entering count o

-- ---- inside a node whose step was taken

unfoldable pub in_expr : Expr → Left
in_expr e = running (expression e script_env)

unfoldable pub in_stmt : Stmt → Left
in_stmt s = running (statement [] s script_env)

unfoldable pub in_body : Stmt → Left
in_body s = running (CountTurn (statement [] s script_env))

unfoldable pub in_list : List declared_stmt.Stmt → ℕ → Left
in_list ss i = running (statements (stmts_from ss i) script_env)

unfoldable pub in_turn : declared_stmt.Stmt → Left
in_turn s = running (turning (loop_parts (stmt s)))

unfoldable pub in_update : declared_stmt.Stmt → Left
in_update s = running (updating (loop_parts (stmt s)))

-- ---- behind the step of a target, and where a name is written or declared

unfoldable pub in_change : PostfixOp → Bool → Option Name → Left
in_change op gives_new name = running (changing op gives_new name)

unfoldable pub in_changed : PostfixOp → Bool → Option Name → Num → Left
in_changed op gives_new name before = running (changed_from op gives_new name before)

unfoldable pub in_store : Option Name → Value → Value → Left
in_store name v w = running (stored name v w)

unfoldable pub in_type : Value → Left
in_type v = running (type_told v)

-- the arguments of a call from one on, above those before it and the base
unfoldable pub in_arguments : ℕ → declared_expr.Expr → List declared_expr.Expr → Left
in_arguments i callee es n fs vs = running
    (arguments (exprs_from es i) script_env (arguments_on i vs)
    (member_called (dot_name (expr callee)) (base_on i vs)))
    n fs (below (without i vs))

-- behind the base and the name of the member that a node works on
unfoldable pub in_member : Expr → Value → Name → Left
in_member e base name = running (with_member e base name)

-- behind the text of a key
unfoldable pub in_name : Expr → Value → Name → Left
in_name e base name = running (named e base name)

-- the same for `in`
unfoldable pub in_has : ℕ → Name → Left
in_has o name = running (has_named o name)

-- its type is told
unfoldable pub in_type_of : Value → Name → Left
in_type_of base name = running (get_on base name type_told)

-- the right side of an assignment to it, without an operator and with one
unfoldable pub in_putting : Value → Name → Expr → Left
in_putting base name right = running (putting right base name)

unfoldable pub in_put_with : BinaryOp → Value → Name → Expr → Left
in_put_with op base name right = running (putting_with op right base name)

-- the number before, and the number after
unfoldable pub in_change_of : PostfixOp → Bool → Value → Name → Left
in_change_of op gives_new base name =
    running (get_on base name (changed_member op gives_new base name))

unfoldable pub in_changed_to : PostfixOp → Bool → Value → Name → Num → Left
in_changed_to op gives_new base name before = running (changed_to op gives_new base name before)

unfoldable pub in_number : PostfixOp → Bool → Value → Name → Value → Left
in_number op gives_new base name old = running (changed_member op gives_new base name old)

-- a property of a base is written, and the value given
unfoldable pub in_put : Value → Name → Value → Value → Left
in_put base name v w = running (put_on base name v (gives w))

-- a literal from one element or pair on, above its object
unfoldable pub in_elements : ℕ → List (Option declared_expr.Expr) → Left
in_elements i es n fs vs =
    running (elements_left (elements_from es i) (object_number (top vs)) i) n fs (below vs)

unfoldable pub in_array_end : ℕ → Left
in_array_end count n fs vs =
    running (elements_left NoElements (object_number (top vs)) count) n fs (below vs)

unfoldable pub in_pairs : ℕ → List Pair → Left
in_pairs i ps n fs vs =
    running (pairs_left (pairs_from ps i) (object_number (top vs))) n fs (below vs)

-- a `for-in`, its object, and so many visits of it
unfoldable pub in_for_in : declared_stmt.Stmt → Left
in_for_in s = running (for_in_begun (for_in_parts (stmt s)))

unfoldable pub in_object : declared_stmt.Stmt → Left
in_object s = running (before_visits (for_in_parts (stmt s)))

unfoldable pub in_visits : ℕ → declared_stmt.Stmt → Left
in_visits count s n fs vs = running
    (visits_left (for_in_parts (stmt s)) (visits_on count vs)) n fs (without_visits count vs)

-- a turn, whose name stands above the visits that are left
unfoldable pub in_visit : ℕ → declared_stmt.Stmt → Left
in_visit left s n fs vs = running
    (visit_begun (for_in_parts (stmt s)) (text_in (top vs)) (visits_on left (below vs)))
    n fs (without_visits left (below vs))

-- behind the text of the key of its target, above which its base stood
unfoldable pub in_visit_key : ℕ → declared_stmt.Stmt → Value → Name → Left
in_visit_key left s base x n fs vs = running
    (if is_reserved x then Stop ReservedName else put_on base x (value.Str (text_in (top vs)))
    (named_turn (for_in_parts (stmt s)) (visits_on left (below vs))))
    n fs (without_visits left (below vs))

-- that name is written to a property of a base
unfoldable pub in_visit_put : ℕ → declared_stmt.Stmt → Value → Name → Left
in_visit_put left s base x n fs vs = running
    (put_on base x (value.Str (text_in (top vs)))
    (named_turn (for_in_parts (stmt s)) (visits_on left (below vs))))
    n fs (without_visits left (below vs))

-- and is written
unfoldable pub in_named : ℕ → declared_stmt.Stmt → Left
in_named left s n fs vs = running
    (named_turn (for_in_parts (stmt s)) (visits_on left vs)) n fs (without_visits left vs)

-- the items of a `var` from one on
unfoldable pub in_variables : List VarItem → ℕ → Left
in_variables items i = running (variables (var_items_from items i) script_env done)

-- the same in the header of a loop
unfoldable pub in_header : List VarItem → ℕ → declared_stmt.Stmt → Left
in_header items i s =
    running (variables (var_items_from items i) script_env (turning (loop_parts (stmt s))))

-- ---- inside a frame

unfoldable pub in_value : Frame → Left
in_value f n fs vs = running (waits f (below vs) (Gives (top vs))) n fs (under f (below vs))

unfoldable pub in_done : Frame → Left
in_done f n fs vs = running (waits f vs (Ends completion.Normal)) n fs (under f vs)

unfoldable pub in_break : Frame → Left
in_break f n fs vs = running (waits f vs (Ends (completion.Break None))) n fs (under f vs)

unfoldable pub in_continue : Frame → Left
in_continue f n fs vs = running (waits f vs (Ends (completion.Continue None))) n fs (under f vs)

unfoldable pub in_throw : Frame → Left
in_throw f n fs vs = running (waits f (below vs) (thrown (top vs))) n fs (under f (below vs))

-- ---- steps

abbrev pub state : Machine → Outside → State
state m out = state_of m.heap m.hosts m.beats m.clock.0 out

abbrev pub at : Left → Machine → Outside → Trace
at left m out = left m.clock.1 m.frames m.values m.heap m.hosts m.beats m.clock.0 out

-- the machine went from old to new, and what is left is the same; the host was not asked
abbrev pub Same : Left → Machine → Control → Machine → Type 0
Same before old next new = (out : Outside) → at before old out ≡ at (rest next) new out

-- where the machine is over
abbrev pub over_control : Over → Control
over_control (over.End e) = control.End e
over_control (over.Unbuilt u) = control.Unbuilt u

-- ---- for the measure of the loop

abbrev pub weight : Control → ℕ
weight (control.Expr e) = 1
weight (control.Stmt s) = 1
weight (control.Body s) = 1
weight (control.Call count callee) = 7
weight (control.Enter count o) = 6
weight control.Give = 5
weight control.Done = 5
weight control.Break = 5
weight control.Continue = 5
weight control.Throw = 5
weight (control.End e) = 0
weight (control.Unbuilt u) = 0

abbrev pub measure : Control → Machine → ℕ
measure next m = 10 * m.clock.1 + 3 * length m.frames + weight next

-- the machine goes on no longer than old with two frames more
abbrev pub Falls : Machine → Control → Machine → Type 0
Falls old next new = measure next new ≤ 10 * old.clock.1 + 3 * length old.frames + 7
