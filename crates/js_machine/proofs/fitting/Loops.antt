-- Iteration statements.
use Rattle.std.proofs.Common.{List, arith}
use Rattle.std.specs.Prelude.{Option, Some, None}
use Rattle.js_values.specs.declared.value.Value.{Value}
use Rattle.js_values.specs.Values.{truth_of}
use Rattle.exceptions_core.specs.declared.completion.Frame.TheVariants as frame
use Rattle.object_heap.specs.declared.built_in.BuiltIn.TheVariants as built
use Rattle.object_heap.specs.declared.object.Attrs.{Attrs}
use Rattle.object_heap.specs.BuiltIns.{number_of}
use Rattle.object_heap.specs.Names.{Name}
use Rattle.object_heap.specs.Visited.{Visit}
use Rattle.js_tree.specs.Tree.{Expr, MaybeExpr, NoExpr, AnExpr, Stmt, ForInit, Nothing, Vars, First, ForTarget, AVar, Target}
use Rattle.js_machine.specs.Asks.{Program, Loop, Env}
use Rattle.js_machine.specs.Loops.{on_test, updated, next_turn, after_turn, waits_in_turn, do_while, while, first_part, for, write_name, next_or_left, after_visit, visit, visits, visited_object, before_object, for_in}
use Rattle.js_machine.specs.Reachable as fits
use Rattle.js_machine.specs.Reachable.{Each, Counts, IsObject, ValueFits, EnvFits}
use Rattle.js_machine.proofs.fitting.Growth.{grows_on, started, is_there, later_env}
use Rattle.js_machine.proofs.fitting.Family as asks
use Rattle.js_machine.proofs.fitting.Family.{ProgramFits, VisitFits, OnOutcomes, OnValues, StackFits, later_program}
use Rattle.js_machine.proofs.fitting.Frames as landings
use Rattle.js_machine.proofs.fitting.Frames.{if_fits, completes_fits, done_fits, on_value_fits, value_of_fits, OnLandings, at_frame_fits}
use Rattle.js_machine.proofs.fitting.References.{resolve_fits, put_value_fits}
use Rattle.js_machine.proofs.fitting.Conversions.{to_object_fits}
use Rattle.js_machine.proofs.fitting.Calls.{reference_fits}
use Rattle.js_machine.proofs.fitting.Variables.{variable_fits, variables_fit}

-- ---- loops with a test or none

on_test_fits : (loop : Loop) {w : Counts} {env : Env} → EnvFits w env → OnValues w (on_test loop env)
on_test_fits loop env v g a p = if_fits (truth_of a) (asks.tail (later_env g env)) (completes_fits fits.a_break)

updated_fits : (update : MaybeExpr) (loop : Loop) {w : Counts} {env : Env} → EnvFits w env → ProgramFits w (updated update loop env)
updated_fits NoExpr loop env = asks.turn env
updated_fits (AnExpr e) loop env = value_of_fits e env (λ v g a p. asks.turn (later_env g env))

next_turn_fits : (loop : Loop) {w : Counts} {env : Env} → EnvFits w env → OnLandings w (next_turn loop env)
next_turn_fits loop env v g l landings.next = updated_fits loop.update loop (later_env g env)
next_turn_fits loop env v g l landings.left = done_fits
next_turn_fits loop env v g l (landings.catch a) = done_fits
next_turn_fits loop env v g l (landings.finally c) = done_fits
next_turn_fits loop env v g l (landings.caller c) = done_fits
next_turn_fits loop env v g l (landings.bottom c) = done_fits

after_turn_fits : (loop : Loop) {w : Counts} {env : Env} → EnvFits w env → OnOutcomes w (after_turn loop env)
after_turn_fits loop env = at_frame_fits (frame.Loop loop.labels) (next_turn_fits loop env)

pub waits_in_turn_fit : (test : MaybeExpr) (loop : Loop) {w : Counts} {env : Env} → EnvFits w env → StackFits w (waits_in_turn test loop env)
waits_in_turn_fit NoExpr loop env = fits.more (after_turn_fits loop env) fits.empty
waits_in_turn_fit (AnExpr e) loop env = fits.more (on_value_fits (on_test_fits loop env)) (fits.more (after_turn_fits loop env) fits.empty)

pub do_while_fits : (labels : List Name) (body : Stmt) (test : Expr) {w : Counts} {env : Env} → EnvFits w env → ProgramFits w (do_while labels body test env)
do_while_fits labels body test env = asks.begin env (after_turn_fits (record { labels = labels; test = AnExpr test; update = NoExpr; body = body }) env)

pub while_fits : (labels : List Name) (test : Expr) (body : Stmt) {w : Counts} {env : Env} → EnvFits w env → ProgramFits w (while labels test body env)
while_fits labels test body env = asks.turn env

first_part_fits : (first : ForInit) {w : Counts} {env : Env} {p : Program} → EnvFits w env → ProgramFits w p → ProgramFits w (first_part first env p)
first_part_fits Nothing env p = p
first_part_fits (Vars items) env p = variables_fit items env p
first_part_fits (First e) env p = value_of_fits e env (λ v g a q. later_program p g)

pub for_fits : (labels : List Name) (first : ForInit) (test update : MaybeExpr) (body : Stmt) {w : Counts} {env : Env} → EnvFits w env → ProgramFits w (for labels first test update body env)
for_fits labels first test update body env = first_part_fits first env (asks.turn env)

-- ---- `for-in`

write_name_fits : (target : ForTarget) (name : Name) {w : Counts} {env : Env} {p : Program} → EnvFits w env → ProgramFits w p → ProgramFits w (write_name target name env p)
write_name_fits (AVar variable e) name env p = resolve_fits variable env.chain (λ v g r q. put_value_fits q fits.str (later_program p g))
write_name_fits (Target e) name env p = reference_fits e env (λ v g r q. put_value_fits q fits.str (later_program p g))

next_or_left_fits : {w : Counts} {rest : Program} → ProgramFits w rest → OnLandings w (next_or_left rest)
next_or_left_fits rest v g l landings.next = later_program rest g
next_or_left_fits rest v g l landings.left = done_fits
next_or_left_fits rest v g l (landings.catch a) = done_fits
next_or_left_fits rest v g l (landings.finally c) = done_fits
next_or_left_fits rest v g l (landings.caller c) = done_fits
next_or_left_fits rest v g l (landings.bottom c) = done_fits

after_visit_fits : (labels : List Name) {w : Counts} {rest : Program} → ProgramFits w rest → OnOutcomes w (after_visit labels rest)
after_visit_fits labels rest = at_frame_fits (frame.Loop labels) (next_or_left_fits rest)

visit_fits : (labels : List Name) (target : ForTarget) (body : Stmt) (name : Name) (attributes : Option Attrs) {w : Counts} {env : Env} {rest : Program} → EnvFits w env → ProgramFits w rest → ProgramFits w (visit labels target body env name rest attributes)
visit_fits labels target body name None env rest = rest
visit_fits labels target body name (Some attributes) env rest = write_name_fits target name env (asks.begin env (after_visit_fits labels rest))

visits_fit : (labels : List Name) (target : ForTarget) (body : Stmt) {w : Counts} {env : Env} {vs : List Visit} → EnvFits w env → Each (VisitFits w) vs → ProgramFits w (visits labels target body env vs)
visits_fit labels target body env fits.empty = done_fits
visits_fit labels target body env (fits.more {x = x} h hs) =
    let rest = visits_fit labels target body env hs in
    asks.own h.giver (λ v g attributes. visit_fits labels target body x.1 attributes (later_env g env) (later_program rest g))

visited_object_there : {w : Counts} {a : Value} → ValueFits w a → IsObject w (visited_object a)
visited_object_there (fits.object o) = is_there o
visited_object_there fits.str = started (number_of built.StringPrototype) (omega arith)
visited_object_there fits.num = started (number_of built.NumberPrototype) (omega arith)
visited_object_there fits.bool = started (number_of built.BooleanPrototype) (omega arith)
visited_object_there fits.null = started (number_of built.ObjectPrototype) (omega arith)
visited_object_there fits.undefined = started (number_of built.ObjectPrototype) (omega arith)

before_object_fits : (target : ForTarget) {w : Counts} {env : Env} {p : Program} → EnvFits w env → ProgramFits w p → ProgramFits w (before_object target env p)
before_object_fits (AVar name e) env p = variable_fits name e env p
before_object_fits (Target e) env p = p

pub for_in_fits : (labels : List Name) (target : ForTarget) (object : Expr) (body : Stmt) {w : Counts} {env : Env} → EnvFits w env → ProgramFits w (for_in labels target object body env)
for_in_fits labels target object body env =
    before_object_fits target env (value_of_fits object env (λ v g a p. to_object_fits p
    (asks.visible (visited_object_there p) (λ u f names q. visits_fit labels target body (later_env (grows_on g f) env) q))))
