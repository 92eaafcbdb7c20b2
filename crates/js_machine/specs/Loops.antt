-- Iteration statements (ES3 12.6).
use Rattle.std.specs.Prelude.{ℕ, if◌then◌else◌, List, [], ◌∷◌}
use Rattle.std.specs.Prelude.{Option, Some, None}
use Rattle.js_values.specs.declared.value.Value.{Value}
use Rattle.js_values.specs.declared.value.Value.TheVariants as value
use Rattle.js_values.specs.Values.{truth_of}
use Rattle.exceptions_core.specs.declared.completion.Completion.TheVariants.{Break}
use Rattle.exceptions_core.specs.declared.completion.Frame.TheVariants as frame
use Rattle.exceptions_core.specs.declared.completion.Landing.{Landing}
use Rattle.exceptions_core.specs.declared.completion.Landing.TheVariants as landing
use Rattle.object_heap.specs.declared.built_in.BuiltIn.TheVariants as built
use Rattle.object_heap.specs.declared.object.Attrs.{Attrs}
use Rattle.object_heap.specs.BuiltIns.{number_of}
use Rattle.object_heap.specs.Names.{Name}
use Rattle.object_heap.specs.Visited.{Visit}
use Rattle.js_tree.specs.Tree.{Expr, MaybeExpr, NoExpr, AnExpr, Stmt}
use Rattle.js_tree.specs.Tree.{ForInit, Nothing, Vars, First, ForTarget, AVar, Target}
use Rattle.js_machine.specs.Asks as ask
use Rattle.js_machine.specs.Asks.{Program, Begin, Tail, Turn, Own, Visible, Node, ATurn, Loop, Env}
use Rattle.js_machine.specs.Asks.{Outcome}
use Rattle.js_machine.specs.Frames.{◌>>=◌, ◌>>◌, done, completes, on_value, value_of}
use Rattle.js_machine.specs.Frames.{at_frame}
use Rattle.js_machine.specs.References.{resolve, put_value}
use Rattle.js_machine.specs.Conversions.{to_object}
use Rattle.js_machine.specs.Calls.{reference}
use Rattle.js_machine.specs.Variables.{variable, variables}

-- ---- loops with a test or none

-- a false test leaves the loop as a `break` does
abbrev pub on_test : Loop → Env → Value → Program
on_test loop env v = if truth_of v then Tail (ATurn loop.body) env else completes (Break None)

-- the next turn, behind what is done between turns
abbrev pub updated : MaybeExpr → Loop → Env → Program
updated NoExpr loop env = Turn loop env
updated (AnExpr e) loop env = do
  v ← value_of e env
  Turn loop env

abbrev pub next_turn : Loop → Env → Landing → Program
next_turn loop env landing.Next = updated loop.update loop env
next_turn loop env _ = done

-- what waits for the body, and under it for the test
abbrev pub after_turn : Loop → Env → Outcome → Program
after_turn loop env = at_frame (frame.Loop loop.labels) (next_turn loop env)

-- a turn begins with the test; without one it is the body
abbrev pub first_of_turn : MaybeExpr → Loop → Node
first_of_turn NoExpr loop = ATurn loop.body
first_of_turn (AnExpr e) loop = ask.AnExpr e

abbrev pub waits_in_turn : MaybeExpr → Loop → Env → List (Outcome → Program)
waits_in_turn NoExpr loop env = after_turn loop env ∷ []
waits_in_turn (AnExpr e) loop env = on_value (on_test loop env) ∷ after_turn loop env ∷ []

-- 12.6.1: the body, and then as 12.6.2
abbrev pub do_while : List Name → Stmt → Expr → Env → Program
do_while labels body test env =
    Begin (ATurn body) env (after_turn
    (record { labels = labels; test = AnExpr test; update = NoExpr; body = body }) env)

-- 12.6.2
abbrev pub while : List Name → Expr → Stmt → Env → Program
while labels test body env =
    Turn (record { labels = labels; test = AnExpr test; update = NoExpr; body = body }) env

-- 12.6.3
abbrev pub first_part : ForInit → Env → Program → Program
first_part Nothing env p = p
first_part (Vars items) env p = variables items env p
first_part (First e) env p = do
  v ← value_of e env
  p

abbrev pub for : List Name → ForInit → MaybeExpr → MaybeExpr → Stmt → Env → Program
for labels first test update body env = do
  first_part first env
  Turn (record { labels = labels; test = test; update = update; body = body }) env

-- ---- 12.6.4

-- the name of a turn is written to the target, which is begun, or to the `var`
abbrev pub write_name : ForTarget → Name → Env → Program → Program
write_name (AVar variable e) name env p = do
  it ← resolve env.chain variable
  put_value it (value.Str name)
  p
write_name (Target e) name env p = do
  it ← reference e env
  put_value it (value.Str name)
  p

abbrev pub next_or_left : Program → Landing → Program
next_or_left rest landing.Next = rest
next_or_left rest _ = done

-- what waits for the body
abbrev pub after_visit : List Name → Program → Outcome → Program
after_visit labels rest = at_frame (frame.Loop labels) (next_or_left rest)

-- a name is skipped where the object that gave it no longer has it
abbrev pub visit : List Name → ForTarget → Stmt → Env → Name → Program → Option Attrs → Program
visit labels target body env name rest None = rest
visit labels target body env name rest (Some attributes) = do
  write_name target name env
  Begin (ATurn body) env (after_visit labels rest)

abbrev pub visits : List Name → ForTarget → Stmt → Env → List Visit → Program
visits labels target body env [] = done
visits labels target body env (v ∷ vs) =
    Own v.0 v.1 (visit labels target body env v.1 (visits labels target body env vs))

-- the object whose names are visited; of a primitive value it is the prototype
abbrev pub visited_object : Value → ℕ
visited_object (value.Object o) = o.0
visited_object (value.Str text) = number_of built.StringPrototype
visited_object (value.Num n) = number_of built.NumberPrototype
visited_object (value.Bool b) = number_of built.BooleanPrototype
visited_object value.Null = number_of built.ObjectPrototype
visited_object value.Undefined = number_of built.ObjectPrototype

abbrev pub before_object : ForTarget → Env → Program → Program
before_object (AVar name e) env p = variable name e env p
before_object (Target e) env p = p

abbrev pub for_in : List Name → ForTarget → Expr → Stmt → Env → Program
for_in labels target object body env = do
  before_object target env
  v ← value_of object env
  to_object v
  names ← Visible (visited_object v)
  visits labels target body env names
