-- Programs that run alone, from the objects of the start, and what is read of their runs.
use Rattle.std.specs.Prelude.{ℕ, true, false, List, [], ◌∷◌, ◌++◌, codes, map, Option, Some}
use Rattle.std.specs.Prelude.{None, option_map}
use Rattle.js_values.specs.declared.value.Value.{Value}
use Rattle.object_heap.specs.declared.built_in.BuiltIn.TheVariants as built
use Rattle.object_heap.specs.declared.object.Attrs.{Attrs}
use Rattle.object_heap.specs.declared.object.Class.TheVariants as class
use Rattle.object_heap.specs.BuiltIns.{number_of}
use Rattle.object_heap.specs.Changes.{defined, made}
use Rattle.object_heap.specs.Names.{Name}
use Rattle.object_heap.specs.Objects.{Heap, Slot, own_of, properties_of}
use Rattle.object_heap.specs.Start.{heap_at_start}
use Rattle.js_tree.specs.Tree.{Stmt}
use Rattle.js_machine.specs.declared.hosts.HostCall.{HostCall}
use Rattle.js_machine.specs.Asks.{Outcome, Program}
use Rattle.js_machine.specs.Globals.{host_body, value_of_global}
use Rattle.js_machine.specs.Halts.{uncaught}
use Rattle.js_machine.specs.Logs.{last_state}
use Rattle.js_machine.specs.Page.{bare_state, host_function, script_env}
use Rattle.js_machine.specs.Run.{Trace, World, run}
use Rattle.js_machine.specs.Run as trace
use Rattle.js_machine.specs.State.{State}
use Rattle.js_machine.specs.Statements.{statement}
use Rattle.machine_rows.specs.Writing.{x}

-- ---- heaps

-- a variable of a script
abbrev pub fixed : Attrs
fixed = record { read_only = false; hidden = false; fixed = true }

abbrev pub global : ℕ
global = number_of built.Global

-- the objects of the start, where the global object has x with this value
abbrev pub with_x : Value → Heap
with_x v = defined global x v fixed heap_at_start

-- behind the objects of the start, which are 65: two functions (65, 66), an object behind an array
-- (67) and an `arguments` (68)
abbrev pub more_objects : Heap
more_objects =
    heap_at_start ++ host_function ∷ host_function ∷ made class.Arguments (Some 0)
    (made class.Plain (Some (number_of built.ArrayPrototype)) [])

-- 65 is a host call, and so would be a plain object, a function of the start, an `arguments` and
-- what is no object
abbrev pub hosts : List HostCall
hosts = map (λ o. record { object = o; name = codes "out" }) (65 ∷ 0 ∷ 13 ∷ 68 ∷ 69 ∷ [])

-- ---- states

abbrev pub in_heap : Heap → State
in_heap heap = record bare_state { heap = heap; bodies = map host_body hosts }

-- ---- runs

abbrev pub silent : World
silent = record { replies = []; entries = [] }

abbrev pub run_in : Heap → Program → Trace
run_in heap p = run silent 100 p [] (in_heap heap)

abbrev pub outcome_of : Trace → Option Outcome
outcome_of (trace.Say mark steps rest) = outcome_of rest
outcome_of (trace.End o s) = Some o
outcome_of (trace.OutOfSteps s) = None
outcome_of (trace.Stopped reason s) = None
outcome_of (trace.NoEntry s) = None

-- what a statement of a script throws
abbrev pub uncaught_of : Stmt → Option (Option Value)
uncaught_of s = option_map uncaught (outcome_of (run_in heap_at_start (statement [] s script_env)))

-- what a program gives for each value
abbrev pub outcomes : (Value → Program) → List Value → List (Option Outcome)
outcomes p vs = map (λ v. outcome_of (run_in heap_at_start (p v))) vs

-- what it gives, and what x is then
abbrev pub told : Trace → Option Outcome × Option Value
told t = (outcome_of t, value_of_global (last_state t).heap x)

-- ---- properties

abbrev pub names_of : Heap → ℕ → List Name
names_of heap o = map (λ p. p.name) (properties_of heap o)

abbrev pub own_slot : Heap → ℕ → Name → Option Slot
own_slot heap o name = option_map (λ p. p.slot) (own_of heap o name)

abbrev pub own_attributes : Heap → ℕ → Name → Option Attrs
own_attributes heap o name = option_map (λ p. p.attributes) (own_of heap o name)
