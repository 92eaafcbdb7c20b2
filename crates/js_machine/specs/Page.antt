-- The run of a page: its scripts, then what happens when they are over, then its events.
use Rattle.std.specs.Prelude.{ℕ, suc, List, [], ◌∷◌, ◌++◌, length, None, Some}
use Rattle.js_values.specs.declared.value.Value.{Value}
use Rattle.js_values.specs.declared.value.Value.TheVariants as value
use Rattle.exceptions_core.specs.declared.completion.Completion.{Completion}
use Rattle.exceptions_core.specs.declared.completion.Completion.TheVariants.{Normal, Break}
use Rattle.exceptions_core.specs.declared.completion.Completion.TheVariants.{Continue, Return}
use Rattle.exceptions_core.specs.declared.completion.Completion.TheVariants.{Throw}
use Rattle.object_heap.specs.declared.built_in.BuiltIn.TheVariants as built
use Rattle.object_heap.specs.BuiltIns.{number_of}
use Rattle.object_heap.specs.declared.object.Class.TheVariants as class
use Rattle.object_heap.specs.Arrays.{whole}
use Rattle.object_heap.specs.Changes.{defined, holding, hidden_only, all_three}
use Rattle.object_heap.specs.Names.{Name, length_name}
use Rattle.object_heap.specs.Objects.{Object}
use Rattle.object_heap.specs.Start.{heap_at_start}
use Rattle.scope_arena.specs.Scopes.{entered}
use Rattle.js_tree.specs.Tree.{Func, Script}
use Rattle.js_machine.specs.Asks.{Program, Begin, Enter, TellUncaught, TellIdle, TellEvent, Env}
use Rattle.js_machine.specs.Asks.{Listeners, AScript, Outcome, Gives, Ends}
use Rattle.js_machine.specs.State.{State, OfHost, object_value}
use Rattle.js_machine.specs.Frames.{◌>>=◌, ◌>>◌, done}
use Rattle.js_machine.specs.References.{global_value}
use Rattle.js_machine.specs.Run.{Trace, run}

-- ---- the page

pub record Page : Type 0 where
  -- the names of the host calls
  pub host : List Name
  -- what they answer
  pub replies : List (Name × List Value)
  -- types with values
  pub events : List (Name × Value)

-- ---- before the first step

-- a host call is a function of `length` 0, without a `prototype`, and a hidden property of `host`
abbrev pub host_function : Object
host_function = record {
  class = class.Function;
  prototype = Some (number_of built.FunctionPrototype);
  properties = holding length_name (whole 0) all_three ∷ [];
}

abbrev pub with_host_call : Name → State → State
with_host_call name s = record s {
  heap = defined (number_of built.Host) name (object_value (length s.heap)) hidden_only
      (s.heap ++ host_function ∷ []);
  bodies = (length s.heap, OfHost name) ∷ s.bodies;
}

abbrev pub with_host_calls : List Name → State → State
with_host_calls [] s = s
with_host_calls (name ∷ names) s = with_host_calls names (with_host_call name s)

-- the objects of the start, and one scope without names, in which the functions of scripts are made
abbrev pub bare_state : State
bare_state = record {
  heap = heap_at_start;
  bodies = [];
  scopes = entered [] None [];
  listeners = [];
  called = [];
  passed = [];
  beats = 0;
  steps = 0;
}

abbrev pub state_at_start : List Name → State
state_at_start host = with_host_calls host bare_state

abbrev pub script_env : Env
script_env = record { chain = 0 ∷ []; this = global_value }

-- ---- the run as one program

-- an exception that was not caught is told, and ends that script or listener alone
abbrev pub after_task_completion : Program → Completion → Program
after_task_completion rest Normal = rest
after_task_completion rest (Break label) = rest
after_task_completion rest (Continue label) = rest
after_task_completion rest (Return v) = rest
after_task_completion rest (Throw v) = TellUncaught v rest

abbrev pub after_task : Program → Outcome → Program
after_task rest (Gives v) = rest
after_task rest (Ends c) = after_task_completion rest c

abbrev pub scripts : List Script → Program → Program
scripts [] rest = rest
scripts (script ∷ more) rest = Begin (AScript script) script_env (after_task (scripts more rest))

-- the listeners of an event, with its type and its value
abbrev pub calls : List ℕ → List Value → Program → Program
calls [] args rest = rest
calls (f ∷ fs) args rest =
    Enter (object_value f) global_value args (after_task (calls fs args rest))

-- those that were registered when the event began, in order of registration
abbrev pub event : ℕ → Name → Value → Program → Program
event number type v rest = do
  TellEvent number
  listeners ← Listeners type
  calls listeners (value.Str type ∷ v ∷ []) rest

-- counted from 1
abbrev pub events : ℕ → List (Name × Value) → Program
events number [] = done
events number (e ∷ es) = event number e.0 e.1 (events (suc number) es)

abbrev pub page_program : List Script → Page → Program
page_program all page = do
  scripts all
  TellIdle
  events 1 page.events

-- ---- the run of a page under so many steps, with late functions of these entries

abbrev pub page_run : List (ℕ × Func) → List Script → Page → ℕ → Trace
page_run entries all page n =
    run (record { replies = page.replies; entries = entries }) n (page_program all page) []
    (state_at_start page.host)

-- an original has none
abbrev pub original : List Script → Page → ℕ → Trace
original all page n = page_run [] all page n

-- the written trees, in which functions are stubs, wrappers or late functions by their roles
abbrev pub written : List (ℕ × Func) → List Script → Page → ℕ → Trace
written entries all page n = page_run entries all page n
