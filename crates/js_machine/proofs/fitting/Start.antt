-- Pages: the state before the first step fits, and so does the program of the page.
use Rattle.std.proofs.Common.{◌≡◌, ℕ, suc, ◌<◌, Bool, true, false, not, ◌&&◌, ◌==◌, List, [], ◌∷◌, length, refl, sym, arith, ltb-true, false-eqb}
use Rattle.std.specs.Prelude.{Option, Some, None, nat_lt}
use Rattle.js_values.specs.declared.value.Value.{Value}
use Rattle.js_values.specs.declared.value.Value.TheVariants as value
use Rattle.exceptions_core.specs.declared.completion.Completion.{Completion}
use Rattle.object_heap.specs.declared.built_in.BuiltIn.TheVariants as built
use Rattle.object_heap.specs.BuiltIns.{number_of}
use Rattle.object_heap.specs.Changes.{hidden_only}
use Rattle.object_heap.specs.Names.{Name}
use Rattle.object_heap.specs.Objects.{Slot, Holds, Shares, Property, Heap}
use Rattle.object_heap.specs.Start.{heap_at_start}
use Rattle.object_heap.proofs.Prototypes as prototypes
use Rattle.scope_arena.proofs.Parents as parents
use Rattle.js_tree.specs.Tree.{Script}
use Rattle.js_machine.specs.Asks.{Program}
use Rattle.js_machine.specs.Logs.{last_state}
use Rattle.js_machine.specs.Page.{Page, host_function, with_host_call, with_host_calls, bare_state, state_at_start, script_env, after_task_completion, after_task, scripts, calls, events, page_program}
use Rattle.js_machine.specs.Run.{Trace}
use Rattle.js_machine.specs.State.{State}
use Rattle.js_machine.specs.Reachable as fits
use Rattle.js_machine.specs.Reachable.{Each, IfAny, Counts, IsObject, IsInReach, ValueFits, SlotFits, PropertyFits, ObjectFits, HeapFits, ScopesFit, StateFits, Keeps, EnvFits, CompletionFits, KeepsToTheEnd, says, ended, stopped, without_entry, out_of_steps, EventsArePrimitive, PagesKeep, ScriptsBegin}
use Rattle.js_machine.proofs.fitting.Growth.{one_object, object_grows, new_object, started, later_functions, later_listeners, later_reaches}
use Rattle.js_machine.proofs.fitting.Family as asks
use Rattle.js_machine.proofs.fitting.Family.{ProgramFits, OnOutcomes, later_program}
use Rattle.js_machine.proofs.fitting.Frames.{done_fits}
use Rattle.js_machine.proofs.fitting.References.{global_fits}
use Rattle.js_machine.proofs.fitting.Heap.{make_heap, define_heap}
use Rattle.js_machine.proofs.fitting.Scopes.{same_scopes}
use Rattle.js_machine.proofs.fitting.States.{primitive_fits, keeps_of}
use Rattle.js_machine.proofs.fitting.Runs.{run_keeps}

-- ---- the objects of the start, by computing

abbrev counts_at_start : Counts
counts_at_start = record { objects = 65; scopes = 1; start = omega arith }

abbrev is_fit_value : Value → Bool
is_fit_value (value.Object o) = nat_lt o.0 65 && not (o.0 == 1)
is_fit_value v = true

abbrev is_fit_slot : Slot → Bool
is_fit_slot (Holds v) = is_fit_value v
is_fit_slot (Shares scope place) = false

abbrev are_fit : List Property → Bool
are_fit [] = true
are_fit (p ∷ ps) = is_fit_slot p.slot && are_fit ps

abbrev is_fit_prototype : Option ℕ → Bool
is_fit_prototype None = true
is_fit_prototype (Some p) = nat_lt p 65

abbrev is_fit_heap : Heap → Bool
is_fit_heap [] = true
is_fit_heap (o ∷ os) = is_fit_prototype o.prototype && (are_fit o.properties && is_fit_heap os)

both : (a b : Bool) → (a && b) ≡ true → (a ≡ true) × (b ≡ true)
both true true e = (refl, refl)
both true false e = absurd cc
both false b e = absurd cc

not_true : (b : Bool) → not b ≡ true → b ≡ false
not_true false e = refl
not_true true e = absurd cc

fit_value : (v : Value) → is_fit_value v ≡ true → ValueFits counts_at_start v
fit_value value.Undefined e = fits.undefined
fit_value value.Null e = fits.null
fit_value (value.Bool b) e = fits.bool
fit_value (value.Num n) e = fits.num
fit_value (value.Str text) e = fits.str
fit_value (value.Object o) e =
    let h = both (nat_lt o.0 65) (not (o.0 == 1)) e in
    fits.object (record { is = ltb-true o.0 65 h.0; other = false-eqb o.0 1 (sym (not_true (o.0 == 1) h.1)) })

fit_slot : (slot : Slot) → is_fit_slot slot ≡ true → SlotFits counts_at_start slot
fit_slot (Holds v) e = fits.holds (fit_value v e)
fit_slot (Shares scope place) e = absurd cc

fit_properties : (ps : List Property) → are_fit ps ≡ true → Each (PropertyFits counts_at_start) ps
fit_properties [] e = fits.empty
fit_properties (p ∷ ps) e =
    let h = both (is_fit_slot p.slot) (are_fit ps) e in
    fits.more (record { slot = fit_slot p.slot h.0 }) (fit_properties ps h.1)

fit_prototype : (o : Option ℕ) → is_fit_prototype o ≡ true → IfAny (IsObject counts_at_start) o
fit_prototype None e = fits.nothing
fit_prototype (Some p) e = fits.just (record { is = ltb-true p 65 e })

fit_heap : (heap : Heap) → is_fit_heap heap ≡ true → Each (ObjectFits counts_at_start) heap
fit_heap [] e = fits.empty
fit_heap (o ∷ os) e =
    let h = both (is_fit_prototype o.prototype) (are_fit o.properties && is_fit_heap os) e in
    let g = both (are_fit o.properties) (is_fit_heap os) h.1 in
    fits.more (record { prototype = fit_prototype o.prototype h.0; properties = fit_properties o.properties g.0 }) (fit_heap os g.1)

start_fits : is_fit_heap heap_at_start ≡ true
start_fits = refl

start_count : counts_at_start.objects ≡ length heap_at_start
start_count = refl

-- ---- the state before the first step

bare_fits : StateFits counts_at_start bare_state
bare_fits = record {
  heap = record { count = start_count; before = prototypes.stay_before.at_first; each = fit_heap heap_at_start start_fits };
  scopes = record {
    count = refl;
    before = parents.stay_before.enter [] [] None tt parents.stay_before.at_first;
    each = fits.more (record { bindings = fits.empty; parent = fits.nothing }) fits.empty;
  };
  bodies = fits.empty;
  listeners = fits.empty;
  passed = fits.empty;
}

host_function_fits : {w : Counts} → ObjectFits w host_function
host_function_fits = record {
  prototype = fits.just (started (number_of built.FunctionPrototype) (omega arith));
  properties = fits.more (record { slot = fits.holds fits.num }) fits.empty;
}

host_call_fits : (name : Name) {w : Counts} {s : State} → StateFits w s → StateFits (one_object w) (with_host_call name s)
host_call_fits name {w = w} {s = s} st =
    let g = object_grows w in
    let new = new_object w (length s.heap) st.heap.count in
    record {
      heap = define_heap (number_of built.Host) name hidden_only (make_heap st.heap host_function_fits) (fits.object new);
      scopes = same_scopes g refl st.scopes;
      bodies = fits.more (record { object = new; body = fits.of_host }) (later_functions g st.bodies);
      listeners = later_listeners g st.listeners;
      passed = later_reaches g st.passed;
    }

-- a world with a scope, in which the state fits
record Begins (s : State) : Type 0 where
  pub now : Counts
  pub scope : 0 < now.scopes
  pub fits : StateFits now s

host_calls_begin : (names : List Name) {s : State} → Begins s → Begins (with_host_calls names s)
host_calls_begin [] b = b
host_calls_begin (name ∷ names) b = host_calls_begin names (record { now = one_object b.now; scope = b.scope; fits = host_call_fits name b.fits })

page_begins : (host : List Name) → Begins (state_at_start host)
page_begins host = host_calls_begin host (record { now = counts_at_start; scope = omega arith; fits = bare_fits })

-- ---- the program of a page

script_env_fits : {w : Counts} → 0 < w.scopes → EnvFits w script_env
script_env_fits lt = record { chain = fits.more (record { is = lt }) fits.empty; this = global_fits }

after_task_completion_fits : {w : Counts} {rest : Program} {c : Completion} → ProgramFits w rest → CompletionFits w c → ProgramFits w (after_task_completion rest c)
after_task_completion_fits rest fits.normal = rest
after_task_completion_fits rest fits.a_break = rest
after_task_completion_fits rest fits.a_continue = rest
after_task_completion_fits rest (fits.a_return a) = rest
after_task_completion_fits rest (fits.a_throw a) = asks.tell_uncaught a rest

after_task_fits : {w : Counts} {rest : Program} → ProgramFits w rest → OnOutcomes w (after_task rest)
after_task_fits rest v g o (fits.gives a) = later_program rest g
after_task_fits rest v g o (fits.ends c) = after_task_completion_fits (later_program rest g) c

scripts_fit : (all : List Script) {w : Counts} {rest : Program} → 0 < w.scopes → ProgramFits w rest → ProgramFits w (scripts all rest)
scripts_fit [] lt rest = rest
scripts_fit (script ∷ more) lt rest = asks.begin (script_env_fits lt) (after_task_fits (scripts_fit more lt rest))

calls_fit : {w : Counts} {fs : List ℕ} {args : List Value} {rest : Program} → Each (IsInReach w) fs → Each (ValueFits w) args → ProgramFits w rest → ProgramFits w (calls fs args rest)
calls_fit fits.empty args rest = rest
calls_fit (fits.more f fs) args rest = asks.enter (fits.object f) global_fits args (after_task_fits (calls_fit fs args rest))

events_fit : (number : ℕ) {w : Counts} {es : List (Name × Value)} → EventsArePrimitive es → ProgramFits w (events number es)
events_fit number fits.empty = done_fits
events_fit number (fits.more {x = e} p ps) =
    let rest = events_fit (suc number) ps in
    asks.tell_event (asks.listeners (λ v g fs q. calls_fit q (fits.more fits.str (fits.more (primitive_fits e.1 p) fits.empty)) (later_program rest g)))

page_fits : (all : List Script) (page : Page) {w : Counts} → 0 < w.scopes → EventsArePrimitive page.events → ProgramFits w (page_program all page)
page_fits all page lt events = scripts_fit all lt (asks.tell_idle (events_fit 1 events))

-- ---- the law

last_keeps : {t : Trace} → KeepsToTheEnd t → Keeps (last_state t)
last_keeps (says rest) = last_keeps rest
last_keeps (ended keeps o) = keeps
last_keeps (stopped keeps) = keeps
last_keeps (without_entry keeps) = keeps
last_keeps (out_of_steps keeps) = keeps

pub pages_keep : PagesKeep
pages_keep entries all page n replies events =
    let b = page_begins page.host in
    last_keeps (run_keeps (record { replies = page.replies; entries = entries }) replies n (page_fits all page b.scope events) fits.empty b.fits)

pub scripts_begin : ScriptsBegin
scripts_begin host = let b = page_begins host in (keeps_of b.fits, script_env_fits b.scope)
