-- What states give and become.
use Rattle.std.proofs.Common.{◌≡◌, ℕ, List, [], ◌∷◌, length, refl, subst, ◌==◌}
use Rattle.std.specs.Prelude.{Option, Some, None, nat_eq, slice_get, unwrap_or}
use Rattle.std.specs.List.{list_any}
use Rattle.js_values.specs.declared.value.Value.{Value}
use Rattle.js_values.specs.declared.value.Value.TheVariants as value
use Rattle.js_values.specs.Shown.{Passed, passed_with, passed_with_all}
use Rattle.js_values.specs.Values.{IsPrimitive}
use Rattle.object_heap.specs.declared.built_in.BuiltIn.{BuiltIn}
use Rattle.object_heap.specs.declared.object.Class.{Class}
use Rattle.object_heap.specs.declared.object.Class.TheVariants as class
use Rattle.object_heap.specs.BuiltIns.{which}
use Rattle.object_heap.specs.Names.{Name, is_same_name}
use Rattle.object_heap.specs.Objects.{Slot, Object, Heap, class_of}
use Rattle.object_heap.specs.Put as heap_put
use Rattle.scope_arena.specs.Scopes.{Scopes}
use Rattle.js_tree.specs.Tree.{Func, Code}
use Rattle.js_calls.specs.Declared.{functions_of}
use Rattle.js_calls.specs.Entry.{Entered, with_arguments, with_declared, with_all_declared, entry_of}
use Rattle.js_calls.specs.FunctionObjects.{formals_of}
use Rattle.js_machine.specs.State.{Body, State, Callee, body_callee, body_in, function_callee, callee_by, callee_of, value_in_slot, value_read, property_value, scopes_after, listening, body_of, with_step, with_beat, with_passed, with_call, with_listener, with_heap, with_scopes, with_object, with_function, with_new, with_bodies, with_entry, with_put, with_scope}
use Rattle.js_machine.specs.Run.{World, replies_of, times_in, reply, entered}
use Rattle.js_machine.specs.Reachable as fits
use Rattle.js_machine.specs.Reachable.{Each, IfAny, Counts, IsInReach, IsScope, ValueFits, SlotFits, ObjectFits, BodyFits, FunctionFits, ListenerFits, HeapFits, ScopesFit, StateFits, Keeps, RepliesArePrimitive}
use Rattle.js_machine.proofs.fitting.Lists.{each_joined, each_got, each_if, any_if}
use Rattle.js_machine.proofs.fitting.Growth.{Grows, one_object, one_scope, object_grows, scope_grows, later_chain, later_reaches, later_functions, later_listeners}
use Rattle.js_machine.proofs.fitting.Family.{ProgramFits}
use Rattle.js_machine.proofs.fitting.Entries.{CalleeFits, a_script, a_native, a_host_call, entry_fits}
use Rattle.js_machine.proofs.fitting.Heap.{put_heap, get_slot_fits, make_heap, same_heap, not_held}
use Rattle.js_machine.proofs.fitting.Scopes.{value_at_fits, write_scopes, enter_scopes, same_scopes}
use Rattle.js_machine.proofs.fitting.Bound.{constructed_heap, one_function, function_grows, new_function, function_heap, Binds, entry_binds}

-- ---- what a value runs when it is entered

body_callee_fits : {w : Counts} {b : Body} → BodyFits w b → CalleeFits w (body_callee b)
body_callee_fits (fits.of_script chain) = a_script chain
body_callee_fits fits.of_host = a_host_call

body_in_fits : (o : ℕ) {w : Counts} {bodies : List (ℕ × Body)} → Each (FunctionFits w) bodies → IfAny (CalleeFits w) (body_in bodies o)
body_in_fits o fits.empty = fits.nothing
body_in_fits o (fits.more {x = b} f fs) = any_if (nat_eq b.0 o) (fits.just (body_callee_fits f.body)) (body_in_fits o fs)

function_callee_fits : (b : Option BuiltIn) (o : ℕ) {w : Counts} {bodies : List (ℕ × Body)} → Each (FunctionFits w) bodies → IfAny (CalleeFits w) (function_callee b bodies o)
function_callee_fits (Some b) o h = fits.just a_native
function_callee_fits None o h = body_in_fits o h

callee_by_fits : (c : Option Class) (s : State) (o : ℕ) {w : Counts} → Each (FunctionFits w) s.bodies → IfAny (CalleeFits w) (callee_by c s o)
callee_by_fits (Some class.Function) s o h = function_callee_fits (which o) o h
callee_by_fits (Some class.Plain) s o h = fits.nothing
callee_by_fits (Some class.Array) s o h = fits.nothing
callee_by_fits (Some class.Arguments) s o h = fits.nothing
callee_by_fits (Some class.Error) s o h = fits.nothing
callee_by_fits (Some class.Math) s o h = fits.nothing
callee_by_fits None s o h = fits.nothing

callee_of_fits : (s : State) (f : Value) {w : Counts} → Each (FunctionFits w) s.bodies → IfAny (CalleeFits w) (callee_of s f)
callee_of_fits s (value.Object o) h = callee_by_fits (class_of s.heap o.0) s o.0 h
callee_of_fits s value.Undefined h = fits.nothing
callee_of_fits s value.Null h = fits.nothing
callee_of_fits s (value.Bool b) h = fits.nothing
callee_of_fits s (value.Num n) h = fits.nothing
callee_of_fits s (value.Str text) h = fits.nothing

entered_by : {w : Counts} {callee : Option Callee} {this : Value} {args : List Value} → IfAny (CalleeFits w) callee → ValueFits w this → Each (ValueFits w) args → IfAny (ProgramFits w) (entered callee this args)
entered_by fits.nothing this args = fits.nothing
entered_by (fits.just c) this args = entry_fits c this args

pub entered_fits : (f : Value) {w : Counts} {s : State} {this : Value} {args : List Value} → StateFits w s → ValueFits w this → Each (ValueFits w) args → IfAny (ProgramFits w) (entered (callee_of s f) this args)
entered_fits f {s = s} st this args = entered_by (callee_of_fits s f st.bodies) this args

-- ---- reads

value_in_slot_fits : {w : Counts} {scopes : Scopes} {slot : Slot} → ScopesFit w scopes → SlotFits w slot → ValueFits w (value_in_slot scopes slot)
value_in_slot_fits h (fits.holds a) = a
value_in_slot_fits h (fits.shares {scope = scope} {place = place} s) = value_at_fits scope place h.each

value_read_fits : {w : Counts} {scopes : Scopes} {slot : Option Slot} → ScopesFit w scopes → IfAny (SlotFits w) slot → IfAny (ValueFits w) (value_read scopes slot)
value_read_fits h fits.nothing = fits.nothing
value_read_fits h (fits.just s) = fits.just (value_in_slot_fits h s)

pub property_fits : (o : ℕ) (name : Name) {w : Counts} {s : State} → StateFits w s → IfAny (ValueFits w) (property_value s o name)
property_fits o name st = value_read_fits st.scopes (get_slot_fits o name st.heap.each)

pub listening_fit : (type : Name) {w : Counts} {ls : List (Name × ℕ)} → Each (ListenerFits w) ls → Each (IsInReach w) (listening ls type)
listening_fit type fits.empty = fits.empty
listening_fit type (fits.more {x = l} h hs) = let rest = listening_fit type hs in each_if (is_same_name l.0 type) (fits.more h.function rest) rest

-- ---- the host

pub primitive_fits : (a : Value) → IsPrimitive a → {w : Counts} → ValueFits w a
primitive_fits value.Undefined p = fits.undefined
primitive_fits value.Null p = fits.null
primitive_fits (value.Bool b) p = fits.bool
primitive_fits (value.Num n) p = fits.num
primitive_fits (value.Str text) p = fits.str
primitive_fits (value.Object o) p = absurd p

replies_primitive : (name : Name) {replies : List (Name × List Value)} → RepliesArePrimitive replies → Each IsPrimitive (replies_of replies name)
replies_primitive name fits.empty = fits.empty
replies_primitive name (fits.more {x = r} h hs) = each_if (is_same_name r.0 name) h (replies_primitive name hs)

pub reply_fits : (world : World) → RepliesArePrimitive world.replies → (called : List Name) (name : Name) {w : Counts} → ValueFits w (reply world called name)
reply_fits world replies called name = or_undefined (each_got (replies_primitive name replies) (times_in called name))
  where
    or_undefined : {w : Counts} {o : Option Value} → IfAny IsPrimitive o → ValueFits w (unwrap_or o value.Undefined)
    or_undefined fits.nothing = fits.undefined
    or_undefined (fits.just {x = a} p) = primitive_fits a p

pub passed_with_fits : {w : Counts} {passed : Passed} {a : Value} → Each (IsInReach w) passed → ValueFits w a → Each (IsInReach w) (passed_with passed a)
passed_with_fits h fits.undefined = h
passed_with_fits h fits.null = h
passed_with_fits h fits.bool = h
passed_with_fits h fits.num = h
passed_with_fits h fits.str = h
passed_with_fits {passed = passed} h (fits.object {o = o} p) = each_if (list_any (λ q. q == o.0) passed) h (each_joined h (fits.more p fits.empty))

pub passed_with_all_fits : {w : Counts} {args : List Value} → Each (ValueFits w) args → {passed : Passed} → Each (IsInReach w) passed → Each (IsInReach w) (passed_with_all passed args)
passed_with_all_fits fits.empty h = h
passed_with_all_fits (fits.more a args) h = passed_with_all_fits args (passed_with_fits h a)

-- ---- changes in the same world

module _ {w : Counts} {s : State} (st : StateFits w s) where
  pub after_step : StateFits w (with_step s)
  after_step = record { heap = st.heap; scopes = st.scopes; bodies = st.bodies; listeners = st.listeners; passed = st.passed }

  pub after_beat : StateFits w (with_beat s)
  after_beat = record { heap = st.heap; scopes = st.scopes; bodies = st.bodies; listeners = st.listeners; passed = st.passed }

  pub after_passed : {a : Value} → ValueFits w a → StateFits w (with_passed (passed_with s.passed a) s)
  after_passed a = record { heap = st.heap; scopes = st.scopes; bodies = st.bodies; listeners = st.listeners; passed = passed_with_fits st.passed a }

  pub after_call : (name : Name) {args : List Value} → Each (ValueFits w) args → StateFits w (with_call name (passed_with_all s.passed args) s)
  after_call name args = record { heap = st.heap; scopes = st.scopes; bodies = st.bodies; listeners = st.listeners; passed = passed_with_all_fits args st.passed }

  pub after_listener : (type : Name) {f : ℕ} → IsInReach w f → StateFits w (with_listener type f s)
  after_listener type f = record { heap = st.heap; scopes = st.scopes; bodies = st.bodies; listeners = each_joined st.listeners (fits.more (record { function = f }) fits.empty); passed = st.passed }

  pub after_heap : {heap : Heap} → HeapFits w heap → StateFits w (with_heap heap s)
  after_heap h = record { heap = h; scopes = st.scopes; bodies = st.bodies; listeners = st.listeners; passed = st.passed }

  pub after_scopes : {scopes : Scopes} → ScopesFit w scopes → StateFits w (with_scopes scopes s)
  after_scopes h = record { heap = st.heap; scopes = h; bodies = st.bodies; listeners = st.listeners; passed = st.passed }

  scopes_put : (put : heap_put.Put) {a : Value} → ValueFits w a → ScopesFit w (scopes_after put a s.scopes)
  scopes_put (heap_put.Done heap) a = st.scopes
  scopes_put heap_put.Ignored a = st.scopes
  scopes_put (heap_put.Shared scope place) a = write_scopes scope place st.scopes a
  scopes_put heap_put.BadLength a = st.scopes

  pub after_put : (o : ℕ) (name : Name) {a : Value} → ValueFits w a → StateFits w (with_put (heap_put.put s.heap o name a) a s)
  after_put o name {a = v} a = record { heap = put_heap o name st.heap a; scopes = scopes_put (heap_put.put s.heap o name v) a; bodies = st.bodies; listeners = st.listeners; passed = st.passed }

  -- ---- changes in a later one

  pub after_make : {new : Object} → ObjectFits w new → StateFits (one_object w) (with_object new s)
  after_make n = let g = object_grows w in record {
    heap = make_heap st.heap n;
    scopes = same_scopes g refl st.scopes;
    bodies = later_functions g st.bodies;
    listeners = later_listeners g st.listeners;
    passed = later_reaches g st.passed;
  }

  pub after_new : (f : ℕ) → StateFits (one_object w) (with_new f s)
  after_new f = let g = object_grows w in record {
    heap = constructed_heap f st.heap;
    scopes = same_scopes g refl st.scopes;
    bodies = later_functions g st.bodies;
    listeners = later_listeners g st.listeners;
    passed = later_reaches g st.passed;
  }

  pub after_function : (code : Func) {chain : List ℕ} → Each (IsScope w) chain → StateFits (one_function w) (with_function code chain s)
  after_function code chain = let g = function_grows w in record {
    heap = function_heap (length (formals_of code)) st.heap;
    scopes = same_scopes g refl st.scopes;
    bodies = fits.more (record { object = new_function w (length s.heap) st.heap.count; body = fits.of_script (later_chain g chain) }) (later_functions g st.bodies);
    listeners = later_listeners g st.listeners;
    passed = later_reaches g st.passed;
  }

  pub after_open : (names : List Name) {chain : List ℕ} → Each (IsScope w) chain → StateFits (one_scope w) (with_scope names chain s)
  after_open names chain = let g = scope_grows w in record {
    heap = same_heap g refl st.heap;
    scopes = enter_scopes names st.scopes (each_got chain 0);
    bodies = later_functions g st.bodies;
    listeners = later_listeners g st.listeners;
    passed = later_reaches g st.passed;
  }

-- ---- entries

bodies_fit : {w : Counts} (codes : List Func) {fs chain : List ℕ} {bodies : List (ℕ × Body)} → Each (IsInReach w) fs → Each (IsScope w) chain → Each (FunctionFits w) bodies → Each (FunctionFits w) (with_bodies fs codes chain bodies)
bodies_fit codes fits.empty chain h = h
bodies_fit [] (fits.more f fs) chain h = h
bodies_fit (code ∷ codes) (fits.more f fs) chain h = bodies_fit codes fs chain (fits.more (record { object = f; body = fits.of_script chain }) h)

scope_stays : (fs : List Func) (e : Entered) → (with_all_declared fs e).scope ≡ e.scope
scope_stays [] e = refl
scope_stays (Code number name formals body role ∷ fs) e = scope_stays fs (with_declared (Code number name formals body role) e)

scope_of_entry : (f : Func) (outer : Option ℕ) (args : List Value) (heap : Heap) (scopes : Scopes) → (entry_of f outer args heap scopes).scope ≡ length scopes
scope_of_entry (Code number name formals body role) outer args heap scopes = scope_stays (functions_of body) (with_arguments formals body outer args heap scopes)

-- the state that an entry leaves, and the scope of the body
pub record Activated (w : Counts) (code : Func) (chain : List ℕ) (args : List Value) (s : State) : Type 0 where
  pub now : Counts
  pub grows : Grows w now
  pub state : StateFits now (with_entry code chain args s)
  pub scope : IsScope now (length s.scopes)

pub after_entry : (code : Func) {w : Counts} {s : State} {chain : List ℕ} {args : List Value} → StateFits w s → Each (IsScope w) chain → Each (ValueFits w) args → Activated w code chain args s
after_entry code {w = w} {s = s} {chain = ch} {args = vs} st chain args =
    record {
      now = b.now;
      grows = b.grows;
      state = record {
        heap = b.heap;
        scopes = b.scopes;
        bodies = bodies_fit (functions_of (body_of code)) b.functions (fits.more b.scope (later_chain b.grows chain)) (later_functions b.grows st.bodies);
        listeners = later_listeners b.grows st.listeners;
        passed = later_reaches b.grows st.passed;
      };
      scope = subst (λ scope. IsScope b.now scope) (scope_of_entry code (slice_get ch 0) vs s.heap s.scopes) b.scope;
    }
  where
    b : Binds w (entry_of code (slice_get ch 0) vs s.heap s.scopes)
    b = entry_binds code (each_got chain 0) args st.heap st.scopes

-- ---- what is kept

abbrev pub keeps_of : {w : Counts} {s : State} → StateFits w s → Keeps s
keeps_of {w = w} st = record { here = w; fits = st; not_held = not_held st.heap.each }
