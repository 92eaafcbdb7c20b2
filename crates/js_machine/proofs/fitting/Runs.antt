-- Programs that fit, under stacks that do, lead from states that fit to such states: one induction, with
-- one clause an ask.
use Rattle.std.proofs.Common.{ℕ, zero, suc, [], ◌∷◌, ◌++◌, length}
use Rattle.std.specs.Prelude.{Option}
use Rattle.js_values.specs.Equality.{same_value}
use Rattle.js_values.specs.Shown.{passed_with, passed_with_all}
use Rattle.exceptions_core.specs.declared.completion.Completion.TheVariants.{Throw}
use Rattle.object_heap.specs.declared.built_in.BuiltIn.TheVariants as built
use Rattle.object_heap.specs.Changes.{can_delete, defined, deleted}
use Rattle.object_heap.specs.Get.{has_property}
use Rattle.object_heap.specs.Objects.{attributes_of, is_behind}
use Rattle.object_heap.specs.Put as heap_put
use Rattle.object_heap.specs.Visited as visited
use Rattle.scope_arena.specs.Scopes.{fixed_at}
use Rattle.scope_arena.specs.Search.{value_of_name}
use Rattle.js_machine.specs.Asks.{Program, Outcome, Ends}
use Rattle.js_machine.specs.Loops.{first_of_turn, waits_in_turn}
use Rattle.js_machine.specs.Programs.{program}
use Rattle.js_machine.specs.References.{error_object}
use Rattle.js_machine.specs.Run.{World, Trace, Stack, Return, reply, entry_in, if_entered, go, pop, due, run}
use Rattle.js_machine.specs.State.{State, object_value, kind_of, property_value, listening, is_length, with_step, with_beat, with_passed, with_call, with_listener, with_heap, with_scopes, with_object, with_function, with_new, with_entry, with_put, with_scope, with_write}
use Rattle.js_machine.specs.Reachable as fits
use Rattle.js_machine.specs.Reachable.{Each, IfAny, Counts, OutcomeFits, StateFits, Keeps, KeepsToTheEnd, says, ended, stopped, without_entry, out_of_steps, RepliesArePrimitive, NodesKeep}
use Rattle.js_machine.proofs.fitting.Lists.{each_so}
use Rattle.js_machine.proofs.fitting.Growth.{Grows, stays, grows_on, one_object, one_scope, object_grows, scope_grows, new_object, new_scope}
use Rattle.js_machine.proofs.fitting.Family as asks
use Rattle.js_machine.proofs.fitting.Family.{ProgramFits, OnOutcomes, StackFits}
use Rattle.js_machine.proofs.fitting.References.{type_error_object_fits}
use Rattle.js_machine.proofs.fitting.Loops.{waits_in_turn_fit}
use Rattle.js_machine.proofs.fitting.Entries.{node_fits}
use Rattle.js_machine.proofs.fitting.Heap.{define_heap, delete_heap, visits_fit}
use Rattle.js_machine.proofs.fitting.Scopes.{value_of_name_fits, name_scopes, fix_scopes}
use Rattle.js_machine.proofs.fitting.Bound.{one_function, function_grows, new_function}
use Rattle.js_machine.proofs.fitting.States.{entered_fits, property_fits, listening_fit, reply_fits, after_step, after_beat, after_passed, after_call, after_listener, after_heap, after_scopes, after_put, after_make, after_new, after_function, after_open, Activated, after_entry, keeps_of}

later_stack : {w v : Counts} → Grows w v → {ks : Stack} → StackFits w ks → StackFits v ks
later_stack g h = each_so (λ k q u f. q u (grows_on g f)) h

stacks : {w : Counts} {ks ls : Stack} → StackFits w ks → StackFits w ls → StackFits w (ks ++ ls)
stacks fits.empty ls = ls
stacks (fits.more k ks) ls = fits.more k (stacks ks ls)

-- an outcome that fits goes on so
abbrev pub OnReturn : Counts → Return → Type 0
OnReturn w ret = (v : Counts) → Grows w v → (o : Outcome) → OutcomeFits v o → (s : State) → StateFits v s → KeepsToTheEnd (ret o s)

module _ (world : World) (replies : RepliesArePrimitive world.replies) where
  -- where a step is due and so many are left
  abbrev DueKeeps : ℕ → Type 0
  DueKeeps n = (w : Counts) (p : Program) (ks : Stack) (s : State) → ProgramFits w p → StackFits w ks → StateFits w s → KeepsToTheEnd (due world n p ks s)

  if_keeps : (n : ℕ) → DueKeeps n → {w : Counts} {e : Option Program} → IfAny (ProgramFits w) e → {ks : Stack} {s : State} {refused : Trace} → StackFits w ks → StateFits w s → KeepsToTheEnd refused
      → KeepsToTheEnd (if_entered e (λ p. due world n p ks s) refused)
  if_keeps n h fits.nothing ks st refused = refused
  if_keeps n h {w = w} (fits.just {x = p} f) {ks = ks} {s = s} kk st refused = h w p ks s f kk st

  go_keeps : (n : ℕ) → DueKeeps n → {w : Counts} {p : Program} → ProgramFits w p → (ret : Return) (ks : Stack) (s : State) → StackFits w ks → OnReturn w ret → StateFits w s
      → KeepsToTheEnd (go world (due world n) p ret ks s)
  go_keeps n h {w = w} (asks.ret {o = o} p) ret ks s kk r st = r w (stays w) o p s st
  go_keeps n h {w = w} (asks.begin {node = node} {env = e} {k = k} env q) ret ks s kk r st = h w (program node e) (k ∷ ks) s (node_fits node env) (fits.more q kk) st
  go_keeps n h {w = w} (asks.tail {node = node} {env = e} env) ret ks s kk r st = h w (program node e) ks s (node_fits node env) kk st
  go_keeps n h {w = w} (asks.turn {loop = loop} {env = e} env) ret ks s kk r st = h w (program (first_of_turn loop.test loop) e) (waits_in_turn loop.test loop e ++ ks) s (node_fits (first_of_turn loop.test loop) env) (stacks (waits_in_turn_fit loop.test loop env) kk) st
  go_keeps n h {w = w} (asks.enter {f = f} ff this args q) ret ks s kk r st =
      let g = object_grows w in
      let new = fits.ends (fits.a_throw (fits.object (new_object w (length s.heap) st.heap.count))) in
      if_keeps n h (entered_fits f st this args) (fits.more q kk) st
      (go_keeps n h (q (one_object w) g (Ends (Throw (object_value (length s.heap)))) new) ret ks (with_object (error_object built.TypeErrorPrototype) s) (later_stack g kk) (λ u f. r u (grows_on g f)) (after_make st type_error_object_fits))
  go_keeps n h {w = w} (asks.tick {p = next} p) ret ks s kk r st = h w next ks s p kk st
  go_keeps n h (asks.under {k = k} p q) ret ks s kk r st =
      go_keeps n h p (λ o t. go world (due world n) (k o) ret ks t) (k ∷ ks) s (fits.more q kk)
      (λ v g o oo t at. go_keeps n h (q v g o oo) ret ks t (later_stack g kk) (λ u f. r u (grows_on g f)) at) st
  go_keeps n h asks.stop ret ks s kk r st = stopped (keeps_of st)
  go_keeps n h asks.broken ret ks s kk r st = without_entry (keeps_of st)
  go_keeps n h {w = w} (asks.tell_call {name = name} {args = vs} args q) ret ks s kk r st =
      says (go_keeps n h (q w (stays w) (reply world s.called name) (reply_fits world replies s.called name)) ret ks (with_call name (passed_with_all s.passed vs) s) kk r (after_call st name args))
  go_keeps n h (asks.tell_uncaught {a = v} a p) ret ks s kk r st = says (go_keeps n h p ret ks (with_passed (passed_with s.passed v) s) kk r (after_passed st a))
  go_keeps n h (asks.tell_idle p) ret ks s kk r st = says (go_keeps n h p ret ks s kk r st)
  go_keeps n h (asks.tell_event p) ret ks s kk r st = says (go_keeps n h p ret ks s kk r st)
  go_keeps n h (asks.tell_entry p) ret ks s kk r st = says (go_keeps n h p ret ks (with_beat s) kk r (after_beat st))
  go_keeps n h (asks.tell_use p) ret ks s kk r st = says (go_keeps n h p ret ks s kk r st)
  go_keeps n h {w = w} (asks.tell_need {number = number} q) ret ks s kk r st = says (go_keeps n h (q w (stays w) (entry_in world.entries number)) ret ks s kk r st)
  go_keeps n h (asks.count_turn p) ret ks s kk r st = go_keeps n h p ret ks (with_beat s) kk r (after_beat st)
  go_keeps n h (asks.listen {type = type} {f = f} ff p) ret ks s kk r st = go_keeps n h p ret ks (with_listener type f s) kk r (after_listener st type ff)
  go_keeps n h {w = w} (asks.listeners {type = type} q) ret ks s kk r st = go_keeps n h (q w (stays w) (listening s.listeners type) (listening_fit type st.listeners)) ret ks s kk r st
  go_keeps n h {w = w} (asks.find {chain = chain} {name = name} c q) ret ks s kk r st = go_keeps n h (q w (stays w) (value_of_name s.scopes chain name) (value_of_name_fits chain name st.scopes.each)) ret ks s kk r st
  go_keeps n h (asks.write {chain = chain} {name = name} {a = v} c a p) ret ks s kk r st = go_keeps n h p ret ks (with_write chain name v s) kk r (after_scopes st (name_scopes chain name st.scopes a))
  go_keeps n h {w = w} (asks.open_scope {names = names} {chain = chain} c q) ret ks s kk r st =
      let g = scope_grows w in
      go_keeps n h (q (one_scope w) g (length s.scopes) (new_scope w (length s.scopes) st.scopes.count)) ret ks (with_scope names chain s) (later_stack g kk) (λ u f. r u (grows_on g f)) (after_open st names c)
  go_keeps n h (asks.fix {scope = scope} c p) ret ks s kk r st = go_keeps n h p ret ks (with_scopes (fixed_at scope s.scopes) s) kk r (after_scopes st (fix_scopes scope st.scopes))
  go_keeps n h {w = w} (asks.activate {code = code} {chain = chain} {args = args} c vs q) ret ks s kk r st =
      let a : Activated w code chain args s = after_entry code st c vs in
      go_keeps n h (q a.now a.grows (length s.scopes) a.scope) ret ks (with_entry code chain args s) (later_stack a.grows kk) (λ u f. r u (grows_on a.grows f)) a.state
  go_keeps n h {w = w} (asks.make {object = object} o q) ret ks s kk r st =
      let g = object_grows w in
      go_keeps n h (q (one_object w) g (length s.heap) (new_object w (length s.heap) st.heap.count)) ret ks (with_object object s) (later_stack g kk) (λ u f. r u (grows_on g f)) (after_make st o)
  go_keeps n h {w = w} (asks.make_function {code = code} {chain = chain} c q) ret ks s kk r st =
      let g = function_grows w in
      go_keeps n h (q (one_function w) g (length s.heap) (new_function w (length s.heap) st.heap.count)) ret ks (with_function code chain s) (later_stack g kk) (λ u f. r u (grows_on g f)) (after_function st code c)
  go_keeps n h {w = w} (asks.make_new {f = f} ff q) ret ks s kk r st =
      let g = object_grows w in
      go_keeps n h (q (one_object w) g (length s.heap) (new_object w (length s.heap) st.heap.count)) ret ks (with_new f s) (later_stack g kk) (λ u f. r u (grows_on g f)) (after_new st f)
  go_keeps n h {w = w} (asks.get {o = o} {name = name} oo q) ret ks s kk r st = go_keeps n h (q w (stays w) (property_value s o name) (property_fits o name st)) ret ks s kk r st
  go_keeps n h {w = w} (asks.put {o = o} {name = name} {a = v} oo a q) ret ks s kk r st =
      go_keeps n h (q w (stays w) (is_length (heap_put.put s.heap o name v))) ret ks (with_put (heap_put.put s.heap o name v) v s) kk r (after_put st o name a)
  go_keeps n h {w = w} (asks.delete {o = o} {name = name} oo q) ret ks s kk r st =
      go_keeps n h (q w (stays w) (can_delete s.heap o name)) ret ks (with_heap (deleted o name s.heap) s) kk r (after_heap st (delete_heap o name st.heap))
  go_keeps n h {w = w} (asks.has {o = o} {name = name} oo q) ret ks s kk r st = go_keeps n h (q w (stays w) (has_property s.heap o name)) ret ks s kk r st
  go_keeps n h (asks.define {o = o} {name = name} {a = v} {attributes = attributes} oo a p) ret ks s kk r st =
      go_keeps n h p ret ks (with_heap (defined o name v attributes s.heap) s) kk r (after_heap st (define_heap o name attributes st.heap a))
  go_keeps n h {w = w} (asks.own {o = o} {name = name} oo q) ret ks s kk r st = go_keeps n h (q w (stays w) (attributes_of s.heap o name)) ret ks s kk r st
  go_keeps n h {w = w} (asks.visible {o = o} oo q) ret ks s kk r st = go_keeps n h (q w (stays w) (visited.visits s.heap o) (visits_fit o st.heap.each oo)) ret ks s kk r st
  go_keeps n h {w = w} (asks.kind_of {a = v} a q) ret ks s kk r st = go_keeps n h (q w (stays w) (kind_of s v)) ret ks s kk r st
  go_keeps n h {w = w} (asks.compare {a = a} {b = b} aa bb q) ret ks s kk r st = go_keeps n h (q w (stays w) (same_value a b)) ret ks s kk r st
  go_keeps n h {w = w} (asks.behind {o = o} {target = target} oo at q) ret ks s kk r st = go_keeps n h (q w (stays w) (is_behind s.heap o target)) ret ks s kk r st

  pop_keeps : (n : ℕ) → DueKeeps n → {w : Counts} {ks : Stack} → StackFits w ks → OnReturn w (pop world (due world n) ks)
  pop_keeps n h fits.empty v g o p s st = ended (keeps_of st) p
  pop_keeps n h (fits.more {x = k} {xs = ks} q kk) v g o p s st =
      go_keeps n h (q v g o p) (pop world (due world n) ks) ks s (later_stack g kk) (λ u f. pop_keeps n h kk u (grows_on g f)) st

  due_keeps : (n : ℕ) → DueKeeps n
  due_keeps zero w p ks s f kk st = out_of_steps (keeps_of st)
  due_keeps (suc n) w p ks s f kk st =
      go_keeps n (due_keeps n) f (pop world (due world n) ks) ks (with_step s) kk (pop_keeps n (due_keeps n) kk) (after_step st)

  pub run_keeps : (n : ℕ) {w : Counts} {p : Program} {ks : Stack} {s : State} → ProgramFits w p → StackFits w ks → StateFits w s → KeepsToTheEnd (run world n p ks s)
  run_keeps n {ks = ks} {s = s} p kk st = go_keeps n (due_keeps n) p (pop world (due world n) ks) ks s kk (pop_keeps n (due_keeps n) kk) st

pub nodes_keep : NodesKeep
nodes_keep world node env s n replies keeps e = due_keeps world replies n keeps.here (program node env) [] s (node_fits node e) fits.empty keeps.fits
