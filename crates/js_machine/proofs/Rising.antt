-- Steps never fall along a run, and never pass its budget.
use Rattle.std.proofs.Common.{◌≡◌, ℕ, zero, suc, ◌+◌, ◌≤◌, [], ◌∷◌, ◌++◌, length, Option, Some, None, refl, arith}
use Rattle.js_values.specs.Equality.{same_value}
use Rattle.js_values.specs.Shown.{passed_with, passed_with_all}
use Rattle.exceptions_core.specs.declared.completion.Completion.TheVariants.{Throw}
use Rattle.object_heap.specs.declared.built_in.BuiltIn.TheVariants as built
use Rattle.object_heap.specs.Changes.{can_delete, defined, deleted}
use Rattle.object_heap.specs.Get.{has_property}
use Rattle.object_heap.specs.Objects.{attributes_of, is_behind}
use Rattle.object_heap.specs.Put as heap_put
use Rattle.object_heap.specs.Visited as visited
use Rattle.scope_arena.specs.Scopes.{fixed_at}
use Rattle.scope_arena.specs.Search.{value_of_name}
use Rattle.js_machine.specs.Asks.{Program, Ret, Begin, Tail, Turn, Enter, Tick, Under, Stop, Broken, TellCall, TellUncaught, TellIdle, TellEvent, TellEntry, TellUse, TellNeed, CountTurn, Listen, Listeners, Find, Write, Open, Activate, Fix, Make, MakeFunction, MakeNew, Get, Put, Delete, Has, Define, Own, Visible, KindOf, Compare, Behind, Outcome, Ends}
use Rattle.js_machine.specs.State.{State, object_value, callee_of, kind_of, property_value, listening, is_length, with_step, with_beat, with_passed, with_call, with_listener, with_heap, with_scopes, with_object, with_function, with_new, with_entry, with_put, with_scope, with_write}
use Rattle.js_machine.specs.References.{error_object}
use Rattle.js_machine.specs.Loops.{first_of_turn, waits_in_turn}
use Rattle.js_machine.specs.Programs.{program}
use Rattle.js_machine.specs.Run.{World, Trace, Stack, Return, reply, entry_in, entered, if_entered, go, pop, due, run}
use Rattle.js_machine.specs.Laws.{Rises, StepsRise}
use Rattle.js_machine.specs.Laws.{says, ends, stops, has_no_entry, runs_out}

pub lower : {first most : ℕ} {t : Trace} (less : ℕ) → less ≤ first → Rises first most t → Rises less most t
lower less le (says at rest) = says (omega (arith, le, at)) rest
lower less le (ends at within) = ends (omega (arith, le, at)) within
lower less le (stops at within) = stops (omega (arith, le, at)) within
lower less le (has_no_entry at within) = has_no_entry (omega (arith, le, at)) within
lower less le (runs_out at all) = runs_out (omega (arith, le, at)) all

module _ (world : World) (most : ℕ) where
  abbrev Up : ℕ → Type 0
  Up n = (p : Program) (ks : Stack) (s : State) → n + s.steps ≡ most → Rises s.steps most (due world n p ks s)

  abbrev UpFrom : ℕ → Return → Type 0
  UpFrom n ret = (o : Outcome) (s : State) → n + s.steps ≡ most → Rises s.steps most (ret o s)

  if_rises : (n : ℕ) → Up n → (e : Option Program) (ks : Stack) (s : State) (refused : Trace) → n + s.steps ≡ most → Rises s.steps most refused
      → Rises s.steps most (if_entered e (λ p. due world n p ks s) refused)
  if_rises n h None ks s refused e r = r
  if_rises n h (Some p) ks s refused e r = h p ks s e

  go_rises : (n : ℕ) → Up n → (p : Program) (ret : Return) (ks : Stack) (s : State) → n + s.steps ≡ most → UpFrom n ret → Rises s.steps most (go world (due world n) p ret ks s)
  go_rises n h (Ret o) ret ks s e q = q o s e
  go_rises n h (Begin node env k) ret ks s e q = h (program node env) (k ∷ ks) s e
  go_rises n h (Tail node env) ret ks s e q = h (program node env) ks s e
  go_rises n h (Turn loop env) ret ks s e q = h (program (first_of_turn loop.test loop) env) (waits_in_turn loop.test loop env ++ ks) s e
  go_rises n h (Enter f this args k) ret ks s e q =
      if_rises n h (entered (callee_of s f) this args) (k ∷ ks) s _ e (go_rises n h (k (Ends (Throw (object_value (length s.heap))))) ret ks (with_object (error_object built.TypeErrorPrototype) s) e q)
  go_rises n h (Tick p) ret ks s e q = h p ks s e
  go_rises n h (Under p k) ret ks s e q =
      go_rises n h p (λ o t. go world (due world n) (k o) ret ks t) (k ∷ ks) s e (λ o t e'. go_rises n h (k o) ret ks t e' q)
  go_rises n h (Stop reason) ret ks s e q = stops (omega arith) (omega (arith, e))
  go_rises n h Broken ret ks s e q = has_no_entry (omega arith) (omega (arith, e))
  go_rises n h (TellCall name args k) ret ks s e q = says (omega arith) (go_rises n h (k (reply world s.called name)) ret ks (with_call name (passed_with_all s.passed args) s) e q)
  go_rises n h (TellUncaught v p) ret ks s e q = says (omega arith) (go_rises n h p ret ks (with_passed (passed_with s.passed v) s) e q)
  go_rises n h (TellIdle p) ret ks s e q = says (omega arith) (go_rises n h p ret ks s e q)
  go_rises n h (TellEvent number p) ret ks s e q = says (omega arith) (go_rises n h p ret ks s e q)
  go_rises n h (TellEntry number p) ret ks s e q = says (omega arith) (go_rises n h p ret ks (with_beat s) e q)
  go_rises n h (TellUse number p) ret ks s e q = says (omega arith) (go_rises n h p ret ks s e q)
  go_rises n h (TellNeed number k) ret ks s e q = says (omega arith) (go_rises n h (k (entry_in world.entries number)) ret ks s e q)
  go_rises n h (CountTurn p) ret ks s e q = go_rises n h p ret ks (with_beat s) e q
  go_rises n h (Listen type f p) ret ks s e q = go_rises n h p ret ks (with_listener type f s) e q
  go_rises n h (Listeners type k) ret ks s e q = go_rises n h (k (listening s.listeners type)) ret ks s e q
  go_rises n h (Find chain name k) ret ks s e q = go_rises n h (k (value_of_name s.scopes chain name)) ret ks s e q
  go_rises n h (Write chain name v p) ret ks s e q = go_rises n h p ret ks (with_write chain name v s) e q
  go_rises n h (Open names chain k) ret ks s e q = go_rises n h (k (length s.scopes)) ret ks (with_scope names chain s) e q
  go_rises n h (Activate code chain args k) ret ks s e q = go_rises n h (k (length s.scopes)) ret ks (with_entry code chain args s) e q
  go_rises n h (Fix scope p) ret ks s e q = go_rises n h p ret ks (with_scopes (fixed_at scope s.scopes) s) e q
  go_rises n h (Make object k) ret ks s e q = go_rises n h (k (length s.heap)) ret ks (with_object object s) e q
  go_rises n h (MakeFunction code chain k) ret ks s e q = go_rises n h (k (length s.heap)) ret ks (with_function code chain s) e q
  go_rises n h (MakeNew f k) ret ks s e q = go_rises n h (k (length s.heap)) ret ks (with_new f s) e q
  go_rises n h (Get o name k) ret ks s e q = go_rises n h (k (property_value s o name)) ret ks s e q
  go_rises n h (Put o name v k) ret ks s e q = go_rises n h (k (is_length (heap_put.put s.heap o name v))) ret ks (with_put (heap_put.put s.heap o name v) v s) e q
  go_rises n h (Delete o name k) ret ks s e q = go_rises n h (k (can_delete s.heap o name)) ret ks (with_heap (deleted o name s.heap) s) e q
  go_rises n h (Has o name k) ret ks s e q = go_rises n h (k (has_property s.heap o name)) ret ks s e q
  go_rises n h (Define o name v attributes p) ret ks s e q = go_rises n h p ret ks (with_heap (defined o name v attributes s.heap) s) e q
  go_rises n h (Own o name k) ret ks s e q = go_rises n h (k (attributes_of s.heap o name)) ret ks s e q
  go_rises n h (Visible o k) ret ks s e q = go_rises n h (k (visited.visits s.heap o)) ret ks s e q
  go_rises n h (KindOf v k) ret ks s e q = go_rises n h (k (kind_of s v)) ret ks s e q
  go_rises n h (Compare v w k) ret ks s e q = go_rises n h (k (same_value v w)) ret ks s e q
  go_rises n h (Behind o target k) ret ks s e q = go_rises n h (k (is_behind s.heap o target)) ret ks s e q

  pop_rises : (n : ℕ) → Up n → (ks : Stack) → UpFrom n (pop world (due world n) ks)
  pop_rises n h [] o s e = ends (omega arith) (omega (arith, e))
  pop_rises n h (k ∷ ks) o s e = go_rises n h (k o) (pop world (due world n) ks) ks s e (pop_rises n h ks)

  due_rises : (n : ℕ) → Up n
  due_rises zero p ks s e = runs_out (omega arith) (omega (arith, e))
  due_rises (suc n) p ks s e =
      lower s.steps (omega arith) (go_rises n (due_rises n) p (pop world (due world n) ks) ks (with_step s) (omega (arith, e)) (pop_rises n (due_rises n) ks))

  -- behind a step that is taken
  pub later : (n : ℕ) (p : Program) (ks : Stack) (s : State) → suc n + s.steps ≡ most → Rises (suc s.steps) most (due world (suc n) p ks s)
  later n p ks s e = go_rises n (due_rises n) p (pop world (due world n) ks) ks (with_step s) (omega (arith, e)) (pop_rises n (due_rises n) ks)

  pub run_rises : (n : ℕ) (p : Program) (ks : Stack) (s : State) → n + s.steps ≡ most → Rises s.steps most (run world n p ks s)
  run_rises n p ks s e = go_rises n (due_rises n) p (pop world (due world n) ks) ks s e (pop_rises n (due_rises n) ks)

pub steps_rise : StepsRise
steps_rise world n p ks s = run_rises world (n + s.steps) n p ks s refl
