-- A run under fewer steps is a cut of the run under more.
use Rattle.std.proofs.Common.{◌≡◌, ℕ, zero, suc, ◌+◌, ◌≤◌, [], ◌∷◌, ◌++◌, length, Option, Some, None, refl, subst, arith}
use Rattle.js_values.specs.Equality.{same_value}
use Rattle.js_values.specs.Shown.{passed_with, passed_with_all}
use Rattle.exceptions_core.specs.declared.completion.Completion.TheVariants.{Throw}
use Rattle.object_heap.specs.declared.built_in.BuiltIn.TheVariants as built
use Rattle.object_heap.specs.Changes.{can_delete, defined, deleted}
use Rattle.object_heap.specs.Get.{has_property}
use Rattle.object_heap.specs.Objects.{attributes_of, is_behind}
use Rattle.object_heap.specs.Put as heap_put
use Rattle.object_heap.specs.Visited as visited
use Rattle.scope_arena.specs.Scopes.{fixed_at}
use Rattle.scope_arena.specs.Search.{value_of_name}
use Rattle.js_machine.specs.Asks.{Program, Ret, Begin, Tail, Turn, Enter, Tick, Under, Stop, Broken, TellCall, TellUncaught, TellIdle, TellEvent, TellEntry, TellUse, TellNeed, CountTurn, Listen, Listeners, Find, Write, Open, Activate, Fix, Make, MakeFunction, MakeNew, Get, Put, Delete, Has, Define, Own, Visible, KindOf, Compare, Behind, Outcome, Ends}
use Rattle.js_machine.specs.State.{State, object_value, callee_of, kind_of, property_value, listening, is_length, with_step, with_beat, with_passed, with_call, with_listener, with_heap, with_scopes, with_object, with_function, with_new, with_entry, with_put, with_scope, with_write}
use Rattle.js_machine.specs.References.{error_object}
use Rattle.js_machine.specs.Loops.{first_of_turn, waits_in_turn}
use Rattle.js_machine.specs.Programs.{program}
use Rattle.js_machine.specs.Run.{World, Trace, Stack, Return, reply, entry_in, entered, if_entered, go, pop, due, run}
use Rattle.js_machine.specs.Laws.{IsCut, RunsGrow}
use Rattle.js_machine.specs.Laws.{same_mark, same_end, same_stop, same_need, same_out, cut}
use Rattle.js_machine.proofs.Rising.{later}

module _ (world : World) (most : ℕ) where
  abbrev Less : ℕ → ℕ → Type 0
  Less n m = (p : Program) (ks : Stack) (s : State) → n + s.steps ≡ most → IsCut most (due world n p ks s) (due world m p ks s)

  abbrev LessBehind : ℕ → Return → Return → Type 0
  LessBehind n ret more = (o : Outcome) (s : State) → n + s.steps ≡ most → IsCut most (ret o s) (more o s)

  if_cut : (n m : ℕ) → Less n m → (e : Option Program) (ks : Stack) (s : State) (t u : Trace) → n + s.steps ≡ most → IsCut most t u
      → IsCut most (if_entered e (λ p. due world n p ks s) t) (if_entered e (λ p. due world m p ks s) u)
  if_cut n m h None ks s t u e c = c
  if_cut n m h (Some p) ks s t u e c = h p ks s e

  go_cut : (n m : ℕ) → Less n m → (p : Program) (ret more : Return) (ks : Stack) (s : State) → n + s.steps ≡ most → LessBehind n ret more
      → IsCut most (go world (due world n) p ret ks s) (go world (due world m) p more ks s)
  go_cut n m h (Ret o) ret more ks s e q = q o s e
  go_cut n m h (Begin node env k) ret more ks s e q = h (program node env) (k ∷ ks) s e
  go_cut n m h (Tail node env) ret more ks s e q = h (program node env) ks s e
  go_cut n m h (Turn loop env) ret more ks s e q = h (program (first_of_turn loop.test loop) env) (waits_in_turn loop.test loop env ++ ks) s e
  go_cut n m h (Enter f this args k) ret more ks s e q =
      if_cut n m h (entered (callee_of s f) this args) (k ∷ ks) s _ _ e (go_cut n m h (k (Ends (Throw (object_value (length s.heap))))) ret more ks (with_object (error_object built.TypeErrorPrototype) s) e q)
  go_cut n m h (Tick p) ret more ks s e q = h p ks s e
  go_cut n m h (Under p k) ret more ks s e q =
      go_cut n m h p (λ o t. go world (due world n) (k o) ret ks t) (λ o t. go world (due world m) (k o) more ks t) (k ∷ ks) s e (λ o t e'. go_cut n m h (k o) ret more ks t e' q)
  go_cut n m h (Stop reason) ret more ks s e q = same_stop
  go_cut n m h Broken ret more ks s e q = same_need
  go_cut n m h (TellCall name args k) ret more ks s e q = same_mark (omega (arith, e)) (go_cut n m h (k (reply world s.called name)) ret more ks (with_call name (passed_with_all s.passed args) s) e q)
  go_cut n m h (TellUncaught v p) ret more ks s e q = same_mark (omega (arith, e)) (go_cut n m h p ret more ks (with_passed (passed_with s.passed v) s) e q)
  go_cut n m h (TellIdle p) ret more ks s e q = same_mark (omega (arith, e)) (go_cut n m h p ret more ks s e q)
  go_cut n m h (TellEvent number p) ret more ks s e q = same_mark (omega (arith, e)) (go_cut n m h p ret more ks s e q)
  go_cut n m h (TellEntry number p) ret more ks s e q = same_mark (omega (arith, e)) (go_cut n m h p ret more ks (with_beat s) e q)
  go_cut n m h (TellUse number p) ret more ks s e q = same_mark (omega (arith, e)) (go_cut n m h p ret more ks s e q)
  go_cut n m h (TellNeed number k) ret more ks s e q = same_mark (omega (arith, e)) (go_cut n m h (k (entry_in world.entries number)) ret more ks s e q)
  go_cut n m h (CountTurn p) ret more ks s e q = go_cut n m h p ret more ks (with_beat s) e q
  go_cut n m h (Listen type f p) ret more ks s e q = go_cut n m h p ret more ks (with_listener type f s) e q
  go_cut n m h (Listeners type k) ret more ks s e q = go_cut n m h (k (listening s.listeners type)) ret more ks s e q
  go_cut n m h (Find chain name k) ret more ks s e q = go_cut n m h (k (value_of_name s.scopes chain name)) ret more ks s e q
  go_cut n m h (Write chain name v p) ret more ks s e q = go_cut n m h p ret more ks (with_write chain name v s) e q
  go_cut n m h (Open names chain k) ret more ks s e q = go_cut n m h (k (length s.scopes)) ret more ks (with_scope names chain s) e q
  go_cut n m h (Activate code chain args k) ret more ks s e q = go_cut n m h (k (length s.scopes)) ret more ks (with_entry code chain args s) e q
  go_cut n m h (Fix scope p) ret more ks s e q = go_cut n m h p ret more ks (with_scopes (fixed_at scope s.scopes) s) e q
  go_cut n m h (Make object k) ret more ks s e q = go_cut n m h (k (length s.heap)) ret more ks (with_object object s) e q
  go_cut n m h (MakeFunction code chain k) ret more ks s e q = go_cut n m h (k (length s.heap)) ret more ks (with_function code chain s) e q
  go_cut n m h (MakeNew f k) ret more ks s e q = go_cut n m h (k (length s.heap)) ret more ks (with_new f s) e q
  go_cut n m h (Get o name k) ret more ks s e q = go_cut n m h (k (property_value s o name)) ret more ks s e q
  go_cut n m h (Put o name v k) ret more ks s e q = go_cut n m h (k (is_length (heap_put.put s.heap o name v))) ret more ks (with_put (heap_put.put s.heap o name v) v s) e q
  go_cut n m h (Delete o name k) ret more ks s e q = go_cut n m h (k (can_delete s.heap o name)) ret more ks (with_heap (deleted o name s.heap) s) e q
  go_cut n m h (Has o name k) ret more ks s e q = go_cut n m h (k (has_property s.heap o name)) ret more ks s e q
  go_cut n m h (Define o name v attributes p) ret more ks s e q = go_cut n m h p ret more ks (with_heap (defined o name v attributes s.heap) s) e q
  go_cut n m h (Own o name k) ret more ks s e q = go_cut n m h (k (attributes_of s.heap o name)) ret more ks s e q
  go_cut n m h (Visible o k) ret more ks s e q = go_cut n m h (k (visited.visits s.heap o)) ret more ks s e q
  go_cut n m h (KindOf v k) ret more ks s e q = go_cut n m h (k (kind_of s v)) ret more ks s e q
  go_cut n m h (Compare v w k) ret more ks s e q = go_cut n m h (k (same_value v w)) ret more ks s e q
  go_cut n m h (Behind o target k) ret more ks s e q = go_cut n m h (k (is_behind s.heap o target)) ret more ks s e q

  pop_cut : (n m : ℕ) → Less n m → (ks : Stack) → LessBehind n (pop world (due world n) ks) (pop world (due world m) ks)
  pop_cut n m h [] o s e = same_end
  pop_cut n m h (k ∷ ks) o s e = go_cut n m h (k o) (pop world (due world n) ks) (pop world (due world m) ks) ks s e (pop_cut n m h ks)

  due_cut : (n m : ℕ) → n ≤ m → Less n m
  due_cut zero zero le p ks s e = same_out
  due_cut zero (suc m) le p ks s e =
      let at : s.steps ≡ most = omega (arith, e) in
      subst (λ k. IsCut k (due world zero p ks s) (due world (suc m) p ks s)) at (cut (later world (suc m + s.steps) m p ks s refl))
  due_cut (suc n) zero le p ks s e = absurd (omega arith)
  due_cut (suc n) (suc m) le p ks s e =
      let h = due_cut n m (omega arith) in
      go_cut n m h p (pop world (due world n) ks) (pop world (due world m) ks) ks (with_step s) (omega (arith, e)) (pop_cut n m h ks)

  pub run_cut : (n m : ℕ) → n ≤ m → (p : Program) (ks : Stack) (s : State) → n + s.steps ≡ most → IsCut most (run world n p ks s) (run world m p ks s)
  run_cut n m le p ks s e =
      let h = due_cut n m le in
      go_cut n m h p (pop world (due world n) ks) (pop world (due world m) ks) ks s e (pop_cut n m h ks)

pub runs_grow : RunsGrow
runs_grow world n m p ks s le = run_cut world (n + s.steps) n m le p ks s refl
