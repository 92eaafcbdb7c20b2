-- A run over a stack, in two parts.
use Rattle.std.proofs.Common.{◌≡◌, ℕ, zero, suc, ◌+◌, ◌-◌, [], ◌∷◌, ◌++◌, length, Option, Some, None, refl, sym, ap, ◌∙◌, arith}
use Rattle.js_values.specs.Equality.{same_value}
use Rattle.js_values.specs.Shown.{passed_with, passed_with_all, shown_of, shown_of_all}
use Rattle.exceptions_core.specs.declared.completion.Completion.TheVariants.{Throw}
use Rattle.object_heap.specs.declared.built_in.BuiltIn.TheVariants as built
use Rattle.object_heap.specs.Changes.{can_delete, defined, deleted}
use Rattle.object_heap.specs.Get.{has_property}
use Rattle.object_heap.specs.Objects.{attributes_of, is_behind}
use Rattle.object_heap.specs.Put as heap_put
use Rattle.object_heap.specs.Visited as visited
use Rattle.scope_arena.specs.Scopes.{fixed_at}
use Rattle.scope_arena.specs.Search.{value_of_name}
use Rattle.js_machine.specs.Asks.{Program, Ret, Begin, Tail, Turn, Enter, Tick, Under, Stop, Broken, TellCall, TellUncaught, TellIdle, TellEvent, TellEntry, TellUse, TellNeed, CountTurn, Listen, Listeners, Find, Write, Open, Activate, Fix, Make, MakeFunction, MakeNew, Get, Put, Delete, Has, Define, Own, Visible, KindOf, Compare, Behind, Outcome, Ends}
use Rattle.js_machine.specs.State.{State, object_value, callee_of, kind_of, property_value, listening, is_length, with_step, with_beat, with_passed, with_call, with_listener, with_heap, with_scopes, with_object, with_function, with_new, with_entry, with_put, with_scope, with_write}
use Rattle.js_machine.specs.References.{error_object}
use Rattle.js_machine.specs.Loops.{first_of_turn, waits_in_turn}
use Rattle.js_machine.specs.Programs.{program}
use Rattle.std.proofs.Common.{append_assoc}
use Rattle.js_machine.specs.Run.{World, Trace, Say, Call, Uncaught, Idle, Event, Entry, Used, Need, Stack, Return, reply, entry_in, entered, if_entered, go, pop, due}
use Rattle.js_machine.specs.Laws.{resume, NodesHaveParts}

module _ (world : World) (ls : Stack) (total : ℕ) where
  abbrev Joins : ℕ → Type 0
  Joins n = (p : Program) (ks : Stack) (s : State) → n + s.steps ≡ total → due world n p (ks ++ ls) s ≡ resume world total ls (due world n p ks s)

  abbrev JoinsBehind : ℕ → Return → Return → Type 0
  JoinsBehind n ret whole = (o : Outcome) (s : State) → n + s.steps ≡ total → whole o s ≡ resume world total ls (ret o s)

  if_joins : (n : ℕ) → Joins n → (e : Option Program) (k : Outcome → Program) (ks : Stack) (s : State) (t u : Trace) → n + s.steps ≡ total → t ≡ resume world total ls u
      → if_entered e (λ p. due world n p (k ∷ (ks ++ ls)) s) t ≡ resume world total ls (if_entered e (λ p. due world n p (k ∷ ks) s) u)
  if_joins n h None k ks s t u e q = q
  if_joins n h (Some p) k ks s t u e q = h p (k ∷ ks) s e

  go_joins : (n : ℕ) → Joins n → (p : Program) (ret whole : Return) (ks : Stack) (s : State) → n + s.steps ≡ total → JoinsBehind n ret whole
      → go world (due world n) p whole (ks ++ ls) s ≡ resume world total ls (go world (due world n) p ret ks s)
  go_joins n h (Ret o) ret whole ks s e q = q o s e
  go_joins n h (Begin node env k) ret whole ks s e q = h (program node env) (k ∷ ks) s e
  go_joins n h (Tail node env) ret whole ks s e q = h (program node env) ks s e
  go_joins n h (Turn loop env) ret whole ks s e q =
      ap (λ l. due world n (program (first_of_turn loop.test loop) env) l s) (sym (append_assoc (waits_in_turn loop.test loop env) ks ls))
      ∙ h (program (first_of_turn loop.test loop) env) (waits_in_turn loop.test loop env ++ ks) s e
  go_joins n h (Enter f this args k) ret whole ks s e q =
      if_joins n h (entered (callee_of s f) this args) k ks s _ _ e (go_joins n h (k (Ends (Throw (object_value (length s.heap))))) ret whole ks (with_object (error_object built.TypeErrorPrototype) s) e q)
  go_joins n h (Tick p) ret whole ks s e q = h p ks s e
  go_joins n h (Under p k) ret whole ks s e q =
      go_joins n h p (λ o t. go world (due world n) (k o) ret ks t) (λ o t. go world (due world n) (k o) whole (ks ++ ls) t) (k ∷ ks) s e (λ o t e'. go_joins n h (k o) ret whole ks t e' q)
  go_joins n h (Stop reason) ret whole ks s e q = refl
  go_joins n h Broken ret whole ks s e q = refl
  go_joins n h (TellCall name args k) ret whole ks s e q = ap (Say (Call name (shown_of_all s.passed args)) s.steps) (go_joins n h (k (reply world s.called name)) ret whole ks (with_call name (passed_with_all s.passed args) s) e q)
  go_joins n h (TellUncaught v p) ret whole ks s e q = ap (Say (Uncaught (shown_of s.passed v)) s.steps) (go_joins n h p ret whole ks (with_passed (passed_with s.passed v) s) e q)
  go_joins n h (TellIdle p) ret whole ks s e q = ap (Say (Idle s.beats) s.steps) (go_joins n h p ret whole ks s e q)
  go_joins n h (TellEvent number p) ret whole ks s e q = ap (Say (Event number) s.steps) (go_joins n h p ret whole ks s e q)
  go_joins n h (TellEntry number p) ret whole ks s e q = ap (Say (Entry number (suc s.beats)) s.steps) (go_joins n h p ret whole ks (with_beat s) e q)
  go_joins n h (TellUse number p) ret whole ks s e q = ap (Say (Used number s.beats) s.steps) (go_joins n h p ret whole ks s e q)
  go_joins n h (TellNeed number k) ret whole ks s e q = ap (Say (Need number) s.steps) (go_joins n h (k (entry_in world.entries number)) ret whole ks s e q)
  go_joins n h (CountTurn p) ret whole ks s e q = go_joins n h p ret whole ks (with_beat s) e q
  go_joins n h (Listen type f p) ret whole ks s e q = go_joins n h p ret whole ks (with_listener type f s) e q
  go_joins n h (Listeners type k) ret whole ks s e q = go_joins n h (k (listening s.listeners type)) ret whole ks s e q
  go_joins n h (Find chain name k) ret whole ks s e q = go_joins n h (k (value_of_name s.scopes chain name)) ret whole ks s e q
  go_joins n h (Write chain name v p) ret whole ks s e q = go_joins n h p ret whole ks (with_write chain name v s) e q
  go_joins n h (Open names chain k) ret whole ks s e q = go_joins n h (k (length s.scopes)) ret whole ks (with_scope names chain s) e q
  go_joins n h (Activate code chain args k) ret whole ks s e q = go_joins n h (k (length s.scopes)) ret whole ks (with_entry code chain args s) e q
  go_joins n h (Fix scope p) ret whole ks s e q = go_joins n h p ret whole ks (with_scopes (fixed_at scope s.scopes) s) e q
  go_joins n h (Make object k) ret whole ks s e q = go_joins n h (k (length s.heap)) ret whole ks (with_object object s) e q
  go_joins n h (MakeFunction code chain k) ret whole ks s e q = go_joins n h (k (length s.heap)) ret whole ks (with_function code chain s) e q
  go_joins n h (MakeNew f k) ret whole ks s e q = go_joins n h (k (length s.heap)) ret whole ks (with_new f s) e q
  go_joins n h (Get o name k) ret whole ks s e q = go_joins n h (k (property_value s o name)) ret whole ks s e q
  go_joins n h (Put o name v k) ret whole ks s e q = go_joins n h (k (is_length (heap_put.put s.heap o name v))) ret whole ks (with_put (heap_put.put s.heap o name v) v s) e q
  go_joins n h (Delete o name k) ret whole ks s e q = go_joins n h (k (can_delete s.heap o name)) ret whole ks (with_heap (deleted o name s.heap) s) e q
  go_joins n h (Has o name k) ret whole ks s e q = go_joins n h (k (has_property s.heap o name)) ret whole ks s e q
  go_joins n h (Define o name v attributes p) ret whole ks s e q = go_joins n h p ret whole ks (with_heap (defined o name v attributes s.heap) s) e q
  go_joins n h (Own o name k) ret whole ks s e q = go_joins n h (k (attributes_of s.heap o name)) ret whole ks s e q
  go_joins n h (Visible o k) ret whole ks s e q = go_joins n h (k (visited.visits s.heap o)) ret whole ks s e q
  go_joins n h (KindOf v k) ret whole ks s e q = go_joins n h (k (kind_of s v)) ret whole ks s e q
  go_joins n h (Compare v w k) ret whole ks s e q = go_joins n h (k (same_value v w)) ret whole ks s e q
  go_joins n h (Behind o target k) ret whole ks s e q = go_joins n h (k (is_behind s.heap o target)) ret whole ks s e q

  pop_joins : (n : ℕ) → Joins n → (ks : Stack) → JoinsBehind n (pop world (due world n) ks) (pop world (due world n) (ks ++ ls))
  pop_joins n h [] o s e = let m : n ≡ total - s.steps = omega (arith, e) in ap (λ m. pop world (due world m) ls o s) m
  pop_joins n h (k ∷ ks) o s e = go_joins n h (k o) (pop world (due world n) ks) (pop world (due world n) (ks ++ ls)) ks s e (pop_joins n h ks)

  pub due_joins : (n : ℕ) → Joins n
  due_joins zero p ks s e = refl
  due_joins (suc n) p ks s e =
      go_joins n (due_joins n) p (pop world (due world n) ks) (pop world (due world n) (ks ++ ls)) ks (with_step s) (omega (arith, e)) (pop_joins n (due_joins n) ks)

pub nodes_have_parts : NodesHaveParts
nodes_have_parts world node env s n ks = due_joins world ks (n + s.steps) n (program node env) [] s refl
