-- A run over a stack, in two parts: the run of its upper part, and then what waits below.
use Rattle.std.proofs.Common.{◌≡◌, ℕ, zero, suc, ◌+◌, ◌-◌, [], ◌∷◌, ◌++◌, Option, Some, None, refl, sym, ap, ◌∙◌, arith, append_assoc}
use Rattle.js_tree.specs.Tree.{Func}
use Rattle.play.specs.Value.{Undefined, Error, Outcome, Thrown, shown, all_shown, all_passed, passed_with}
use Rattle.play.specs.Program.{Program, Ret, Begin, Enter, Tick, Tell, TellUncaught, TellIdle, Beat, Need, Define, Find, Get, Fail, Stuck, program, entry, property}
use Rattle.play.specs.Run.{State, Called, Uncaught, Idle, Entered, Needed, Trace, Say, Stack, find, with_step, with_beat, with_error, with_passed, with_functions, enters, go, pop, due}
use Rattle.play.specs.Laws.{resume}

module _ (entries : ℕ → Option Func) (ls : Stack) (total : ℕ) where
  Joins : ℕ → Type 0
  Joins n = (p : Program) (ks : Stack) (s : State) → n + s.steps ≡ total → due entries n p (ks ++ ls) s ≡ resume entries total ls (due entries n p ks s)

  enter_joins : (n : ℕ) → Joins n → (e : Option (Program × Stack)) (k : Outcome → Program) (ks : Stack) (s : State) (t u : Trace) → n + s.steps ≡ total → t ≡ resume entries total ls u
      → enters e t (λ p fs. due entries n p (fs ++ k ∷ (ks ++ ls)) s) ≡ resume entries total ls (enters e u (λ p fs. due entries n p (fs ++ k ∷ ks) s))
  unfolding Joins
  enter_joins n h None k ks s t u e q = q
  enter_joins n h (Some r) k ks s t u e q = ap (λ l. due entries n r.0 l s) (sym (append_assoc r.1 (k ∷ ks) ls)) ∙ h r.0 (r.1 ++ k ∷ ks) s e

  go_joins : (n : ℕ) → Joins n → (r r' : Outcome → State → Trace) → ((o : Outcome) (s : State) → n + s.steps ≡ total → r' o s ≡ resume entries total ls (r o s)) → (ks : Stack) (p : Program) (s : State) → n + s.steps ≡ total
      → go entries (due entries n) r' (ks ++ ls) p s ≡ resume entries total ls (go entries (due entries n) r ks p s)
  unfolding Joins
  go_joins n h r r' q ks (Ret o) s e = q o s e
  go_joins n h r r' q ks (Begin node env k) s e = h (program entries node env) (k ∷ ks) s e
  go_joins n h r r' q ks (Enter f this args k) s e = enter_joins n h (entry f this args) k ks s _ _ e (go_joins n h r r' q ks (k (Thrown (Error s.errors))) (with_error s) e)
  go_joins n h r r' q ks (Tick p) s e = h p ks s e
  go_joins n h r r' q ks (Tell name args k) s e = ap (Say (Called name (all_shown s.passed args)) s.steps) (go_joins n h r r' q ks (k Undefined) (with_passed s (all_passed s.passed args)) e)
  go_joins n h r r' q ks (TellUncaught v p) s e = ap (Say (Uncaught (shown s.passed v)) s.steps) (go_joins n h r r' q ks p (with_passed s (passed_with s.passed v)) e)
  go_joins n h r r' q ks (TellIdle p) s e = ap (Say (Idle s.beats) s.steps) (go_joins n h r r' q ks p s e)
  go_joins n h r r' q ks (Beat number p) s e = ap (Say (Entered number (suc s.beats)) s.steps) (go_joins n h r r' q ks p (with_beat s) e)
  go_joins n h r r' q ks (Need number p) s e = ap (Say (Needed number) s.steps) (go_joins n h r r' q ks p s e)
  go_joins n h r r' q ks (Define functions p) s e = go_joins n h r r' q ks p (with_functions s functions) e
  go_joins n h r r' q ks (Find chain x k) s e = go_joins n h r r' q ks (k (find s.functions chain x)) s e
  go_joins n h r r' q ks (Get v x k) s e = go_joins n h r r' q ks (k (property v x)) s e
  go_joins n h r r' q ks (Fail k) s e = go_joins n h r r' q ks (k (Error s.errors)) (with_error s) e
  go_joins n h r r' q ks Stuck s e = refl

  pop_joins : (n : ℕ) → Joins n → (ks : Stack) (o : Outcome) (s : State) → n + s.steps ≡ total → pop entries (due entries n) (ks ++ ls) o s ≡ resume entries total ls (pop entries (due entries n) ks o s)
  pop_joins n h [] o s e = let m : n ≡ total - s.steps = omega arith in ap (λ m. pop entries (due entries m) ls o s) m
  pop_joins n h (k ∷ ks) o s e = go_joins n h (pop entries (due entries n) ks) (pop entries (due entries n) (ks ++ ls)) (pop_joins n h ks) ks (k o) s e

  pub due_joins : (n : ℕ) (p : Program) (ks : Stack) (s : State) → n + s.steps ≡ total → due entries n p (ks ++ ls) s ≡ resume entries total ls (due entries n p ks s)
  unfolding Joins
  due_joins zero p ks s e = refl
  due_joins (suc n) p ks s e =
      go_joins n (due_joins n) (pop entries (due entries n) ks) (pop entries (due entries n) (ks ++ ls)) (pop_joins n (due_joins n) ks) ks p (with_step s) (omega (arith, e))
