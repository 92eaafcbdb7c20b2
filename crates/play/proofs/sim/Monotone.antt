-- A run under more steps goes on from a run under fewer: one clause for each ask.
use Rattle.std.proofs.Common.{ℕ, zero, suc, ◌≤◌, [], ◌∷◌, ◌++◌, Option, Some, None, arith}
use Rattle.js_tree.specs.Tree.{Func}
use Rattle.play.specs.Value.{Undefined, Error, Outcome, Thrown, all_passed, passed_with}
use Rattle.play.specs.Program.{Program, Ret, Begin, Enter, Tick, Tell, TellUncaught, TellIdle, Beat, Need, Define, Find, Get, Fail, Stuck, program, entry, property}
use Rattle.play.specs.Run.{State, Trace, Stack, Next, find, with_step, with_beat, with_error, with_passed, with_functions, enters, go, pop, due, run}
use Rattle.play.specs.Laws.{IsCut, cut, same_end, same_stuck, said}

abbrev Less : Next → Next → Type 0
Less f g = (p : Program) (ks : Stack) (s : State) → IsCut (f p ks s) (g p ks s)

enters_less : (f g : Program → Stack → Trace) → ((p : Program) (ks : Stack) → IsCut (f p ks) (g p ks)) → (e : Option (Program × Stack)) (t u : Trace) → IsCut t u → IsCut (enters e t f) (enters e u g)
enters_less f g h None t u c = c
enters_less f g h (Some e) t u c = h e.0 e.1

module _ (entries : ℕ → Option Func) where
  go_less : (f g : Next) → Less f g → (r r' : Outcome → State → Trace) → ((o : Outcome) (s : State) → IsCut (r o s) (r' o s)) → (ks : Stack) (p : Program) (s : State) → IsCut (go entries f r ks p s) (go entries g r' ks p s)
  go_less f g h r r' q ks (Ret o) s = q o s
  go_less f g h r r' q ks (Begin node env k) s = h (program entries node env) (k ∷ ks) s
  go_less f g h r r' q ks (Enter fn this args k) s =
      enters_less (λ p fs. f p (fs ++ k ∷ ks) s) (λ p fs. g p (fs ++ k ∷ ks) s) (λ p fs. h p (fs ++ k ∷ ks) s) (entry fn this args) _ _ (go_less f g h r r' q ks (k (Thrown (Error s.errors))) (with_error s))
  go_less f g h r r' q ks (Tick p) s = h p ks s
  go_less f g h r r' q ks (Tell name args k) s = said (go_less f g h r r' q ks (k Undefined) (with_passed s (all_passed s.passed args)))
  go_less f g h r r' q ks (TellUncaught v p) s = said (go_less f g h r r' q ks p (with_passed s (passed_with s.passed v)))
  go_less f g h r r' q ks (TellIdle p) s = said (go_less f g h r r' q ks p s)
  go_less f g h r r' q ks (Beat number p) s = said (go_less f g h r r' q ks p (with_beat s))
  go_less f g h r r' q ks (Need number p) s = said (go_less f g h r r' q ks p s)
  go_less f g h r r' q ks (Define functions p) s = go_less f g h r r' q ks p (with_functions s functions)
  go_less f g h r r' q ks (Find chain x k) s = go_less f g h r r' q ks (k (find s.functions chain x)) s
  go_less f g h r r' q ks (Get v x k) s = go_less f g h r r' q ks (k (property v x)) s
  go_less f g h r r' q ks (Fail k) s = go_less f g h r r' q ks (k (Error s.errors)) (with_error s)
  go_less f g h r r' q ks Stuck s = same_stuck

  pop_less : (f g : Next) → Less f g → (ks : Stack) (o : Outcome) (s : State) → IsCut (pop entries f ks o s) (pop entries g ks o s)
  pop_less f g h [] o s = same_end
  pop_less f g h (k ∷ ks) o s = go_less f g h (pop entries f ks) (pop entries g ks) (pop_less f g h ks) ks (k o) s

  due_less : (n m : ℕ) → n ≤ m → Less (due entries n) (due entries m)
  due_less zero m le p ks s = cut
  due_less (suc n) zero le p ks s = absurd (omega arith)
  due_less (suc n) (suc m) le p ks s =
      let h = due_less n m (omega arith) in
      go_less (due entries n) (due entries m) h _ _ (pop_less (due entries n) (due entries m) h ks) ks p (with_step s)

  pub run_less : (n m : ℕ) → n ≤ m → (p : Program) (ks : Stack) (s : State) → IsCut (run entries n p ks s) (run entries m p ks s)
  run_less n m le p ks s =
      let h = due_less n m le in
      go_less (due entries n) (due entries m) h _ _ (pop_less (due entries n) (due entries m) h ks) ks p s
