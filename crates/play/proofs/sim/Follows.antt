-- Programs, stacks and states that stand for one another make runs that do: one induction on the steps that are left, with one clause for each ask.
use Rattle.std.proofs.Common.{◌≡◌, ℕ, zero, suc, ◌+◌, ◌-◌, ◌*◌, ◌≤◌, List, ◌∷◌, ◌++◌, length, Option, Some, sym, ap, subst, arith}
use Rattle.js_tree.specs.Tree.{Name, Stmts, Func, Code}
use Rattle.js_tree.specs.declared.tree.Role.TheVariants.{Plain, Stub, Late}
use Rattle.first_grammar.specs.First.{stub_tree}
use Rattle.play.specs.Value.{Value, Error, values, Chain, Outcome, Thrown, Shown, passed_with, all_passed}
use Rattle.play.specs.Program.{Program, statements, finish, entry, opened, body_of}
use Rattle.play.specs.Run.{State, Called, Uncaught, Idle, Entered, Needed, Trace, Say, Stack, with_step, with_beat, with_error, with_passed, with_functions, enters, pop, due, run}
use Rattle.play.proofs.sim.Trees.{OfStmts, plain, stub}
use Rattle.play.proofs.sim.Values.{OfValue, undefined, text, global, host, host_call, apply, closure, arguments, error, OfChain, OfValues, OfOutcome, thrown, OfThis, OfState, error_of, find_of, property_of, shown_of, passed_of, all_shown_of, all_passed_of}
use Rattle.play.proofs.sim.Relation.{OfProgram, ret, begin, enter, tick, tell, tell_uncaught, tell_idle, beat, define, find_name, get, fail, OfWaiting, OfStack, bottom, frame, more_frames, OfTrace, of_called, of_uncaught, of_idle, of_entered, of_needed, of_end, of_out}
use Rattle.play.proofs.sim.Nodes.{values_length, node_of, finish_of, gives_of, body_of_of, late_body_of, applied_of}
use Rattle.play.proofs.sim.StubRuns.{more, more_is, count, count_is, stub_frames, stub_env, late_env, late_state, stub_runs, stub_pops}

-- steps of the two sides, with a credit
pub record Paid (c i j : ℕ) : Type 0 where
  pub low : i ≤ j
  pub high : j + c ≤ 32 * i + 32

-- for n steps more on the one side there is a number for the other, with which the run matches
pub record Matches (n i j : ℕ) (t : Trace) (f : ℕ → Trace) : Type 0 where
  pub m : ℕ
  pub low : n + i ≤ m + j
  pub high : m + j ≤ 32 * (n + i) + 32
  pub of : OfTrace t (f m)

say_called : {name : Name} {a a' : List Shown} {i j : ℕ} {t t' : Trace} → a ≡ a' → i ≤ j → j ≤ 32 * i + 32 → OfTrace t t' → OfTrace (Say (Called name a) i t) (Say (Called name a') j t')
say_called {name = name} {a = a} {i = i} {j = j} {t = t} {t' = t'} e low high h = subst (λ z. OfTrace (Say (Called name a) i t) (Say (Called name z) j t')) e (of_called low high h)

say_uncaught : {a a' : Shown} {i j : ℕ} {t t' : Trace} → a ≡ a' → i ≤ j → j ≤ 32 * i + 32 → OfTrace t t' → OfTrace (Say (Uncaught a) i t) (Say (Uncaught a') j t')
say_uncaught {a = a} {i = i} {j = j} {t = t} {t' = t'} e low high h = subst (λ z. OfTrace (Say (Uncaught a) i t) (Say (Uncaught z) j t')) e (of_uncaught low high h)

say_idle : {a a' : ℕ} {i j : ℕ} {t t' : Trace} → a ≡ a' → i ≤ j → j ≤ 32 * i + 32 → OfTrace t t' → OfTrace (Say (Idle a) i t) (Say (Idle a') j t')
say_idle {a = a} {i = i} {j = j} {t = t} {t' = t'} e low high h = subst (λ z. OfTrace (Say (Idle a) i t) (Say (Idle z) j t')) e (of_idle low high h)

say_entered : {k b b' i j : ℕ} {t t' : Trace} → b ≡ b' → i ≤ j → j ≤ 32 * i + 32 → OfTrace t t' → OfTrace (Say (Entered k b) i t) (Say (Entered k b') j t')
say_entered {k = k} {b = b} {i = i} {j = j} {t = t} {t' = t'} e low high h = subst (λ z. OfTrace (Say (Entered k b) i t) (Say (Entered k z) j t')) e (of_entered low high h)

say_needed : {k b b' i j l : ℕ} {t t' : Trace} → b ≡ b' → i ≤ j → j ≤ 32 * i + 32 → OfTrace t t' → OfTrace (Say (Entered k b) i t) (Say (Entered k b') j (Say (Needed k) l t'))
say_needed {k = k} {b = b} {i = i} {j = j} {l = l} {t = t} {t' = t'} e low high h = subst (λ z. OfTrace (Say (Entered k b) i t) (Say (Entered k z) j (Say (Needed k) l t'))) e (of_needed low high h)

module _ (left entries : ℕ → Option Func) where
  -- what is known of runs under n steps more
  unfoldable pub RunSim : ℕ → Type 0
  RunSim n = (c e : ℕ) (p p' : Program) (ks ks' : Stack) (s s' : State) → OfProgram entries c p p' → OfStack entries e ks ks' → OfState entries s s' → Paid (c + e) s.steps s'.steps
      → Matches n s.steps s'.steps (run left n p ks s) (λ m. run entries m p' ks' s')

  Below : ℕ → Type 0
  Below zero = Unit {0}
  Below (suc n) = RunSim n

  PopSim : ℕ → ℕ → Stack → Stack → Type 0
  PopSim n e ks ks' = (o o' : Outcome) → OfOutcome entries o o' → (s s' : State) → OfState entries s s' → Paid e s.steps s'.steps
      → Matches n s.steps s'.steps (pop left (due left n) ks o s) (λ m. pop entries (due entries m) ks' o' s')

  -- where a step is due on both sides
  due_sim : (n : ℕ) → Below n → (c d e : ℕ) (p p' : Program) (ks ks' : Stack) (s s' : State) → OfProgram entries d p p' → OfStack entries e ks ks' → OfState entries s s' → Paid c s.steps s'.steps → d + e ≤ c + 31
      → Matches n s.steps s'.steps (due left n p ks s) (λ m. due entries m p' ks' s')
  unfolding Below RunSim
  due_sim zero h c d e p p' ks ks' s s' pp kk st paid le =
      let low = paid.low in
      let high = paid.high in
      record { m = 0; low = omega arith; high = omega arith; of = of_out }
  due_sim (suc n) h c d e p p' ks ks' s s' pp kk st paid le =
      let low = paid.low in
      let high = paid.high in
      let r = h d e p p' ks ks' (with_step s) (with_step s') pp kk (record { functions = st.functions; errors = st.errors; passed = st.passed; beats = st.beats }) (record { low = omega arith; high = omega arith }) in
      let rl = r.low in
      let rh = r.high in
      record { m = suc r.m; low = omega arith; high = omega arith; of = r.of }

  -- the original enters the function, and the written run a stub of it
  stub_sim : (n : ℕ) → Below n → (c d e j k : ℕ) (name other : Option Name) (formals others : List Name) (b b' : Stmts) (ch ch' : Chain) (th th' : Value) (vs vs' : List Value) (q q' : Outcome → Program) (ks ks' : Stack) (s s' : State)
      → entries k ≡ Some (Code j other others b' Late) → OfStmts entries b b' → OfChain entries ch ch' → OfThis entries th th' → OfValues entries vs vs' → OfWaiting entries d q q' → OfStack entries e ks ks' → OfState entries s s' → Paid (c + e) s.steps s'.steps → d + length vs ≤ c
      → Matches n s.steps s'.steps (due left n (opened (Code k name formals b Plain) (body_of (Code k name formals b Plain) ch th vs)) (finish ∷ q ∷ ks) s)
      (λ m. due entries m (opened (Code k name formals (stub_tree k) Stub) (body_of (Code k name formals (stub_tree k) Stub) ch' th' vs')) (finish ∷ q' ∷ ks') s')
  unfolding Below RunSim
  stub_sim zero h c d e j k name other formals others b b' ch ch' th th' vs vs' q q' ks ks' s s' en bb cc tt' vv qq kk st paid le =
      let low = paid.low in
      let high = paid.high in
      record { m = 0; low = omega arith; high = omega arith; of = of_out }
  stub_sim (suc n) h c d e j k name other formals others b b' ch ch' th th' vs vs' q q' ks ks' s s' en bb cc tt' vv qq kk st paid le =
      record {
        m = suc (suc (suc (suc (suc (suc (suc (suc (more vs' (suc r.m)))))))));
        low = omega (arith, rl, mi, ci, len);
        high = omega (arith, rh, mi, ci, len);
        of = subst (λ t. OfTrace (Say (Entered k (suc s.beats)) (suc s.steps) (run left n (statements b (stub_env ch th vs)) (finish ∷ q ∷ ks) s1)) (Say (Entered k (suc s'.beats)) (suc s'.steps) t)) (sym runs)
            (say_needed (ap suc st.beats) (omega (arith, low)) (omega (arith, high)) r.of);
      }
    where
      low : s.steps ≤ s'.steps
      low = paid.low

      high : s'.steps + (c + e) ≤ 32 * s.steps + 32
      high = paid.high

      len : length vs ≡ length vs'
      len = values_length entries vv

      s1 : State
      s1 = with_beat (with_step s)

      s1' : State
      s1' = with_beat (with_step s')

      ls : Stack
      ls = finish ∷ q' ∷ ks'

      s2' : State
      s2' = with_step (late_state vs' s1')

      st2 : OfState entries s1 s2'
      st2 = record { functions = st.functions; errors = st.errors; passed = st.passed; beats = ap suc st.beats }

      stack2 : OfStack entries (d + e) (finish ∷ q ∷ ks) (stub_frames ls)
      stack2 = more_frames (frame 0 (d + e) (omega arith) (finish_of entries) (frame d e (omega arith) qq kk)) (stub_pops entries (q' ∷ ks'))

      ci : count vs' (suc (suc (suc (suc (suc (suc (suc (suc s'.steps)))))))) ≡ length vs' + suc (suc (suc (suc (suc (suc (suc (suc s'.steps)))))))
      ci = count_is vs' _

      r : Matches n s1.steps s2'.steps (run left n (statements b (stub_env ch th vs)) (finish ∷ q ∷ ks) s1) (λ m. run entries m (statements b' (late_env ch' th' vs')) (stub_frames ls) s2')
      r = h 0 (d + e) _ _ _ _ s1 s2' (late_body_of entries (values vs') bb cc tt'.of vv) stack2 st2 (record { low = omega (arith, low, ci); high = omega (arith, high, ci, len, le) })

      rl : n + s1.steps ≤ r.m + s2'.steps
      rl = r.low

      rh : r.m + s2'.steps ≤ 32 * (n + s1.steps) + 32
      rh = r.high

      mi : more vs' (suc r.m) ≡ length vs' + suc r.m
      mi = more_is vs' (suc r.m)

      runs : run entries (suc (suc (suc (suc (suc (suc (suc (more vs' (suc r.m))))))))) (statements (stub_tree k) (stub_env ch' th' vs')) ls s1' ≡ Say (Needed k) (suc (suc (suc (suc s1'.steps)))) (due entries (suc r.m) (statements b' (late_env ch' th' vs')) (stub_frames ls) (late_state vs' s1'))
      runs = stub_runs entries k ch' th' vs' (suc r.m) j other others b' ls s1' en tt'.stays

  -- an entry, by what the two values are
  enter_sim : (n : ℕ) → Below n → (c d e : ℕ) {f f' : Value} (th th' : Value) (vs vs' : List Value) (q q' : Outcome → Program) (ks ks' : Stack) (s s' : State)
      → OfValue entries f f' → OfThis entries th th' → OfValues entries vs vs' → OfWaiting entries d q q' → OfStack entries e ks ks' → OfState entries s s' → Paid (c + e) s.steps s'.steps → d + length vs ≤ c
      → Matches n s.steps s'.steps (run left n (q (Thrown (Error s.errors))) ks (with_error s)) (λ m. run entries m (q' (Thrown (Error s'.errors))) ks' (with_error s'))
      → Matches n s.steps s'.steps (enters (entry f th vs) (run left n (q (Thrown (Error s.errors))) ks (with_error s)) (λ p fs. due left n p (fs ++ q ∷ ks) s)) (λ m. enters (entry f' th' vs') (run entries m (q' (Thrown (Error s'.errors))) ks' (with_error s')) (λ p fs. due entries m p (fs ++ q' ∷ ks') s'))
  enter_sim n h c d e th th' vs vs' q q' ks ks' s s' undefined tt' vv qq kk st paid le refused = refused
  enter_sim n h c d e th th' vs vs' q q' ks ks' s s' text tt' vv qq kk st paid le refused = refused
  enter_sim n h c d e th th' vs vs' q q' ks ks' s s' global tt' vv qq kk st paid le refused = refused
  enter_sim n h c d e th th' vs vs' q q' ks ks' s s' host tt' vv qq kk st paid le refused = refused
  enter_sim n h c d e th th' vs vs' q q' ks ks' s s' (arguments x) tt' vv qq kk st paid le refused = refused
  enter_sim n h c d e th th' vs vs' q q' ks ks' s s' error tt' vv qq kk st paid le refused = refused
  enter_sim n h c d e th th' vs vs' q q' ks ks' s s' host_call tt' vv qq kk st paid le refused =
      due_sim n h (c + e) 0 (d + e) _ _ _ _ s s' (tell vv (gives_of entries undefined)) (frame d e (omega arith) qq kk) st paid (omega arith)
  enter_sim n h c d e th th' vs vs' q q' ks ks' s s' apply tt' vv qq kk st paid le refused =
      due_sim n h (c + e) 0 (d + e) _ _ _ _ s s' (applied_of entries tt'.of vv) (frame d e (omega arith) qq kk) st paid (omega arith)
  enter_sim n h c d e th th' vs vs' q q' ks ks' s s' (closure (plain {i = i} {name = name} {formals = formals} bb) ch) tt' vv qq kk st paid le refused =
      due_sim n h (c + e) 0 (d + e) _ _ _ _ s s' (beat (body_of_of entries i name formals bb ch tt'.of vv)) (frame 0 (d + e) (omega arith) (finish_of entries) (frame d e (omega arith) qq kk)) st paid (omega arith)
  enter_sim n h c d e th th' vs vs' q q' ks ks' s s' (closure {ch = ch} {ch' = ch'} (stub {j = j} {k = k} {name = name} {other = other} {formals = formals} {others = others} {b = b} {b' = b'} en bb) cc) tt' vv qq kk st paid le refused =
      stub_sim n h c d e j k name other formals others b b' ch ch' th th' vs vs' q q' ks ks' s s' en bb cc tt' vv qq kk st paid le

  -- a program up to its next step
  go_sim : (n : ℕ) → Below n → {c : ℕ} {p p' : Program} → OfProgram entries c p p' → (e : ℕ) (ks ks' : Stack) → OfStack entries e ks ks' → PopSim n e ks ks' → (s s' : State) → OfState entries s s' → Paid (c + e) s.steps s'.steps
      → Matches n s.steps s'.steps (run left n p ks s) (λ m. run entries m p' ks' s')
  unfolding PopSim
  go_sim n h {c = c} (ret {o = o} {o' = o'} q) e ks ks' kk rr s s' st paid =
      let low = paid.low in
      let high = paid.high in
      rr o o' q s s' st (record { low = low; high = omega arith })
  go_sim n h {c = c} (begin nn env d le q) e ks ks' kk rr s s' st paid =
      due_sim n h (c + e) 0 (d + e) _ _ _ _ s s' (node_of entries left nn env) (frame d e (omega arith) q kk) st paid (omega arith)
  go_sim n h {c = c} (enter {this = th} {this' = th'} {args = vs} {args' = vs'} {k = k} {k' = k'} ff tt' vv d le q) e ks ks' kk rr s s' st paid =
      enter_sim n h c d e th th' vs vs' k k' ks ks' s s' ff tt' vv q kk st paid le
      (go_sim n h (q (Thrown (Error s.errors)) (Thrown (Error s'.errors)) (thrown (error_of entries st.errors))) e ks ks' kk rr (with_error s) (with_error s') (record { functions = st.functions; errors = ap suc st.errors; passed = st.passed; beats = st.beats })
      (let low = paid.low in let high = paid.high in record { low = low; high = omega arith }))
  go_sim n h {c = c} (tick d le q) e ks ks' kk rr s s' st paid =
      due_sim n h (c + e) d e _ _ ks ks' s s' q kk st paid (omega arith)
  go_sim n h (tell {args = vs} {args' = vs'} vv q) e ks ks' kk rr s s' st paid =
      let r = go_sim n h q e ks ks' kk rr (with_passed s (all_passed s.passed vs)) (with_passed s' (all_passed s'.passed vs')) (record { functions = st.functions; errors = st.errors; passed = all_passed_of entries vv st.passed; beats = st.beats }) paid in
      let high = paid.high in
      record { m = r.m; low = r.low; high = r.high; of = say_called (all_shown_of entries vv st.passed) paid.low (omega arith) r.of }
  go_sim n h (tell_uncaught {v = v} {v' = v'} vv q) e ks ks' kk rr s s' st paid =
      let r = go_sim n h q e ks ks' kk rr (with_passed s (passed_with s.passed v)) (with_passed s' (passed_with s'.passed v')) (record { functions = st.functions; errors = st.errors; passed = passed_of entries vv st.passed; beats = st.beats }) paid in
      let high = paid.high in
      record { m = r.m; low = r.low; high = r.high; of = say_uncaught (shown_of entries vv st.passed) paid.low (omega arith) r.of }
  go_sim n h (tell_idle q) e ks ks' kk rr s s' st paid =
      let r = go_sim n h q e ks ks' kk rr s s' st paid in
      let high = paid.high in
      record { m = r.m; low = r.low; high = r.high; of = say_idle st.beats paid.low (omega arith) r.of }
  go_sim n h (beat q) e ks ks' kk rr s s' st paid =
      let r = go_sim n h q e ks ks' kk rr (with_beat s) (with_beat s') (record { functions = st.functions; errors = st.errors; passed = st.passed; beats = ap suc st.beats }) paid in
      let high = paid.high in
      record { m = r.m; low = r.low; high = r.high; of = say_entered (ap suc st.beats) paid.low (omega arith) r.of }
  go_sim n h (define {fs = fs} {fs' = fs'} ff q) e ks ks' kk rr s s' st paid =
      go_sim n h q e ks ks' kk rr (with_functions s fs) (with_functions s' fs') (record { functions = ff; errors = st.errors; passed = st.passed; beats = st.beats }) paid
  go_sim n h (find_name {x = x} ch q) e ks ks' kk rr s s' st paid = go_sim n h (q _ _ (find_of entries x st.functions ch)) e ks ks' kk rr s s' st paid
  go_sim n h (get {x = x} v q) e ks ks' kk rr s s' st paid = go_sim n h (q _ _ (property_of entries x v)) e ks ks' kk rr s s' st paid
  go_sim n h (fail q) e ks ks' kk rr s s' st paid =
      go_sim n h (q (Error s.errors) (Error s'.errors) (error_of entries st.errors)) e ks ks' kk rr (with_error s) (with_error s') (record { functions = st.functions; errors = ap suc st.errors; passed = st.passed; beats = st.beats }) paid

  pop_sim : (n : ℕ) → Below n → (e : ℕ) (ks ks' : Stack) → OfStack entries e ks ks' → PopSim n e ks ks'
  unfolding PopSim
  pop_sim n h e ks ks' bottom o o' q s s' st paid =
      let low = paid.low in
      let high = paid.high in
      record { m = n + s.steps - s'.steps; low = omega arith; high = omega arith; of = of_end }
  pop_sim n h c ks ks' (frame {ks = ls} {ks' = ls'} d e le k kk) o o' q s s' st paid =
      let low = paid.low in
      let high = paid.high in
      go_sim n h (k o o' q) e ls ls' kk (pop_sim n h e ls ls' kk) s s' st (record { low = low; high = omega arith })
  pop_sim n h c ks js (more_frames {ks' = ks'} kk same) o o' q s s' st paid =
      let r = pop_sim n h c ks ks' kk o o' q s s' st paid in
      record { m = r.m; low = r.low; high = r.high; of = subst (λ t. OfTrace (pop left (due left n) ks o s) t) (sym (same (due entries r.m) o' s')) r.of }

  pub sim : (n : ℕ) → RunSim n
  unfolding Below RunSim
  sim zero c e p p' ks ks' s s' pp kk st paid = go_sim zero tt pp e ks ks' kk (pop_sim zero tt e ks ks' kk) s s' st paid
  sim (suc n) c e p p' ks ks' s s' pp kk st paid = go_sim (suc n) (sim n) pp e ks ks' kk (pop_sim (suc n) (sim n) e ks ks' kk) s s' st paid
