-- What each statement of the first grammar does, as equations between what is left of a run before it and after it.
use Rattle.std.proofs.Common.{◌≡◌, ℕ, zero, suc, ◌+◌, ◌<◌, List, [], ◌∷◌, ◌++◌, Option, Some, None, Bool, true, false, cond, refl, ap, ◌∙◌, arith}
use Rattle.std.specs.Prelude.{nat_eq, ◌&&◌}
use Rattle.std.specs.Str.{bytes_eq}
use Rattle.js_tree.specs.Tree
use Rattle.js_tree.specs.Tree.{Name, Func, Code, Stmts}
use Rattle.js_tree.specs.declared.tree.Role.TheVariants.{Plain, Stub, Late}
use Rattle.first_grammar.specs.First.{host_name, out_name, arguments_name, apply_name, stub_tree}
use Rattle.first_grammar.specs.declared.script.FirstStatement.{FirstStatement}
use Rattle.first_grammar.specs.declared.script.FirstStatement.TheVariants.{Call, Out}
use Rattle.play.specs.declared.table.Continuation.{Continuation}
use Rattle.play.specs.declared.table.Frame.{Frame}
use Rattle.play.specs.declared.table.Frame.TheVariants as frame
use Rattle.play.specs.Value.{Value, Undefined, Host, Closure, Error, NoValues, GlobalScope, Normal, Thrown, ShownText, shown, passed_with}
use Rattle.play.specs.Program
use Rattle.play.specs.Program.{Program, Ret, on_value, after_statement, gives, returns, finish, after_script, call_found, call_property, late, statements}
use Rattle.play.specs.Run.{State, Called, Uncaught, Idle, Entered, Needed, Trace, Say, End, OutOfSteps, Stack, Next, find, function_named, with_step, with_beat, with_error, with_passed, pop, due, run}
use Rattle.play.specs.Machine.{chain_at, env_at, rest_program, waits_with, onto, stack, trace_at}

-- a run that is out of steps, after so many
pub record RanOutAt (t : Trace) (steps : ℕ) : Type 0 where
  pub state : State
  pub is : t ≡ OutOfSteps state
  pub steps_are : state.steps ≡ steps

-- ---- names

not_arguments : (x : ℕ) → bytes_eq (x ∷ []) arguments_name ≡ false
not_arguments x = by (nat_eq x 97)
  where
    by : (b : Bool) → b && false ≡ false
    by true = refl
    by false = refl

not_host : (x : ℕ) → bytes_eq (x ∷ []) host_name ≡ false
not_host x = by (nat_eq x 104)
  where
    by : (b : Bool) → b && false ≡ false
    by true = refl
    by false = refl

pub find_letter : (fs : List Func) (d x : ℕ) → find fs (chain_at d) (x ∷ []) ≡ function_named fs (x ∷ [])
find_letter fs zero x = ap (λ b. cond b (Some Host) (function_named fs (x ∷ []))) (not_host x)
find_letter fs (suc d) x =
    ap (λ b. cond b (Some (Value.Arguments NoValues)) (find fs (chain_at d) (x ∷ []))) (not_arguments x) ∙ find_letter fs d x

pub find_host : (fs : List Func) (d : ℕ) → find fs (chain_at d) host_name ≡ Some Host
find_host fs zero = refl
find_host fs (suc d) = find_host fs d

-- ---- frames

onto_last : (ks : Stack) (fs : List Frame) (f : Frame) → onto ks (fs ++ f ∷ []) ≡ waits_with f (onto ks fs)
onto_last ks [] f = refl
onto_last ks (g ∷ fs) f = onto_last (waits_with g ks) fs f

pub stack_last : (fs : List Frame) (f : Frame) → stack (fs ++ f ∷ []) ≡ waits_with f (stack fs)
stack_last fs f = onto_last (after_script ∷ []) fs f

module _ (e : ℕ → Option Func) where
  passes_frame : (next : Next) (v : Value) (s : State) (f : Frame) (ks : Stack) → pop e next (waits_with f ks) (Thrown v) s ≡ pop e next ks (Thrown v) s
  passes_frame next v s (frame.Call p) ks = refl
  passes_frame next v s (frame.Late p) ks = refl

  passes_frames : (next : Next) (v : Value) (s : State) (fs : List Frame) (ks : Stack) → pop e next (onto ks fs) (Thrown v) s ≡ pop e next ks (Thrown v) s
  passes_frames next v s [] ks = refl
  passes_frames next v s (f ∷ fs) ks = passes_frames next v s fs (waits_with f ks) ∙ passes_frame next v s f ks

  -- an exception leaves the script
  pub uncaught_is : (next : Next) (v : Value) (s : State) (fs : List Frame) → pop e next (stack fs) (Thrown v) s ≡ Say (Uncaught (shown s.passed v)) s.steps (Say (Idle s.beats) s.steps (End (Normal Undefined) (with_passed s (passed_with s.passed v))))
  uncaught_is next v s fs = passes_frames next v s fs (after_script ∷ [])

  -- ---- the end of a body

  pub ends : (left d : ℕ) (s : State) → trace_at e left [] d [] s ≡ Say (Idle s.beats) s.steps (End (Normal Undefined) s)
  ends left d s = refl

  pub leaves_call : (left d : ℕ) (fs : List Frame) (p : Continuation) (s : State) → trace_at e left [] d (fs ++ frame.Call p ∷ []) s ≡ trace_at e left p.rest p.depth fs s
  leaves_call left d fs p s = ap (λ ks. run e left (Ret (Normal Undefined)) ks s) (stack_last fs (frame.Call p))

  pub leaves_late : (left d : ℕ) (fs : List Frame) (p : Continuation) (s : State) → trace_at e left [] d (fs ++ frame.Late p ∷ []) s ≡ trace_at e left p.rest p.depth fs s
  leaves_late left d fs p s = ap (λ ks. run e left (Ret (Normal Undefined)) ks s) (stack_last fs (frame.Late p))

  -- ---- a call

  -- what waits below a call in the statements ss
  abbrev pub below : List FirstStatement → ℕ → List Frame → Stack
  below ss d fs = on_value gives ∷ after_statement (rest_program ss d) ∷ stack fs

  pub call_out : (left x : ℕ) (ss : List FirstStatement) (d : ℕ) (fs : List Frame) (s : State) → left < 3 → RanOutAt (trace_at e left (Call x ∷ ss) d fs s) (left + s.steps)
  call_out zero x ss d fs s h = record { state = s; is = refl; steps_are = omega arith }
  call_out (suc zero) x ss d fs s h = record { state = with_step s; is = refl; steps_are = omega arith }
  call_out (suc (suc zero)) x ss d fs s h = record { state = with_step (with_step s); is = refl; steps_are = omega arith }
  call_out (suc (suc (suc n))) x ss d fs s h = absurd (omega arith)

  call_at : (left x : ℕ) (ss : List FirstStatement) (d : ℕ) (fs : List Frame) (s : State) → trace_at e (suc (suc (suc left))) (Call x ∷ ss) d fs s
      ≡ run e left (call_found Tree.NoExprs (env_at d) (function_named s.functions (x ∷ []))) (below ss d fs) (with_step (with_step (with_step s)))
  call_at left x ss d fs s =
      ap (λ o. run e left (call_found Tree.NoExprs (env_at d) o) (below ss d fs) (with_step (with_step (with_step s)))) (find_letter s.functions d x)

  pub call_unbound : (left x : ℕ) (ss : List FirstStatement) (d : ℕ) (fs : List Frame) (s : State) → function_named s.functions (x ∷ []) ≡ None
      → trace_at e (suc (suc (suc left))) (Call x ∷ ss) d fs s
      ≡ Say (Uncaught (shown s.passed (Error s.errors))) (suc (suc (suc s.steps))) (Say (Idle s.beats) (suc (suc (suc s.steps))) (End (Normal Undefined) (with_passed (with_error (with_step (with_step (with_step s)))) (passed_with s.passed (Error s.errors)))))
  call_unbound left x ss d fs s h =
      call_at left x ss d fs s
      ∙ (ap (λ o. run e left (call_found Tree.NoExprs (env_at d) o) (below ss d fs) (with_step (with_step (with_step s)))) h
      ∙ uncaught_is (due e left) (Error s.errors) (with_error (with_step (with_step (with_step s)))) fs)

  pub call_bound_out : (x : ℕ) (ss : List FirstStatement) (d : ℕ) (fs : List Frame) (s : State) (f : Func) → function_named s.functions (x ∷ []) ≡ Some (Closure f GlobalScope)
      → RanOutAt (trace_at e 3 (Call x ∷ ss) d fs s) (3 + s.steps)
  call_bound_out x ss d fs s f h = record {
    state = with_step (with_step (with_step s));
    is = call_at 0 x ss d fs s ∙ ap (λ o. run e 0 (call_found Tree.NoExprs (env_at d) o) (below ss d fs) (with_step (with_step (with_step s)))) h;
    steps_are = omega arith;
  }

  abbrev pub entry_state : State → State
  entry_state s = with_beat (with_step (with_step (with_step (with_step s))))

  pub call_plain : (left x : ℕ) (ss : List FirstStatement) (d : ℕ) (fs : List Frame) (s : State) (number : ℕ) (name : Option Name) (formals : List Name) (body : Stmts) → function_named s.functions (x ∷ []) ≡ Some (Closure (Code number name formals body Plain) GlobalScope)
      → trace_at e (suc (suc (suc (suc left)))) (Call x ∷ ss) d fs s
      ≡ Say (Entered number (suc s.beats)) (suc (suc (suc (suc s.steps)))) (run e left (statements body (env_at 1)) (finish ∷ Ret ∷ below ss d fs) (entry_state s))
  call_plain left x ss d fs s number name formals body h =
      call_at (suc left) x ss d fs s ∙ ap (λ o. run e (suc left) (call_found Tree.NoExprs (env_at d) o) (below ss d fs) (with_step (with_step (with_step s)))) h

  pub call_stub : (left x : ℕ) (ss : List FirstStatement) (d : ℕ) (fs : List Frame) (s : State) (number : ℕ) (name : Option Name) (formals : List Name) (body : Stmts) → function_named s.functions (x ∷ []) ≡ Some (Closure (Code number name formals body Stub) GlobalScope)
      → trace_at e (suc (suc (suc (suc left)))) (Call x ∷ ss) d fs s
      ≡ Say (Entered number (suc s.beats)) (suc (suc (suc (suc s.steps)))) (run e left (statements body (env_at 1)) (finish ∷ Ret ∷ below ss d fs) (entry_state s))
  call_stub left x ss d fs s number name formals body h =
      call_at (suc left) x ss d fs s ∙ ap (λ o. run e (suc left) (call_found Tree.NoExprs (env_at d) o) (below ss d fs) (with_step (with_step (with_step s)))) h

  -- ---- a host call

  out_at : (left : ℕ) (cs : Name) (ss : List FirstStatement) (d : ℕ) (fs : List Frame) (s : State) → trace_at e (suc (suc (suc (suc left)))) (Out cs ∷ ss) d fs s
      ≡ run e left (call_property out_name (Tree.MoreExprs (Tree.Str cs) Tree.NoExprs) (env_at d) Host) (below ss d fs) (with_step (with_step (with_step (with_step s))))
  out_at left cs ss d fs s =
      ap (λ o. run e left (Program.on_found gives o) (on_value (call_property out_name (Tree.MoreExprs (Tree.Str cs) Tree.NoExprs) (env_at d)) ∷ below ss d fs) (with_step (with_step (with_step (with_step s))))) (find_host s.functions d)

  pub out_out : (left : ℕ) (cs : Name) (ss : List FirstStatement) (d : ℕ) (fs : List Frame) (s : State) → left < 6 → RanOutAt (trace_at e left (Out cs ∷ ss) d fs s) (left + s.steps)
  out_out zero cs ss d fs s h = record { state = s; is = refl; steps_are = omega arith }
  out_out (suc zero) cs ss d fs s h = record { state = with_step s; is = refl; steps_are = omega arith }
  out_out (suc (suc zero)) cs ss d fs s h = record { state = with_step (with_step s); is = refl; steps_are = omega arith }
  out_out (suc (suc (suc zero))) cs ss d fs s h = record { state = with_step (with_step (with_step s)); is = refl; steps_are = omega arith }
  out_out (suc (suc (suc (suc zero)))) cs ss d fs s h = record { state = with_step (with_step (with_step (with_step s))); is = out_at 0 cs ss d fs s; steps_are = omega arith }
  out_out (suc (suc (suc (suc (suc zero))))) cs ss d fs s h = record { state = with_step (with_step (with_step (with_step (with_step s)))); is = out_at 1 cs ss d fs s; steps_are = omega arith }
  out_out (suc (suc (suc (suc (suc (suc n)))))) cs ss d fs s h = absurd (omega arith)

  pub out_is : (left : ℕ) (cs : Name) (ss : List FirstStatement) (d : ℕ) (fs : List Frame) (s : State) → trace_at e (suc (suc (suc (suc (suc (suc left)))))) (Out cs ∷ ss) d fs s
      ≡ Say (Called out_name (ShownText cs ∷ [])) (suc (suc (suc (suc (suc (suc s.steps)))))) (trace_at e left ss d fs (with_step (with_step (with_step (with_step (with_step (with_step s)))))))
  out_is left cs ss d fs s = out_at (suc (suc left)) cs ss d fs s

  -- ---- a stub's body

  -- what waits below the body of a late function
  abbrev pub below_late : Stack → Stack
  below_late ks = finish ∷ Ret ∷ Ret ∷ on_value returns ∷ after_statement (Ret (Normal Undefined)) ∷ ks

  abbrev with_steps_4 : State → State
  with_steps_4 s = with_step (with_step (with_step (with_step s)))

  pub stub_out_early : (left k : ℕ) (ks : Stack) (s : State) → left < 4 → RanOutAt (run e left (statements (stub_tree k) (env_at 1)) ks s) (left + s.steps)
  stub_out_early zero k ks s h = record { state = s; is = refl; steps_are = omega arith }
  stub_out_early (suc zero) k ks s h = record { state = with_step s; is = refl; steps_are = omega arith }
  stub_out_early (suc (suc zero)) k ks s h = record { state = with_step (with_step s); is = refl; steps_are = omega arith }
  stub_out_early (suc (suc (suc zero))) k ks s h = record { state = with_step (with_step (with_step s)); is = refl; steps_are = omega arith }
  stub_out_early (suc (suc (suc (suc n)))) k ks s h = absurd (omega arith)

  -- the late function's request stands after four steps
  stub_at : (left k : ℕ) (ks : Stack) (s : State) (f : Func) → e k ≡ Some f → run e (suc (suc (suc (suc left)))) (statements (stub_tree k) (env_at 1)) ks s
      ≡ Say (Needed k) (suc (suc (suc (suc s.steps)))) (run e left (call_property apply_name (Tree.MoreExprs Tree.This (Tree.MoreExprs (Tree.Ident arguments_name) Tree.NoExprs)) (env_at 1) (Closure f (chain_at 1))) (on_value returns ∷ after_statement (Ret (Normal Undefined)) ∷ ks) (with_steps_4 s))
  stub_at left k ks s f h =
      ap (λ o. Say (Needed k) (suc (suc (suc (suc s.steps)))) (run e left (late o (env_at 1)) (on_value (call_property apply_name (Tree.MoreExprs Tree.This (Tree.MoreExprs (Tree.Ident arguments_name) Tree.NoExprs)) (env_at 1)) ∷ on_value returns ∷ after_statement (Ret (Normal Undefined)) ∷ ks) (with_steps_4 s))) h

  -- a run that is out of steps after the request
  pub record RanOutAfter (t : Trace) (k steps : ℕ) : Type 0 where
    pub at : ℕ
    pub rest : Trace
    pub is : t ≡ Say (Needed k) at rest
    pub out : RanOutAt rest steps

  pub stub_out_late : (left k : ℕ) (ks : Stack) (s : State) (f : Func) → e k ≡ Some f → left < 4 → RanOutAfter (run e (suc (suc (suc (suc left)))) (statements (stub_tree k) (env_at 1)) ks s) k (4 + (left + s.steps))
  stub_out_late zero k ks s f h le = record { at = _; rest = _; is = stub_at 0 k ks s f h; out = record { state = with_steps_4 s; is = refl; steps_are = omega arith } }
  stub_out_late (suc zero) k ks s f h le = record { at = _; rest = _; is = stub_at 1 k ks s f h; out = record { state = with_step (with_steps_4 s); is = refl; steps_are = omega arith } }
  stub_out_late (suc (suc zero)) k ks s f h le = record { at = _; rest = _; is = stub_at 2 k ks s f h; out = record { state = with_step (with_step (with_steps_4 s)); is = refl; steps_are = omega arith } }
  stub_out_late (suc (suc (suc zero))) k ks s f h le = record { at = _; rest = _; is = stub_at 3 k ks s f h; out = record { state = with_step (with_step (with_step (with_steps_4 s))); is = refl; steps_are = omega arith } }
  stub_out_late (suc (suc (suc (suc n)))) k ks s f h le = absurd (omega arith)

  pub stub_is : (left k : ℕ) (ks : Stack) (s : State) (number : ℕ) (name : Option Name) (formals : List Name) (body : Stmts) → e k ≡ Some (Code number name formals body Late)
      → run e (suc (suc (suc (suc (suc (suc (suc (suc left)))))))) (statements (stub_tree k) (env_at 1)) ks s
      ≡ Say (Needed k) (suc (suc (suc (suc s.steps)))) (run e left (statements body (env_at 2)) (below_late ks) (with_steps_4 (with_steps_4 s)))
  stub_is left k ks s number name formals body h = stub_at (suc (suc (suc (suc left)))) k ks s (Code number name formals body Late) h
