-- What a stub's body does, up to the body of its late function: eight steps and one for each argument.
use Rattle.std.proofs.Common.{◌≡◌, ℕ, suc, ◌+◌, List, [], ◌∷◌, length, Option, Some, refl, ap, ◌∙◌, arith}
use Rattle.js_tree.specs.Tree
use Rattle.js_tree.specs.Tree.{Name, Stmts, Func, Code, This, Ident, NoExprs, MoreExprs}
use Rattle.js_tree.specs.declared.tree.Role.TheVariants.{Late}
use Rattle.first_grammar.specs.First.{apply_name, arguments_name, stub_tree}
use Rattle.play.specs.Value.{Value, Undefined, Closure, values, Chain, FunctionScope, Outcome, Normal, Returned, Thrown, Env}
use Rattle.play.specs.Program.{Program, statements, late, call_property, on_value, after_statement, returns, finish, ticks, this_of}
use Rattle.play.specs.Run.{State, Say, Needed, Stack, Next, with_step, pop, due, run}
use Rattle.play.proofs.sim.Values.{items_values}

-- m and a step for each value
abbrev pub more : List Value → ℕ → ℕ
more [] m = m
more (v ∷ vs) m = suc (more vs m)

-- the count of steps after one for each value
abbrev pub count : List Value → ℕ → ℕ
count [] i = i
count (v ∷ vs) i = count vs (suc i)

abbrev pub stepped : List Value → State → State
stepped vs s = record { functions = s.functions; errors = s.errors; passed = s.passed; beats = s.beats; steps = count vs s.steps }

pub count_is : (vs : List Value) (i : ℕ) → count vs i ≡ length vs + i
count_is [] i = omega arith
count_is (v ∷ vs) i = let e = count_is vs (suc i) in omega (arith, e)

pub more_is : (vs : List Value) (i : ℕ) → more vs i ≡ length vs + i
more_is [] i = omega arith
more_is (v ∷ vs) i = let e = more_is vs i in omega (arith, e)

-- the frames that a stub adds
abbrev after_return : Outcome → Program
after_return = on_value returns

abbrev after_stub : Outcome → Program
after_stub = after_statement (Program.Ret (Normal Undefined))

abbrev pub stub_frames : Stack → Stack
stub_frames ks = finish ∷ Program.Ret ∷ Program.Ret ∷ after_return ∷ after_stub ∷ ks

abbrev stub_arguments : Tree.Exprs
stub_arguments = MoreExprs This (MoreExprs (Ident arguments_name) NoExprs)

abbrev with_3 : State → State
with_3 s = with_step (with_step (with_step s))

abbrev with_4 : State → State
with_4 s = with_step (with_3 s)

-- the state where the late function is entered
abbrev pub late_state : List Value → State → State
late_state args s = stepped args (with_3 (with_4 s))

-- where the stub's body stands, and where the late function's does
abbrev pub stub_env : Chain → Value → List Value → Env
stub_env ch this args = record { chain = FunctionScope (values args) ch; this = this }

abbrev pub late_env : Chain → Value → List Value → Env
late_env ch this args = record { chain = FunctionScope (values args) (FunctionScope (values args) ch); this = this }

module _ (entries : ℕ → Option Func) where
  ticks_run : (vs : List Value) (m : ℕ) (p : Program) (ks : Stack) (s : State) → run entries (more vs m) (ticks vs p) ks s ≡ run entries m p ks (stepped vs s)
  ticks_run [] m p ks s = refl
  ticks_run (v ∷ vs) m p ks s = ticks_run vs m p ks (with_step s)

  -- the stub's frames hand on to the frame of its function
  pub stub_pops : (ks : Stack) (next : Next) (o : Outcome) (t : State) → pop entries next (stub_frames (finish ∷ ks)) o t ≡ pop entries next (finish ∷ ks) o t
  stub_pops ks next (Normal v) t = refl
  stub_pops ks next (Returned v) t = refl
  stub_pops ks next (Thrown v) t = refl

  module _ (k : ℕ) (ch : Chain) (this : Value) (args : List Value) where
    -- the request, and the late function
    requests : (z : ℕ) (f : Func) (ks : Stack) (s : State) → entries k ≡ Some f → run entries (suc (suc (suc (suc z)))) (statements (stub_tree k) (stub_env ch this args)) ks s
        ≡ Say (Needed k) (suc (suc (suc (suc s.steps)))) (run entries z (call_property apply_name stub_arguments (stub_env ch this args) (Closure f (FunctionScope (values args) ch))) (after_return ∷ after_stub ∷ ks) (with_4 s))
    requests z f ks s h =
        ap (λ o. Say (Needed k) (suc (suc (suc (suc s.steps)))) (run entries z (late o (stub_env ch this args)) (on_value (call_property apply_name stub_arguments (stub_env ch this args)) ∷ after_return ∷ after_stub ∷ ks) (with_4 s))) h

    -- the arguments, and `apply`
    applies : (z : ℕ) (f : Func) (js : Stack) (t : State) → this_of this ≡ this → run entries (suc (suc (suc z))) (call_property apply_name stub_arguments (stub_env ch this args) (Closure f (FunctionScope (values args) ch))) js t
        ≡ run entries z (ticks args (Program.Enter (Closure f (FunctionScope (values args) ch)) this args Program.Ret)) (Program.Ret ∷ js) (with_3 t)
    applies z f js t h =
        ap (λ l. run entries z (ticks l (Program.Enter (Closure f (FunctionScope (values args) ch)) (this_of this) l Program.Ret)) (Program.Ret ∷ js) (with_3 t)) (items_values args)
        ∙ ap (λ w. run entries z (ticks args (Program.Enter (Closure f (FunctionScope (values args) ch)) w args Program.Ret)) (Program.Ret ∷ js) (with_3 t)) h

    enters_late : (m j : ℕ) (name : Option Name) (formals : List Name) (body : Stmts) (js : Stack) (t : State) → run entries (more args m) (ticks args (Program.Enter (Closure (Code j name formals body Late) (FunctionScope (values args) ch)) this args Program.Ret)) (Program.Ret ∷ js) t
        ≡ due entries m (statements body (late_env ch this args)) (finish ∷ Program.Ret ∷ Program.Ret ∷ js) (stepped args t)
    enters_late m j name formals body js t = ticks_run args m (Program.Enter (Closure (Code j name formals body Late) (FunctionScope (values args) ch)) this args Program.Ret) (Program.Ret ∷ js) t

    pub stub_runs : (m j : ℕ) (name : Option Name) (formals : List Name) (body : Stmts) (ks : Stack) (s : State) → entries k ≡ Some (Code j name formals body Late) → this_of this ≡ this
        → run entries (suc (suc (suc (suc (suc (suc (suc (more args m)))))))) (statements (stub_tree k) (stub_env ch this args)) ks s
        ≡ Say (Needed k) (suc (suc (suc (suc s.steps)))) (due entries m (statements body (late_env ch this args)) (stub_frames ks) (late_state args s))
    stub_runs m j name formals body ks s h i =
        let js : Stack = after_return ∷ after_stub ∷ ks in
        requests (suc (suc (suc (more args m)))) (Code j name formals body Late) ks s h
        ∙ ap (Say (Needed k) (suc (suc (suc (suc s.steps))))) (applies (more args m) (Code j name formals body Late) js (with_4 s) i ∙ enters_late m j name formals body js (with_3 (with_4 s)))
