-- The run of a program under a budget of steps, and its marks.
use Rattle.std.specs.Prelude.{ℕ, suc, zero, List, [], ◌∷◌, ◌++◌, Option, Some, None, cond}
use Rattle.std.specs.Str.{bytes_eq}
use Rattle.js_tree.specs.Tree.{Name, Func, Code}
use Rattle.first_grammar.specs.First.{host_name, arguments_name}
use Rattle.play.specs.Value.{Value, Undefined, Host, Closure, Arguments, Error, Chain, GlobalScope, FunctionScope, Outcome, Thrown, Shown, shown, passed_with, all_shown, all_passed}
use Rattle.play.specs.Program.{Program, Ret, Begin, Enter, Tick, Tell, TellUncaught, TellIdle, Beat, Need, Define, Find, Get, Fail, Stuck, program, entry, property}

-- the functions of the global object in order of declaration, the count of errors that were made, the objects that passed the
-- host border in order of first passing, the beats and the steps taken
pub record State : Type 0 where
  pub functions : List Func
  pub errors : ℕ
  pub passed : List ℕ
  pub beats : ℕ
  pub steps : ℕ

pub data Mark : Type 0 where
  Called : (name : Name) → (args : List Shown) → Mark
  Uncaught : (v : Shown) → Mark
  Idle : (beat : ℕ) → Mark
  Entered : (number : ℕ) → (beat : ℕ) → Mark
  Needed : (number : ℕ) → Mark

-- a run: its marks, each with the steps taken when it was made, and its end
pub data Trace : Type 0 where
  Say : (mark : Mark) → (steps : ℕ) → (rest : Trace) → Trace
  End : (o : Outcome) → (s : State) → Trace
  OutOfSteps : (s : State) → Trace
  IsStuck : (s : State) → Trace

-- what waits for outcomes, innermost first
abbrev pub Stack : Type 0
Stack = List (Outcome → Program)

-- what goes on after a step
abbrev pub Next : Type 0
Next = Program → Stack → State → Trace

-- ---- the global object and the chain of scopes

-- of two functions of one name the later counts (10.1.3)
abbrev pub or_else : Option Value → Option Value → Option Value
or_else None o = o
or_else (Some v) o = Some v

abbrev pub is_named : Name → Option Name → Option Value → Option Value
is_named x None o = None
is_named x (Some name) o = cond (bytes_eq name x) o None

abbrev pub named_value : Func → Name → Option Value
named_value (Code number name formals body role) x = is_named x name (Some (Closure (Code number name formals body role) GlobalScope))

abbrev pub function_named : List Func → Name → Option Value
function_named [] x = None
function_named (f ∷ fs) x = or_else (function_named fs x) (named_value f x)

-- the value of a name along a chain of scopes (10.1.4)
abbrev pub find : List Func → Chain → Name → Option Value
find functions GlobalScope x = cond (bytes_eq x host_name) (Some Host) (function_named functions x)
find functions (FunctionScope vs outer) x = cond (bytes_eq x arguments_name) (Some (Arguments vs)) (find functions outer x)

-- ---- the changes of a state

abbrev pub with_step : State → State
with_step s = record { functions = s.functions; errors = s.errors; passed = s.passed; beats = s.beats; steps = suc s.steps }

abbrev pub with_beat : State → State
with_beat s = record { functions = s.functions; errors = s.errors; passed = s.passed; beats = suc s.beats; steps = s.steps }

abbrev pub with_error : State → State
with_error s = record { functions = s.functions; errors = suc s.errors; passed = s.passed; beats = s.beats; steps = s.steps }

abbrev pub with_passed : State → List ℕ → State
with_passed s passed = record { functions = s.functions; errors = s.errors; passed = passed; beats = s.beats; steps = s.steps }

abbrev pub with_functions : State → List Func → State
with_functions s functions = record { functions = functions; errors = s.errors; passed = s.passed; beats = s.beats; steps = s.steps }

-- ---- runs

abbrev pub enters : Option (Program × Stack) → Trace → (Program → Stack → Trace) → Trace
enters None refused go = refused
enters (Some e) refused go = go e.0 e.1

-- a program up to its next step, where ret takes its outcome. What is no function throws a TypeError (11.2.3); a host call without a reply gives undefined
abbrev pub go : (ℕ → Option Func) → Next → (Outcome → State → Trace) → Stack → Program → State → Trace
go entries next ret ks (Ret o) s = ret o s
go entries next ret ks (Begin node env k) s = next (program entries node env) (k ∷ ks) s
go entries next ret ks (Enter f this args k) s =
    enters (entry f this args) (go entries next ret ks (k (Thrown (Error s.errors))) (with_error s)) (λ p fs. next p (fs ++ k ∷ ks) s)
go entries next ret ks (Tick p) s = next p ks s
go entries next ret ks (Tell name args k) s =
    Say (Called name (all_shown s.passed args)) s.steps (go entries next ret ks (k Undefined) (with_passed s (all_passed s.passed args)))
go entries next ret ks (TellUncaught v p) s =
    Say (Uncaught (shown s.passed v)) s.steps (go entries next ret ks p (with_passed s (passed_with s.passed v)))
go entries next ret ks (TellIdle p) s = Say (Idle s.beats) s.steps (go entries next ret ks p s)
go entries next ret ks (Beat number p) s = Say (Entered number (suc s.beats)) s.steps (go entries next ret ks p (with_beat s))
go entries next ret ks (Need number p) s = Say (Needed number) s.steps (go entries next ret ks p s)
go entries next ret ks (Define functions p) s = go entries next ret ks p (with_functions s functions)
go entries next ret ks (Find chain x k) s = go entries next ret ks (k (find s.functions chain x)) s
go entries next ret ks (Get v x k) s = go entries next ret ks (k (property v x)) s
go entries next ret ks (Fail k) s = go entries next ret ks (k (Error s.errors)) (with_error s)
go entries next ret ks Stuck s = IsStuck s

-- an outcome goes to what waits for it
abbrev pub pop : (ℕ → Option Func) → Next → Stack → Outcome → State → Trace
pop entries next [] o s = End o s
pop entries next (k ∷ ks) o s = go entries next (pop entries next ks) ks (k o) s

-- where a step is due and n are left
abbrev pub due : (ℕ → Option Func) → ℕ → Next
due entries zero p ks s = OutOfSteps s
due entries (suc n) p ks s = go entries (due entries n) (pop entries (due entries n) ks) ks p (with_step s)

-- the run of a program, of what waits for it, under n more steps
abbrev pub run : (ℕ → Option Func) → ℕ → Next
run entries n p ks s = go entries (due entries n) (pop entries (due entries n) ks) ks p s
