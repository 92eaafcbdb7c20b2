-- Programs, stacks and runs that stand for one another.
use Rattle.std.proofs.Common.{◌≡◌, ℕ, suc, ◌+◌, ◌*◌, ◌≤◌, List, [], ◌∷◌, length, Option}
use Rattle.js_tree.specs.Tree.{Name, Func}
use Rattle.play.specs.Value.{Value, Undefined, Chain, Outcome, Shown, Env}
use Rattle.play.specs.Program.{Node, Program, Ret, Begin, Enter, Tick, Tell, TellUncaught, TellIdle, Beat, Define, Find, Get, Fail}
use Rattle.play.specs.Run.{State, Called, Uncaught, Idle, Entered, Needed, Trace, Say, End, OutOfSteps, Stack, Next, pop}
use Rattle.play.proofs.sim.Trees.{OfNode}
use Rattle.play.proofs.sim.Values.{OfValue, OfValues, OfOption, OfOutcome, OfThis, OfRead, OfChain, OfEnv, OfFuncs}

-- Two programs make the same asks, and for answers that stand for one another they go on alike: one constructor for each ask.
-- The number is a credit of steps: a step of both adds one, and an entry spends one for each argument, since a stub's `apply` takes that many.
-- Need and Stuck have no constructor: an original makes no request, and neither run gets stuck.
pub data OfProgram (entries : ℕ → Option Func) : ℕ → Program → Program → Type 0 where
  ret : {c : ℕ} {o o' : Outcome} → OfOutcome entries o o' → OfProgram entries c (Ret o) (Ret o')
  begin : {c : ℕ} {n n' : Node} {env env' : Env} {k k' : Outcome → Program} → OfNode entries n n' → OfEnv entries env env' → (d : ℕ) → d ≤ suc c
      → ((o o' : Outcome) → OfOutcome entries o o' → OfProgram entries d (k o) (k' o')) → OfProgram entries c (Begin n env k) (Begin n' env' k')
  enter : {c : ℕ} {f f' this this' : Value} {args args' : List Value} {k k' : Outcome → Program} → OfValue entries f f' → OfThis entries this this' → OfValues entries args args' → (d : ℕ) → d + length args ≤ c
      → ((o o' : Outcome) → OfOutcome entries o o' → OfProgram entries d (k o) (k' o')) → OfProgram entries c (Enter f this args k) (Enter f' this' args' k')
  tick : {c : ℕ} {p p' : Program} → (d : ℕ) → d ≤ suc c → OfProgram entries d p p' → OfProgram entries c (Tick p) (Tick p')
  tell : {c : ℕ} {name : Name} {args args' : List Value} {k k' : Value → Program} → OfValues entries args args' → OfProgram entries c (k Undefined) (k' Undefined) → OfProgram entries c (Tell name args k) (Tell name args' k')
  tell_uncaught : {c : ℕ} {v v' : Value} {p p' : Program} → OfValue entries v v' → OfProgram entries c p p' → OfProgram entries c (TellUncaught v p) (TellUncaught v' p')
  tell_idle : {c : ℕ} {p p' : Program} → OfProgram entries c p p' → OfProgram entries c (TellIdle p) (TellIdle p')
  beat : {c i : ℕ} {p p' : Program} → OfProgram entries c p p' → OfProgram entries c (Beat i p) (Beat i p')
  define : {c : ℕ} {fs fs' : List Func} {p p' : Program} → OfFuncs entries fs fs' → OfProgram entries c p p' → OfProgram entries c (Define fs p) (Define fs' p')
  find_name : {c : ℕ} {x : Name} {ch ch' : Chain} {k k' : Option Value → Program} → OfChain entries ch ch' → ((o o' : Option Value) → OfOption entries o o' → OfProgram entries c (k o) (k' o')) → OfProgram entries c (Find ch x k) (Find ch' x k')
  get : {c : ℕ} {x : Name} {v v' : Value} {k k' : Option Value → Program} → OfValue entries v v' → ((o o' : Option Value) → OfRead entries v' o o' → OfProgram entries c (k o) (k' o')) → OfProgram entries c (Get v x k) (Get v' x k')
  fail : {c : ℕ} {k k' : Value → Program} → ((v v' : Value) → OfValue entries v v' → OfProgram entries c (k v) (k' v')) → OfProgram entries c (Fail k) (Fail k')

-- what waits for outcomes that stand for one another
abbrev pub OfWaiting : (ℕ → Option Func) → ℕ → (Outcome → Program) → (Outcome → Program) → Type 0
OfWaiting entries d k k' = (o o' : Outcome) → OfOutcome entries o o' → OfProgram entries d (k o) (k' o')

-- two stacks; the written one may have more frames, which do nothing but hand on
pub data OfStack (entries : ℕ → Option Func) : ℕ → Stack → Stack → Type 0 where
  bottom : {c : ℕ} → OfStack entries c [] []
  frame : {c : ℕ} {k k' : Outcome → Program} {ks ks' : Stack} → (d e : ℕ) → d + e ≤ c → OfWaiting entries d k k' → OfStack entries e ks ks' → OfStack entries c (k ∷ ks) (k' ∷ ks')
  more_frames : {c : ℕ} {ks ks' js : Stack} → OfStack entries c ks ks' → ((next : Next) (o : Outcome) (s : State) → pop entries next js o s ≡ pop entries next ks' o s) → OfStack entries c ks js

-- two runs: the same marks but Needed, each in time, and both ended or both out of steps
pub data OfTrace : Trace → Trace → Type 0 where
  of_called : {name : Name} {args : List Shown} {i j : ℕ} {t t' : Trace} → i ≤ j → j ≤ 32 * i + 32 → OfTrace t t' → OfTrace (Say (Called name args) i t) (Say (Called name args) j t')
  of_uncaught : {v : Shown} {i j : ℕ} {t t' : Trace} → i ≤ j → j ≤ 32 * i + 32 → OfTrace t t' → OfTrace (Say (Uncaught v) i t) (Say (Uncaught v) j t')
  of_idle : {b i j : ℕ} {t t' : Trace} → i ≤ j → j ≤ 32 * i + 32 → OfTrace t t' → OfTrace (Say (Idle b) i t) (Say (Idle b) j t')
  of_entered : {k b i j : ℕ} {t t' : Trace} → i ≤ j → j ≤ 32 * i + 32 → OfTrace t t' → OfTrace (Say (Entered k b) i t) (Say (Entered k b) j t')
  of_needed : {k b i j l : ℕ} {t t' : Trace} → i ≤ j → j ≤ 32 * i + 32 → OfTrace t t' → OfTrace (Say (Entered k b) i t) (Say (Entered k b) j (Say (Needed k) l t'))
  of_end : {o o' : Outcome} {s s' : State} → OfTrace (End o s) (End o' s')
  of_out : {s s' : State} → OfTrace (OutOfSteps s) (OutOfSteps s')
