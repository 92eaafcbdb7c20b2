-- Runs of programs under a budget of steps.
use Rattle.std.specs.Prelude.{ℕ, zero, suc, nat_eq, if◌then◌else◌, List, [], ◌∷◌, ◌++◌, length}
use Rattle.std.specs.Prelude.{Option, Some, None, unwrap_or, slice_get}
use Rattle.js_values.specs.declared.reason.Reason.{Reason}
use Rattle.js_values.specs.declared.shown.Shown.{Shown}
use Rattle.js_values.specs.declared.value.Value.{Value}
use Rattle.js_values.specs.declared.value.Value.TheVariants.{Undefined}
use Rattle.js_values.specs.Equality.{same_value}
use Rattle.js_values.specs.Shown.{passed_with, passed_with_all, shown_of, shown_of_all}
use Rattle.exceptions_core.specs.declared.completion.Completion.TheVariants.{Throw}
use Rattle.object_heap.specs.declared.built_in.BuiltIn.TheVariants as built
use Rattle.object_heap.specs.Changes.{can_delete, defined, deleted}
use Rattle.object_heap.specs.Get.{has_property}
use Rattle.object_heap.specs.Names.{Name, is_same_name}
use Rattle.object_heap.specs.Objects.{attributes_of, is_behind}
use Rattle.object_heap.specs.Put as heap_put
use Rattle.object_heap.specs.Visited as visited
use Rattle.scope_arena.specs.Scopes.{fixed_at}
use Rattle.scope_arena.specs.Search.{value_of_name}
use Rattle.js_tree.specs.Tree.{Func}
use Rattle.js_machine.specs.Asks.{Program, Ret, Begin, Tail, Turn, Enter, Tick, Under, Stop, Broken}
use Rattle.js_machine.specs.Asks.{TellCall, TellUncaught, TellIdle, TellEvent, TellEntry, TellUse}
use Rattle.js_machine.specs.Asks.{TellNeed, CountTurn, Listen, Listeners, Find, Write, Open, Fix}
use Rattle.js_machine.specs.Asks.{Activate, Make, MakeFunction, MakeNew, Get, Put, Delete, Has}
use Rattle.js_machine.specs.Asks.{Define, Own, Visible}
use Rattle.js_machine.specs.Asks.{KindOf, Compare, Behind, Outcome, Ends}
use Rattle.js_machine.specs.State
use Rattle.js_machine.specs.State.{object_value, callee_of, kind_of, property_value, listening}
use Rattle.js_machine.specs.State.{is_length, with_step, with_beat, with_passed, with_call}
use Rattle.js_machine.specs.State.{with_listener, with_heap, with_scopes, with_object}
use Rattle.js_machine.specs.State.{with_function, with_new, with_entry, with_put, with_scope}
use Rattle.js_machine.specs.State.{with_write}
use Rattle.js_machine.specs.References.{error_object}
use Rattle.js_machine.specs.Loops.{first_of_turn, waits_in_turn}
use Rattle.js_machine.specs.Entries.{entry}
use Rattle.js_machine.specs.Programs.{program}

-- ---- what a run is given from outside

pub record World : Type 0 where
  -- the values that the host answers, by names
  pub replies : List (Name × List Value)
  -- the entries that are there, by their numbers; an original has none
  pub entries : List (ℕ × Func)

abbrev pub replies_of : List (Name × List Value) → Name → List Value
replies_of [] name = []
replies_of (r ∷ rs) name = if is_same_name r.0 name then r.1 else replies_of rs name

-- how many of these names it is
abbrev pub times_in : List Name → Name → ℕ
times_in [] name = 0
times_in (n ∷ ns) name = if is_same_name n name then suc (times_in ns name) else times_in ns name

-- the k-th call of a name is answered with its k-th reply, and with undefined when none is left
abbrev pub reply : World → List Name → Name → Value
reply world called name =
    unwrap_or (slice_get (replies_of world.replies name) (times_in called name)) Undefined

abbrev pub entry_in : List (ℕ × Func) → ℕ → Option Func
entry_in [] number = None
entry_in (e ∷ es) number = if nat_eq e.0 number then Some e.1 else entry_in es number

-- ---- what a run tells

pub data Mark : Type 0 where
  Call : (name : Name) → (args : List Shown) → Mark
  Uncaught : (v : Shown) → Mark
  Idle : (beat : ℕ) → Mark
  Event : (number : ℕ) → Mark
  Entry : (number : ℕ) → (beat : ℕ) → Mark
  Need : (number : ℕ) → Mark
  Used : (number : ℕ) → (beat : ℕ) → Mark

-- the marks, each with the steps taken when it was made, and how the run ends: with an outcome,
-- where a step is due and none is left, by a stop, or for want of an entry
pub data Trace : Type 0 where
  Say : (mark : Mark) → (steps : ℕ) → (rest : Trace) → Trace
  End : (o : Outcome) → (s : State.State) → Trace
  OutOfSteps : (s : State.State) → Trace
  Stopped : (reason : Reason) → (s : State.State) → Trace
  NoEntry : (s : State.State) → Trace

-- what waits for outcomes, innermost first
abbrev pub Stack : Type 0
Stack = List (Outcome → Program)

-- what goes on with an outcome
abbrev pub Return : Type 0
Return = Outcome → State.State → Trace

-- what goes on where a step is due
abbrev pub Next : Type 0
Next = Program → Stack → State.State → Trace

-- ---- the run

abbrev pub entered : Option State.Callee → Value → List Value → Option Program
entered None this args = None
entered (Some callee) this args = entry callee this args

-- by what an entry runs, where there is one
abbrev pub if_entered : Option Program → (Program → Trace) → Trace → Trace
if_entered None enter refused = refused
if_entered (Some p) enter refused = enter p

-- a program up to where a step is due
abbrev pub go : World → Next → Program → Return → Stack → State.State → Trace
go world next (Ret o) ret ks s = ret o s
go world next (Begin node env k) ret ks s = next (program node env) (k ∷ ks) s
go world next (Tail node env) ret ks s = next (program node env) ks s
go world next (Turn loop env) ret ks s =
    next (program (first_of_turn loop.test loop) env) (waits_in_turn loop.test loop env ++ ks) s
go world next (Enter f this args k) ret ks s =
    if_entered (entered (callee_of s f) this args) (λ p. next p (k ∷ ks) s)
    (go world next (k (Ends (Throw (object_value (length s.heap))))) ret ks
    (with_object (error_object built.TypeErrorPrototype) s))
go world next (Tick p) ret ks s = next p ks s
go world next (Under p k) ret ks s =
    go world next p (λ o t. go world next (k o) ret ks t) (k ∷ ks) s
go world next (Stop reason) ret ks s = Stopped reason s
go world next Broken ret ks s = NoEntry s
go world next (TellCall name args k) ret ks s =
    Say (Call name (shown_of_all s.passed args)) s.steps
    (go world next (k (reply world s.called name)) ret ks
    (with_call name (passed_with_all s.passed args) s))
go world next (TellUncaught v p) ret ks s =
    Say (Uncaught (shown_of s.passed v)) s.steps
    (go world next p ret ks (with_passed (passed_with s.passed v) s))
go world next (TellIdle p) ret ks s = Say (Idle s.beats) s.steps (go world next p ret ks s)
go world next (TellEvent number p) ret ks s = Say (Event number) s.steps (go world next p ret ks s)
go world next (TellEntry number p) ret ks s =
    Say (Entry number (suc s.beats)) s.steps (go world next p ret ks (with_beat s))
go world next (TellUse number p) ret ks s =
    Say (Used number s.beats) s.steps (go world next p ret ks s)
go world next (TellNeed number k) ret ks s =
    Say (Need number) s.steps (go world next (k (entry_in world.entries number)) ret ks s)
go world next (CountTurn p) ret ks s = go world next p ret ks (with_beat s)
go world next (Listen type f p) ret ks s = go world next p ret ks (with_listener type f s)
go world next (Listeners type k) ret ks s = go world next (k (listening s.listeners type)) ret ks s
go world next (Find chain name k) ret ks s =
    go world next (k (value_of_name s.scopes chain name)) ret ks s
go world next (Write chain name v p) ret ks s = go world next p ret ks (with_write chain name v s)
go world next (Open names chain k) ret ks s =
    go world next (k (length s.scopes)) ret ks (with_scope names chain s)
go world next (Activate code chain args k) ret ks s =
    go world next (k (length s.scopes)) ret ks (with_entry code chain args s)
go world next (Fix scope p) ret ks s =
    go world next p ret ks (with_scopes (fixed_at scope s.scopes) s)
go world next (Make object k) ret ks s =
    go world next (k (length s.heap)) ret ks (with_object object s)
go world next (MakeFunction code chain k) ret ks s =
    go world next (k (length s.heap)) ret ks (with_function code chain s)
go world next (MakeNew f k) ret ks s = go world next (k (length s.heap)) ret ks (with_new f s)
go world next (Get o name k) ret ks s = go world next (k (property_value s o name)) ret ks s
go world next (Put o name v k) ret ks s =
    go world next (k (is_length (heap_put.put s.heap o name v))) ret ks
    (with_put (heap_put.put s.heap o name v) v s)
go world next (Delete o name k) ret ks s =
    go world next (k (can_delete s.heap o name)) ret ks (with_heap (deleted o name s.heap) s)
go world next (Has o name k) ret ks s = go world next (k (has_property s.heap o name)) ret ks s
go world next (Define o name v attributes p) ret ks s =
    go world next p ret ks (with_heap (defined o name v attributes s.heap) s)
go world next (Own o name k) ret ks s = go world next (k (attributes_of s.heap o name)) ret ks s
go world next (Visible o k) ret ks s = go world next (k (visited.visits s.heap o)) ret ks s
go world next (KindOf v k) ret ks s = go world next (k (kind_of s v)) ret ks s
go world next (Compare v w k) ret ks s = go world next (k (same_value v w)) ret ks s
go world next (Behind o target k) ret ks s =
    go world next (k (is_behind s.heap o target)) ret ks s

-- an outcome goes to what waits for it
abbrev pub pop : World → Next → Stack → Return
pop world next [] o s = End o s
pop world next (k ∷ ks) o s = go world next (k o) (pop world next ks) ks s

-- where a step is due and so many are left
abbrev pub due : World → ℕ → Next
due world zero p ks s = OutOfSteps s
due world (suc n) p ks s = go world (due world n) p (pop world (due world n) ks) ks (with_step s)

-- a program, with what waits for it, under so many more steps
abbrev pub run : World → ℕ → Next
run world n p ks s = go world (due world n) p (pop world (due world n) ks) ks s
