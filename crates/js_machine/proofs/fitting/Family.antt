-- Programs that fit: what they ask for is there, and for every answer that fits in a later world they
-- go on so.
use Rattle.std.proofs.Common.{ℕ, List}
use Rattle.std.specs.Prelude.{Bool, Option}
use Rattle.js_values.specs.declared.reason.Reason.{Reason}
use Rattle.js_values.specs.declared.value.Value.{Value}
use Rattle.object_heap.specs.declared.object.Attrs.{Attrs}
use Rattle.object_heap.specs.Names.{Name}
use Rattle.object_heap.specs.Objects.{Object}
use Rattle.object_heap.specs.Visited.{Visit}
use Rattle.js_tree.specs.Tree.{Func}
use Rattle.js_machine.specs.Asks.{Program, Ret, Begin, Tail, Turn, Enter, Tick, Under, Stop, Broken, TellCall, TellUncaught, TellIdle, TellEvent, TellEntry, TellUse, TellNeed, CountTurn, Listen, Listeners, Find, Write, Open, Activate, Fix, Make, MakeFunction, MakeNew, Get, Put, Delete, Has, Define, Own, Visible, KindOf, Compare, Behind, Node, Env, Loop, Outcome, Kind}
use Rattle.js_machine.specs.Reachable.{Each, IfAny, Counts, IsObject, IsInReach, IsScope, ValueFits, ObjectFits, EnvFits, OutcomeFits}
use Rattle.js_machine.proofs.fitting.Growth.{Grows, grows_on, later_object, later_reach, later_scope, later_chain, later_value, later_values, later_content, later_env, later_outcome}

-- the object that gives a name to visit may be Function.prototype
pub record VisitFits (w : Counts) (visit : Visit) : Type 0 where
  pub giver : IsObject w visit.0

pub data ProgramFits : Counts → Program → Type 0 where
  ret : {w : Counts} {o : Outcome} → OutcomeFits w o → ProgramFits w (Ret o)
  begin : {w : Counts} {node : Node} {env : Env} {k : Outcome → Program} → EnvFits w env
      → ((v : Counts) → Grows w v → (o : Outcome) → OutcomeFits v o → ProgramFits v (k o)) → ProgramFits w (Begin node env k)
  tail : {w : Counts} {node : Node} {env : Env} → EnvFits w env → ProgramFits w (Tail node env)
  turn : {w : Counts} {loop : Loop} {env : Env} → EnvFits w env → ProgramFits w (Turn loop env)
  enter : {w : Counts} {f this : Value} {args : List Value} {k : Outcome → Program} → ValueFits w f → ValueFits w this → Each (ValueFits w) args
      → ((v : Counts) → Grows w v → (o : Outcome) → OutcomeFits v o → ProgramFits v (k o)) → ProgramFits w (Enter f this args k)
  tick : {w : Counts} {p : Program} → ProgramFits w p → ProgramFits w (Tick p)
  under : {w : Counts} {p : Program} {k : Outcome → Program} → ProgramFits w p
      → ((v : Counts) → Grows w v → (o : Outcome) → OutcomeFits v o → ProgramFits v (k o)) → ProgramFits w (Under p k)
  stop : {w : Counts} {reason : Reason} → ProgramFits w (Stop reason)
  broken : {w : Counts} → ProgramFits w Broken
  tell_call : {w : Counts} {name : Name} {args : List Value} {k : Value → Program} → Each (ValueFits w) args
      → ((v : Counts) → Grows w v → (a : Value) → ValueFits v a → ProgramFits v (k a)) → ProgramFits w (TellCall name args k)
  tell_uncaught : {w : Counts} {a : Value} {p : Program} → ValueFits w a → ProgramFits w p → ProgramFits w (TellUncaught a p)
  tell_idle : {w : Counts} {p : Program} → ProgramFits w p → ProgramFits w (TellIdle p)
  tell_event : {w : Counts} {number : ℕ} {p : Program} → ProgramFits w p → ProgramFits w (TellEvent number p)
  tell_entry : {w : Counts} {number : ℕ} {p : Program} → ProgramFits w p → ProgramFits w (TellEntry number p)
  tell_use : {w : Counts} {number : ℕ} {p : Program} → ProgramFits w p → ProgramFits w (TellUse number p)
  tell_need : {w : Counts} {number : ℕ} {k : Option Func → Program}
      → ((v : Counts) → Grows w v → (e : Option Func) → ProgramFits v (k e)) → ProgramFits w (TellNeed number k)
  count_turn : {w : Counts} {p : Program} → ProgramFits w p → ProgramFits w (CountTurn p)
  listen : {w : Counts} {type : Name} {f : ℕ} {p : Program} → IsInReach w f → ProgramFits w p → ProgramFits w (Listen type f p)
  listeners : {w : Counts} {type : Name} {k : List ℕ → Program}
      → ((v : Counts) → Grows w v → (fs : List ℕ) → Each (IsInReach v) fs → ProgramFits v (k fs)) → ProgramFits w (Listeners type k)
  find : {w : Counts} {chain : List ℕ} {name : Name} {k : Option Value → Program} → Each (IsScope w) chain
      → ((v : Counts) → Grows w v → (found : Option Value) → IfAny (ValueFits v) found → ProgramFits v (k found)) → ProgramFits w (Find chain name k)
  write : {w : Counts} {chain : List ℕ} {name : Name} {a : Value} {p : Program} → Each (IsScope w) chain → ValueFits w a → ProgramFits w p → ProgramFits w (Write chain name a p)
  open_scope : {w : Counts} {names : List Name} {chain : List ℕ} {k : ℕ → Program} → Each (IsScope w) chain
      → ((v : Counts) → Grows w v → (scope : ℕ) → IsScope v scope → ProgramFits v (k scope)) → ProgramFits w (Open names chain k)
  fix : {w : Counts} {scope : ℕ} {p : Program} → IsScope w scope → ProgramFits w p → ProgramFits w (Fix scope p)
  activate : {w : Counts} {code : Func} {chain : List ℕ} {args : List Value} {k : ℕ → Program} → Each (IsScope w) chain → Each (ValueFits w) args
      → ((v : Counts) → Grows w v → (scope : ℕ) → IsScope v scope → ProgramFits v (k scope)) → ProgramFits w (Activate code chain args k)
  make : {w : Counts} {object : Object} {k : ℕ → Program} → ObjectFits w object
      → ((v : Counts) → Grows w v → (o : ℕ) → IsInReach v o → ProgramFits v (k o)) → ProgramFits w (Make object k)
  make_function : {w : Counts} {code : Func} {chain : List ℕ} {k : ℕ → Program} → Each (IsScope w) chain
      → ((v : Counts) → Grows w v → (o : ℕ) → IsInReach v o → ProgramFits v (k o)) → ProgramFits w (MakeFunction code chain k)
  make_new : {w : Counts} {f : ℕ} {k : ℕ → Program} → IsObject w f
      → ((v : Counts) → Grows w v → (o : ℕ) → IsInReach v o → ProgramFits v (k o)) → ProgramFits w (MakeNew f k)
  get : {w : Counts} {o : ℕ} {name : Name} {k : Option Value → Program} → IsObject w o
      → ((v : Counts) → Grows w v → (found : Option Value) → IfAny (ValueFits v) found → ProgramFits v (k found)) → ProgramFits w (Get o name k)
  put : {w : Counts} {o : ℕ} {name : Name} {a : Value} {k : Bool → Program} → IsObject w o → ValueFits w a
      → ((v : Counts) → Grows w v → (b : Bool) → ProgramFits v (k b)) → ProgramFits w (Put o name a k)
  delete : {w : Counts} {o : ℕ} {name : Name} {k : Bool → Program} → IsObject w o
      → ((v : Counts) → Grows w v → (b : Bool) → ProgramFits v (k b)) → ProgramFits w (Delete o name k)
  has : {w : Counts} {o : ℕ} {name : Name} {k : Bool → Program} → IsObject w o
      → ((v : Counts) → Grows w v → (b : Bool) → ProgramFits v (k b)) → ProgramFits w (Has o name k)
  define : {w : Counts} {o : ℕ} {name : Name} {a : Value} {attributes : Attrs} {p : Program} → IsObject w o → ValueFits w a → ProgramFits w p → ProgramFits w (Define o name a attributes p)
  own : {w : Counts} {o : ℕ} {name : Name} {k : Option Attrs → Program} → IsObject w o
      → ((v : Counts) → Grows w v → (attributes : Option Attrs) → ProgramFits v (k attributes)) → ProgramFits w (Own o name k)
  visible : {w : Counts} {o : ℕ} {k : List Visit → Program} → IsObject w o
      → ((v : Counts) → Grows w v → (visits : List Visit) → Each (VisitFits v) visits → ProgramFits v (k visits)) → ProgramFits w (Visible o k)
  kind_of : {w : Counts} {a : Value} {k : Kind → Program} → ValueFits w a
      → ((v : Counts) → Grows w v → (kind : Kind) → ProgramFits v (k kind)) → ProgramFits w (KindOf a k)
  compare : {w : Counts} {a b : Value} {k : Bool → Program} → ValueFits w a → ValueFits w b
      → ((v : Counts) → Grows w v → (same : Bool) → ProgramFits v (k same)) → ProgramFits w (Compare a b k)
  behind : {w : Counts} {o target : ℕ} {k : Bool → Program} → IsObject w o → IsObject w target
      → ((v : Counts) → Grows w v → (b : Bool) → ProgramFits v (k b)) → ProgramFits w (Behind o target k)

-- ---- what goes on with answers, from a world on

abbrev pub OnOutcomes : Counts → (Outcome → Program) → Type 0
OnOutcomes w k = (v : Counts) → Grows w v → (o : Outcome) → OutcomeFits v o → ProgramFits v (k o)

abbrev pub OnValues : Counts → (Value → Program) → Type 0
OnValues w k = (v : Counts) → Grows w v → (a : Value) → ValueFits v a → ProgramFits v (k a)

abbrev pub OnLists : Counts → (List Value → Program) → Type 0
OnLists w k = (v : Counts) → Grows w v → (vs : List Value) → Each (ValueFits v) vs → ProgramFits v (k vs)

abbrev pub OnObjects : Counts → (ℕ → Program) → Type 0
OnObjects w k = (v : Counts) → Grows w v → (o : ℕ) → IsInReach v o → ProgramFits v (k o)

-- with all of a type
abbrev pub OnAll : (A : Type 0) → Counts → (A → Program) → Type 0
OnAll A w k = (v : Counts) → Grows w v → (a : A) → ProgramFits v (k a)

-- ---- what waits

abbrev pub StackFits : Counts → List (Outcome → Program) → Type 0
StackFits w ks = Each (OnOutcomes w) ks

-- ---- a program that fits does so in every later world

pub later_program : {w : Counts} {p : Program} → ProgramFits w p → {v : Counts} → Grows w v → ProgramFits v p
later_program (ret o) g = ret (later_outcome g o)
later_program (begin env h) g = begin (later_env g env) (λ u f. h u (grows_on g f))
later_program (tail env) g = tail (later_env g env)
later_program (turn env) g = turn (later_env g env)
later_program (enter f this args h) g = enter (later_value g f) (later_value g this) (later_values g args) (λ u f. h u (grows_on g f))
later_program (tick p) g = tick (later_program p g)
later_program (under p h) g = under (later_program p g) (λ u f. h u (grows_on g f))
later_program stop g = stop
later_program broken g = broken
later_program (tell_call args h) g = tell_call (later_values g args) (λ u f. h u (grows_on g f))
later_program (tell_uncaught a p) g = tell_uncaught (later_value g a) (later_program p g)
later_program (tell_idle p) g = tell_idle (later_program p g)
later_program (tell_event p) g = tell_event (later_program p g)
later_program (tell_entry p) g = tell_entry (later_program p g)
later_program (tell_use p) g = tell_use (later_program p g)
later_program (tell_need h) g = tell_need (λ u f. h u (grows_on g f))
later_program (count_turn p) g = count_turn (later_program p g)
later_program (listen f p) g = listen (later_reach g f) (later_program p g)
later_program (listeners h) g = listeners (λ u f. h u (grows_on g f))
later_program (find chain h) g = find (later_chain g chain) (λ u f. h u (grows_on g f))
later_program (write chain a p) g = write (later_chain g chain) (later_value g a) (later_program p g)
later_program (open_scope chain h) g = open_scope (later_chain g chain) (λ u f. h u (grows_on g f))
later_program (fix scope p) g = fix (later_scope g scope) (later_program p g)
later_program (activate chain args h) g = activate (later_chain g chain) (later_values g args) (λ u f. h u (grows_on g f))
later_program (make object h) g = make (later_content g object) (λ u f. h u (grows_on g f))
later_program (make_function chain h) g = make_function (later_chain g chain) (λ u f. h u (grows_on g f))
later_program (make_new f h) g = make_new (later_object g f) (λ u f. h u (grows_on g f))
later_program (get o h) g = get (later_object g o) (λ u f. h u (grows_on g f))
later_program (put o a h) g = put (later_object g o) (later_value g a) (λ u f. h u (grows_on g f))
later_program (delete o h) g = delete (later_object g o) (λ u f. h u (grows_on g f))
later_program (has o h) g = has (later_object g o) (λ u f. h u (grows_on g f))
later_program (define o a p) g = define (later_object g o) (later_value g a) (later_program p g)
later_program (own o h) g = own (later_object g o) (λ u f. h u (grows_on g f))
later_program (visible o h) g = visible (later_object g o) (λ u f. h u (grows_on g f))
later_program (kind_of a h) g = kind_of (later_value g a) (λ u f. h u (grows_on g f))
later_program (compare a b h) g = compare (later_value g a) (later_value g b) (λ u f. h u (grows_on g f))
later_program (behind o target h) g = behind (later_object g o) (later_object g target) (λ u f. h u (grows_on g f))
