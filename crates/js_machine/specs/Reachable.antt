-- What every state that a run reaches keeps: prototypes and parents were made before, each number in
-- it is that of an object or a scope that is there, and no script has Function.prototype.
use Rattle.std.specs.Prelude.{◌≡◌, ◌≢◌, ℕ, ◌<◌, Bool, List, [], ◌∷◌, length, Option, Some, None}
use Rattle.js_values.specs.declared.number.Num.{Num}
use Rattle.js_values.specs.declared.reason.Reason.{Reason}
use Rattle.js_values.specs.declared.value.ObjectId.{ObjectId}
use Rattle.js_values.specs.declared.value.Value.{Value}
use Rattle.js_values.specs.declared.value.Value.TheVariants as value
use Rattle.js_values.specs.Values.{IsPrimitive}
use Rattle.exceptions_core.specs.declared.completion.Completion.{Completion}
use Rattle.exceptions_core.specs.declared.completion.Completion.TheVariants as completion
use Rattle.object_heap.specs.declared.built_in.BuiltIn.TheVariants as built
use Rattle.object_heap.specs.BuiltIns.{number_of}
use Rattle.object_heap.specs.Laws.{PrototypesComeBefore, IsNowhereHeld}
use Rattle.object_heap.specs.Names.{Name}
use Rattle.object_heap.specs.Objects.{Slot, Holds, Shares, Property, Object, Heap}
use Rattle.scope_arena.specs.Laws.{ParentsComeBefore}
use Rattle.scope_arena.specs.Scopes.{Binding, Scope, Scopes}
use Rattle.js_tree.specs.Tree.{Func, Script}
use Rattle.js_machine.specs.Asks.{Node, Env, Outcome, Gives, Ends}
use Rattle.js_machine.specs.Laws.{mean}
use Rattle.js_machine.specs.Logs.{last_state}
use Rattle.js_machine.specs.Page.{Page, state_at_start, script_env, page_run}
use Rattle.js_machine.specs.Run.{World, Mark, Trace, Say, End, Stopped, NoEntry, OutOfSteps}
use Rattle.js_machine.specs.State.{Body, OfScript, OfHost, State}

-- ---- lists and options of what is so

pub data Each {A : Type 0} (P : A → Type 0) : List A → Type 0 where
  empty : Each P []
  more : {x : A} {xs : List A} → P x → Each P xs → Each P (x ∷ xs)

pub data IfAny {A : Type 0} (P : A → Type 0) : Option A → Type 0 where
  nothing : IfAny P None
  just : {x : A} → P x → IfAny P (Some x)

-- ---- what is there

-- how many objects and how many scopes; the objects of the start are among them
pub record Counts : Type 0 where
  pub objects : ℕ
  pub scopes : ℕ
  pub start : number_of built.On < objects

-- an object that is there
pub record IsObject (here : Counts) (o : ℕ) : Type 0 where
  pub is : o < here.objects

-- one that a script can have: it is never Function.prototype
pub record IsInReach (here : Counts) (o : ℕ) : Type 0 where
  pub is : o < here.objects
  pub other : o ≢ number_of built.FunctionPrototype

-- a scope that is there
pub record IsScope (here : Counts) (scope : ℕ) : Type 0 where
  pub is : scope < here.scopes

-- ---- what fits here: the objects and scopes that it names are there, and no value in it is
-- Function.prototype

pub data ValueFits (here : Counts) : Value → Type 0 where
  undefined : ValueFits here value.Undefined
  null : ValueFits here value.Null
  bool : {b : Bool} → ValueFits here (value.Bool b)
  num : {n : Num} → ValueFits here (value.Num n)
  str : {text : List ℕ} → ValueFits here (value.Str text)
  object : {o : ObjectId} → IsInReach here o.0 → ValueFits here (value.Object o)

pub data SlotFits (here : Counts) : Slot → Type 0 where
  holds : {v : Value} → ValueFits here v → SlotFits here (Holds v)
  shares : {scope place : ℕ} → IsScope here scope → SlotFits here (Shares scope place)

pub record PropertyFits (here : Counts) (p : Property) : Type 0 where
  pub slot : SlotFits here p.slot

-- its prototype may be Function.prototype, which is then no value
pub record ObjectFits (here : Counts) (o : Object) : Type 0 where
  pub prototype : IfAny (IsObject here) o.prototype
  pub properties : Each (PropertyFits here) o.properties

pub record BindingFits (here : Counts) (b : Binding) : Type 0 where
  pub value : ValueFits here b.value

pub record ScopeFits (here : Counts) (scope : Scope) : Type 0 where
  pub bindings : Each (BindingFits here) scope.bindings
  pub parent : IfAny (IsScope here) scope.parent

pub data BodyFits (here : Counts) : Body → Type 0 where
  of_script : {code : Func} {chain : List ℕ}
      → Each (IsScope here) chain → BodyFits here (OfScript code chain)
  of_host : {name : Name} → BodyFits here (OfHost name)

-- a function with its body
pub record FunctionFits (here : Counts) (f : ℕ × Body) : Type 0 where
  pub object : IsInReach here f.0
  pub body : BodyFits here f.1

pub record ListenerFits (here : Counts) (listener : Name × ℕ) : Type 0 where
  pub function : IsInReach here listener.1

-- ---- states

pub record HeapFits (here : Counts) (heap : Heap) : Type 0 where
  pub count : here.objects ≡ length heap
  pub before : PrototypesComeBefore heap
  pub each : Each (ObjectFits here) heap

pub record ScopesFit (here : Counts) (scopes : Scopes) : Type 0 where
  pub count : here.scopes ≡ length scopes
  pub before : ParentsComeBefore scopes
  pub each : Each (ScopeFits here) scopes

pub record StateFits (here : Counts) (s : State) : Type 0 where
  pub heap : HeapFits here s.heap
  pub scopes : ScopesFit here s.scopes
  pub bodies : Each (FunctionFits here) s.bodies
  pub listeners : Each (ListenerFits here) s.listeners
  pub passed : Each (IsInReach here) s.passed

pub record Keeps (s : State) : Type 0 where
  pub here : Counts
  pub fits : StateFits here s
  -- in the words of the law of heaps
  pub not_held : IsNowhereHeld (number_of built.FunctionPrototype) s.heap

-- ---- where a node stands, and how it ends

pub record EnvFits (here : Counts) (env : Env) : Type 0 where
  pub chain : Each (IsScope here) env.chain
  pub this : ValueFits here env.this

pub data CompletionFits (here : Counts) : Completion → Type 0 where
  normal : CompletionFits here completion.Normal
  a_break : {label : Option Name} → CompletionFits here (completion.Break label)
  a_continue : {label : Option Name} → CompletionFits here (completion.Continue label)
  a_return : {v : Value} → ValueFits here v → CompletionFits here (completion.Return v)
  a_throw : {v : Value} → ValueFits here v → CompletionFits here (completion.Throw v)

pub data OutcomeFits (here : Counts) : Outcome → Type 0 where
  gives : {v : Value} → ValueFits here v → OutcomeFits here (Gives v)
  ends : {c : Completion} → CompletionFits here c → OutcomeFits here (Ends c)

-- a run that ends in such a state, and with such an outcome, if it has one
pub data KeepsToTheEnd : Trace → Type 0 where
  says : {mark : Mark} {steps : ℕ} {rest : Trace}
      → KeepsToTheEnd rest → KeepsToTheEnd (Say mark steps rest)
  ended : {o : Outcome} {s : State}
      → (keeps : Keeps s) → OutcomeFits keeps.here o → KeepsToTheEnd (End o s)
  stopped : {reason : Reason} {s : State} → Keeps s → KeepsToTheEnd (Stopped reason s)
  without_entry : {s : State} → Keeps s → KeepsToTheEnd (NoEntry s)
  out_of_steps : {s : State} → Keeps s → KeepsToTheEnd (OutOfSteps s)

-- ---- the laws

-- what the host answers is no object
abbrev pub RepliesArePrimitive : List (Name × List Value) → Type 0
RepliesArePrimitive replies = Each (λ r. Each IsPrimitive r.1) replies

-- nor is the value of an event
abbrev pub EventsArePrimitive : List (Name × Value) → Type 0
EventsArePrimitive events = Each (λ e. IsPrimitive e.1) events

-- of a page, original or written, under any number of steps: so in each state in which one is due
abbrev pub PagesKeep : Type 0
PagesKeep =
    (entries : List (ℕ × Func)) (all : List Script) (page : Page) (n : ℕ)
    → RepliesArePrimitive page.replies → EventsArePrimitive page.events
    → Keeps (last_state (page_run entries all page n))

-- of a node, wherever it stands: no value that it gives, returns or throws is Function.prototype
abbrev pub NodesKeep : Type 0
NodesKeep =
    (world : World) (node : Node) (env : Env) (s : State) (n : ℕ)
    → RepliesArePrimitive world.replies
    → (keeps : Keeps s) → EnvFits keeps.here env → KeepsToTheEnd (mean world node env s n)

-- so do the scripts of a page, which begin in such a state
abbrev pub ScriptsBegin : Type 0
ScriptsBegin =
    (host : List Name) → (keeps : Keeps (state_at_start host)) × EnvFits keeps.here script_env
