-- What the meaning of a node asks for, one thing after another, and how it goes on with each
-- answer. A run answers the asks (`Run.antt`).
use Rattle.std.specs.Prelude.{ℕ, Bool, List, Option}
use Rattle.js_values.specs.declared.value.Value.{Value}
use Rattle.js_values.specs.declared.reason.Reason.{Reason}
use Rattle.object_heap.specs.declared.object.Attrs.{Attrs}
use Rattle.object_heap.specs.declared.object.Class.{Class}
use Rattle.object_heap.specs.declared.built_in.BuiltIn.{BuiltIn}
use Rattle.object_heap.specs.Names.{Name}
use Rattle.object_heap.specs.Objects.{Object}
use Rattle.object_heap.specs.Visited.{Visit}
use Rattle.exceptions_core.specs.declared.completion.Completion.{Completion}
use Rattle.js_tree.specs.Tree.{Expr, MaybeExpr, Stmt, Func, Script}

-- ---- where a node stands

-- its execution context (ES3 10): the chain of scopes, innermost first, and `this`
pub record Env : Type 0 where
  pub chain : List ℕ
  pub this : Value

-- what is begun
pub data Node : Type 0 where
  AnExpr : (e : Expr) → Node
  -- with the labels that stand before it (ES3 12.12)
  AStmt : (labels : List Name) → (s : Stmt) → Node
  -- the body of a loop, for one turn
  ATurn : (body : Stmt) → Node
  AScript : (script : Script) → Node

-- a loop with a test or none: what is done between its turns, and its body (ES3 12.6.1 to 12.6.3)
pub record Loop : Type 0 where
  pub labels : List Name
  pub test : MaybeExpr
  pub update : MaybeExpr
  pub body : Stmt

-- ---- how a node ends

pub data Outcome : Type 0 where
  -- an expression has a value
  Gives : (v : Value) → Outcome
  -- a statement completes (ES3 8.9), or an expression throws
  Ends : (c : Completion) → Outcome

-- ---- what a value is, as far as clauses ask

pub data Kind : Type 0 where
  NotObject : Kind
  NotFunction : (class : Class) → Kind
  ScriptFunction : Kind
  NativeFunction : (b : BuiltIn) → Kind
  HostFunction : Kind

-- ---- asks

pub data Program : Type 0 where
  -- the outcome of what was begun
  Ret : (o : Outcome) → Program
  -- these five take a step: a node is begun, a node is begun that ends as the running one does, a
  -- turn of a loop begins, a function is entered (where it is none, that is a TypeError without a
  -- step), and a step of its own
  Begin : (node : Node) → (env : Env) → (k : Outcome → Program) → Program
  Tail : (node : Node) → (env : Env) → Program
  Turn : (loop : Loop) → (env : Env) → Program
  Enter : (f : Value) → (this : Value) → (args : List Value) → (k : Outcome → Program) → Program
  Tick : (p : Program) → Program
  -- p runs, and k goes on with its outcome
  Under : (p : Program) → (k : Outcome → Program) → Program
  -- a stop (no `catch` and no `finally` sees it), and an entry that is not there
  Stop : (reason : Reason) → Program
  Broken : Program
  -- marks: a host call, which is answered; an exception that was not caught; after the scripts; an
  -- event; the entry of a numbered function, which is a beat; `$dl_use`; an entry that is needed,
  -- which is answered where it is there
  TellCall : (name : Name) → (args : List Value) → (k : Value → Program) → Program
  TellUncaught : (v : Value) → (p : Program) → Program
  TellIdle : (p : Program) → Program
  TellEvent : (number : ℕ) → (p : Program) → Program
  TellEntry : (number : ℕ) → (p : Program) → Program
  TellUse : (number : ℕ) → (p : Program) → Program
  TellNeed : (number : ℕ) → (k : Option Func → Program) → Program
  -- a turn of a loop is a beat too
  CountTurn : (p : Program) → Program
  -- listeners: one more, and those of a type
  Listen : (type : Name) → (f : ℕ) → (p : Program) → Program
  Listeners : (type : Name) → (k : List ℕ → Program) → Program
  -- scopes: the value of a name along a chain, if a scope has it; a write to such a name; a new
  -- scope, whose names are undefined; names that are read-only from now on
  Find : (chain : List ℕ) → (name : Name) → (k : Option Value → Program) → Program
  Write : (chain : List ℕ) → (name : Name) → (v : Value) → (p : Program) → Program
  Open : (names : List Name) → (chain : List ℕ) → (k : ℕ → Program) → Program
  Fix : (scope : ℕ) → (p : Program) → Program
  -- what the entry of a function binds: the answer is the scope of its body
  Activate : (code : Func) → (chain : List ℕ) → (args : List Value) → (k : ℕ → Program) → Program
  -- objects: a new one, a new function of a script, and the one that `new` makes of a function
  Make : (object : Object) → (k : ℕ → Program) → Program
  MakeFunction : (code : Func) → (chain : List ℕ) → (k : ℕ → Program) → Program
  MakeNew : (f : ℕ) → (k : ℕ → Program) → Program
  -- [[Get]], None where no property is met; [[Put]], false where a RangeError is due; [[Delete]];
  -- [[HasProperty]]
  Get : (o : ℕ) → (name : Name) → (k : Option Value → Program) → Program
  Put : (o : ℕ) → (name : Name) → (v : Value) → (k : Bool → Program) → Program
  Delete : (o : ℕ) → (name : Name) → (k : Bool → Program) → Program
  Has : (o : ℕ) → (name : Name) → (k : Bool → Program) → Program
  -- a property with its attributes; the attributes of an own property
  Define : (o : ℕ) → (name : Name) → (v : Value) → (attributes : Attrs) → (p : Program) → Program
  Own : (o : ℕ) → (name : Name) → (k : Option Attrs → Program) → Program
  -- the names that a `for-in` visits
  Visible : (o : ℕ) → (k : List Visit → Program) → Program
  -- what a value is; whether two are the same; whether an object stands behind another
  KindOf : (v : Value) → (k : Kind → Program) → Program
  Compare : (v : Value) → (w : Value) → (k : Bool → Program) → Program
  Behind : (o : ℕ) → (target : ℕ) → (k : Bool → Program) → Program
