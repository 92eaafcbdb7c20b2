-- The meaning of each node, native and entry, as a program of asks: what is to be begun, entered, found or told next, and how it
-- goes on with the answer.
use Rattle.std.specs.Prelude.{ℕ, List, [], ◌∷◌, ◌++◌, Option, Some, None, cond}
use Rattle.std.specs.Str.{bytes_eq}
use Rattle.js_tree.specs.Tree
use Rattle.js_tree.specs.Tree.{Name, Expr, Exprs, NoExprs, MoreExprs, Stmt, Stmts, NoStmts, MoreStmts, Script, Func, Code, Do, Return, Declare, NoExpr, AnExpr}
use Rattle.js_tree.specs.declared.tree.Role.{Role}
use Rattle.js_tree.specs.declared.tree.Role.TheVariants.{Plain, Stub, Wrapper, Late}
use Rattle.first_grammar.specs.First.{out_name, apply_name}
use Rattle.play.specs.Value.{Value, Undefined, Text, Global, Host, HostCall, Apply, Closure, Arguments, values, items, Chain, FunctionScope, Outcome, Normal, Returned, Thrown, Env}

-- what is begun with a step
pub data Node : Type 0 where
  Expression : (e : Expr) → Node
  Statement : (s : Stmt) → Node
  ScriptCode : (script : Script) → Node

-- a program of asks. Begin, Enter and Tick take a step; no other ask does
pub data Program : Type 0 where
  Ret : (o : Outcome) → Program
  Begin : (node : Node) → (env : Env) → (k : Outcome → Program) → Program
  Enter : (f : Value) → (this : Value) → (args : List Value) → (k : Outcome → Program) → Program
  Tick : (p : Program) → Program
  -- a host call, an exception that left a script, and the end of the scripts
  Tell : (name : Name) → (args : List Value) → (k : Value → Program) → Program
  TellUncaught : (v : Value) → (p : Program) → Program
  TellIdle : (p : Program) → Program
  -- the entry of a numbered function, and the request of an entry of a cluster
  Beat : (number : ℕ) → (p : Program) → Program
  Need : (number : ℕ) → (p : Program) → Program
  -- the functions that a script declares become properties of the global object
  Define : (functions : List Func) → (p : Program) → Program
  Find : (chain : Chain) → (x : Name) → (k : Option Value → Program) → Program
  Get : (v : Value) → (x : Name) → (k : Option Value → Program) → Program
  -- a new error object
  Fail : (k : Value → Program) → Program
  -- the run cannot go on: an entry is not there, or the node is none of this grammar
  Stuck : Program

-- ---- continuations

-- goes on with an expression's value; an abrupt completion passes
abbrev pub on_value : (Value → Program) → Outcome → Program
on_value k (Normal v) = k v
on_value k (Returned v) = Ret (Returned v)
on_value k (Thrown v) = Ret (Thrown v)

-- goes on after a statement; an abrupt completion passes (12.1)
abbrev pub after_statement : Program → Outcome → Program
after_statement rest (Normal v) = rest
after_statement rest (Returned v) = Ret (Returned v)
after_statement rest (Thrown v) = Ret (Thrown v)

abbrev pub gives : Value → Program
gives v = Ret (Normal v)

abbrev pub returns : Value → Program
returns v = Ret (Returned v)

abbrev pub throws : Program
throws = Fail (λ e. Ret (Thrown e))

-- ---- expressions (11)

-- the arguments from the left, after those that stand in done (11.2.4)
abbrev pub arguments : Exprs → Env → List Value → (List Value → Program) → Program
arguments NoExprs env done k = k done
arguments (MoreExprs e es) env done k = Begin (Expression e) env (on_value (λ v. arguments es env (done ++ v ∷ []) k))

-- the value of a reference without a base is a ReferenceError (8.7.1)
abbrev pub on_found : (Value → Program) → Option Value → Program
on_found k None = throws
on_found k (Some v) = k v

-- a call of a reference by its name: `this` is the global object (11.2.3)
abbrev pub call_found : Exprs → Env → Option Value → Program
call_found args env found = arguments args env [] (λ vs. on_found (λ f. Enter f Global vs Ret) found)

-- a call of an object's property, which is read after the arguments (11.2.3, 8.7.1)
abbrev pub call_property : Name → Exprs → Env → Value → Program
call_property x args env object = arguments args env [] (λ vs. Get object x (on_found (λ f. Enter f object vs Ret)))

-- a new function of an entry, whose scope is the current one (13.2)
abbrev pub late : Option Func → Env → Program
late None env = Stuck
late (Some f) env = gives (Closure f env.chain)

abbrev pub call : Expr → Exprs → Env → Program
call (Tree.Ident x) args env = Tick (Find env.chain x (call_found args env))
call (Tree.Dot object x) args env = Tick (Begin (Expression object) env (on_value (call_property x args env)))
call _ args env = Stuck

abbrev pub expression : (ℕ → Option Func) → Expr → Env → Program
-- 7.8.4
expression entries (Tree.Str units) env = gives (Text units)
-- 11.1.1
expression entries Tree.This env = gives env.this
-- 11.1.2, 10.1.4
expression entries (Tree.Ident x) env = Find env.chain x (on_found gives)
-- 11.2.1
expression entries (Tree.Dot object x) env = Begin (Expression object) env (on_value (λ o. Get o x (on_found gives)))
-- 11.2.3
expression entries (Tree.Call callee args) env = call callee args env
expression entries (Tree.Late k) env = Need k (late (entries k) env)
expression entries _ env = Stuck

-- ---- statements (12)

abbrev pub return_value : Tree.MaybeExpr → Env → Program
return_value NoExpr env = returns Undefined
return_value (AnExpr e) env = Begin (Expression e) env (on_value returns)

abbrev pub statement : Stmt → Env → Program
-- 12.4
statement (Do e) env = Begin (Expression e) env (on_value gives)
-- 12.9
statement (Return value) env = return_value value env
statement _ env = Stuck

-- a declaration does nothing where it stands (14)
abbrev pub begin_statement : Stmt → Env → Program → Program
begin_statement (Declare f) env rest = rest
begin_statement s env rest = Begin (Statement s) env (after_statement rest)

-- 12.1, 14
abbrev pub statements : Stmts → Env → Program
statements NoStmts env = Ret (Normal Undefined)
statements (MoreStmts s ss) env = begin_statement s env (statements ss env)

-- ---- entries

-- the functions that a script declares, in the order of the text (10.1.3)
abbrev pub declared_by : Stmt → List Func → List Func
declared_by (Declare f) fs = f ∷ fs
declared_by _ fs = fs

abbrev pub declared : Script → List Func
declared NoStmts = []
declared (MoreStmts s ss) = declared_by s (declared ss)

abbrev pub program : (ℕ → Option Func) → Node → Env → Program
program entries (Expression e) env = expression entries e env
program entries (Statement s) env = statement s env
program entries (ScriptCode script) env = Define (declared script) (statements script env)

-- what a call gives, by the completion of the function's body (13.2.1)
abbrev pub call_value : Outcome → Outcome
call_value (Normal v) = Normal Undefined
call_value (Returned v) = Normal v
call_value (Thrown v) = Thrown v

abbrev pub finish : Outcome → Program
finish o = Ret (call_value o)

-- a function's body in a new scope (10.1.6, 10.2.3)
abbrev pub body_of : Func → Chain → Value → List Value → Program
body_of (Code number name formals body role) chain this args =
    statements body (record { chain = FunctionScope (values args) chain; this = this })

-- the entry of a late function or of a wrapper has no beat and no mark
abbrev pub opened_as : Role → ℕ → Program → Program
opened_as Plain number body = Beat number body
opened_as Stub number body = Beat number body
opened_as Wrapper number body = body
opened_as Late number body = body

abbrev pub opened : Func → Program → Program
opened (Code number name formals body role) p = opened_as role number p

abbrev pub ticks : List Value → Program → Program
ticks [] p = p
ticks (v ∷ vs) p = Tick (ticks vs p)

-- an undefined `this` of `apply` is the global object (15.3.4.3)
abbrev pub this_of : Value → Value
this_of Undefined = Global
this_of v = v

-- the array of arguments of `apply`: none where it is no `arguments` and not undefined (15.3.4.3)
abbrev pub array_of : Value → Option (List Value)
array_of Undefined = Some []
array_of (Arguments vs) = Some (items vs)
array_of _ = None

abbrev pub apply_array : Value → Value → Option (List Value) → Program
apply_array f this None = throws
apply_array f this (Some vs) = ticks vs (Enter f (this_of this) vs Ret)

-- the native `apply`: one step for each argument, and the call (15.3.4.3)
abbrev pub applied : Value → List Value → Program
applied f [] = Enter f Global [] Ret
applied f (this ∷ []) = Enter f (this_of this) [] Ret
applied f (this ∷ array ∷ more) = apply_array f this (array_of array)

-- what an entry runs after its step, and what follows it before the caller; none where the value is no function
abbrev pub entry : Value → Value → List Value → Option (Program × List (Outcome → Program))
entry (Closure f chain) this args = Some (opened f (body_of f chain this args), finish ∷ [])
entry Apply this args = Some (applied this args, [])
entry (HostCall name) this args = Some (Tell name args gives, [])
entry _ this args = None

-- ---- properties

-- the property of an object (8.6.2.1); none where the value is no object (9.9)
abbrev pub property : Value → Name → Option Value
property Undefined x = None
property Host x = Some (cond (bytes_eq x out_name) (HostCall out_name) Undefined)
property (Closure f chain) x = Some (cond (bytes_eq x apply_name) Apply Undefined)
property _ x = Some Undefined

-- ---- a page

-- after the script: an uncaught exception ends it alone
abbrev pub after_script : Outcome → Program
after_script (Normal v) = TellIdle (gives Undefined)
after_script (Returned v) = TellIdle (gives Undefined)
after_script (Thrown v) = TellUncaught v (TellIdle (gives Undefined))
