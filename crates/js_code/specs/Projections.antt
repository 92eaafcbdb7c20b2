-- The parts of nodes of one kind, and None of any other.
use Rattle.std.specs.Prelude.{ℕ, List, Option, Some, None}
use Rattle.js_tree.specs.declared.tree.Role.{Role}
use Rattle.js_tree.specs.Tree.{Name, Expr, MaybeExpr, NoExpr, AnExpr, Stmt, MaybeStmt, Stmts}
use Rattle.js_tree.specs.Tree.{Handler, ForTarget, Func, Code}
use Rattle.js_tree.specs.Tree as plain

-- ---- ES3 11.12

pub record CondTree : Type 0 where
  pub test : Expr
  pub first : Expr
  pub second : Expr

abbrev pub cond_parts : Expr → Option CondTree
cond_parts (plain.Num n) = None
cond_parts (plain.Str text) = None
cond_parts (plain.Truth b) = None
cond_parts plain.Null = None
cond_parts plain.This = None
cond_parts (plain.Ident name) = None
cond_parts (plain.Array es) = None
cond_parts (plain.Object ps) = None
cond_parts (plain.Function f) = None
cond_parts (plain.Dot object name) = None
cond_parts (plain.Index object key) = None
cond_parts (plain.Call callee es) = None
cond_parts (plain.New callee es) = None
cond_parts (plain.Postfix target op) = None
cond_parts (plain.Prefix op operand) = None
cond_parts (plain.Binary op left right) = None
cond_parts (plain.And left right) = None
cond_parts (plain.Or left right) = None
cond_parts (plain.Comma left right) = None
cond_parts (plain.Cond test first second) =
    Some (record { test = test; first = first; second = second })
cond_parts (plain.Assign op target value) = None
cond_parts (plain.Late k) = None

-- ---- ES3 12.5

pub record IfTree : Type 0 where
  pub test : Expr
  pub first : Stmt
  pub second : MaybeStmt

abbrev pub if_parts : Stmt → Option IfTree
if_parts (plain.Block body) = None
if_parts (plain.Variables items) = None
if_parts plain.Empty = None
if_parts (plain.Do e) = None
if_parts (plain.If test first second) =
    Some (record { test = test; first = first; second = second })
if_parts (plain.DoWhile body test) = None
if_parts (plain.While test body) = None
if_parts (plain.For init test update body) = None
if_parts (plain.ForIn target object body) = None
if_parts (plain.Continue label) = None
if_parts (plain.Break label) = None
if_parts (plain.Return value) = None
if_parts (plain.Switch value cases) = None
if_parts (plain.Label name body) = None
if_parts (plain.Throw e) = None
if_parts (plain.Try block caught last) = None
if_parts (plain.Declare f) = None
if_parts (plain.Used n) = None

-- ---- ES3 12.6.1 to 12.6.3: the test, what is done between turns, and the body

pub record LoopTree : Type 0 where
  pub test : MaybeExpr
  pub update : MaybeExpr
  pub body : Stmt

abbrev pub loop_parts : Stmt → Option LoopTree
loop_parts (plain.Block body) = None
loop_parts (plain.Variables items) = None
loop_parts plain.Empty = None
loop_parts (plain.Do e) = None
loop_parts (plain.If test first second) = None
loop_parts (plain.DoWhile body test) =
    Some (record { test = AnExpr test; update = NoExpr; body = body })
loop_parts (plain.While test body) =
    Some (record { test = AnExpr test; update = NoExpr; body = body })
loop_parts (plain.For init test update body) =
    Some (record { test = test; update = update; body = body })
loop_parts (plain.ForIn target object body) = None
loop_parts (plain.Continue label) = None
loop_parts (plain.Break label) = None
loop_parts (plain.Return value) = None
loop_parts (plain.Switch value cases) = None
loop_parts (plain.Label name body) = None
loop_parts (plain.Throw e) = None
loop_parts (plain.Try block caught last) = None
loop_parts (plain.Declare f) = None
loop_parts (plain.Used n) = None

-- ---- ES3 12.6.4

pub record ForInTree : Type 0 where
  pub target : ForTarget
  pub object : Expr
  pub body : Stmt

abbrev pub for_in_parts : Stmt → Option ForInTree
for_in_parts (plain.Block body) = None
for_in_parts (plain.Variables items) = None
for_in_parts plain.Empty = None
for_in_parts (plain.Do e) = None
for_in_parts (plain.If test first second) = None
for_in_parts (plain.DoWhile body test) = None
for_in_parts (plain.While test body) = None
for_in_parts (plain.For init test update body) = None
for_in_parts (plain.ForIn target object body) =
    Some (record { target = target; object = object; body = body })
for_in_parts (plain.Continue label) = None
for_in_parts (plain.Break label) = None
for_in_parts (plain.Return value) = None
for_in_parts (plain.Switch value cases) = None
for_in_parts (plain.Label name body) = None
for_in_parts (plain.Throw e) = None
for_in_parts (plain.Try block caught last) = None
for_in_parts (plain.Declare f) = None
for_in_parts (plain.Used n) = None

-- ---- ES3 12.14

pub record TryTree : Type 0 where
  pub block : Stmt
  pub handler : Handler
  pub last : MaybeStmt

abbrev pub try_parts : Stmt → Option TryTree
try_parts (plain.Block body) = None
try_parts (plain.Variables items) = None
try_parts plain.Empty = None
try_parts (plain.Do e) = None
try_parts (plain.If test first second) = None
try_parts (plain.DoWhile body test) = None
try_parts (plain.While test body) = None
try_parts (plain.For init test update body) = None
try_parts (plain.ForIn target object body) = None
try_parts (plain.Continue label) = None
try_parts (plain.Break label) = None
try_parts (plain.Return value) = None
try_parts (plain.Switch value cases) = None
try_parts (plain.Label name body) = None
try_parts (plain.Throw e) = None
try_parts (plain.Try block handler last) =
    Some (record { block = block; handler = handler; last = last })
try_parts (plain.Declare f) = None
try_parts (plain.Used n) = None

-- ---- ES3 13: the function that a declaration declares

abbrev pub declaration : Stmt → Option Func
declaration (plain.Block body) = None
declaration (plain.Variables items) = None
declaration plain.Empty = None
declaration (plain.Do e) = None
declaration (plain.If test first second) = None
declaration (plain.DoWhile body test) = None
declaration (plain.While test body) = None
declaration (plain.For init test update body) = None
declaration (plain.ForIn target object body) = None
declaration (plain.Continue label) = None
declaration (plain.Break label) = None
declaration (plain.Return value) = None
declaration (plain.Switch value cases) = None
declaration (plain.Label name body) = None
declaration (plain.Throw e) = None
declaration (plain.Try block caught last) = None
declaration (plain.Declare f) = Some f
declaration (plain.Used n) = None

-- ---- the parts of a function

abbrev pub number_of : Func → ℕ
number_of (Code number name formals body role) = number

abbrev pub name_of : Func → Option Name
name_of (Code number name formals body role) = name

abbrev pub formals_of : Func → List Name
formals_of (Code number name formals body role) = formals

abbrev pub body_of : Func → Stmts
body_of (Code number name formals body role) = body

abbrev pub role_of : Func → Role
role_of (Code number name formals body role) = role
