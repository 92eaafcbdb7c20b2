-- One node of each kind as it is declared, and what its plain tree is.
use Rattle.std.specs.Prelude.{true, List, [], ◌∷◌, codes, Some, None}
use Rattle.js_tree.specs.declared.tree.BinaryOp.TheVariants.{Subtract}
use Rattle.js_tree.specs.declared.tree.PrefixOp.TheVariants.{Minus}
use Rattle.js_tree.specs.declared.tree.PostfixOp.TheVariants.{Decrement}
use Rattle.js_tree.specs.declared.tree.Role.TheVariants.{Stub}
use Rattle.js_tree.specs.declared.tree.Expr.TheOpen.{Expr-F, ForInit-F, ForTarget-F, Stmt-F, Case-F, Func-F, Pair-F, VarItem-F}
use Rattle.js_tree.specs.Tree.{Name, Expr, Stmt, Func, ForInit, ForTarget}
use Rattle.js_tree.specs.Tree as tree
use Rattle.js_tree.specs.Plain.{VarPart, CasePart, PairPart}

abbrev pub x : Name
x = codes "x"

abbrev pub y : Name
y = codes "y"

abbrev pub a : Expr
a = tree.Num 1

abbrev pub b : Expr
b = tree.Num 2

abbrev pub c : Expr
c = tree.Num 3

abbrev pub then : Stmt
then = tree.Do (tree.Num 4)

abbrev pub other : Stmt
other = tree.Do (tree.Num 5)

abbrev pub code : Func
code = tree.Code 6 (Some x) (y ∷ []) tree.NoStmts Stub

abbrev pub OpenExpr : Type 0
OpenExpr = Expr-F Expr ForInit ForTarget Stmt CasePart Func PairPart VarPart

abbrev pub OpenStmt : Type 0
OpenStmt = Stmt-F Expr ForInit ForTarget Stmt CasePart Func PairPart VarPart

abbrev pub expressions : List OpenExpr
expressions =
    Expr-F.Num 7
    ∷ Expr-F.Str x
    ∷ Expr-F.Bool true
    ∷ Expr-F.Null
    ∷ Expr-F.This
    ∷ Expr-F.Name y
    ∷ Expr-F.Array (Some a ∷ None ∷ Some b ∷ [])
    ∷ Expr-F.Object (record { key = x; value = a } ∷ record { key = y; value = b } ∷ [])
    ∷ Expr-F.Func code
    ∷ Expr-F.Dot a y
    ∷ Expr-F.Index a b
    ∷ Expr-F.Call a (b ∷ c ∷ [])
    ∷ Expr-F.New a (b ∷ c ∷ [])
    ∷ Expr-F.Postfix a Decrement
    ∷ Expr-F.Prefix Minus a
    ∷ Expr-F.Binary Subtract a b
    ∷ Expr-F.And a b
    ∷ Expr-F.Or a b
    ∷ Expr-F.Comma a b
    ∷ Expr-F.Cond a b c
    ∷ Expr-F.Assign (Some Subtract) a b
    ∷ Expr-F.Late 8
    ∷ []

abbrev pub plain_expressions : List Expr
plain_expressions =
    tree.Num 7
    ∷ tree.Str x
    ∷ tree.Truth true
    ∷ tree.Null
    ∷ tree.This
    ∷ tree.Ident y
    ∷ tree.Array
    (tree.MoreElements (tree.AnExpr a)
    (tree.MoreElements tree.NoExpr (tree.MoreElements (tree.AnExpr b) tree.NoElements)))
    ∷ tree.Object (tree.MorePairs x a (tree.MorePairs y b tree.NoPairs))
    ∷ tree.Function code
    ∷ tree.Dot a y
    ∷ tree.Index a b
    ∷ tree.Call a (tree.MoreExprs b (tree.MoreExprs c tree.NoExprs))
    ∷ tree.New a (tree.MoreExprs b (tree.MoreExprs c tree.NoExprs))
    ∷ tree.Postfix a Decrement
    ∷ tree.Prefix Minus a
    ∷ tree.Binary Subtract a b
    ∷ tree.And a b
    ∷ tree.Or a b
    ∷ tree.Comma a b
    ∷ tree.Cond a b c
    ∷ tree.Assign (Some Subtract) a b
    ∷ tree.Late 8
    ∷ []

-- ---- statements

abbrev pub item : VarPart
item = record { name = x; value = tree.AnExpr a }

abbrev pub bare_item : VarPart
bare_item = record { name = y; value = tree.NoExpr }

abbrev pub clause : CasePart
clause = record { test = tree.AnExpr b; body = tree.MoreStmts then tree.NoStmts }

abbrev pub default_clause : CasePart
default_clause = record { test = tree.NoExpr; body = tree.NoStmts }

abbrev pub two_items : tree.VarItems
two_items = tree.MoreVarItems x (tree.AnExpr a) (tree.MoreVarItems y tree.NoExpr tree.NoVarItems)

abbrev pub statements : List OpenStmt
statements =
    Stmt-F.Block (then ∷ other ∷ [])
    ∷ Stmt-F.«Stmt::Var» (item ∷ bare_item ∷ [])
    ∷ Stmt-F.Empty
    ∷ Stmt-F.Do a
    ∷ Stmt-F.If a then (Some other)
    ∷ Stmt-F.If a then None
    ∷ Stmt-F.DoWhile then a
    ∷ Stmt-F.While a then
    ∷ Stmt-F.For (tree.First a) (Some b) (Some c) then
    ∷ Stmt-F.For tree.Nothing (Some b) None then
    ∷ Stmt-F.ForIn (tree.Target a) b then
    ∷ Stmt-F.Continue None
    ∷ Stmt-F.Continue (Some x)
    ∷ Stmt-F.Break None
    ∷ Stmt-F.Break (Some x)
    ∷ Stmt-F.Return None
    ∷ Stmt-F.Return (Some a)
    ∷ Stmt-F.Switch a (clause ∷ default_clause ∷ [])
    ∷ Stmt-F.Label x then
    ∷ Stmt-F.Throw a
    ∷ Stmt-F.Try then (Some (x, other)) None
    ∷ Stmt-F.Try then None (Some other)
    ∷ Stmt-F.Declare code
    ∷ Stmt-F.Used 9
    ∷ []

abbrev pub plain_statements : List Stmt
plain_statements =
    tree.Block (tree.MoreStmts then (tree.MoreStmts other tree.NoStmts))
    ∷ tree.Variables two_items
    ∷ tree.Empty
    ∷ tree.Do a
    ∷ tree.If a then (tree.AStmt other)
    ∷ tree.If a then tree.NoStmt
    ∷ tree.DoWhile then a
    ∷ tree.While a then
    ∷ tree.For (tree.First a) (tree.AnExpr b) (tree.AnExpr c) then
    ∷ tree.For tree.Nothing (tree.AnExpr b) tree.NoExpr then
    ∷ tree.ForIn (tree.Target a) b then
    ∷ tree.Continue None
    ∷ tree.Continue (Some x)
    ∷ tree.Break None
    ∷ tree.Break (Some x)
    ∷ tree.Return tree.NoExpr
    ∷ tree.Return (tree.AnExpr a)
    ∷ tree.Switch a
    (tree.MoreCases (tree.AnExpr b) (tree.MoreStmts then tree.NoStmts)
    (tree.MoreCases tree.NoExpr tree.NoStmts tree.NoCases))
    ∷ tree.Label x then
    ∷ tree.Throw a
    ∷ tree.Try then (tree.ACatch x other) tree.NoStmt
    ∷ tree.Try then tree.NoHandler (tree.AStmt other)
    ∷ tree.Declare code
    ∷ tree.Used 9
    ∷ []

-- ---- the other parts

abbrev pub first_parts : List (ForInit-F Expr ForInit ForTarget Stmt CasePart Func PairPart VarPart)
first_parts = ForInit-F.Nothing ∷ ForInit-F.Vars (item ∷ bare_item ∷ []) ∷ ForInit-F.First a ∷ []

abbrev pub plain_first_parts : List ForInit
plain_first_parts = tree.Nothing ∷ tree.Vars two_items ∷ tree.First a ∷ []

abbrev pub targets : List (ForTarget-F Expr ForInit ForTarget Stmt CasePart Func PairPart VarPart)
targets = ForTarget-F.«ForTarget::Var» item ∷ ForTarget-F.«ForTarget::Var» bare_item
    ∷ ForTarget-F.Target a ∷ []

abbrev pub plain_targets : List ForTarget
plain_targets = tree.AVar x (tree.AnExpr a) ∷ tree.AVar y tree.NoExpr ∷ tree.Target a ∷ []

abbrev pub open_clause : Case-F Expr ForInit ForTarget Stmt CasePart Func PairPart VarPart
open_clause = record { test = Some b; body = then ∷ [] }

abbrev pub open_default : Case-F Expr ForInit ForTarget Stmt CasePart Func PairPart VarPart
open_default = record { test = None; body = [] }

abbrev pub open_code : Func-F Expr ForInit ForTarget Stmt CasePart Func PairPart VarPart
open_code = record {
  number = 6;
  name = Some x;
  formals = y ∷ [];
  body = then ∷ other ∷ [];
  role =
      Stub;
}

abbrev pub plain_code : Func
plain_code = tree.Code 6 (Some x) (y ∷ []) (tree.MoreStmts then (tree.MoreStmts other tree.NoStmts))
    Stub

abbrev pub open_pair : Pair-F Expr ForInit ForTarget Stmt CasePart Func PairPart VarPart
open_pair = record { key = x; value = a }

abbrev pub plain_pair : PairPart
plain_pair = record { key = x; value = a }

abbrev pub open_item : VarItem-F Expr ForInit ForTarget Stmt CasePart Func PairPart VarPart
open_item = record { name = x; value = Some a }

abbrev pub open_bare_item : VarItem-F Expr ForInit ForTarget Stmt CasePart Func PairPart VarPart
open_bare_item = record { name = y; value = None }
