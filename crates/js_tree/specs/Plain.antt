-- The plain tree of a declared one: one level for each type, and the folds over them.
use Rattle.std.specs.Prelude.{List, [], ◌∷◌, Option, Some, None, map}
use Rattle.js_tree.specs.declared.tree.Expr.{Expr}
use Rattle.js_tree.specs.declared.tree.Stmt.{Stmt}
use Rattle.js_tree.specs.declared.tree.Func.{Func}
use Rattle.js_tree.specs.declared.tree.Script.{Script}
use Rattle.js_tree.specs.declared.tree.Expr.TheOpen.{Expr-F, ForInit-F, ForTarget-F, Stmt-F}
use Rattle.js_tree.specs.declared.tree.Expr.TheOpen.{Case-F, Func-F, Pair-F, VarItem-F}
use Rattle.js_tree.specs.declared.tree.Expr.TheFolds.{fold-Expr, fold-Stmt, fold-Func}
use Rattle.js_tree.specs.Tree as plain
use Rattle.js_tree.specs.Tree.{Name, NoExprs, MoreExprs, NoExpr, AnExpr, NoElements, MoreElements}
use Rattle.js_tree.specs.Tree.{NoPairs, MorePairs, NoStmts, MoreStmts, NoStmt, AStmt}
use Rattle.js_tree.specs.Tree.{NoHandler, ACatch, Nothing, Vars, First, AVar, Target}
use Rattle.js_tree.specs.Tree.{NoVarItems, MoreVarItems, NoCases, MoreCases, Code}

-- the parts of a level: a declarator, a clause and a pair are no trees of their own
pub record VarPart : Type 0 where
  pub name : Name
  pub value : plain.MaybeExpr

pub record CasePart : Type 0 where
  pub test : plain.MaybeExpr
  pub body : plain.Stmts

pub record PairPart : Type 0 where
  pub key : Name
  pub value : plain.Expr

abbrev pub maybe_expr : Option plain.Expr → plain.MaybeExpr
maybe_expr None = NoExpr
maybe_expr (Some e) = AnExpr e

abbrev pub maybe_stmt : Option plain.Stmt → plain.MaybeStmt
maybe_stmt None = NoStmt
maybe_stmt (Some s) = AStmt s

abbrev pub handler : Option (Name × plain.Stmt) → plain.Handler
handler None = NoHandler
handler (Some h) = ACatch h.0 h.1

abbrev pub exprs : List plain.Expr → plain.Exprs
exprs [] = NoExprs
exprs (e ∷ es) = MoreExprs e (exprs es)

abbrev pub elements : List (Option plain.Expr) → plain.Elements
elements [] = NoElements
elements (e ∷ es) = MoreElements (maybe_expr e) (elements es)

abbrev pub pairs : List PairPart → plain.Pairs
pairs [] = NoPairs
pairs (p ∷ ps) = MorePairs p.key p.value (pairs ps)

abbrev pub stmts : List plain.Stmt → plain.Stmts
stmts [] = NoStmts
stmts (s ∷ ss) = MoreStmts s (stmts ss)

abbrev pub var_items : List VarPart → plain.VarItems
var_items [] = NoVarItems
var_items (v ∷ vs) = MoreVarItems v.name v.value (var_items vs)

abbrev pub cases : List CasePart → plain.Cases
cases [] = NoCases
cases (c ∷ cs) = MoreCases c.test c.body (cases cs)

-- ---- one level

abbrev pub expr_level
    : Expr-F plain.Expr plain.ForInit plain.ForTarget plain.Stmt CasePart plain.Func PairPart
    VarPart → plain.Expr
expr_level (Expr-F.Num n) = plain.Num n
expr_level (Expr-F.Str text) = plain.Str text
expr_level (Expr-F.Bool b) = plain.Truth b
expr_level Expr-F.Null = plain.Null
expr_level Expr-F.This = plain.This
expr_level (Expr-F.Name name) = plain.Ident name
expr_level (Expr-F.Array es) = plain.Array (elements es)
expr_level (Expr-F.Object ps) = plain.Object (pairs ps)
expr_level (Expr-F.Func f) = plain.Function f
expr_level (Expr-F.Dot object name) = plain.Dot object name
expr_level (Expr-F.Index object key) = plain.Index object key
expr_level (Expr-F.Call callee arguments) = plain.Call callee (exprs arguments)
expr_level (Expr-F.New callee arguments) = plain.New callee (exprs arguments)
expr_level (Expr-F.Postfix target op) = plain.Postfix target op
expr_level (Expr-F.Prefix op operand) = plain.Prefix op operand
expr_level (Expr-F.Binary op left right) = plain.Binary op left right
expr_level (Expr-F.And left right) = plain.And left right
expr_level (Expr-F.Or left right) = plain.Or left right
expr_level (Expr-F.Comma left right) = plain.Comma left right
expr_level (Expr-F.Cond test then other) = plain.Cond test then other
expr_level (Expr-F.Assign op target value) = plain.Assign op target value
expr_level (Expr-F.Late k) = plain.Late k

abbrev pub for_init_level
    : ForInit-F plain.Expr plain.ForInit plain.ForTarget plain.Stmt CasePart plain.Func PairPart
    VarPart → plain.ForInit
for_init_level ForInit-F.Nothing = Nothing
for_init_level (ForInit-F.Vars items) = Vars (var_items items)
for_init_level (ForInit-F.First e) = First e

abbrev pub for_target_level
    : ForTarget-F plain.Expr plain.ForInit plain.ForTarget plain.Stmt CasePart plain.Func PairPart
    VarPart → plain.ForTarget
for_target_level (ForTarget-F.«ForTarget::Var» item) = AVar item.name item.value
for_target_level (ForTarget-F.Target e) = Target e

abbrev pub stmt_level
    : Stmt-F plain.Expr plain.ForInit plain.ForTarget plain.Stmt CasePart plain.Func PairPart
    VarPart → plain.Stmt
stmt_level (Stmt-F.Block body) = plain.Block (stmts body)
stmt_level (Stmt-F.«Stmt::Var» items) = plain.Variables (var_items items)
stmt_level Stmt-F.Empty = plain.Empty
stmt_level (Stmt-F.Do e) = plain.Do e
stmt_level (Stmt-F.If test then other) = plain.If test then (maybe_stmt other)
stmt_level (Stmt-F.DoWhile body test) = plain.DoWhile body test
stmt_level (Stmt-F.While test body) = plain.While test body
stmt_level (Stmt-F.For first test next body) =
    plain.For first (maybe_expr test) (maybe_expr next) body
stmt_level (Stmt-F.ForIn target object body) = plain.ForIn target object body
stmt_level (Stmt-F.Continue label) = plain.Continue label
stmt_level (Stmt-F.Break label) = plain.Break label
stmt_level (Stmt-F.Return value) = plain.Return (maybe_expr value)
stmt_level (Stmt-F.Switch value cs) = plain.Switch value (cases cs)
stmt_level (Stmt-F.Label name body) = plain.Label name body
stmt_level (Stmt-F.Throw e) = plain.Throw e
stmt_level (Stmt-F.Try block caught last) = plain.Try block (handler caught) (maybe_stmt last)
stmt_level (Stmt-F.Declare f) = plain.Declare f
stmt_level (Stmt-F.Used n) = plain.Used n

abbrev pub case_level
    : Case-F plain.Expr plain.ForInit plain.ForTarget plain.Stmt CasePart plain.Func PairPart
    VarPart → CasePart
case_level c = record { test = maybe_expr c.test; body = stmts c.body }

abbrev pub func_level
    : Func-F plain.Expr plain.ForInit plain.ForTarget plain.Stmt CasePart plain.Func PairPart
    VarPart → plain.Func
func_level f = Code f.number f.name f.formals (stmts f.body) f.role

abbrev pub pair_level
    : Pair-F plain.Expr plain.ForInit plain.ForTarget plain.Stmt CasePart plain.Func PairPart
    VarPart → PairPart
pair_level p = record { key = p.key; value = p.value }

abbrev pub var_item_level
    : VarItem-F plain.Expr plain.ForInit plain.ForTarget plain.Stmt CasePart plain.Func PairPart
    VarPart → VarPart
var_item_level v = record { name = v.name; value = maybe_expr v.value }

-- ---- whole trees

abbrev pub expr : Expr → plain.Expr
expr =
    fold-Expr plain.Expr plain.ForInit plain.ForTarget plain.Stmt CasePart plain.Func PairPart
    VarPart
    expr_level for_init_level for_target_level stmt_level case_level func_level pair_level
    var_item_level

abbrev pub stmt : Stmt → plain.Stmt
stmt =
    fold-Stmt plain.Expr plain.ForInit plain.ForTarget plain.Stmt CasePart plain.Func PairPart
    VarPart
    expr_level for_init_level for_target_level stmt_level case_level func_level pair_level
    var_item_level

abbrev pub func : Func → plain.Func
func =
    fold-Func plain.Expr plain.ForInit plain.ForTarget plain.Stmt CasePart plain.Func PairPart
    VarPart
    expr_level for_init_level for_target_level stmt_level case_level func_level pair_level
    var_item_level

abbrev pub body : List Stmt → plain.Stmts
body ss = stmts (map stmt ss)

abbrev pub script : Script → plain.Script
script s = body s.body
