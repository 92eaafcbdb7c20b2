-- The height of a tree, by what each node makes of the height of what is directly inside it, and a
-- function of that of its body. A declaration and a function expression are nodes, and the
-- statements of their bodies are directly inside them. The name of a dot, a key, a declarator, a
-- hole, a clause of a `switch` and the `var` list of a `for` header are no nodes; what stands in
-- them is directly inside the node around.
use Rattle.std.specs.Prelude.{ℕ, max}
use Rattle.js_tree.specs.Tree

pub record Growth : Type 0 where
  pub node : ℕ → ℕ
  pub function : ℕ → ℕ

abbrev mutual
  pub expr_height : Growth → Tree.Expr → ℕ
  expr_height by (Tree.Num n) = by.node 0
  expr_height by (Tree.Str text) = by.node 0
  expr_height by (Tree.Truth b) = by.node 0
  expr_height by Tree.Null = by.node 0
  expr_height by Tree.This = by.node 0
  expr_height by (Tree.Ident name) = by.node 0
  expr_height by (Tree.Array es) = by.node (elements_height by es)
  expr_height by (Tree.Object ps) = by.node (pairs_height by ps)
  expr_height by (Tree.Function f) = by.node (func_height by f)
  expr_height by (Tree.Dot object name) = by.node (expr_height by object)
  expr_height by (Tree.Index object key) =
      by.node (max (expr_height by object) (expr_height by key))
  expr_height by (Tree.Call callee es) = by.node (max (expr_height by callee) (exprs_height by es))
  expr_height by (Tree.New callee es) = by.node (max (expr_height by callee) (exprs_height by es))
  expr_height by (Tree.Postfix target op) = by.node (expr_height by target)
  expr_height by (Tree.Prefix op operand) = by.node (expr_height by operand)
  expr_height by (Tree.Binary op left right) =
      by.node (max (expr_height by left) (expr_height by right))
  expr_height by (Tree.And left right) = by.node (max (expr_height by left) (expr_height by right))
  expr_height by (Tree.Or left right) = by.node (max (expr_height by left) (expr_height by right))
  expr_height by (Tree.Comma left right) =
      by.node (max (expr_height by left) (expr_height by right))
  expr_height by (Tree.Cond test then other) =
      by.node (max (expr_height by test) (max (expr_height by then) (expr_height by other)))
  expr_height by (Tree.Assign op target value) =
      by.node (max (expr_height by target) (expr_height by value))
  expr_height by (Tree.Late k) = by.node 0

  pub exprs_height : Growth → Tree.Exprs → ℕ
  exprs_height by Tree.NoExprs = 0
  exprs_height by (Tree.MoreExprs e es) = max (expr_height by e) (exprs_height by es)

  pub maybe_expr_height : Growth → Tree.MaybeExpr → ℕ
  maybe_expr_height by Tree.NoExpr = 0
  maybe_expr_height by (Tree.AnExpr e) = expr_height by e

  pub elements_height : Growth → Tree.Elements → ℕ
  elements_height by Tree.NoElements = 0
  elements_height by (Tree.MoreElements e es) = max (maybe_expr_height by e) (elements_height by es)

  pub pairs_height : Growth → Tree.Pairs → ℕ
  pairs_height by Tree.NoPairs = 0
  pairs_height by (Tree.MorePairs key value ps) = max (expr_height by value) (pairs_height by ps)

  pub stmt_height : Growth → Tree.Stmt → ℕ
  stmt_height by (Tree.Block body) = by.node (stmts_height by body)
  stmt_height by (Tree.Variables items) = by.node (var_items_height by items)
  stmt_height by Tree.Empty = by.node 0
  stmt_height by (Tree.Do e) = by.node (expr_height by e)
  stmt_height by (Tree.If test then other) =
      by.node (max (expr_height by test) (max (stmt_height by then) (maybe_stmt_height by other)))
  stmt_height by (Tree.DoWhile body test) =
      by.node (max (stmt_height by body) (expr_height by test))
  stmt_height by (Tree.While test body) = by.node (max (expr_height by test) (stmt_height by body))
  stmt_height by (Tree.For first test next body) =
      by.node (max (for_init_height by first)
      (max (maybe_expr_height by test) (max (maybe_expr_height by next) (stmt_height by body))))
  stmt_height by (Tree.ForIn target object body) =
      by.node (max (for_target_height by target)
      (max (expr_height by object) (stmt_height by body)))
  stmt_height by (Tree.Continue label) = by.node 0
  stmt_height by (Tree.Break label) = by.node 0
  stmt_height by (Tree.Return value) = by.node (maybe_expr_height by value)
  stmt_height by (Tree.Switch value cs) = by.node (max (expr_height by value) (cases_height by cs))
  stmt_height by (Tree.Label name body) = by.node (stmt_height by body)
  stmt_height by (Tree.Throw e) = by.node (expr_height by e)
  stmt_height by (Tree.Try block caught last) =
      by.node (max (stmt_height by block) (max (handler_height by caught)
      (maybe_stmt_height by last)))
  stmt_height by (Tree.Declare f) = by.node (func_height by f)
  stmt_height by (Tree.Used n) = by.node 0

  pub stmts_height : Growth → Tree.Stmts → ℕ
  stmts_height by Tree.NoStmts = 0
  stmts_height by (Tree.MoreStmts s ss) = max (stmt_height by s) (stmts_height by ss)

  pub maybe_stmt_height : Growth → Tree.MaybeStmt → ℕ
  maybe_stmt_height by Tree.NoStmt = 0
  maybe_stmt_height by (Tree.AStmt s) = stmt_height by s

  pub handler_height : Growth → Tree.Handler → ℕ
  handler_height by Tree.NoHandler = 0
  handler_height by (Tree.ACatch name block) = stmt_height by block

  pub for_init_height : Growth → Tree.ForInit → ℕ
  for_init_height by Tree.Nothing = 0
  for_init_height by (Tree.Vars items) = var_items_height by items
  for_init_height by (Tree.First e) = expr_height by e

  pub for_target_height : Growth → Tree.ForTarget → ℕ
  for_target_height by (Tree.AVar name value) = maybe_expr_height by value
  for_target_height by (Tree.Target e) = expr_height by e

  pub var_items_height : Growth → Tree.VarItems → ℕ
  var_items_height by Tree.NoVarItems = 0
  var_items_height by (Tree.MoreVarItems name value rest) =
      max (maybe_expr_height by value) (var_items_height by rest)

  pub cases_height : Growth → Tree.Cases → ℕ
  cases_height by Tree.NoCases = 0
  cases_height by (Tree.MoreCases test body rest) =
      max (maybe_expr_height by test) (max (stmts_height by body) (cases_height by rest))

  pub func_height : Growth → Tree.Func → ℕ
  func_height by (Tree.Code number name formals body role) = by.function (stmts_height by body)
