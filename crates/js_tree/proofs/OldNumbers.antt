-- What numbers a tree had is forgotten where it is given others.
use Rattle.std.proofs.Common.{◌≡◌, ℕ, ◌+◌, List, [], ◌∷◌, refl, ap, ◌∙◌}
use Rattle.js_tree.specs.Tree
use Rattle.js_tree.specs.Numbering.{in_expr, in_exprs, in_maybe_expr, in_elements, in_pairs}
use Rattle.js_tree.specs.Numbering.{in_stmt, in_stmts, in_maybe_stmt, in_handler, in_for_init}
use Rattle.js_tree.specs.Numbering.{in_for_target, in_var_items, in_cases, in_func}
use Rattle.js_tree.specs.Renumbering.{Numbers, behind, expr, exprs, maybe_expr, elements, pairs}
use Rattle.js_tree.specs.Renumbering.{stmt, stmts, maybe_stmt, handler, for_init, for_target}
use Rattle.js_tree.specs.Renumbering.{var_items, cases, func, scripts}
use Rattle.js_tree.proofs.Equal.{ap2, ap3, ap4}
use Rattle.js_tree.proofs.AsMany.{expr_count, exprs_count, maybe_expr_count, elements_count}
use Rattle.js_tree.proofs.AsMany.{pairs_count, stmt_count, stmts_count, maybe_stmt_count}
use Rattle.js_tree.proofs.AsMany.{handler_count, for_init_count, for_target_count, var_items_count}
use Rattle.js_tree.proofs.AsMany.{cases_count}

mutual
  pub expr_again
      : (by old : Numbers) (n o : ℕ) (x : Tree.Expr) → expr by n (expr old o x) ≡ expr by n x
  expr_again by old n o (Tree.Num v) = refl
  expr_again by old n o (Tree.Str text) = refl
  expr_again by old n o (Tree.Truth b) = refl
  expr_again by old n o Tree.Null = refl
  expr_again by old n o Tree.This = refl
  expr_again by old n o (Tree.Ident name) = refl
  expr_again by old n o (Tree.Array es) = ap Tree.Array (elements_again by old n o es)
  expr_again by old n o (Tree.Object ps) = ap Tree.Object (pairs_again by old n o ps)
  expr_again by old n o (Tree.Function f) = ap Tree.Function (func_again by old n o f)
  expr_again by old n o (Tree.Dot object name) =
      ap (λ x. Tree.Dot x name) (expr_again by old n o object)
  expr_again by old n o (Tree.Index object key) =
      let m = behind n (in_expr object) in
      let o2 = behind o (in_expr object) in
      rw (expr_count old o object).same (ap2 Tree.Index (expr_again by old n o object) (expr_again
      by old m o2 key))
  expr_again by old n o (Tree.Call callee es) =
      let m = behind n (in_expr callee) in
      let o2 = behind o (in_expr callee) in
      rw (expr_count old o callee).same (ap2 Tree.Call (expr_again by old n o callee) (exprs_again
      by old m o2 es))
  expr_again by old n o (Tree.New callee es) =
      let m = behind n (in_expr callee) in
      let o2 = behind o (in_expr callee) in
      rw (expr_count old o callee).same (ap2 Tree.New (expr_again by old n o callee) (exprs_again
      by old m o2 es))
  expr_again by old n o (Tree.Postfix target op) =
      ap (λ x. Tree.Postfix x op) (expr_again by old n o target)
  expr_again by old n o (Tree.Prefix op operand) =
      ap (Tree.Prefix op) (expr_again by old n o operand)
  expr_again by old n o (Tree.Binary op left right) =
      let m = behind n (in_expr left) in
      let o2 = behind o (in_expr left) in
      rw (expr_count old o left).same (ap2 (Tree.Binary op) (expr_again by old n o left)
      (expr_again by old m o2 right))
  expr_again by old n o (Tree.And left right) =
      let m = behind n (in_expr left) in
      let o2 = behind o (in_expr left) in
      rw (expr_count old o left).same (ap2 Tree.And (expr_again by old n o left) (expr_again by old
      m o2 right))
  expr_again by old n o (Tree.Or left right) =
      let m = behind n (in_expr left) in
      let o2 = behind o (in_expr left) in
      rw (expr_count old o left).same (ap2 Tree.Or (expr_again by old n o left) (expr_again by old
      m o2 right))
  expr_again by old n o (Tree.Comma left right) =
      let m = behind n (in_expr left) in
      let o2 = behind o (in_expr left) in
      rw (expr_count old o left).same (ap2 Tree.Comma (expr_again by old n o left) (expr_again by
      old m o2 right))
  expr_again by old n o (Tree.Cond test then other) =
      let m = behind n (in_expr test) in
      let k = behind m (in_expr then) in
      let o2 = behind o (in_expr test) in
      let o3 = behind o2 (in_expr then) in
      rw (expr_count old o test).same (rw (expr_count old o2 then).same (ap3 Tree.Cond (expr_again
      by old n o test) (expr_again by old m o2 then) (expr_again by old k o3 other)))
  expr_again by old n o (Tree.Assign op target value) =
      let m = behind n (in_expr target) in
      let o2 = behind o (in_expr target) in
      rw (expr_count old o target).same (ap2 (Tree.Assign op) (expr_again by old n o target)
      (expr_again by old m o2 value))
  expr_again by old n o (Tree.Late k) = refl

  pub exprs_again
      : (by old : Numbers) (n o : ℕ) (x : Tree.Exprs) → exprs by n (exprs old o x) ≡ exprs by n x
  exprs_again by old n o Tree.NoExprs = refl
  exprs_again by old n o (Tree.MoreExprs e es) =
      let m = behind n (in_expr e) in
      let o2 = behind o (in_expr e) in
      rw (expr_count old o e).same (ap2 Tree.MoreExprs (expr_again by old n o e) (exprs_again by
      old m o2 es))

  pub maybe_expr_again
      : (by old : Numbers) (n o : ℕ) (x : Tree.MaybeExpr) → maybe_expr by n (maybe_expr old o x) ≡
      maybe_expr by n x
  maybe_expr_again by old n o Tree.NoExpr = refl
  maybe_expr_again by old n o (Tree.AnExpr e) = ap Tree.AnExpr (expr_again by old n o e)

  pub elements_again
      : (by old : Numbers) (n o : ℕ) (x : Tree.Elements) → elements by n (elements old o x) ≡
      elements by n x
  elements_again by old n o Tree.NoElements = refl
  elements_again by old n o (Tree.MoreElements e es) =
      let m = behind n (in_maybe_expr e) in
      let o2 = behind o (in_maybe_expr e) in
      rw (maybe_expr_count old o e).same (ap2 Tree.MoreElements (maybe_expr_again by old n o e)
      (elements_again by old m o2 es))

  pub pairs_again
      : (by old : Numbers) (n o : ℕ) (x : Tree.Pairs) → pairs by n (pairs old o x) ≡ pairs by n x
  pairs_again by old n o Tree.NoPairs = refl
  pairs_again by old n o (Tree.MorePairs key value ps) =
      let m = behind n (in_expr value) in
      let o2 = behind o (in_expr value) in
      rw (expr_count old o value).same (ap2 (Tree.MorePairs key) (expr_again by old n o value)
      (pairs_again by old m o2 ps))

  pub stmt_again
      : (by old : Numbers) (n o : ℕ) (x : Tree.Stmt) → stmt by n (stmt old o x) ≡ stmt by n x
  stmt_again by old n o (Tree.Block body) = ap Tree.Block (stmts_again by old n o body)
  stmt_again by old n o (Tree.Variables items) =
      ap Tree.Variables (var_items_again by old n o items)
  stmt_again by old n o Tree.Empty = refl
  stmt_again by old n o (Tree.Do e) = ap Tree.Do (expr_again by old n o e)
  stmt_again by old n o (Tree.If test then other) =
      let m = behind n (in_expr test) in
      let k = behind m (in_stmt then) in
      let o2 = behind o (in_expr test) in
      let o3 = behind o2 (in_stmt then) in
      rw (expr_count old o test).same (rw (stmt_count old o2 then).same (ap3 Tree.If (expr_again by
      old n o test) (stmt_again by old m o2 then) (maybe_stmt_again by old k o3 other)))
  stmt_again by old n o (Tree.DoWhile body test) =
      let m = behind n (in_stmt body) in
      let o2 = behind o (in_stmt body) in
      rw (stmt_count old o body).same (ap2 Tree.DoWhile (stmt_again by old n o body) (expr_again by
      old m o2 test))
  stmt_again by old n o (Tree.While test body) =
      let m = behind n (in_expr test) in
      let o2 = behind o (in_expr test) in
      rw (expr_count old o test).same (ap2 Tree.While (expr_again by old n o test) (stmt_again by
      old m o2 body))
  stmt_again by old n o (Tree.For first test next body) =
      let m = behind n (in_for_init first) in
      let k = behind m (in_maybe_expr test) in
      let j = behind k (in_maybe_expr next) in
      let o2 = behind o (in_for_init first) in
      let o3 = behind o2 (in_maybe_expr test) in
      let o4 = behind o3 (in_maybe_expr next) in
      rw (for_init_count old o first).same (rw (maybe_expr_count old o2 test).same (rw
      (maybe_expr_count old o3 next).same (ap4 Tree.For (for_init_again by old n o first)
      (maybe_expr_again by old m o2 test) (maybe_expr_again by old k o3 next) (stmt_again by old j
      o4 body))))
  stmt_again by old n o (Tree.ForIn target object body) =
      let m = behind n (in_for_target target) in
      let k = behind m (in_expr object) in
      let o2 = behind o (in_for_target target) in
      let o3 = behind o2 (in_expr object) in
      rw (for_target_count old o target).same (rw (expr_count old o2 object).same (ap3 Tree.ForIn
      (for_target_again by old n o target) (expr_again by old m o2 object) (stmt_again by old k o3
      body)))
  stmt_again by old n o (Tree.Continue label) = refl
  stmt_again by old n o (Tree.Break label) = refl
  stmt_again by old n o (Tree.Return value) = ap Tree.Return (maybe_expr_again by old n o value)
  stmt_again by old n o (Tree.Switch value cs) =
      let m = behind n (in_expr value) in
      let o2 = behind o (in_expr value) in
      rw (expr_count old o value).same (ap2 Tree.Switch (expr_again by old n o value) (cases_again
      by old m o2 cs))
  stmt_again by old n o (Tree.Label name body) = ap (Tree.Label name) (stmt_again by old n o body)
  stmt_again by old n o (Tree.Throw e) = ap Tree.Throw (expr_again by old n o e)
  stmt_again by old n o (Tree.Try block caught last) =
      let m = behind n (in_stmt block) in
      let k = behind m (in_handler caught) in
      let o2 = behind o (in_stmt block) in
      let o3 = behind o2 (in_handler caught) in
      rw (stmt_count old o block).same (rw (handler_count old o2 caught).same (ap3 Tree.Try
      (stmt_again by old n o block) (handler_again by old m o2 caught) (maybe_stmt_again by old k
      o3 last)))
  stmt_again by old n o (Tree.Declare f) = ap Tree.Declare (func_again by old n o f)
  stmt_again by old n o (Tree.Used k) = refl

  pub stmts_again
      : (by old : Numbers) (n o : ℕ) (x : Tree.Stmts) → stmts by n (stmts old o x) ≡ stmts by n x
  stmts_again by old n o Tree.NoStmts = refl
  stmts_again by old n o (Tree.MoreStmts s ss) =
      let m = behind n (in_stmt s) in
      let o2 = behind o (in_stmt s) in
      rw (stmt_count old o s).same (ap2 Tree.MoreStmts (stmt_again by old n o s) (stmts_again by
      old m o2 ss))

  pub maybe_stmt_again
      : (by old : Numbers) (n o : ℕ) (x : Tree.MaybeStmt) → maybe_stmt by n (maybe_stmt old o x) ≡
      maybe_stmt by n x
  maybe_stmt_again by old n o Tree.NoStmt = refl
  maybe_stmt_again by old n o (Tree.AStmt s) = ap Tree.AStmt (stmt_again by old n o s)

  pub handler_again
      : (by old : Numbers) (n o : ℕ) (x : Tree.Handler) → handler by n (handler old o x) ≡ handler
      by n x
  handler_again by old n o Tree.NoHandler = refl
  handler_again by old n o (Tree.ACatch name block) =
      ap (Tree.ACatch name) (stmt_again by old n o block)

  pub for_init_again
      : (by old : Numbers) (n o : ℕ) (x : Tree.ForInit) → for_init by n (for_init old o x) ≡
      for_init by n x
  for_init_again by old n o Tree.Nothing = refl
  for_init_again by old n o (Tree.Vars items) = ap Tree.Vars (var_items_again by old n o items)
  for_init_again by old n o (Tree.First e) = ap Tree.First (expr_again by old n o e)

  pub for_target_again
      : (by old : Numbers) (n o : ℕ) (x : Tree.ForTarget) → for_target by n (for_target old o x) ≡
      for_target by n x
  for_target_again by old n o (Tree.AVar name value) =
      ap (Tree.AVar name) (maybe_expr_again by old n o value)
  for_target_again by old n o (Tree.Target e) = ap Tree.Target (expr_again by old n o e)

  pub var_items_again
      : (by old : Numbers) (n o : ℕ) (x : Tree.VarItems) → var_items by n (var_items old o x) ≡
      var_items by n x
  var_items_again by old n o Tree.NoVarItems = refl
  var_items_again by old n o (Tree.MoreVarItems name value rest) =
      let m = behind n (in_maybe_expr value) in
      let o2 = behind o (in_maybe_expr value) in
      rw (maybe_expr_count old o value).same (ap2 (Tree.MoreVarItems name) (maybe_expr_again by old
      n o value) (var_items_again by old m o2 rest))

  pub cases_again
      : (by old : Numbers) (n o : ℕ) (x : Tree.Cases) → cases by n (cases old o x) ≡ cases by n x
  cases_again by old n o Tree.NoCases = refl
  cases_again by old n o (Tree.MoreCases test body rest) =
      let m = behind n (in_maybe_expr test) in
      let k = behind m (in_stmts body) in
      let o2 = behind o (in_maybe_expr test) in
      let o3 = behind o2 (in_stmts body) in
      rw (maybe_expr_count old o test).same (rw (stmts_count old o2 body).same (ap3 Tree.MoreCases
      (maybe_expr_again by old n o test) (stmts_again by old m o2 body) (cases_again by old k o3
      rest)))

  pub func_again
      : (by old : Numbers) (n o : ℕ) (x : Tree.Func) → func by n (func old o x) ≡ func by n x
  func_again by old n o (Tree.Code number name formals body role) =
      ap (λ ss. Tree.Code (by n) name formals ss role) (stmts_again by old (n + 1) (o + 1) body)

pub scripts_again
    : (by old : Numbers) (n o : ℕ) (ss : List Tree.Script) → scripts by n (scripts old o ss) ≡ scripts by n ss
scripts_again by old n o [] = refl
scripts_again by old n o (s ∷ ss) =
    let m = behind n (in_stmts s) in
    let o2 = behind o (in_stmts s) in
    rw (stmts_count old o s).same (ap2 (λ x xs. x ∷ xs) (stmts_again by old n o s) (scripts_again by old m o2 ss))
