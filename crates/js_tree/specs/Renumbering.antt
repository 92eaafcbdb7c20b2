-- Scripts whose functions have other numbers: in the order of their first tokens, the first of them
-- has the number at `n`, the next that at `n + 1`, and so on. Nothing else is changed.
use Rattle.std.specs.Prelude.{◌≡◌, ℕ, ◌+◌, List, [], ◌∷◌, length}
use Rattle.js_tree.specs.Tree
use Rattle.js_tree.specs.Numbering.{in_expr, in_exprs, in_maybe_expr, in_elements, in_stmt}
use Rattle.js_tree.specs.Numbering.{in_stmts, in_maybe_stmt, in_handler, in_for_init}
use Rattle.js_tree.specs.Numbering.{in_for_target}

-- the number at each place
abbrev pub Numbers : Type 0
Numbers = ℕ → ℕ

-- the place behind these functions, of which the first is at n
abbrev pub behind : ℕ → List Tree.Func → ℕ
behind n fs = n + length fs

abbrev mutual
  pub expr : Numbers → ℕ → Tree.Expr → Tree.Expr
  expr by n (Tree.Num value) = Tree.Num value
  expr by n (Tree.Str text) = Tree.Str text
  expr by n (Tree.Truth b) = Tree.Truth b
  expr by n Tree.Null = Tree.Null
  expr by n Tree.This = Tree.This
  expr by n (Tree.Ident name) = Tree.Ident name
  expr by n (Tree.Array es) = Tree.Array (elements by n es)
  expr by n (Tree.Object ps) = Tree.Object (pairs by n ps)
  expr by n (Tree.Function f) = Tree.Function (func by n f)
  expr by n (Tree.Dot object name) = Tree.Dot (expr by n object) name
  expr by n (Tree.Index object key) =
      Tree.Index (expr by n object) (expr by (behind n (in_expr object)) key)
  expr by n (Tree.Call callee es) =
      Tree.Call (expr by n callee) (exprs by (behind n (in_expr callee)) es)
  expr by n (Tree.New callee es) =
      Tree.New (expr by n callee) (exprs by (behind n (in_expr callee)) es)
  expr by n (Tree.Postfix target op) = Tree.Postfix (expr by n target) op
  expr by n (Tree.Prefix op operand) = Tree.Prefix op (expr by n operand)
  expr by n (Tree.Binary op left right) =
      Tree.Binary op (expr by n left) (expr by (behind n (in_expr left)) right)
  expr by n (Tree.And left right) =
      Tree.And (expr by n left) (expr by (behind n (in_expr left)) right)
  expr by n (Tree.Or left right) =
      Tree.Or (expr by n left) (expr by (behind n (in_expr left)) right)
  expr by n (Tree.Comma left right) =
      Tree.Comma (expr by n left) (expr by (behind n (in_expr left)) right)
  expr by n (Tree.Cond test then other) =
      let m = behind n (in_expr test) in
      Tree.Cond (expr by n test) (expr by m then) (expr by (behind m (in_expr then)) other)
  expr by n (Tree.Assign op target value) =
      Tree.Assign op (expr by n target) (expr by (behind n (in_expr target)) value)
  expr by n (Tree.Late k) = Tree.Late k

  pub exprs : Numbers → ℕ → Tree.Exprs → Tree.Exprs
  exprs by n Tree.NoExprs = Tree.NoExprs
  exprs by n (Tree.MoreExprs e es) =
      Tree.MoreExprs (expr by n e) (exprs by (behind n (in_expr e)) es)

  pub maybe_expr : Numbers → ℕ → Tree.MaybeExpr → Tree.MaybeExpr
  maybe_expr by n Tree.NoExpr = Tree.NoExpr
  maybe_expr by n (Tree.AnExpr e) = Tree.AnExpr (expr by n e)

  pub elements : Numbers → ℕ → Tree.Elements → Tree.Elements
  elements by n Tree.NoElements = Tree.NoElements
  elements by n (Tree.MoreElements e es) =
      Tree.MoreElements (maybe_expr by n e) (elements by (behind n (in_maybe_expr e)) es)

  pub pairs : Numbers → ℕ → Tree.Pairs → Tree.Pairs
  pairs by n Tree.NoPairs = Tree.NoPairs
  pairs by n (Tree.MorePairs key value ps) =
      Tree.MorePairs key (expr by n value) (pairs by (behind n (in_expr value)) ps)

  pub stmt : Numbers → ℕ → Tree.Stmt → Tree.Stmt
  stmt by n (Tree.Block body) = Tree.Block (stmts by n body)
  stmt by n (Tree.Variables items) = Tree.Variables (var_items by n items)
  stmt by n Tree.Empty = Tree.Empty
  stmt by n (Tree.Do e) = Tree.Do (expr by n e)
  stmt by n (Tree.If test then other) =
      let m = behind n (in_expr test) in
      Tree.If (expr by n test) (stmt by m then) (maybe_stmt by (behind m (in_stmt then)) other)
  stmt by n (Tree.DoWhile body test) =
      Tree.DoWhile (stmt by n body) (expr by (behind n (in_stmt body)) test)
  stmt by n (Tree.While test body) =
      Tree.While (expr by n test) (stmt by (behind n (in_expr test)) body)
  stmt by n (Tree.For first test next body) =
      let m = behind n (in_for_init first) in
      let k = behind m (in_maybe_expr test) in
      Tree.For (for_init by n first) (maybe_expr by m test) (maybe_expr by k next)
      (stmt by (behind k (in_maybe_expr next)) body)
  stmt by n (Tree.ForIn target object body) =
      let m = behind n (in_for_target target) in
      Tree.ForIn (for_target by n target) (expr by m object)
      (stmt by (behind m (in_expr object)) body)
  stmt by n (Tree.Continue label) = Tree.Continue label
  stmt by n (Tree.Break label) = Tree.Break label
  stmt by n (Tree.Return value) = Tree.Return (maybe_expr by n value)
  stmt by n (Tree.Switch value cs) =
      Tree.Switch (expr by n value) (cases by (behind n (in_expr value)) cs)
  stmt by n (Tree.Label name body) = Tree.Label name (stmt by n body)
  stmt by n (Tree.Throw e) = Tree.Throw (expr by n e)
  stmt by n (Tree.Try block caught last) =
      let m = behind n (in_stmt block) in
      Tree.Try (stmt by n block) (handler by m caught)
      (maybe_stmt by (behind m (in_handler caught)) last)
  stmt by n (Tree.Declare f) = Tree.Declare (func by n f)
  stmt by n (Tree.Used k) = Tree.Used k

  pub stmts : Numbers → ℕ → Tree.Stmts → Tree.Stmts
  stmts by n Tree.NoStmts = Tree.NoStmts
  stmts by n (Tree.MoreStmts s ss) =
      Tree.MoreStmts (stmt by n s) (stmts by (behind n (in_stmt s)) ss)

  pub maybe_stmt : Numbers → ℕ → Tree.MaybeStmt → Tree.MaybeStmt
  maybe_stmt by n Tree.NoStmt = Tree.NoStmt
  maybe_stmt by n (Tree.AStmt s) = Tree.AStmt (stmt by n s)

  pub handler : Numbers → ℕ → Tree.Handler → Tree.Handler
  handler by n Tree.NoHandler = Tree.NoHandler
  handler by n (Tree.ACatch name block) = Tree.ACatch name (stmt by n block)

  pub for_init : Numbers → ℕ → Tree.ForInit → Tree.ForInit
  for_init by n Tree.Nothing = Tree.Nothing
  for_init by n (Tree.Vars items) = Tree.Vars (var_items by n items)
  for_init by n (Tree.First e) = Tree.First (expr by n e)

  pub for_target : Numbers → ℕ → Tree.ForTarget → Tree.ForTarget
  for_target by n (Tree.AVar name value) = Tree.AVar name (maybe_expr by n value)
  for_target by n (Tree.Target e) = Tree.Target (expr by n e)

  pub var_items : Numbers → ℕ → Tree.VarItems → Tree.VarItems
  var_items by n Tree.NoVarItems = Tree.NoVarItems
  var_items by n (Tree.MoreVarItems name value rest) =
      Tree.MoreVarItems name (maybe_expr by n value)
      (var_items by (behind n (in_maybe_expr value)) rest)

  pub cases : Numbers → ℕ → Tree.Cases → Tree.Cases
  cases by n Tree.NoCases = Tree.NoCases
  cases by n (Tree.MoreCases test body rest) =
      let m = behind n (in_maybe_expr test) in
      Tree.MoreCases (maybe_expr by n test) (stmts by m body)
      (cases by (behind m (in_stmts body)) rest)

  pub func : Numbers → ℕ → Tree.Func → Tree.Func
  func by n (Tree.Code number name formals body role) =
      Tree.Code (by n) name formals (stmts by (n + 1) body) role

abbrev pub scripts : Numbers → ℕ → List Tree.Script → List Tree.Script
scripts by n [] = []
scripts by n (s ∷ ss) = stmts by n s ∷ scripts by (behind n (in_stmts s)) ss

-- ---- the numbers 1, 2, .., and no number

-- each place is its own number
abbrev pub counted : Numbers
counted n = n

abbrev pub renumbered : ℕ → List Tree.Script → List Tree.Script
renumbered = scripts counted

abbrev pub all_zero : Numbers
all_zero n = 0

-- scripts are alike where they differ in the numbers of functions alone
abbrev pub Alike : List Tree.Script → List Tree.Script → Type 0
Alike left right = scripts all_zero 0 left ≡ scripts all_zero 0 right
