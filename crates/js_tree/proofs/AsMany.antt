-- A tree with other numbers has as many functions.
use Rattle.std.proofs.Common.{◌≡◌, ℕ, ◌+◌, suc, List, [], ◌∷◌, ◌++◌, length, refl, ap, sym, ◌∙◌}
use Rattle.std.proofs.lemmas.List.{length-append}
use Rattle.js_tree.specs.Tree
use Rattle.js_tree.specs.Numbering.{in_expr, in_exprs, in_maybe_expr, in_elements, in_pairs}
use Rattle.js_tree.specs.Numbering.{in_stmt, in_stmts, in_maybe_stmt, in_handler, in_for_init}
use Rattle.js_tree.specs.Numbering.{in_for_target, in_var_items, in_cases, in_func, functions}
use Rattle.js_tree.specs.Renumbering.{Numbers, behind, expr, exprs, maybe_expr, elements, pairs}
use Rattle.js_tree.specs.Renumbering.{stmt, stmts, maybe_stmt, handler, for_init, for_target}
use Rattle.js_tree.specs.Renumbering.{var_items, cases, func, scripts}

pub record AsMany (fs others : List Tree.Func) : Type 0 where
  pub same : length fs ≡ length others

none_more : AsMany [] []
none_more = record { same = refl }

one_more : {f other : Tree.Func} {fs others : List Tree.Func} → AsMany fs others
    → AsMany (f ∷ fs) (other ∷ others)
one_more h = record { same = ap suc h.same }

both : {fs others gs rest : List Tree.Func} → AsMany fs others → AsMany gs rest
    → AsMany (fs ++ gs) (others ++ rest)
both {fs = fs} {others = others} {gs = gs} {rest = rest} h k = record {
  same = length-append fs gs ∙ ap (λ n. n + length gs) h.same ∙ ap (λ n. length others + n) k.same
      ∙ sym (length-append others rest);
}

mutual
  pub expr_count
      : (by : Numbers) (n : ℕ) (x : Tree.Expr) → AsMany (in_expr (expr by n x)) (in_expr x)
  expr_count by n (Tree.Num v) = none_more
  expr_count by n (Tree.Str text) = none_more
  expr_count by n (Tree.Truth b) = none_more
  expr_count by n Tree.Null = none_more
  expr_count by n Tree.This = none_more
  expr_count by n (Tree.Ident name) = none_more
  expr_count by n (Tree.Array es) = elements_count by n es
  expr_count by n (Tree.Object ps) = pairs_count by n ps
  expr_count by n (Tree.Function f) = func_count by n f
  expr_count by n (Tree.Dot object name) = expr_count by n object
  expr_count by n (Tree.Index object key) =
      let m = behind n (in_expr object) in
      both (expr_count by n object) (expr_count by m key)
  expr_count by n (Tree.Call callee es) =
      let m = behind n (in_expr callee) in
      both (expr_count by n callee) (exprs_count by m es)
  expr_count by n (Tree.New callee es) =
      let m = behind n (in_expr callee) in
      both (expr_count by n callee) (exprs_count by m es)
  expr_count by n (Tree.Postfix target op) = expr_count by n target
  expr_count by n (Tree.Prefix op operand) = expr_count by n operand
  expr_count by n (Tree.Binary op left right) =
      let m = behind n (in_expr left) in
      both (expr_count by n left) (expr_count by m right)
  expr_count by n (Tree.And left right) =
      let m = behind n (in_expr left) in
      both (expr_count by n left) (expr_count by m right)
  expr_count by n (Tree.Or left right) =
      let m = behind n (in_expr left) in
      both (expr_count by n left) (expr_count by m right)
  expr_count by n (Tree.Comma left right) =
      let m = behind n (in_expr left) in
      both (expr_count by n left) (expr_count by m right)
  expr_count by n (Tree.Cond test then other) =
      let m = behind n (in_expr test) in
      let k = behind m (in_expr then) in
      both (expr_count by n test) (both (expr_count by m then) (expr_count by k other))
  expr_count by n (Tree.Assign op target value) =
      let m = behind n (in_expr target) in
      both (expr_count by n target) (expr_count by m value)
  expr_count by n (Tree.Late k) = none_more

  pub exprs_count
      : (by : Numbers) (n : ℕ) (x : Tree.Exprs) → AsMany (in_exprs (exprs by n x)) (in_exprs x)
  exprs_count by n Tree.NoExprs = none_more
  exprs_count by n (Tree.MoreExprs e es) =
      let m = behind n (in_expr e) in
      both (expr_count by n e) (exprs_count by m es)

  pub maybe_expr_count
      : (by : Numbers) (n : ℕ) (x : Tree.MaybeExpr) → AsMany (in_maybe_expr (maybe_expr by n x))
      (in_maybe_expr x)
  maybe_expr_count by n Tree.NoExpr = none_more
  maybe_expr_count by n (Tree.AnExpr e) = expr_count by n e

  pub elements_count
      : (by : Numbers) (n : ℕ) (x : Tree.Elements) → AsMany (in_elements (elements by n x))
      (in_elements x)
  elements_count by n Tree.NoElements = none_more
  elements_count by n (Tree.MoreElements e es) =
      let m = behind n (in_maybe_expr e) in
      both (maybe_expr_count by n e) (elements_count by m es)

  pub pairs_count
      : (by : Numbers) (n : ℕ) (x : Tree.Pairs) → AsMany (in_pairs (pairs by n x)) (in_pairs x)
  pairs_count by n Tree.NoPairs = none_more
  pairs_count by n (Tree.MorePairs key value ps) =
      let m = behind n (in_expr value) in
      both (expr_count by n value) (pairs_count by m ps)

  pub stmt_count
      : (by : Numbers) (n : ℕ) (x : Tree.Stmt) → AsMany (in_stmt (stmt by n x)) (in_stmt x)
  stmt_count by n (Tree.Block body) = stmts_count by n body
  stmt_count by n (Tree.Variables items) = var_items_count by n items
  stmt_count by n Tree.Empty = none_more
  stmt_count by n (Tree.Do e) = expr_count by n e
  stmt_count by n (Tree.If test then other) =
      let m = behind n (in_expr test) in
      let k = behind m (in_stmt then) in
      both (expr_count by n test) (both (stmt_count by m then) (maybe_stmt_count by k other))
  stmt_count by n (Tree.DoWhile body test) =
      let m = behind n (in_stmt body) in
      both (stmt_count by n body) (expr_count by m test)
  stmt_count by n (Tree.While test body) =
      let m = behind n (in_expr test) in
      both (expr_count by n test) (stmt_count by m body)
  stmt_count by n (Tree.For first test next body) =
      let m = behind n (in_for_init first) in
      let k = behind m (in_maybe_expr test) in
      let j = behind k (in_maybe_expr next) in
      both (for_init_count by n first) (both (maybe_expr_count by m test) (both (maybe_expr_count
      by k next) (stmt_count by j body)))
  stmt_count by n (Tree.ForIn target object body) =
      let m = behind n (in_for_target target) in
      let k = behind m (in_expr object) in
      both (for_target_count by n target) (both (expr_count by m object) (stmt_count by k body))
  stmt_count by n (Tree.Continue label) = none_more
  stmt_count by n (Tree.Break label) = none_more
  stmt_count by n (Tree.Return value) = maybe_expr_count by n value
  stmt_count by n (Tree.Switch value cs) =
      let m = behind n (in_expr value) in
      both (expr_count by n value) (cases_count by m cs)
  stmt_count by n (Tree.Label name body) = stmt_count by n body
  stmt_count by n (Tree.Throw e) = expr_count by n e
  stmt_count by n (Tree.Try block caught last) =
      let m = behind n (in_stmt block) in
      let k = behind m (in_handler caught) in
      both (stmt_count by n block) (both (handler_count by m caught) (maybe_stmt_count by k last))
  stmt_count by n (Tree.Declare f) = func_count by n f
  stmt_count by n (Tree.Used k) = none_more

  pub stmts_count
      : (by : Numbers) (n : ℕ) (x : Tree.Stmts) → AsMany (in_stmts (stmts by n x)) (in_stmts x)
  stmts_count by n Tree.NoStmts = none_more
  stmts_count by n (Tree.MoreStmts s ss) =
      let m = behind n (in_stmt s) in
      both (stmt_count by n s) (stmts_count by m ss)

  pub maybe_stmt_count
      : (by : Numbers) (n : ℕ) (x : Tree.MaybeStmt) → AsMany (in_maybe_stmt (maybe_stmt by n x))
      (in_maybe_stmt x)
  maybe_stmt_count by n Tree.NoStmt = none_more
  maybe_stmt_count by n (Tree.AStmt s) = stmt_count by n s

  pub handler_count
      : (by : Numbers) (n : ℕ) (x : Tree.Handler) → AsMany (in_handler (handler by n x))
      (in_handler x)
  handler_count by n Tree.NoHandler = none_more
  handler_count by n (Tree.ACatch name block) = stmt_count by n block

  pub for_init_count
      : (by : Numbers) (n : ℕ) (x : Tree.ForInit) → AsMany (in_for_init (for_init by n x))
      (in_for_init x)
  for_init_count by n Tree.Nothing = none_more
  for_init_count by n (Tree.Vars items) = var_items_count by n items
  for_init_count by n (Tree.First e) = expr_count by n e

  pub for_target_count
      : (by : Numbers) (n : ℕ) (x : Tree.ForTarget) → AsMany (in_for_target (for_target by n x))
      (in_for_target x)
  for_target_count by n (Tree.AVar name value) = maybe_expr_count by n value
  for_target_count by n (Tree.Target e) = expr_count by n e

  pub var_items_count
      : (by : Numbers) (n : ℕ) (x : Tree.VarItems) → AsMany (in_var_items (var_items by n x))
      (in_var_items x)
  var_items_count by n Tree.NoVarItems = none_more
  var_items_count by n (Tree.MoreVarItems name value rest) =
      let m = behind n (in_maybe_expr value) in
      both (maybe_expr_count by n value) (var_items_count by m rest)

  pub cases_count
      : (by : Numbers) (n : ℕ) (x : Tree.Cases) → AsMany (in_cases (cases by n x)) (in_cases x)
  cases_count by n Tree.NoCases = none_more
  cases_count by n (Tree.MoreCases test body rest) =
      let m = behind n (in_maybe_expr test) in
      let k = behind m (in_stmts body) in
      both (maybe_expr_count by n test) (both (stmts_count by m body) (cases_count by k rest))

  pub func_count
      : (by : Numbers) (n : ℕ) (x : Tree.Func) → AsMany (in_func (func by n x)) (in_func x)
  func_count by n (Tree.Code number name formals body role) =
      one_more (stmts_count by (n + 1) body)

pub scripts_count
    : (by : Numbers) (n : ℕ) (ss : List Tree.Script) → AsMany (functions (scripts by n ss)) (functions ss)
scripts_count by n [] = none_more
scripts_count by n (s ∷ ss) = both (stmts_count by n s) (scripts_count by (behind n (in_stmts s)) ss)
