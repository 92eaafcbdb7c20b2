-- A tree that is given numbers in order has them, and one that has them already stays.
use Rattle.std.proofs.Common.{◌≡◌, ℕ, ◌+◌, List, [], ◌∷◌, ◌++◌, length, refl, ap, sym, subst, arith}
use Rattle.js_tree.specs.Tree
use Rattle.js_tree.specs.Numbering.{in_expr, in_exprs, in_maybe_expr, in_elements, in_pairs}
use Rattle.js_tree.specs.Numbering.{in_stmt, in_stmts, in_maybe_stmt, in_handler, in_for_init}
use Rattle.js_tree.specs.Numbering.{in_for_target, in_var_items, in_cases, in_func, functions}
use Rattle.js_tree.specs.Numbering.{AreFrom}
use Rattle.js_tree.specs.Renumbering.{behind, counted, expr, exprs, maybe_expr, elements, pairs}
use Rattle.js_tree.specs.Renumbering.{stmt, stmts, maybe_stmt, handler, for_init, for_target}
use Rattle.js_tree.specs.Renumbering.{var_items, cases, func, renumbered}
use Rattle.js_tree.proofs.Equal.{ap2, ap3, ap4}
use Rattle.js_tree.proofs.AsMany.{AsMany, expr_count, exprs_count, maybe_expr_count, elements_count}
use Rattle.js_tree.proofs.AsMany.{pairs_count, stmt_count, stmts_count, maybe_stmt_count}
use Rattle.js_tree.proofs.AsMany.{handler_count, for_init_count, for_target_count, var_items_count}
use Rattle.js_tree.proofs.AsMany.{cases_count}

-- ---- numbers over two lists, one behind the other

pub record From (n : ℕ) (fs : List Tree.Func) : Type 0 where
  pub are : AreFrom n fs

none_from : {n : ℕ} → From n []
none_from = record { are = tt }

joined_from : (n : ℕ) (fs gs : List Tree.Func) → AreFrom n fs → AreFrom (behind n fs) gs
    → AreFrom n (fs ++ gs)
joined_from n [] gs _ h =
    let place : n + 0 ≡ n = omega arith in
    subst (λ m. AreFrom m gs) place h
joined_from n (f ∷ fs) gs p h =
    let place : behind n (f ∷ fs) ≡ behind (n + 1) fs = omega arith in
    (p.0, joined_from (n + 1) fs gs p.1 (subst (λ m. AreFrom m gs) place h))

both_from : {n : ℕ} {fs others gs : List Tree.Func} → AsMany fs others → From n fs → From (behind n others) gs
    → From n (fs ++ gs)
both_from {n = n} {fs = fs} {gs = gs} many p h = record {
  are = joined_from n fs gs p.are (subst (λ m. AreFrom (n + m) gs) (sym many.same) h.are);
}

split_from : (n : ℕ) (fs gs : List Tree.Func) → AreFrom n (fs ++ gs) → AreFrom n fs × AreFrom (behind n fs) gs
split_from n [] gs h =
    let place : n ≡ n + 0 = omega arith in
    (tt, subst (λ m. AreFrom m gs) place h)
split_from n (f ∷ fs) gs h =
    let rest = split_from (n + 1) fs gs h.1 in
    let place : behind (n + 1) fs ≡ behind n (f ∷ fs) = omega arith in
    ((h.0, rest.0), subst (λ m. AreFrom m gs) place rest.1)

-- ---- the numbers that are given

mutual
  pub expr_numbers : (n : ℕ) (x : Tree.Expr) → From n (in_expr (expr counted n x))
  expr_numbers n (Tree.Num v) = none_from
  expr_numbers n (Tree.Str text) = none_from
  expr_numbers n (Tree.Truth b) = none_from
  expr_numbers n Tree.Null = none_from
  expr_numbers n Tree.This = none_from
  expr_numbers n (Tree.Ident name) = none_from
  expr_numbers n (Tree.Array es) = elements_numbers n es
  expr_numbers n (Tree.Object ps) = pairs_numbers n ps
  expr_numbers n (Tree.Function f) = func_numbers n f
  expr_numbers n (Tree.Dot object name) = expr_numbers n object
  expr_numbers n (Tree.Index object key) =
      let m = behind n (in_expr object) in
      both_from (expr_count counted n object) (expr_numbers n object) (expr_numbers m key)
  expr_numbers n (Tree.Call callee es) =
      let m = behind n (in_expr callee) in
      both_from (expr_count counted n callee) (expr_numbers n callee) (exprs_numbers m es)
  expr_numbers n (Tree.New callee es) =
      let m = behind n (in_expr callee) in
      both_from (expr_count counted n callee) (expr_numbers n callee) (exprs_numbers m es)
  expr_numbers n (Tree.Postfix target op) = expr_numbers n target
  expr_numbers n (Tree.Prefix op operand) = expr_numbers n operand
  expr_numbers n (Tree.Binary op left right) =
      let m = behind n (in_expr left) in
      both_from (expr_count counted n left) (expr_numbers n left) (expr_numbers m right)
  expr_numbers n (Tree.And left right) =
      let m = behind n (in_expr left) in
      both_from (expr_count counted n left) (expr_numbers n left) (expr_numbers m right)
  expr_numbers n (Tree.Or left right) =
      let m = behind n (in_expr left) in
      both_from (expr_count counted n left) (expr_numbers n left) (expr_numbers m right)
  expr_numbers n (Tree.Comma left right) =
      let m = behind n (in_expr left) in
      both_from (expr_count counted n left) (expr_numbers n left) (expr_numbers m right)
  expr_numbers n (Tree.Cond test then other) =
      let m = behind n (in_expr test) in
      let k = behind m (in_expr then) in
      both_from (expr_count counted n test) (expr_numbers n test) (both_from (expr_count counted m
      then) (expr_numbers m then) (expr_numbers k other))
  expr_numbers n (Tree.Assign op target value) =
      let m = behind n (in_expr target) in
      both_from (expr_count counted n target) (expr_numbers n target) (expr_numbers m value)
  expr_numbers n (Tree.Late k) = none_from

  pub exprs_numbers : (n : ℕ) (x : Tree.Exprs) → From n (in_exprs (exprs counted n x))
  exprs_numbers n Tree.NoExprs = none_from
  exprs_numbers n (Tree.MoreExprs e es) =
      let m = behind n (in_expr e) in
      both_from (expr_count counted n e) (expr_numbers n e) (exprs_numbers m es)

  pub maybe_expr_numbers
      : (n : ℕ) (x : Tree.MaybeExpr) → From n (in_maybe_expr (maybe_expr counted n x))
  maybe_expr_numbers n Tree.NoExpr = none_from
  maybe_expr_numbers n (Tree.AnExpr e) = expr_numbers n e

  pub elements_numbers : (n : ℕ) (x : Tree.Elements) → From n (in_elements (elements counted n x))
  elements_numbers n Tree.NoElements = none_from
  elements_numbers n (Tree.MoreElements e es) =
      let m = behind n (in_maybe_expr e) in
      both_from (maybe_expr_count counted n e) (maybe_expr_numbers n e) (elements_numbers m es)

  pub pairs_numbers : (n : ℕ) (x : Tree.Pairs) → From n (in_pairs (pairs counted n x))
  pairs_numbers n Tree.NoPairs = none_from
  pairs_numbers n (Tree.MorePairs key value ps) =
      let m = behind n (in_expr value) in
      both_from (expr_count counted n value) (expr_numbers n value) (pairs_numbers m ps)

  pub stmt_numbers : (n : ℕ) (x : Tree.Stmt) → From n (in_stmt (stmt counted n x))
  stmt_numbers n (Tree.Block body) = stmts_numbers n body
  stmt_numbers n (Tree.Variables items) = var_items_numbers n items
  stmt_numbers n Tree.Empty = none_from
  stmt_numbers n (Tree.Do e) = expr_numbers n e
  stmt_numbers n (Tree.If test then other) =
      let m = behind n (in_expr test) in
      let k = behind m (in_stmt then) in
      both_from (expr_count counted n test) (expr_numbers n test) (both_from (stmt_count counted m
      then) (stmt_numbers m then) (maybe_stmt_numbers k other))
  stmt_numbers n (Tree.DoWhile body test) =
      let m = behind n (in_stmt body) in
      both_from (stmt_count counted n body) (stmt_numbers n body) (expr_numbers m test)
  stmt_numbers n (Tree.While test body) =
      let m = behind n (in_expr test) in
      both_from (expr_count counted n test) (expr_numbers n test) (stmt_numbers m body)
  stmt_numbers n (Tree.For first test next body) =
      let m = behind n (in_for_init first) in
      let k = behind m (in_maybe_expr test) in
      let j = behind k (in_maybe_expr next) in
      both_from (for_init_count counted n first) (for_init_numbers n first) (both_from
      (maybe_expr_count counted m test) (maybe_expr_numbers m test) (both_from (maybe_expr_count
      counted k next) (maybe_expr_numbers k next) (stmt_numbers j body)))
  stmt_numbers n (Tree.ForIn target object body) =
      let m = behind n (in_for_target target) in
      let k = behind m (in_expr object) in
      both_from (for_target_count counted n target) (for_target_numbers n target) (both_from
      (expr_count counted m object) (expr_numbers m object) (stmt_numbers k body))
  stmt_numbers n (Tree.Continue label) = none_from
  stmt_numbers n (Tree.Break label) = none_from
  stmt_numbers n (Tree.Return value) = maybe_expr_numbers n value
  stmt_numbers n (Tree.Switch value cs) =
      let m = behind n (in_expr value) in
      both_from (expr_count counted n value) (expr_numbers n value) (cases_numbers m cs)
  stmt_numbers n (Tree.Label name body) = stmt_numbers n body
  stmt_numbers n (Tree.Throw e) = expr_numbers n e
  stmt_numbers n (Tree.Try block caught last) =
      let m = behind n (in_stmt block) in
      let k = behind m (in_handler caught) in
      both_from (stmt_count counted n block) (stmt_numbers n block) (both_from (handler_count
      counted m caught) (handler_numbers m caught) (maybe_stmt_numbers k last))
  stmt_numbers n (Tree.Declare f) = func_numbers n f
  stmt_numbers n (Tree.Used k) = none_from

  pub stmts_numbers : (n : ℕ) (x : Tree.Stmts) → From n (in_stmts (stmts counted n x))
  stmts_numbers n Tree.NoStmts = none_from
  stmts_numbers n (Tree.MoreStmts s ss) =
      let m = behind n (in_stmt s) in
      both_from (stmt_count counted n s) (stmt_numbers n s) (stmts_numbers m ss)

  pub maybe_stmt_numbers
      : (n : ℕ) (x : Tree.MaybeStmt) → From n (in_maybe_stmt (maybe_stmt counted n x))
  maybe_stmt_numbers n Tree.NoStmt = none_from
  maybe_stmt_numbers n (Tree.AStmt s) = stmt_numbers n s

  pub handler_numbers : (n : ℕ) (x : Tree.Handler) → From n (in_handler (handler counted n x))
  handler_numbers n Tree.NoHandler = none_from
  handler_numbers n (Tree.ACatch name block) = stmt_numbers n block

  pub for_init_numbers : (n : ℕ) (x : Tree.ForInit) → From n (in_for_init (for_init counted n x))
  for_init_numbers n Tree.Nothing = none_from
  for_init_numbers n (Tree.Vars items) = var_items_numbers n items
  for_init_numbers n (Tree.First e) = expr_numbers n e

  pub for_target_numbers
      : (n : ℕ) (x : Tree.ForTarget) → From n (in_for_target (for_target counted n x))
  for_target_numbers n (Tree.AVar name value) = maybe_expr_numbers n value
  for_target_numbers n (Tree.Target e) = expr_numbers n e

  pub var_items_numbers
      : (n : ℕ) (x : Tree.VarItems) → From n (in_var_items (var_items counted n x))
  var_items_numbers n Tree.NoVarItems = none_from
  var_items_numbers n (Tree.MoreVarItems name value rest) =
      let m = behind n (in_maybe_expr value) in
      both_from (maybe_expr_count counted n value) (maybe_expr_numbers n value) (var_items_numbers
      m rest)

  pub cases_numbers : (n : ℕ) (x : Tree.Cases) → From n (in_cases (cases counted n x))
  cases_numbers n Tree.NoCases = none_from
  cases_numbers n (Tree.MoreCases test body rest) =
      let m = behind n (in_maybe_expr test) in
      let k = behind m (in_stmts body) in
      both_from (maybe_expr_count counted n test) (maybe_expr_numbers n test) (both_from
      (stmts_count counted m body) (stmts_numbers m body) (cases_numbers k rest))

  pub func_numbers : (n : ℕ) (x : Tree.Func) → From n (in_func (func counted n x))
  func_numbers n (Tree.Code number name formals body role) =
      record { are = (refl, (stmts_numbers (n + 1) body).are) }

pub scripts_numbers : (n : ℕ) (ss : List Tree.Script) → From n (functions (renumbered n ss))
scripts_numbers n [] = none_from
scripts_numbers n (s ∷ ss) =
    both_from (stmts_count counted n s) (stmts_numbers n s) (scripts_numbers (behind n (in_stmts s)) ss)

-- ---- what has them already

mutual
  pub expr_stays : (n : ℕ) (x : Tree.Expr) → AreFrom n (in_expr x) → expr counted n x ≡ x
  expr_stays n (Tree.Num v) _ = refl
  expr_stays n (Tree.Str text) _ = refl
  expr_stays n (Tree.Truth b) _ = refl
  expr_stays n Tree.Null _ = refl
  expr_stays n Tree.This _ = refl
  expr_stays n (Tree.Ident name) _ = refl
  expr_stays n (Tree.Array es) h = ap Tree.Array (elements_stays n es h)
  expr_stays n (Tree.Object ps) h = ap Tree.Object (pairs_stays n ps h)
  expr_stays n (Tree.Function f) h = ap Tree.Function (func_stays n f h)
  expr_stays n (Tree.Dot object name) h = ap (λ x. Tree.Dot x name) (expr_stays n object h)
  expr_stays n (Tree.Index object key) h =
      let split = split_from n (in_expr object) (in_expr key) h in
      let m = behind n (in_expr object) in
      ap2 Tree.Index (expr_stays n object split.0) (expr_stays m key split.1)
  expr_stays n (Tree.Call callee es) h =
      let split = split_from n (in_expr callee) (in_exprs es) h in
      let m = behind n (in_expr callee) in
      ap2 Tree.Call (expr_stays n callee split.0) (exprs_stays m es split.1)
  expr_stays n (Tree.New callee es) h =
      let split = split_from n (in_expr callee) (in_exprs es) h in
      let m = behind n (in_expr callee) in
      ap2 Tree.New (expr_stays n callee split.0) (exprs_stays m es split.1)
  expr_stays n (Tree.Postfix target op) h = ap (λ x. Tree.Postfix x op) (expr_stays n target h)
  expr_stays n (Tree.Prefix op operand) h = ap (Tree.Prefix op) (expr_stays n operand h)
  expr_stays n (Tree.Binary op left right) h =
      let split = split_from n (in_expr left) (in_expr right) h in
      let m = behind n (in_expr left) in
      ap2 (Tree.Binary op) (expr_stays n left split.0) (expr_stays m right split.1)
  expr_stays n (Tree.And left right) h =
      let split = split_from n (in_expr left) (in_expr right) h in
      let m = behind n (in_expr left) in
      ap2 Tree.And (expr_stays n left split.0) (expr_stays m right split.1)
  expr_stays n (Tree.Or left right) h =
      let split = split_from n (in_expr left) (in_expr right) h in
      let m = behind n (in_expr left) in
      ap2 Tree.Or (expr_stays n left split.0) (expr_stays m right split.1)
  expr_stays n (Tree.Comma left right) h =
      let split = split_from n (in_expr left) (in_expr right) h in
      let m = behind n (in_expr left) in
      ap2 Tree.Comma (expr_stays n left split.0) (expr_stays m right split.1)
  expr_stays n (Tree.Cond test then other) h =
      let split1 = split_from n (in_expr test) (in_expr then ++ in_expr other) h in
      let m = behind n (in_expr test) in
      let split2 = split_from m (in_expr then) (in_expr other) split1.1 in
      let k = behind m (in_expr then) in
      ap3 Tree.Cond (expr_stays n test split1.0) (expr_stays m then split2.0) (expr_stays k other
      split2.1)
  expr_stays n (Tree.Assign op target value) h =
      let split = split_from n (in_expr target) (in_expr value) h in
      let m = behind n (in_expr target) in
      ap2 (Tree.Assign op) (expr_stays n target split.0) (expr_stays m value split.1)
  expr_stays n (Tree.Late k) _ = refl

  pub exprs_stays : (n : ℕ) (x : Tree.Exprs) → AreFrom n (in_exprs x) → exprs counted n x ≡ x
  exprs_stays n Tree.NoExprs _ = refl
  exprs_stays n (Tree.MoreExprs e es) h =
      let split = split_from n (in_expr e) (in_exprs es) h in
      let m = behind n (in_expr e) in
      ap2 Tree.MoreExprs (expr_stays n e split.0) (exprs_stays m es split.1)

  pub maybe_expr_stays
      : (n : ℕ) (x : Tree.MaybeExpr) → AreFrom n (in_maybe_expr x) → maybe_expr counted n x ≡ x
  maybe_expr_stays n Tree.NoExpr _ = refl
  maybe_expr_stays n (Tree.AnExpr e) h = ap Tree.AnExpr (expr_stays n e h)

  pub elements_stays
      : (n : ℕ) (x : Tree.Elements) → AreFrom n (in_elements x) → elements counted n x ≡ x
  elements_stays n Tree.NoElements _ = refl
  elements_stays n (Tree.MoreElements e es) h =
      let split = split_from n (in_maybe_expr e) (in_elements es) h in
      let m = behind n (in_maybe_expr e) in
      ap2 Tree.MoreElements (maybe_expr_stays n e split.0) (elements_stays m es split.1)

  pub pairs_stays : (n : ℕ) (x : Tree.Pairs) → AreFrom n (in_pairs x) → pairs counted n x ≡ x
  pairs_stays n Tree.NoPairs _ = refl
  pairs_stays n (Tree.MorePairs key value ps) h =
      let split = split_from n (in_expr value) (in_pairs ps) h in
      let m = behind n (in_expr value) in
      ap2 (Tree.MorePairs key) (expr_stays n value split.0) (pairs_stays m ps split.1)

  pub stmt_stays : (n : ℕ) (x : Tree.Stmt) → AreFrom n (in_stmt x) → stmt counted n x ≡ x
  stmt_stays n (Tree.Block body) h = ap Tree.Block (stmts_stays n body h)
  stmt_stays n (Tree.Variables items) h = ap Tree.Variables (var_items_stays n items h)
  stmt_stays n Tree.Empty _ = refl
  stmt_stays n (Tree.Do e) h = ap Tree.Do (expr_stays n e h)
  stmt_stays n (Tree.If test then other) h =
      let split1 = split_from n (in_expr test) (in_stmt then ++ in_maybe_stmt other) h in
      let m = behind n (in_expr test) in
      let split2 = split_from m (in_stmt then) (in_maybe_stmt other) split1.1 in
      let k = behind m (in_stmt then) in
      ap3 Tree.If (expr_stays n test split1.0) (stmt_stays m then split2.0) (maybe_stmt_stays k
      other split2.1)
  stmt_stays n (Tree.DoWhile body test) h =
      let split = split_from n (in_stmt body) (in_expr test) h in
      let m = behind n (in_stmt body) in
      ap2 Tree.DoWhile (stmt_stays n body split.0) (expr_stays m test split.1)
  stmt_stays n (Tree.While test body) h =
      let split = split_from n (in_expr test) (in_stmt body) h in
      let m = behind n (in_expr test) in
      ap2 Tree.While (expr_stays n test split.0) (stmt_stays m body split.1)
  stmt_stays n (Tree.For first test next body) h =
      let later = in_maybe_expr test ++ (in_maybe_expr next ++ in_stmt body) in
      let split1 = split_from n (in_for_init first) later h in
      let m = behind n (in_for_init first) in
      let split2 = split_from m (in_maybe_expr test) (in_maybe_expr next ++ in_stmt body) split1.1 in
      let k = behind m (in_maybe_expr test) in
      let split3 = split_from k (in_maybe_expr next) (in_stmt body) split2.1 in
      let j = behind k (in_maybe_expr next) in
      ap4 Tree.For (for_init_stays n first split1.0) (maybe_expr_stays m test split2.0)
      (maybe_expr_stays k next split3.0) (stmt_stays j body split3.1)
  stmt_stays n (Tree.ForIn target object body) h =
      let split1 = split_from n (in_for_target target) (in_expr object ++ in_stmt body) h in
      let m = behind n (in_for_target target) in
      let split2 = split_from m (in_expr object) (in_stmt body) split1.1 in
      let k = behind m (in_expr object) in
      ap3 Tree.ForIn (for_target_stays n target split1.0) (expr_stays m object split2.0)
      (stmt_stays k body split2.1)
  stmt_stays n (Tree.Continue label) _ = refl
  stmt_stays n (Tree.Break label) _ = refl
  stmt_stays n (Tree.Return value) h = ap Tree.Return (maybe_expr_stays n value h)
  stmt_stays n (Tree.Switch value cs) h =
      let split = split_from n (in_expr value) (in_cases cs) h in
      let m = behind n (in_expr value) in
      ap2 Tree.Switch (expr_stays n value split.0) (cases_stays m cs split.1)
  stmt_stays n (Tree.Label name body) h = ap (Tree.Label name) (stmt_stays n body h)
  stmt_stays n (Tree.Throw e) h = ap Tree.Throw (expr_stays n e h)
  stmt_stays n (Tree.Try block caught last) h =
      let split1 = split_from n (in_stmt block) (in_handler caught ++ in_maybe_stmt last) h in
      let m = behind n (in_stmt block) in
      let split2 = split_from m (in_handler caught) (in_maybe_stmt last) split1.1 in
      let k = behind m (in_handler caught) in
      ap3 Tree.Try (stmt_stays n block split1.0) (handler_stays m caught split2.0)
      (maybe_stmt_stays k last split2.1)
  stmt_stays n (Tree.Declare f) h = ap Tree.Declare (func_stays n f h)
  stmt_stays n (Tree.Used k) _ = refl

  pub stmts_stays : (n : ℕ) (x : Tree.Stmts) → AreFrom n (in_stmts x) → stmts counted n x ≡ x
  stmts_stays n Tree.NoStmts _ = refl
  stmts_stays n (Tree.MoreStmts s ss) h =
      let split = split_from n (in_stmt s) (in_stmts ss) h in
      let m = behind n (in_stmt s) in
      ap2 Tree.MoreStmts (stmt_stays n s split.0) (stmts_stays m ss split.1)

  pub maybe_stmt_stays
      : (n : ℕ) (x : Tree.MaybeStmt) → AreFrom n (in_maybe_stmt x) → maybe_stmt counted n x ≡ x
  maybe_stmt_stays n Tree.NoStmt _ = refl
  maybe_stmt_stays n (Tree.AStmt s) h = ap Tree.AStmt (stmt_stays n s h)

  pub handler_stays
      : (n : ℕ) (x : Tree.Handler) → AreFrom n (in_handler x) → handler counted n x ≡ x
  handler_stays n Tree.NoHandler _ = refl
  handler_stays n (Tree.ACatch name block) h = ap (Tree.ACatch name) (stmt_stays n block h)

  pub for_init_stays
      : (n : ℕ) (x : Tree.ForInit) → AreFrom n (in_for_init x) → for_init counted n x ≡ x
  for_init_stays n Tree.Nothing _ = refl
  for_init_stays n (Tree.Vars items) h = ap Tree.Vars (var_items_stays n items h)
  for_init_stays n (Tree.First e) h = ap Tree.First (expr_stays n e h)

  pub for_target_stays
      : (n : ℕ) (x : Tree.ForTarget) → AreFrom n (in_for_target x) → for_target counted n x ≡ x
  for_target_stays n (Tree.AVar name value) h = ap (Tree.AVar name) (maybe_expr_stays n value h)
  for_target_stays n (Tree.Target e) h = ap Tree.Target (expr_stays n e h)

  pub var_items_stays
      : (n : ℕ) (x : Tree.VarItems) → AreFrom n (in_var_items x) → var_items counted n x ≡ x
  var_items_stays n Tree.NoVarItems _ = refl
  var_items_stays n (Tree.MoreVarItems name value rest) h =
      let split = split_from n (in_maybe_expr value) (in_var_items rest) h in
      let m = behind n (in_maybe_expr value) in
      ap2 (Tree.MoreVarItems name) (maybe_expr_stays n value split.0) (var_items_stays m rest
      split.1)

  pub cases_stays : (n : ℕ) (x : Tree.Cases) → AreFrom n (in_cases x) → cases counted n x ≡ x
  cases_stays n Tree.NoCases _ = refl
  cases_stays n (Tree.MoreCases test body rest) h =
      let split1 = split_from n (in_maybe_expr test) (in_stmts body ++ in_cases rest) h in
      let m = behind n (in_maybe_expr test) in
      let split2 = split_from m (in_stmts body) (in_cases rest) split1.1 in
      let k = behind m (in_stmts body) in
      ap3 Tree.MoreCases (maybe_expr_stays n test split1.0) (stmts_stays m body split2.0)
      (cases_stays k rest split2.1)

  pub func_stays : (n : ℕ) (x : Tree.Func) → AreFrom n (in_func x) → func counted n x ≡ x
  func_stays n (Tree.Code number name formals body role) h =
      ap2 (λ k ss. Tree.Code k name formals ss role) (sym h.0) (stmts_stays (n + 1) body h.1)

pub scripts_stay : (n : ℕ) (ss : List Tree.Script) → AreFrom n (functions ss) → renumbered n ss ≡ ss
scripts_stay n [] _ = refl
scripts_stay n (s ∷ ss) h =
    let split = split_from n (in_stmts s) (functions ss) h in
    ap2 (λ x xs. x ∷ xs) (stmts_stays n s split.0) (scripts_stay (behind n (in_stmts s)) ss split.1)
