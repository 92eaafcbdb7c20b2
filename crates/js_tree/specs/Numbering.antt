-- The numbers of functions: 1, 2, .. over the scripts in order, by the place of a function's first
-- token. A function's first token is its word `function`, so a function comes before those inside
-- it, and these come in the order of the text.
use Rattle.std.specs.Prelude.{◌≡◌, ℕ, ◌+◌, Bool, ◌&&◌, nat_le, List, [], ◌∷◌, ◌++◌}
use Rattle.js_tree.specs.Tree

-- the greatest number of a function
abbrev pub last_function_number : ℕ
last_function_number = 65535

-- the numbers that a function may have
abbrev pub is_function_number : ℕ → Bool
is_function_number n = nat_le 1 n && nat_le n last_function_number

-- the functions of a tree, in the order of their first tokens
abbrev mutual
  pub in_expr : Tree.Expr → List Tree.Func
  in_expr (Tree.Num n) = []
  in_expr (Tree.Str text) = []
  in_expr (Tree.Truth b) = []
  in_expr Tree.Null = []
  in_expr Tree.This = []
  in_expr (Tree.Ident name) = []
  in_expr (Tree.Array es) = in_elements es
  in_expr (Tree.Object ps) = in_pairs ps
  in_expr (Tree.Function f) = in_func f
  in_expr (Tree.Dot object name) = in_expr object
  in_expr (Tree.Index object key) = in_expr object ++ in_expr key
  in_expr (Tree.Call callee es) = in_expr callee ++ in_exprs es
  in_expr (Tree.New callee es) = in_expr callee ++ in_exprs es
  in_expr (Tree.Postfix target op) = in_expr target
  in_expr (Tree.Prefix op operand) = in_expr operand
  in_expr (Tree.Binary op left right) = in_expr left ++ in_expr right
  in_expr (Tree.And left right) = in_expr left ++ in_expr right
  in_expr (Tree.Or left right) = in_expr left ++ in_expr right
  in_expr (Tree.Comma left right) = in_expr left ++ in_expr right
  in_expr (Tree.Cond test then other) = in_expr test ++ (in_expr then ++ in_expr other)
  in_expr (Tree.Assign op target value) = in_expr target ++ in_expr value
  in_expr (Tree.Late k) = []

  pub in_exprs : Tree.Exprs → List Tree.Func
  in_exprs Tree.NoExprs = []
  in_exprs (Tree.MoreExprs e es) = in_expr e ++ in_exprs es

  pub in_maybe_expr : Tree.MaybeExpr → List Tree.Func
  in_maybe_expr Tree.NoExpr = []
  in_maybe_expr (Tree.AnExpr e) = in_expr e

  pub in_elements : Tree.Elements → List Tree.Func
  in_elements Tree.NoElements = []
  in_elements (Tree.MoreElements e es) = in_maybe_expr e ++ in_elements es

  pub in_pairs : Tree.Pairs → List Tree.Func
  in_pairs Tree.NoPairs = []
  in_pairs (Tree.MorePairs key value ps) = in_expr value ++ in_pairs ps

  pub in_stmt : Tree.Stmt → List Tree.Func
  in_stmt (Tree.Block body) = in_stmts body
  in_stmt (Tree.Variables items) = in_var_items items
  in_stmt Tree.Empty = []
  in_stmt (Tree.Do e) = in_expr e
  in_stmt (Tree.If test then other) = in_expr test ++ (in_stmt then ++ in_maybe_stmt other)
  in_stmt (Tree.DoWhile body test) = in_stmt body ++ in_expr test
  in_stmt (Tree.While test body) = in_expr test ++ in_stmt body
  in_stmt (Tree.For first test next body) =
      in_for_init first ++ (in_maybe_expr test ++ (in_maybe_expr next ++ in_stmt body))
  in_stmt (Tree.ForIn target object body) = in_for_target target ++ (in_expr object ++ in_stmt body)
  in_stmt (Tree.Continue label) = []
  in_stmt (Tree.Break label) = []
  in_stmt (Tree.Return value) = in_maybe_expr value
  in_stmt (Tree.Switch value cs) = in_expr value ++ in_cases cs
  in_stmt (Tree.Label name body) = in_stmt body
  in_stmt (Tree.Throw e) = in_expr e
  in_stmt (Tree.Try block caught last) = in_stmt block ++ (in_handler caught ++ in_maybe_stmt last)
  in_stmt (Tree.Declare f) = in_func f
  in_stmt (Tree.Used n) = []

  pub in_stmts : Tree.Stmts → List Tree.Func
  in_stmts Tree.NoStmts = []
  in_stmts (Tree.MoreStmts s ss) = in_stmt s ++ in_stmts ss

  pub in_maybe_stmt : Tree.MaybeStmt → List Tree.Func
  in_maybe_stmt Tree.NoStmt = []
  in_maybe_stmt (Tree.AStmt s) = in_stmt s

  pub in_handler : Tree.Handler → List Tree.Func
  in_handler Tree.NoHandler = []
  in_handler (Tree.ACatch name block) = in_stmt block

  pub in_for_init : Tree.ForInit → List Tree.Func
  in_for_init Tree.Nothing = []
  in_for_init (Tree.Vars items) = in_var_items items
  in_for_init (Tree.First e) = in_expr e

  pub in_for_target : Tree.ForTarget → List Tree.Func
  in_for_target (Tree.AVar name value) = in_maybe_expr value
  in_for_target (Tree.Target e) = in_expr e

  pub in_var_items : Tree.VarItems → List Tree.Func
  in_var_items Tree.NoVarItems = []
  in_var_items (Tree.MoreVarItems name value rest) = in_maybe_expr value ++ in_var_items rest

  pub in_cases : Tree.Cases → List Tree.Func
  in_cases Tree.NoCases = []
  in_cases (Tree.MoreCases test body rest) = in_maybe_expr test ++ (in_stmts body ++ in_cases rest)

  pub in_func : Tree.Func → List Tree.Func
  in_func (Tree.Code number name formals body role) =
      Tree.Code number name formals body role ∷ in_stmts body

abbrev pub number_of : Tree.Func → ℕ
number_of (Tree.Code number name formals body role) = number

-- the functions of scripts, in the order of their numbers
abbrev pub functions : List Tree.Script → List Tree.Func
functions [] = []
functions (s ∷ ss) = in_stmts s ++ functions ss

-- the numbers from n on are those of the functions, in order
abbrev pub AreFrom : ℕ → List Tree.Func → Type 0
AreFrom n [] = Unit {0}
AreFrom n (f ∷ fs) = (number_of f ≡ n) × AreFrom (n + 1) fs

-- the functions of the scripts have the numbers 1, 2, ..
abbrev pub IsNumbered : List Tree.Script → Type 0
IsNumbered scripts = AreFrom 1 (functions scripts)
