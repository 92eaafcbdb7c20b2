-- Small trees, one for each kind of node that has others in it, in the order of the text: what is
-- defined on trees is computed on them.
use Rattle.std.specs.Prelude.{ℕ, true, List, [], ◌∷◌, map, replicate, codes, Some, None}
use Rattle.js_tree.specs.declared.tree.BinaryOp.TheVariants.{Add}
use Rattle.js_tree.specs.declared.tree.PrefixOp.TheVariants.{Not}
use Rattle.js_tree.specs.declared.tree.PostfixOp.TheVariants.{Increment}
use Rattle.js_tree.specs.declared.tree.Role.TheVariants.{Plain}
use Rattle.js_tree.specs.Tree.{Name, Expr, Stmt, Stmts, Func, Script}
use Rattle.js_tree.specs.Tree as tree
use Rattle.js_tree.specs.Numbering.{in_expr, in_stmt, number_of}

abbrev pub x : Name
x = codes "x"

-- a function of this number, with this body
abbrev pub numbered : ℕ → Stmts → Func
numbered n body = tree.Code n None [] body Plain

-- a function expression of this number
abbrev pub function : ℕ → Expr
function n = tree.Function (numbered n tree.NoStmts)

abbrev pub two_statements : Expr → Expr → Stmts
two_statements a b = tree.MoreStmts (tree.Do a) (tree.MoreStmts (tree.Do b) tree.NoStmts)

abbrev pub two_expressions : Expr → Expr → tree.Exprs
two_expressions a b = tree.MoreExprs a (tree.MoreExprs b tree.NoExprs)

abbrev pub two_items : Expr → Expr → tree.VarItems
two_items a b =
    tree.MoreVarItems x (tree.AnExpr a)
    (tree.MoreVarItems x tree.NoExpr (tree.MoreVarItems x (tree.AnExpr b) tree.NoVarItems))

abbrev pub two_elements : Expr → Expr → tree.Elements
two_elements a b =
    tree.MoreElements (tree.AnExpr a)
    (tree.MoreElements tree.NoExpr (tree.MoreElements (tree.AnExpr b) tree.NoElements))

abbrev pub two_pairs : Expr → Expr → tree.Pairs
two_pairs a b = tree.MorePairs x a (tree.MorePairs x b tree.NoPairs)

-- `case b: c; default: d;`
abbrev pub two_cases : Expr → Expr → Expr → tree.Cases
two_cases b c d =
    tree.MoreCases (tree.AnExpr b) (tree.MoreStmts (tree.Do c) tree.NoStmts)
    (tree.MoreCases tree.NoExpr (tree.MoreStmts (tree.Do d) tree.NoStmts) tree.NoCases)

-- the expressions with none in them
abbrev pub leaves : List Expr
leaves = tree.Num 1 ∷ tree.Str x ∷ tree.Truth true ∷ tree.Null ∷ tree.This ∷ tree.Ident x
    ∷ tree.Late 1 ∷ []

-- those with others in them, and this function expression
abbrev pub expressions_with : Expr → Expr → Expr → Expr → List Expr
expressions_with f a b c =
    tree.Array (two_elements a b)
    ∷ tree.Object (two_pairs a b)
    ∷ f
    ∷ tree.Dot a x
    ∷ tree.Index a b
    ∷ tree.Call a (two_expressions b c)
    ∷ tree.New a (two_expressions b c)
    ∷ tree.Postfix a Increment
    ∷ tree.Prefix Not a
    ∷ tree.Binary Add a b
    ∷ tree.And a b
    ∷ tree.Or a b
    ∷ tree.Comma a b
    ∷ tree.Cond a b c
    ∷ tree.Assign None a b
    ∷ []

abbrev pub expressions : Expr → Expr → Expr → List Expr
expressions a b c = expressions_with (tree.Function (numbered 9 (two_statements a b))) a b c

-- the statements with nothing in them
abbrev pub bare_statements : List Stmt
bare_statements =
    tree.Empty
    ∷ tree.Continue None
    ∷ tree.Break (Some x)
    ∷ tree.Return tree.NoExpr
    ∷ tree.Block tree.NoStmts
    ∷ tree.Variables (tree.MoreVarItems x tree.NoExpr tree.NoVarItems)
    ∷ tree.Used 1
    ∷ []

-- those with expressions or statements in them, and the declaration of this function
abbrev pub statements_with : Func → Expr → Expr → Expr → Expr → List Stmt
statements_with f a b c d =
    tree.Block (two_statements a b)
    ∷ tree.Variables (two_items a b)
    ∷ tree.Do a
    ∷ tree.If a (tree.Do b) (tree.AStmt (tree.Do c))
    ∷ tree.If a (tree.Do b) tree.NoStmt
    ∷ tree.DoWhile (tree.Do a) b
    ∷ tree.While a (tree.Do b)
    ∷ tree.For (tree.Vars (two_items a b)) (tree.AnExpr c) (tree.AnExpr d) tree.Empty
    ∷ tree.For (tree.First a) (tree.AnExpr b) (tree.AnExpr c) (tree.Do d)
    ∷ tree.For tree.Nothing tree.NoExpr tree.NoExpr (tree.Do a)
    ∷ tree.ForIn (tree.AVar x (tree.AnExpr a)) b (tree.Do c)
    ∷ tree.ForIn (tree.Target a) b (tree.Do c)
    ∷ tree.Return (tree.AnExpr a)
    ∷ tree.Switch a (two_cases b c d)
    ∷ tree.Label x (tree.Do a)
    ∷ tree.Throw a
    ∷ tree.Try (tree.Do a) (tree.ACatch x (tree.Do b)) (tree.AStmt (tree.Do c))
    ∷ tree.Try (tree.Do a) tree.NoHandler tree.NoStmt
    ∷ tree.Declare f
    ∷ []

abbrev pub statements : Expr → Expr → Expr → Expr → List Stmt
statements a b c d = statements_with (numbered 9 (two_statements a b)) a b c d

-- ---- the numbers of the functions in them

abbrev pub numbers_in : Expr → List ℕ
numbers_in e = map number_of (in_expr e)

abbrev pub statement_numbers : Stmt → List ℕ
statement_numbers s = map number_of (in_stmt s)

-- a script of one declaration of this number
abbrev pub script_of : ℕ → Script
script_of n = tree.MoreStmts (tree.Declare (numbered n tree.NoStmts)) tree.NoStmts

-- ---- what they are

abbrev pub no_numbers : ℕ → List (List ℕ)
no_numbers n = replicate n []

-- functions in one another, with these numbers
abbrev pub nested_with : ℕ → ℕ → ℕ → Expr
nested_with a b c = tree.Function (numbered a (two_statements
    (tree.Function (numbered b (tree.MoreStmts (tree.Do (function c)) tree.NoStmts)))
    tree.Null))

abbrev pub nested : Expr
nested = nested_with 7 8 9

-- the same expressions and statements, with functions of these numbers
abbrev pub expressions_from : ℕ → ℕ → ℕ → List Expr
expressions_from a b c =
    expressions_with (nested_with a b c) (function a) (function b) (function c)

abbrev pub statements_from : ℕ → ℕ → ℕ → ℕ → List Stmt
statements_from a b c d =
    statements_with
    (numbered a (two_statements (function b) (function c)))
    (function a) (function b) (function c) (function d)

abbrev pub one_number : List ℕ
one_number = 1 ∷ []

abbrev pub two_numbers : List ℕ
two_numbers = 1 ∷ 2 ∷ []

abbrev pub three_numbers : List ℕ
three_numbers = 1 ∷ 2 ∷ 3 ∷ []

abbrev pub four_numbers : List ℕ
four_numbers = 1 ∷ 2 ∷ 3 ∷ 4 ∷ []

-- of `expressions`, where a, b and c are the functions 1, 2 and 3
abbrev pub expression_numbers : List (List ℕ)
expression_numbers =
    two_numbers
    ∷ two_numbers
    ∷ (9 ∷ two_numbers)
    ∷ one_number
    ∷ two_numbers
    ∷ three_numbers
    ∷ three_numbers
    ∷ one_number
    ∷ one_number
    ∷ two_numbers
    ∷ two_numbers
    ∷ two_numbers
    ∷ two_numbers
    ∷ three_numbers
    ∷ two_numbers
    ∷ []

-- of `statements`, where a, b, c and d are the functions 1, 2, 3 and 4
abbrev pub numbers_of_statements : List (List ℕ)
numbers_of_statements =
    two_numbers
    ∷ two_numbers
    ∷ one_number
    ∷ three_numbers
    ∷ two_numbers
    ∷ two_numbers
    ∷ two_numbers
    ∷ four_numbers
    ∷ four_numbers
    ∷ one_number
    ∷ three_numbers
    ∷ three_numbers
    ∷ one_number
    ∷ four_numbers
    ∷ one_number
    ∷ one_number
    ∷ three_numbers
    ∷ one_number
    ∷ (9 ∷ two_numbers)
    ∷ []
