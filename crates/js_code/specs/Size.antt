-- A number for each tree of code that is greater than those of what it holds.
use Rattle.std.specs.Prelude.{ℕ, ◌+◌, List, Option}
use Rattle.js_tree.specs.declared.tree.Expr.{Expr}
use Rattle.js_tree.specs.declared.tree.Stmt.{Stmt}
use Rattle.js_tree.specs.declared.tree.Func.{Func}
use Rattle.js_tree.specs.declared.tree.Pair.{Pair}
use Rattle.js_tree.specs.declared.tree.Case.{Case}
use Rattle.js_tree.specs.declared.tree.VarItem.{VarItem}
use Rattle.js_tree.specs.Heights.{Growth, expr_height, exprs_height, elements_height, pairs_height}
use Rattle.js_tree.specs.Heights.{stmt_height, stmts_height, var_items_height, cases_height}
use Rattle.js_tree.specs.Heights.{func_height}
use Rattle.js_tree.specs.Plain as view
use Rattle.js_tree.specs.Parts as parts

-- room for a list between a node and its parts, and for a body between a function and its list
abbrev pub by_code : Growth
by_code = record { node = λ n. n + 3; function = λ n. n + 3 }

abbrev pub expr_size : Expr → ℕ
expr_size e = expr_height by_code (view.expr e)

abbrev pub exprs_size : List Expr → ℕ
exprs_size es = exprs_height by_code (parts.exprs es) + 1

abbrev pub elements_size : List (Option Expr) → ℕ
elements_size es = elements_height by_code (parts.elements es) + 1

abbrev pub pairs_size : List Pair → ℕ
pairs_size ps = pairs_height by_code (parts.pairs ps) + 1

abbrev pub stmt_size : Stmt → ℕ
stmt_size s = stmt_height by_code (view.stmt s)

abbrev pub stmts_size : List Stmt → ℕ
stmts_size ss = stmts_height by_code (view.body ss) + 1

abbrev pub var_items_size : List VarItem → ℕ
var_items_size vs = var_items_height by_code (parts.var_items vs) + 1

-- a clause holds a list
abbrev pub cases_size : List Case → ℕ
cases_size cs = cases_height by_code (parts.cases cs) + 2

abbrev pub body_size : List Stmt → ℕ
body_size ss = stmts_height by_code (view.body ss) + 2

abbrev pub func_size : Func → ℕ
func_size f = func_height by_code (view.func f)
