-- What is left of a list from an index on: the plain list that a cursor stands for.
use Rattle.std.specs.Prelude.{ℕ, List, Option, drop}
use Rattle.js_tree.specs.declared.tree.Expr.{Expr}
use Rattle.js_tree.specs.declared.tree.Stmt.{Stmt}
use Rattle.js_tree.specs.declared.tree.Pair.{Pair}
use Rattle.js_tree.specs.declared.tree.Case.{Case}
use Rattle.js_tree.specs.declared.tree.VarItem.{VarItem}
use Rattle.js_tree.specs.Tree as plain
use Rattle.js_tree.specs.Plain as view
use Rattle.js_tree.specs.Parts as parts

abbrev pub exprs_from : List Expr → ℕ → plain.Exprs
exprs_from es i = parts.exprs (drop i es)

abbrev pub elements_from : List (Option Expr) → ℕ → plain.Elements
elements_from es i = parts.elements (drop i es)

abbrev pub pairs_from : List Pair → ℕ → plain.Pairs
pairs_from ps i = parts.pairs (drop i ps)

abbrev pub stmts_from : List Stmt → ℕ → plain.Stmts
stmts_from ss i = view.body (drop i ss)

abbrev pub var_items_from : List VarItem → ℕ → plain.VarItems
var_items_from vs i = parts.var_items (drop i vs)

abbrev pub cases_from : List Case → ℕ → plain.Cases
cases_from cs i = parts.cases (drop i cs)
