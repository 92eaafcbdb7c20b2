-- The parts of lists in plain trees: declarators and clauses.
use Rattle.std.specs.Prelude.{List, Option, Some, None, map}
use Rattle.js_tree.specs.declared.tree.Expr.{Expr}
use Rattle.js_tree.specs.declared.tree.VarItem.{VarItem}
use Rattle.js_tree.specs.declared.tree.Case.{Case}
use Rattle.js_tree.specs.Tree as plain
use Rattle.js_tree.specs.Plain.{VarPart, CasePart, expr}
use Rattle.js_tree.specs.Plain as trees
use Rattle.js_tree.specs.Parts as parts

-- an expression, or none
abbrev pub maybe_expr : Option Expr → plain.MaybeExpr
maybe_expr None = plain.NoExpr
maybe_expr (Some x) = plain.AnExpr (expr x)

abbrev pub var_item : VarItem → VarPart
var_item = parts.var_item

abbrev pub var_parts : List VarItem → List VarPart
var_parts = map var_item

abbrev pub var_items : List VarItem → plain.VarItems
var_items items = trees.var_items (var_parts items)

abbrev pub clause : Case → CasePart
clause = parts.case

abbrev pub clause_parts : List Case → List CasePart
clause_parts = map clause

abbrev pub clauses : List Case → plain.Cases
clauses cs = trees.cases (clause_parts cs)
