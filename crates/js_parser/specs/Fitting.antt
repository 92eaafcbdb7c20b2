-- Whether trees are low enough.
use Rattle.std.specs.Prelude.{ℕ, Bool, true, max, nat_le, List, Option, None, Some}
use Rattle.js_tree.specs.declared.tree.Expr.{Expr}
use Rattle.js_tree.specs.declared.tree.Stmt.{Stmt}
use Rattle.js_tree.specs.declared.tree.Func.{Func}
use Rattle.js_tree.specs.declared.tree.Pair.{Pair}
use Rattle.js_tree.specs.declared.tree.Case.{Case}
use Rattle.js_tree.specs.declared.tree.VarItem.{VarItem}
use Rattle.js_tree.specs.declared.tree.ForInit.{ForInit}
use Rattle.js_tree.specs.declared.tree.ForTarget.{ForTarget}
use Rattle.js_tree.specs.Tree as plain
use Rattle.js_tree.specs.Plain as view
use Rattle.js_tree.specs.Parts as parts
use Rattle.js_tree.specs.Heights as heights
use Rattle.js_tree.specs.Depth.{by_nodes}

abbrev pub expr_fits : Expr → ℕ → Bool
expr_fits e most = nat_le (heights.expr_height by_nodes (view.expr e)) most

abbrev pub maybe_expr_fits : Option Expr → ℕ → Bool
maybe_expr_fits e most =
    nat_le (heights.maybe_expr_height by_nodes (parts.maybe_expr e)) most

abbrev pub exprs_fit : List Expr → ℕ → Bool
exprs_fit es most = nat_le (heights.exprs_height by_nodes (parts.exprs es)) most

abbrev pub elements_fit : List (Option Expr) → ℕ → Bool
elements_fit es most = nat_le (heights.elements_height by_nodes (parts.elements es)) most

abbrev pub pair_fits : Pair → ℕ → Bool
pair_fits p most = nat_le (heights.expr_height by_nodes (parts.pair p).value) most

abbrev pub pairs_fit : List Pair → ℕ → Bool
pairs_fit ps most = nat_le (heights.pairs_height by_nodes (parts.pairs ps)) most

abbrev pub stmt_fits : Stmt → ℕ → Bool
stmt_fits s most = nat_le (heights.stmt_height by_nodes (view.stmt s)) most

abbrev pub maybe_stmt_fits : Option Stmt → ℕ → Bool
maybe_stmt_fits s most =
    nat_le (heights.maybe_stmt_height by_nodes (parts.maybe_stmt s)) most

abbrev pub handler_fits : Option (plain.Name × Stmt) → ℕ → Bool
handler_fits None most = true
handler_fits (Some h) most = stmt_fits h.1 most

abbrev pub stmts_fit : List Stmt → ℕ → Bool
stmts_fit ss most = nat_le (heights.stmts_height by_nodes (view.body ss)) most

abbrev pub for_init_fits : ForInit → ℕ → Bool
for_init_fits first most = nat_le (heights.for_init_height by_nodes (parts.for_init first)) most

abbrev pub for_target_fits : ForTarget → ℕ → Bool
for_target_fits target most =
    nat_le (heights.for_target_height by_nodes (parts.for_target target)) most

abbrev pub var_item_fits : VarItem → ℕ → Bool
var_item_fits item most =
    nat_le (heights.maybe_expr_height by_nodes (parts.var_item item).value) most

abbrev pub var_items_fit : List VarItem → ℕ → Bool
var_items_fit items most =
    nat_le (heights.var_items_height by_nodes (parts.var_items items)) most

abbrev pub case_fits : Case → ℕ → Bool
case_fits c most =
    nat_le
    (max
    (heights.maybe_expr_height by_nodes (parts.case c).test)
    (heights.stmts_height by_nodes (parts.case c).body))
    most

abbrev pub cases_fit : List Case → ℕ → Bool
cases_fit cs most = nat_le (heights.cases_height by_nodes (parts.cases cs)) most

abbrev pub func_fits : Func → ℕ → Bool
func_fits f most = nat_le (heights.func_height by_nodes (view.func f)) most
