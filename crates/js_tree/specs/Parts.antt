-- The plain parts of declared ones, and of their lists.
use Rattle.std.specs.Prelude.{List, Option, Some, None, map}
use Rattle.std.specs.Option.{option_map}
use Rattle.js_tree.specs.declared.tree.Expr.{Expr}
use Rattle.js_tree.specs.declared.tree.Stmt.{Stmt}
use Rattle.js_tree.specs.declared.tree.Pair.{Pair}
use Rattle.js_tree.specs.declared.tree.Case.{Case}
use Rattle.js_tree.specs.declared.tree.VarItem.{VarItem}
use Rattle.js_tree.specs.declared.tree.ForInit.{ForInit}
use Rattle.js_tree.specs.declared.tree.ForTarget.{ForTarget}
use Rattle.js_tree.specs.declared.tree.Expr.TheFolds.{fold-Pair, fold-Case, fold-VarItem}
use Rattle.js_tree.specs.declared.tree.Expr.TheFolds.{fold-ForInit, fold-ForTarget}
use Rattle.js_tree.specs.Tree as plain
use Rattle.js_tree.specs.Plain as view
use Rattle.js_tree.specs.Plain.{CasePart, PairPart, VarPart, expr_level, for_init_level}
use Rattle.js_tree.specs.Plain.{for_target_level, stmt_level, case_level, func_level, pair_level}
use Rattle.js_tree.specs.Plain.{var_item_level}

abbrev pub pair : Pair → PairPart
pair =
    fold-Pair plain.Expr plain.ForInit plain.ForTarget plain.Stmt CasePart plain.Func PairPart
    VarPart
    expr_level for_init_level for_target_level stmt_level case_level func_level pair_level
    var_item_level

abbrev pub case : Case → CasePart
case =
    fold-Case plain.Expr plain.ForInit plain.ForTarget plain.Stmt CasePart plain.Func PairPart
    VarPart
    expr_level for_init_level for_target_level stmt_level case_level func_level pair_level
    var_item_level

abbrev pub var_item : VarItem → VarPart
var_item =
    fold-VarItem plain.Expr plain.ForInit plain.ForTarget plain.Stmt CasePart plain.Func PairPart
    VarPart
    expr_level for_init_level for_target_level stmt_level case_level func_level pair_level
    var_item_level

abbrev pub for_init : ForInit → plain.ForInit
for_init =
    fold-ForInit plain.Expr plain.ForInit plain.ForTarget plain.Stmt CasePart plain.Func PairPart
    VarPart
    expr_level for_init_level for_target_level stmt_level case_level func_level pair_level
    var_item_level

abbrev pub for_target : ForTarget → plain.ForTarget
for_target =
    fold-ForTarget plain.Expr plain.ForInit plain.ForTarget plain.Stmt CasePart plain.Func PairPart
    VarPart
    expr_level for_init_level for_target_level stmt_level case_level func_level pair_level
    var_item_level

-- ---- lists, and what may be missing

abbrev pub maybe_expr : Option Expr → plain.MaybeExpr
maybe_expr e = view.maybe_expr (option_map view.expr e)

abbrev pub exprs : List Expr → plain.Exprs
exprs es = view.exprs (map view.expr es)

abbrev pub elements : List (Option Expr) → plain.Elements
elements es = view.elements (map (option_map view.expr) es)

abbrev pub pairs : List Pair → plain.Pairs
pairs ps = view.pairs (map pair ps)

abbrev pub maybe_stmt : Option Stmt → plain.MaybeStmt
maybe_stmt s = view.maybe_stmt (option_map view.stmt s)

abbrev pub handler : Option (plain.Name × Stmt) → plain.Handler
handler None = plain.NoHandler
handler (Some h) = plain.ACatch h.0 (view.stmt h.1)

abbrev pub var_items : List VarItem → plain.VarItems
var_items items = view.var_items (map var_item items)

abbrev pub cases : List Case → plain.Cases
cases cs = view.cases (map case cs)
