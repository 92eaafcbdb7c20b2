-- The plain tree of what a node stands for is that of the node. What a fold makes of an option
-- computes only at a given case, so these go by cases.
use Rattle.std.specs.Prelude.{◌≡◌, List, Option, Some, None, refl}
use Rattle.std.proofs.Common.{ap, ◌∙◌}
use Rattle.js_tree.specs.declared.tree.Expr.TheOpen.{Expr-F, ForInit-F, ForTarget-F, Stmt-F}
use Rattle.js_tree.specs.declared.tree.Expr.{Expr}
use Rattle.js_tree.specs.declared.tree.Stmt.{Stmt}
use Rattle.js_tree.specs.declared.tree.Expr.TheViews.{roll-Expr, roll-Stmt, roll-Func}
use Rattle.js_tree.specs.declared.tree.Expr.TheViews.{roll-VarItem, roll-Case}
use Rattle.js_tree.specs.declared.tree.Expr.TheFolds.{fold-roll-Expr, fold-roll-Stmt}
use Rattle.js_tree.specs.declared.tree.Expr.TheFolds.{fold-roll-Func, fold-roll-ForInit}
use Rattle.js_tree.specs.declared.tree.Expr.TheFolds.{fold-roll-ForTarget, fold-roll-VarItem}
use Rattle.js_tree.specs.declared.tree.Expr.TheFolds.{fold-roll-Pair, fold-roll-Case}
use Rattle.js_tree.specs.declared.tree.Stmt.TheVariants.{rolls-For, rolls-Try}
use Rattle.js_tree.specs.declared.tree.Expr.TheVariants.{rolls-Array}
use Rattle.js_tree.proofs.PlainNodes.{array_node, for_node, try_node}
use Rattle.js_tree.specs.Tree.{Name}
use Rattle.js_tree.specs.Tree as plain
use Rattle.js_tree.specs.Plain as view
use Rattle.js_tree.specs.Parts as parts
use Rattle.js_code.specs.declared.exprs.ExprNode.{ExprNode}
use Rattle.js_code.specs.declared.exprs.ExprNode.TheVariants as expr
use Rattle.js_code.specs.declared.stmts.StmtNode.{StmtNode}
use Rattle.js_code.specs.declared.stmts.StmtNode.TheVariants as stmt
use Rattle.js_code.specs.declared.stmts.ForInitNode.{ForInitNode}
use Rattle.js_code.specs.declared.stmts.ForInitNode.TheVariants as first
use Rattle.js_code.specs.declared.stmts.ForTargetNode.{ForTargetNode}
use Rattle.js_code.specs.declared.stmts.ForTargetNode.TheVariants as target
use Rattle.js_code.specs.declared.funcs.FuncNode.{FuncNode}
use Rattle.js_code.specs.declared.exprs.PairCode.{PairCode}
use Rattle.js_code.specs.declared.stmts.VarCode.{VarCode}
use Rattle.js_code.specs.declared.stmts.CaseCode.{CaseCode}
use Rattle.js_code.specs.View.{expr_layer, stmt_layer, func_layer, expr_node_tree, stmt_node_tree}
use Rattle.js_code.specs.View.{func_node_tree, for_init_of, for_init_tree, for_target_of}
use Rattle.js_code.specs.View.{for_target_tree, pair_of, var_item_of, case_of}

pub expr_node_is : (n : ExprNode) → view.expr (roll-Expr (expr_layer n)) ≡ expr_node_tree n
expr_node_is (expr.Num n) = rw fold-roll-Expr
expr_node_is (expr.Str text) = rw fold-roll-Expr
expr_node_is (expr.Bool b) = rw fold-roll-Expr
expr_node_is expr.Null = rw fold-roll-Expr
expr_node_is expr.This = rw fold-roll-Expr
expr_node_is (expr.Name name) = rw fold-roll-Expr
expr_node_is (expr.Array es) = ap view.expr (rolls-Array es) ∙ array_node es
expr_node_is (expr.Object ps) = rw fold-roll-Expr
expr_node_is (expr.Func f) = rw fold-roll-Expr
expr_node_is (expr.Dot object name) = rw fold-roll-Expr
expr_node_is (expr.Index object key) = rw fold-roll-Expr
expr_node_is (expr.Call callee es) = rw fold-roll-Expr
expr_node_is (expr.New callee es) = rw fold-roll-Expr
expr_node_is (expr.Postfix e op) = rw fold-roll-Expr
expr_node_is (expr.Prefix op cost e) = rw fold-roll-Expr
expr_node_is (expr.Binary op cost left right) = rw fold-roll-Expr
expr_node_is (expr.And left right) = rw fold-roll-Expr
expr_node_is (expr.Or left right) = rw fold-roll-Expr
expr_node_is (expr.Comma left right) = rw fold-roll-Expr
expr_node_is (expr.Cond test then other) = rw fold-roll-Expr
expr_node_is (expr.Assign op left right) = rw fold-roll-Expr
expr_node_is (expr.Late k) = rw fold-roll-Expr

pub for_init_is : (n : ForInitNode) → parts.for_init (for_init_of n) ≡ for_init_tree n
for_init_is first.Nothing = rw fold-roll-ForInit
for_init_is (first.Vars items) = rw fold-roll-ForInit
for_init_is (first.First e) = rw fold-roll-ForInit

item_at
    : (name : Name) (value : Option Expr)
    → parts.var_item (roll-VarItem (record { name = name; value = value }))
    ≡ record { name = name; value = parts.maybe_expr value }
item_at name None = rw fold-roll-VarItem
item_at name (Some e) = rw fold-roll-VarItem

pub var_item_is
    : (v : VarCode)
    → parts.var_item (var_item_of v)
    ≡ record { name = v.name; value = parts.maybe_expr v.value }
var_item_is v = item_at v.name v.value

pub pair_is
    : (p : PairCode)
    → parts.pair (pair_of p) ≡ record { key = p.key; value = view.expr p.value }
pair_is p = rw fold-roll-Pair

clause_at
    : (test : Option Expr) (body : List Stmt)
    → parts.case (roll-Case (record { test = test; body = body }))
    ≡ record { test = parts.maybe_expr test; body = view.body body }
clause_at None body = rw fold-roll-Case
clause_at (Some e) body = rw fold-roll-Case

pub case_is
    : (c : CaseCode)
    → parts.case (case_of c)
    ≡ record { test = parts.maybe_expr c.test; body = view.body c.body }
case_is c = clause_at c.test c.body

pub for_target_is : (n : ForTargetNode) → parts.for_target (for_target_of n) ≡ for_target_tree n
for_target_is (target.Var v) =
    rw fold-roll-ForTarget (ap (λ (p : view.VarPart). plain.AVar p.name p.value) (var_item_is v))
for_target_is (target.Target e) = rw fold-roll-ForTarget

pub stmt_node_is : (n : StmtNode) → view.stmt (roll-Stmt (stmt_layer n)) ≡ stmt_node_tree n
stmt_node_is (stmt.Block body) = rw fold-roll-Stmt
stmt_node_is (stmt.Var items) = rw fold-roll-Stmt
stmt_node_is stmt.Empty = rw fold-roll-Stmt
stmt_node_is (stmt.Do e) = rw fold-roll-Stmt
stmt_node_is (stmt.If test then None) = rw fold-roll-Stmt
stmt_node_is (stmt.If test then (Some other)) = rw fold-roll-Stmt
stmt_node_is (stmt.DoWhile body test) = rw fold-roll-Stmt
stmt_node_is (stmt.While test body) = rw fold-roll-Stmt
stmt_node_is (stmt.For init test update body) =
    ap view.stmt (rolls-For (for_init_of init) test update body)
    ∙ (for_node (for_init_of init) test update body
    ∙ ap
    (λ f. plain.For f (parts.maybe_expr test) (parts.maybe_expr update) (view.stmt body))
    (for_init_is init))
stmt_node_is (stmt.ForIn to object body) =
    rw fold-roll-Stmt
    (ap (λ t. plain.ForIn t (view.expr object) (view.stmt body)) (for_target_is to))
stmt_node_is (stmt.Continue label) = rw fold-roll-Stmt
stmt_node_is (stmt.Break label) = rw fold-roll-Stmt
stmt_node_is (stmt.Return None) = rw fold-roll-Stmt
stmt_node_is (stmt.Return (Some value)) = rw fold-roll-Stmt
stmt_node_is (stmt.Switch value cases) = rw fold-roll-Stmt
stmt_node_is (stmt.Label name body) = rw fold-roll-Stmt
stmt_node_is (stmt.Throw e) = rw fold-roll-Stmt
stmt_node_is (stmt.Try block handler last) =
    ap view.stmt (rolls-Try block handler last) ∙ try_node block handler last
stmt_node_is (stmt.Declare f) = rw fold-roll-Stmt
stmt_node_is (stmt.Used n) = rw fold-roll-Stmt

pub func_node_is : (n : FuncNode) → view.func (roll-Func (func_layer n)) ≡ func_node_tree n
func_node_is n = rw fold-roll-Func
