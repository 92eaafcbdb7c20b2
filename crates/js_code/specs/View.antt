-- One level of the tree that a node stands for, whose parts are trees, and the plain tree of a
-- node.
use Rattle.std.specs.Prelude.{List, Option}
use Rattle.js_tree.specs.declared.tree.Expr.{Expr}
use Rattle.js_tree.specs.declared.tree.Stmt.{Stmt}
use Rattle.js_tree.specs.declared.tree.Func.{Func}
use Rattle.js_tree.specs.declared.tree.Pair.{Pair}
use Rattle.js_tree.specs.declared.tree.Case.{Case}
use Rattle.js_tree.specs.declared.tree.VarItem.{VarItem}
use Rattle.js_tree.specs.declared.tree.ForInit.{ForInit}
use Rattle.js_tree.specs.declared.tree.ForTarget.{ForTarget}
use Rattle.js_tree.specs.declared.tree.Expr.TheOpen.{Expr-F, ForInit-F, ForTarget-F, Stmt-F}
use Rattle.js_tree.specs.declared.tree.Expr.TheOpen.{Case-F, Func-F, Pair-F, VarItem-F}
use Rattle.js_tree.specs.declared.tree.Expr.TheViews.{roll-Pair, roll-Case, roll-VarItem}
use Rattle.js_tree.specs.declared.tree.Expr.TheViews.{roll-ForInit, roll-ForTarget}
use Rattle.js_tree.specs.Tree as plain
use Rattle.js_tree.specs.Plain as view
use Rattle.js_tree.specs.Parts as parts
use Rattle.js_code.specs.declared.exprs.ExprNode.{ExprNode}
use Rattle.js_code.specs.declared.exprs.ExprNode.TheVariants as expr
use Rattle.js_code.specs.declared.stmts.StmtNode.{StmtNode}
use Rattle.js_code.specs.declared.stmts.StmtNode.TheVariants as stmt
use Rattle.js_code.specs.declared.stmts.ForInitNode.{ForInitNode}
use Rattle.js_code.specs.declared.stmts.ForInitNode.TheVariants as first
use Rattle.js_code.specs.declared.stmts.ForTargetNode.{ForTargetNode}
use Rattle.js_code.specs.declared.stmts.ForTargetNode.TheVariants as target
use Rattle.js_code.specs.declared.funcs.FuncNode.{FuncNode}
use Rattle.js_code.specs.declared.exprs.PairCode.{PairCode}
use Rattle.js_code.specs.declared.stmts.VarCode.{VarCode}
use Rattle.js_code.specs.declared.stmts.CaseCode.{CaseCode}

-- ---- the parts that are no code of their own

abbrev pub pair_of : PairCode → Pair
pair_of p = roll-Pair (record { key = p.key; value = p.value })

abbrev pub var_item_of : VarCode → VarItem
var_item_of v = roll-VarItem (record { name = v.name; value = v.value })

abbrev pub case_of : CaseCode → Case
case_of c = roll-Case (record { test = c.test; body = c.body })

abbrev pub for_init_of : ForInitNode → ForInit
for_init_of first.Nothing = roll-ForInit ForInit-F.Nothing
for_init_of (first.Vars items) = roll-ForInit (ForInit-F.Vars items)
for_init_of (first.First e) = roll-ForInit (ForInit-F.First e)

abbrev pub for_target_of : ForTargetNode → ForTarget
for_target_of (target.Var item) = roll-ForTarget (ForTarget-F.«ForTarget::Var» (var_item_of item))
for_target_of (target.Target e) = roll-ForTarget (ForTarget-F.Target e)

-- ---- one level

abbrev pub expr_layer : ExprNode → Expr-F Expr ForInit ForTarget Stmt Case Func Pair VarItem
expr_layer (expr.Num n) = Expr-F.Num n
expr_layer (expr.Str text) = Expr-F.Str text
expr_layer (expr.Bool b) = Expr-F.Bool b
expr_layer expr.Null = Expr-F.Null
expr_layer expr.This = Expr-F.This
expr_layer (expr.Name name) = Expr-F.Name name
expr_layer (expr.Array es) = Expr-F.Array es
expr_layer (expr.Object ps) = Expr-F.Object ps
expr_layer (expr.Func f) = Expr-F.Func f
expr_layer (expr.Dot object name) = Expr-F.Dot object name
expr_layer (expr.Index object key) = Expr-F.Index object key
expr_layer (expr.Call callee es) = Expr-F.Call callee es
expr_layer (expr.New callee es) = Expr-F.New callee es
expr_layer (expr.Postfix e op) = Expr-F.Postfix e op
expr_layer (expr.Prefix op cost e) = Expr-F.Prefix op e
expr_layer (expr.Binary op cost left right) = Expr-F.Binary op left right
expr_layer (expr.And left right) = Expr-F.And left right
expr_layer (expr.Or left right) = Expr-F.Or left right
expr_layer (expr.Comma left right) = Expr-F.Comma left right
expr_layer (expr.Cond test then other) = Expr-F.Cond test then other
expr_layer (expr.Assign op left right) = Expr-F.Assign op left right
expr_layer (expr.Late k) = Expr-F.Late k

abbrev pub stmt_layer : StmtNode → Stmt-F Expr ForInit ForTarget Stmt Case Func Pair VarItem
stmt_layer (stmt.Block body) = Stmt-F.Block body
stmt_layer (stmt.Var items) = Stmt-F.«Stmt::Var» items
stmt_layer stmt.Empty = Stmt-F.Empty
stmt_layer (stmt.Do e) = Stmt-F.Do e
stmt_layer (stmt.If test then other) = Stmt-F.If test then other
stmt_layer (stmt.DoWhile body test) = Stmt-F.DoWhile body test
stmt_layer (stmt.While test body) = Stmt-F.While test body
stmt_layer (stmt.For init test update body) = Stmt-F.For (for_init_of init) test update body
stmt_layer (stmt.ForIn to object body) = Stmt-F.ForIn (for_target_of to) object body
stmt_layer (stmt.Continue label) = Stmt-F.Continue label
stmt_layer (stmt.Break label) = Stmt-F.Break label
stmt_layer (stmt.Return value) = Stmt-F.Return value
stmt_layer (stmt.Switch value cases) = Stmt-F.Switch value cases
stmt_layer (stmt.Label name body) = Stmt-F.Label name body
stmt_layer (stmt.Throw e) = Stmt-F.Throw e
stmt_layer (stmt.Try block handler last) = Stmt-F.Try block handler last
stmt_layer (stmt.Declare f) = Stmt-F.Declare f
stmt_layer (stmt.Used n) = Stmt-F.Used n

abbrev pub func_layer : FuncNode → Func-F Expr ForInit ForTarget Stmt Case Func Pair VarItem
func_layer f = record {
  number = f.number;
  name = f.name;
  formals = f.formals;
  body = f.body;
  role = f.role;
}

-- ---- plain trees

abbrev pub for_init_tree : ForInitNode → plain.ForInit
for_init_tree first.Nothing = plain.Nothing
for_init_tree (first.Vars items) = plain.Vars (parts.var_items items)
for_init_tree (first.First e) = plain.First (view.expr e)

abbrev pub for_target_tree : ForTargetNode → plain.ForTarget
for_target_tree (target.Var v) = plain.AVar v.name (parts.maybe_expr v.value)
for_target_tree (target.Target e) = plain.Target (view.expr e)

abbrev pub expr_node_tree : ExprNode → plain.Expr
expr_node_tree (expr.Num n) = plain.Num n
expr_node_tree (expr.Str text) = plain.Str text
expr_node_tree (expr.Bool b) = plain.Truth b
expr_node_tree expr.Null = plain.Null
expr_node_tree expr.This = plain.This
expr_node_tree (expr.Name name) = plain.Ident name
expr_node_tree (expr.Array es) = plain.Array (parts.elements es)
expr_node_tree (expr.Object ps) = plain.Object (parts.pairs ps)
expr_node_tree (expr.Func f) = plain.Function (view.func f)
expr_node_tree (expr.Dot object name) = plain.Dot (view.expr object) name
expr_node_tree (expr.Index object key) = plain.Index (view.expr object) (view.expr key)
expr_node_tree (expr.Call callee es) = plain.Call (view.expr callee) (parts.exprs es)
expr_node_tree (expr.New callee es) = plain.New (view.expr callee) (parts.exprs es)
expr_node_tree (expr.Postfix e op) = plain.Postfix (view.expr e) op
expr_node_tree (expr.Prefix op cost e) = plain.Prefix op (view.expr e)
expr_node_tree (expr.Binary op cost left right) = plain.Binary op (view.expr left) (view.expr right)
expr_node_tree (expr.And left right) = plain.And (view.expr left) (view.expr right)
expr_node_tree (expr.Or left right) = plain.Or (view.expr left) (view.expr right)
expr_node_tree (expr.Comma left right) = plain.Comma (view.expr left) (view.expr right)
expr_node_tree (expr.Cond test then other) =
    plain.Cond (view.expr test) (view.expr then) (view.expr other)
expr_node_tree (expr.Assign op left right) = plain.Assign op (view.expr left) (view.expr right)
expr_node_tree (expr.Late k) = plain.Late k

abbrev pub stmt_node_tree : StmtNode → plain.Stmt
stmt_node_tree (stmt.Block body) = plain.Block (view.body body)
stmt_node_tree (stmt.Var items) = plain.Variables (parts.var_items items)
stmt_node_tree stmt.Empty = plain.Empty
stmt_node_tree (stmt.Do e) = plain.Do (view.expr e)
stmt_node_tree (stmt.If test then other) =
    plain.If (view.expr test) (view.stmt then) (parts.maybe_stmt other)
stmt_node_tree (stmt.DoWhile body test) = plain.DoWhile (view.stmt body) (view.expr test)
stmt_node_tree (stmt.While test body) = plain.While (view.expr test) (view.stmt body)
stmt_node_tree (stmt.For init test update body) =
    plain.For (for_init_tree init) (parts.maybe_expr test) (parts.maybe_expr update)
    (view.stmt body)
stmt_node_tree (stmt.ForIn to object body) =
    plain.ForIn (for_target_tree to) (view.expr object) (view.stmt body)
stmt_node_tree (stmt.Continue label) = plain.Continue label
stmt_node_tree (stmt.Break label) = plain.Break label
stmt_node_tree (stmt.Return value) = plain.Return (parts.maybe_expr value)
stmt_node_tree (stmt.Switch value cases) = plain.Switch (view.expr value) (parts.cases cases)
stmt_node_tree (stmt.Label name body) = plain.Label name (view.stmt body)
stmt_node_tree (stmt.Throw e) = plain.Throw (view.expr e)
stmt_node_tree (stmt.Try block handler last) =
    plain.Try (view.stmt block) (parts.handler handler) (parts.maybe_stmt last)
stmt_node_tree (stmt.Declare f) = plain.Declare (view.func f)
stmt_node_tree (stmt.Used n) = plain.Used n

abbrev pub func_node_tree : FuncNode → plain.Func
func_node_tree f = plain.Code f.number f.name f.formals (view.body f.body) f.role
