-- Each tree of code has a greater number than what it holds.
use Rattle.std.specs.Prelude.{ℕ, ◌+◌, ◌≤◌, ◌≡◌, max, List, [], ◌∷◌, map}
use Rattle.std.specs.Prelude.{Option, Some, None}
use Rattle.std.proofs.Common.{arith, ap, sym, ◌∙◌}
use denote.Param.Weighed.{most}
use Rattle.js_tree.specs.declared.tree.Expr.{Expr}
use Rattle.js_tree.specs.declared.tree.Stmt.{Stmt}
use Rattle.js_tree.specs.declared.tree.Func.{Func}
use Rattle.js_tree.specs.declared.tree.Expr.TheViews.{roll-Expr, roll-Stmt, roll-Func}
use Rattle.js_tree.specs.Heights.{expr_height, maybe_expr_height, stmt_height, stmts_height}
use Rattle.js_tree.specs.Heights.{func_height}
use Rattle.js_tree.specs.Tree.{Name}
use Rattle.js_tree.specs.Tree as plain
use Rattle.js_tree.specs.Plain as view
use Rattle.js_tree.specs.Parts as parts
use Rattle.js_calls.specs.Declared.{functions_of}
use Rattle.js_code.specs.declared.exprs.ExprNode.{ExprNode}
use Rattle.js_code.specs.declared.exprs.ExprNode.TheVariants as expr
use Rattle.js_code.specs.declared.stmts.StmtNode.{StmtNode}
use Rattle.js_code.specs.declared.stmts.StmtNode.TheVariants as stmt
use Rattle.js_code.specs.declared.stmts.ForInitNode.TheVariants as first
use Rattle.js_code.specs.declared.stmts.ForTargetNode.TheVariants as target
use Rattle.js_code.specs.declared.funcs.FuncNode.{FuncNode}
use Rattle.js_code.specs.declared.exprs.PairCode.{PairCode}
use Rattle.js_code.specs.declared.stmts.VarCode.{VarCode}
use Rattle.js_code.specs.declared.stmts.CaseCode.{CaseCode}
use Rattle.js_code.specs.declared.exprs.ElementCodes.TheDeep.{deep-ExprNode, deep-StmtNode}
use Rattle.js_code.specs.declared.exprs.ElementCodes.TheDeep.{deep-FuncNode, deep-PairCode}
use Rattle.js_code.specs.declared.exprs.ElementCodes.TheDeep.{deep-VarCode, deep-CaseCode}
use Rattle.js_code.specs.View.{expr_layer, stmt_layer, func_layer, pair_of, var_item_of, case_of}
use Rattle.js_code.specs.View.{expr_node_tree, stmt_node_tree, func_node_tree}
use Rattle.js_code.specs.Size.{by_code, expr_size, exprs_size, elements_size, pairs_size, stmt_size}
use Rattle.js_code.specs.Size.{stmts_size, var_items_size, cases_size, body_size, func_size}
use Rattle.js_code.specs.Nodes.{expr_node_is, stmt_node_is, func_node_is}
use Rattle.js_code.specs.Nodes.{pair_is, var_item_is, case_is}
use Rattle.js_code.specs.Bound.{Lists}

-- ---- lists

pub exprs_fall : (es : List Expr) → most (λ e. expr_size e + 1) es ≤ exprs_size es
exprs_fall [] = omega arith
exprs_fall (e ∷ es) = omega (arith, exprs_fall es)

pub stmts_fall : (ss : List Stmt) → most (λ s. stmt_size s + 1) ss ≤ stmts_size ss
stmts_fall [] = omega arith
stmts_fall (s ∷ ss) = omega (arith, stmts_fall ss)

pub elements_fall
    : (weight : Option Expr → ℕ) → weight None ≡ 0
    → ((e : Expr) → weight (Some e) ≡ max (expr_size e + 1) 0)
    → (es : List (Option Expr)) → max (most weight es) 0 ≤ elements_size es
elements_fall weight none some [] = omega arith
elements_fall weight none some (None ∷ es) =
    omega (arith, elements_fall weight none some es, none)
elements_fall weight none some (Some e ∷ es) =
    omega (arith, elements_fall weight none some es, some e)

pub pairs_fall : (ps : List PairCode) → most deep-PairCode ps ≤ pairs_size (map pair_of ps)
pairs_fall [] = omega arith
pairs_fall (p ∷ ps) =
    omega (
      arith,
      pairs_fall ps,
      ap (λ (q : view.PairPart). expr_height by_code q.value) (pair_is p),
    )

var_part
    : (name : Name) (value : Option Expr)
    → deep-VarCode (record { name = name; value = value })
    ≤ maybe_expr_height by_code (parts.maybe_expr value) + 1
var_part name None = omega arith
var_part name (Some e) = omega arith

pub var_items_fall
    : (vs : List VarCode) → most deep-VarCode vs ≤ var_items_size (map var_item_of vs)
var_items_fall [] = omega arith
var_items_fall (v ∷ vs) =
    omega (
      arith,
      var_items_fall vs,
      var_part v.name v.value,
      ap (λ (p : view.VarPart). maybe_expr_height by_code p.value) (var_item_is v),
    )

case_part
    : (test : Option Expr) (body : List Stmt)
    → deep-CaseCode (record { test = test; body = body })
    ≤ max
    (maybe_expr_height by_code (parts.maybe_expr test)) (stmts_height by_code (view.body body))
    + 2
case_part None body = omega arith
case_part (Some e) body = omega arith

pub cases_fall : (cs : List CaseCode) → most deep-CaseCode cs ≤ cases_size (map case_of cs)
cases_fall [] = omega arith
cases_fall (c ∷ cs) =
    omega (
      arith,
      cases_fall cs,
      case_part c.test c.body,
      ap (λ (p : view.CasePart). maybe_expr_height by_code p.test) (case_is c),
      ap (λ (p : view.CasePart). stmts_height by_code p.body) (case_is c),
    )

-- ---- nodes

expr_parts : (n : ExprNode) → deep-ExprNode n ≤ expr_height by_code (expr_node_tree n)
expr_parts (expr.Num n) = omega arith
expr_parts (expr.Str text) = omega arith
expr_parts (expr.Bool b) = omega arith
expr_parts expr.Null = omega arith
expr_parts expr.This = omega arith
expr_parts (expr.Name name) = omega arith
expr_parts (expr.Array es) = omega arith
expr_parts (expr.Object ps) = omega arith
expr_parts (expr.Func f) = omega arith
expr_parts (expr.Dot object name) = omega arith
expr_parts (expr.Index object key) = omega arith
expr_parts (expr.Call callee es) = omega arith
expr_parts (expr.New callee es) = omega arith
expr_parts (expr.Postfix e op) = omega arith
expr_parts (expr.Prefix op cost e) = omega arith
expr_parts (expr.Binary op cost left right) = omega arith
expr_parts (expr.And left right) = omega arith
expr_parts (expr.Or left right) = omega arith
expr_parts (expr.Comma left right) = omega arith
expr_parts (expr.Cond test then other) = omega arith
expr_parts (expr.Assign op left right) = omega arith
expr_parts (expr.Late k) = omega arith

pub expr_falls : (n : ExprNode) → deep-ExprNode n ≤ expr_size (roll-Expr (expr_layer n))
expr_falls n = omega (arith, expr_parts n, ap (expr_height by_code) (expr_node_is n))

stmt_parts : (n : StmtNode) → deep-StmtNode n ≤ stmt_height by_code (stmt_node_tree n)
stmt_parts (stmt.Block body) = omega arith
stmt_parts (stmt.Var items) = omega arith
stmt_parts stmt.Empty = omega arith
stmt_parts (stmt.Do e) = omega arith
stmt_parts (stmt.If test then None) = omega arith
stmt_parts (stmt.If test then (Some other)) = omega arith
stmt_parts (stmt.DoWhile body test) = omega arith
stmt_parts (stmt.While test body) = omega arith
stmt_parts (stmt.For first.Nothing None None body) = omega arith
stmt_parts (stmt.For first.Nothing None (Some y) body) = omega arith
stmt_parts (stmt.For first.Nothing (Some x) None body) = omega arith
stmt_parts (stmt.For first.Nothing (Some x) (Some y) body) = omega arith
stmt_parts (stmt.For (first.Vars items) None None body) = omega arith
stmt_parts (stmt.For (first.Vars items) None (Some y) body) = omega arith
stmt_parts (stmt.For (first.Vars items) (Some x) None body) = omega arith
stmt_parts (stmt.For (first.Vars items) (Some x) (Some y) body) = omega arith
stmt_parts (stmt.For (first.First e) None None body) = omega arith
stmt_parts (stmt.For (first.First e) None (Some y) body) = omega arith
stmt_parts (stmt.For (first.First e) (Some x) None body) = omega arith
stmt_parts (stmt.For (first.First e) (Some x) (Some y) body) = omega arith
stmt_parts (stmt.ForIn (target.Var v) object body) = omega (arith, var_part v.name v.value)
stmt_parts (stmt.ForIn (target.Target e) object body) = omega arith
stmt_parts (stmt.Continue label) = omega arith
stmt_parts (stmt.Break label) = omega arith
stmt_parts (stmt.Return None) = omega arith
stmt_parts (stmt.Return (Some value)) = omega arith
stmt_parts (stmt.Switch value cases) = omega arith
stmt_parts (stmt.Label name body) = omega arith
stmt_parts (stmt.Throw e) = omega arith
stmt_parts (stmt.Try block None None) = omega arith
stmt_parts (stmt.Try block None (Some l)) = omega arith
stmt_parts (stmt.Try block (Some h) None) = omega arith
stmt_parts (stmt.Try block (Some h) (Some l)) = omega arith
stmt_parts (stmt.Declare f) = omega arith
stmt_parts (stmt.Used n) = omega arith

pub stmt_falls : (n : StmtNode) → deep-StmtNode n ≤ stmt_size (roll-Stmt (stmt_layer n))
stmt_falls n = omega (arith, stmt_parts n, ap (stmt_height by_code) (stmt_node_is n))

pub func_falls : (n : FuncNode) → deep-FuncNode n ≤ func_size (roll-Func (func_layer n))
func_falls n = omega (arith, ap (func_height by_code) (func_node_is n))

-- ---- bodies

abbrev highest : List plain.Func → ℕ
highest [] = 0
highest (f ∷ fs) = max (func_height by_code f) (highest fs)

functions_fall
    : (fs : List Func) → most (λ f. func_size f + 1) fs ≤ highest (map view.func fs) + 1
functions_fall [] = omega arith
functions_fall (f ∷ fs) = omega (arith, functions_fall fs)

declared_fall : (ss : plain.Stmts) → highest (functions_of ss) ≤ stmts_height by_code ss
declared_fall plain.NoStmts = omega arith
declared_fall (plain.MoreStmts (plain.Block body) ss) = omega (arith, declared_fall ss)
declared_fall (plain.MoreStmts (plain.Variables items) ss) = omega (arith, declared_fall ss)
declared_fall (plain.MoreStmts plain.Empty ss) = omega (arith, declared_fall ss)
declared_fall (plain.MoreStmts (plain.Do e) ss) = omega (arith, declared_fall ss)
declared_fall (plain.MoreStmts (plain.If test then other) ss) = omega (arith, declared_fall ss)
declared_fall (plain.MoreStmts (plain.DoWhile body test) ss) = omega (arith, declared_fall ss)
declared_fall (plain.MoreStmts (plain.While test body) ss) = omega (arith, declared_fall ss)
declared_fall (plain.MoreStmts (plain.For first test next body) ss) =
    omega (arith, declared_fall ss)
declared_fall (plain.MoreStmts (plain.ForIn target object body) ss) =
    omega (arith, declared_fall ss)
declared_fall (plain.MoreStmts (plain.Continue label) ss) = omega (arith, declared_fall ss)
declared_fall (plain.MoreStmts (plain.Break label) ss) = omega (arith, declared_fall ss)
declared_fall (plain.MoreStmts (plain.Return value) ss) = omega (arith, declared_fall ss)
declared_fall (plain.MoreStmts (plain.Switch value cases) ss) = omega (arith, declared_fall ss)
declared_fall (plain.MoreStmts (plain.Label name body) ss) = omega (arith, declared_fall ss)
declared_fall (plain.MoreStmts (plain.Throw e) ss) = omega (arith, declared_fall ss)
declared_fall (plain.MoreStmts (plain.Try block caught last) ss) = omega (arith, declared_fall ss)
declared_fall (plain.MoreStmts (plain.Declare f) ss) = omega (arith, declared_fall ss)
declared_fall (plain.MoreStmts (plain.Used n) ss) = omega (arith, declared_fall ss)

pub body_falls
    : (ss : List Stmt) (fs : List Func) (names : List Name) → Lists fs names ss
    → max (stmts_size ss + 1) (most (λ f. func_size f + 1) fs) ≤ body_size ss
body_falls ss fs names h =
    omega (arith, functions_fall fs, ap highest h.all_functions, declared_fall (view.body ss))
