-- When trees are low enough.
use Rattle.std.proofs.Common.{rules, ◌≡◌, ℕ, suc, max, true, nat_le, List, Option, Some, None, ap, sym, ◌∙◌, arith}
use Rattle.std.proofs.lemmas.Bool.Decides.{nat_tests}
use Rattle.js_tree.specs.declared.tree.Expr.{Expr}
use Rattle.js_tree.specs.declared.tree.Stmt.{Stmt}
use Rattle.js_tree.specs.declared.tree.ForInit.{ForInit}
use Rattle.js_tree.specs.declared.tree.Expr.TheVariants as e
use Rattle.js_tree.specs.declared.tree.Stmt.TheVariants as s
use Rattle.js_tree.specs.declared.tree.Stmt.TheVariants.{rolls-If}
use Rattle.js_tree.specs.declared.tree.Expr.TheFolds.{fold-roll-Stmt}
use Rattle.js_tree.specs.Tree as plain
use Rattle.js_tree.specs.Plain as view
use Rattle.js_tree.specs.Parts as parts
use Rattle.js_tree.specs.Depth.{by_nodes}
use Rattle.js_tree.specs.Heights as heights
use Rattle.js_tree.proofs.PlainNodes.{array_node, for_node}
use Rattle.js_parser.specs.Fitting as spec

fits_inside : (a most inside : ℕ) → most ≡ suc inside → nat_le (suc a) most ≡ nat_le a inside
fits_inside a most inside h = grind (arith, nat_tests)

fits_three : (a b c most inside : ℕ) → most ≡ suc inside → true ≡ nat_le a inside → true ≡ nat_le b inside → nat_le (suc (max a (max b c))) most ≡ nat_le c inside
fits_three a b c most inside h k l = grind (arith, nat_tests)

fits_four : (a b c d most inside : ℕ) → most ≡ suc inside → true ≡ nat_le a inside → true ≡ nat_le b inside → true ≡ nat_le c inside → nat_le (suc (max a (max b (max c d)))) most ≡ nat_le d inside
fits_four a b c d most inside h k l m = grind (arith, nat_tests)

-- ---- array literals, whose elements are none or expressions

pub array_fits : (es : List (Option Expr)) (most inside : ℕ) → most ≡ suc inside → nat_le (heights.expr_height by_nodes (view.expr (e.Array es))) most ≡ spec.elements_fit es inside
array_fits es most inside h =
    ap (λ tree. nat_le (heights.expr_height by_nodes tree) most) (array_node es)
    ∙ fits_inside (heights.elements_height by_nodes (parts.elements es)) most inside h

-- ---- an `if`, with an `else` or none

if_level : (test : Expr) (then : Stmt) (other : Option Stmt) → view.stmt (s.If test then other) ≡ plain.If (view.expr test) (view.stmt then) (parts.maybe_stmt other)
if_level test then None =
    ap view.stmt (sym (rolls-If test then None)) ∙ search (rules, fold-roll-Stmt)
if_level test then (Some x) =
    ap view.stmt (sym (rolls-If test then (Some x))) ∙ search (rules, fold-roll-Stmt)

pub if_fits : (test : Expr) (then : Stmt) (other : Option Stmt) (most inside : ℕ) → most ≡ suc inside
    → true ≡ nat_le (heights.expr_height by_nodes (view.expr test)) inside → true ≡ nat_le (heights.stmt_height by_nodes (view.stmt then)) inside
    → nat_le (heights.stmt_height by_nodes (view.stmt (s.If test then other))) most ≡ spec.maybe_stmt_fits other inside
if_fits test then other most inside h k l =
    ap (λ tree. nat_le (heights.stmt_height by_nodes tree) most) (if_level test then other)
    ∙ fits_three (heights.expr_height by_nodes (view.expr test)) (heights.stmt_height by_nodes (view.stmt then)) (heights.maybe_stmt_height by_nodes (parts.maybe_stmt other)) most inside h k l

-- ---- a `for`, each part of whose header may be left out

pub for_fits : (first : ForInit) (test next : Option Expr) (body : Stmt) (most inside : ℕ) → most ≡ suc inside
    → true ≡ spec.for_init_fits first inside → true ≡ spec.maybe_expr_fits test inside → true ≡ spec.maybe_expr_fits next inside
    → nat_le (heights.stmt_height by_nodes (view.stmt (s.For first test next body))) most ≡ nat_le (heights.stmt_height by_nodes (view.stmt body)) inside
for_fits first test next body most inside h k l m =
    ap (λ tree. nat_le (heights.stmt_height by_nodes tree) most) (for_node first test next body)
    ∙ fits_four (heights.for_init_height by_nodes (parts.for_init first)) (heights.maybe_expr_height by_nodes (parts.maybe_expr test)) (heights.maybe_expr_height by_nodes (parts.maybe_expr next)) (heights.stmt_height by_nodes (view.stmt body)) most inside h k l m
