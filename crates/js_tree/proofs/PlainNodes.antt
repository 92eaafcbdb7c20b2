-- The plain trees of nodes some of whose parts may be missing. What a fold makes of an option
-- computes only at a given case, so these go by cases.
use Rattle.std.proofs.Common.{rules, ◌≡◌, List, [], ◌∷◌, Option, Some, None, map, refl, ap, sym, ◌∙◌}
use Rattle.std.specs.Option.{option_map}
use Rattle.js_tree.specs.declared.tree.Expr.{Expr}
use Rattle.js_tree.specs.declared.tree.Stmt.{Stmt}
use Rattle.js_tree.specs.declared.tree.ForInit.{ForInit}
use Rattle.js_tree.specs.declared.tree.Expr.TheVariants as e
use Rattle.js_tree.specs.declared.tree.Stmt.TheVariants as s
use Rattle.js_tree.specs.declared.tree.Expr.TheVariants.{rolls-Array}
use Rattle.js_tree.specs.declared.tree.Stmt.TheVariants.{rolls-For, rolls-Try}
use Rattle.js_tree.specs.declared.tree.Expr.TheFolds.{fold-roll-Expr, fold-roll-Stmt}
use Rattle.js_tree.specs.Tree as plain
use Rattle.js_tree.specs.Plain as view
use Rattle.js_tree.specs.Parts as parts

same_elements : (f : Option Expr → Option plain.Expr) (xs : List (Option Expr)) → f None ≡ None → ((x : Expr) → f (Some x) ≡ Some (view.expr x)) → view.elements (map f xs) ≡ parts.elements xs
same_elements f [] none some = refl
same_elements f (None ∷ xs) none some = rw none (ap (plain.MoreElements plain.NoExpr) (same_elements f xs none some))
same_elements f (Some x ∷ xs) none some =
    rw (some x) (ap (plain.MoreElements (plain.AnExpr (view.expr x))) (same_elements f xs none some))

pub array_node : (es : List (Option Expr)) → view.expr (e.Array es) ≡ plain.Array (parts.elements es)
array_node es =
    ap view.expr (sym (rolls-Array es)) ∙ rw fold-roll-Expr (ap plain.Array (same_elements _ es refl (λ x. refl)))

pub for_node : (first : ForInit) (test next : Option Expr) (body : Stmt) → view.stmt (s.For first test next body) ≡ plain.For (parts.for_init first) (parts.maybe_expr test) (parts.maybe_expr next) (view.stmt body)
for_node first None None body =
    ap view.stmt (sym (rolls-For first None None body)) ∙ search (rules, fold-roll-Stmt)
for_node first None (Some y) body =
    ap view.stmt (sym (rolls-For first None (Some y) body)) ∙ search (rules, fold-roll-Stmt)
for_node first (Some x) None body =
    ap view.stmt (sym (rolls-For first (Some x) None body)) ∙ search (rules, fold-roll-Stmt)
for_node first (Some x) (Some y) body =
    ap view.stmt (sym (rolls-For first (Some x) (Some y) body)) ∙ search (rules, fold-roll-Stmt)

pub try_node : (block : Stmt) (caught : Option (plain.Name × Stmt)) (last : Option Stmt) → view.stmt (s.Try block caught last) ≡ plain.Try (view.stmt block) (parts.handler caught) (parts.maybe_stmt last)
try_node block None None =
    ap view.stmt (sym (rolls-Try block None None)) ∙ search (rules, fold-roll-Stmt)
try_node block None (Some y) =
    ap view.stmt (sym (rolls-Try block None (Some y))) ∙ search (rules, fold-roll-Stmt)
try_node block (Some h) None =
    ap view.stmt (sym (rolls-Try block (Some h) None)) ∙ search (rules, fold-roll-Stmt)
try_node block (Some h) (Some y) =
    ap view.stmt (sym (rolls-Try block (Some h) (Some y))) ∙ search (rules, fold-roll-Stmt)
