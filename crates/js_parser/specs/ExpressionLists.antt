-- The lists in expressions as plain trees, and what is put before them.
use Rattle.std.specs.Prelude.{List, [], ◌∷◌, Option, map, option_map}
use Rattle.js_tree.specs.declared.tree.Expr.{Expr}
use Rattle.js_tree.specs.declared.tree.Pair.{Pair}
use Rattle.js_tree.specs.Plain as tree
use Rattle.js_tree.specs.Plain.{PairPart, maybe_expr}
use Rattle.js_tree.specs.Tree as plain
use Rattle.js_tree.specs.Tree.{MoreExprs, MoreElements, MorePairs}

abbrev pub exprs : List Expr → plain.Exprs
exprs es = tree.exprs (map tree.expr es)

-- an element, or a hole
abbrev pub element : Option Expr → Option plain.Expr
element = option_map tree.expr

abbrev pub elements : List (Option Expr) → plain.Elements
elements es = tree.elements (map element es)

abbrev pub keyed : plain.Name → plain.Expr → PairPart
keyed key value = record { key = key; value = value }

abbrev pub pair : Pair → PairPart
pair p = keyed p.key (tree.expr p.value)

abbrev pub pairs : List Pair → plain.Pairs
pairs ps = tree.pairs (map pair ps)

-- ---- these, and then others

abbrev pub and_exprs : List plain.Expr → plain.Exprs → plain.Exprs
and_exprs [] others = others
and_exprs (e ∷ es) others = MoreExprs e (and_exprs es others)

abbrev pub and_elements : List (Option plain.Expr) → plain.Elements → plain.Elements
and_elements [] others = others
and_elements (e ∷ es) others = MoreElements (maybe_expr e) (and_elements es others)

abbrev pub and_pairs : List PairPart → plain.Pairs → plain.Pairs
and_pairs [] others = others
and_pairs (p ∷ ps) others = MorePairs p.key p.value (and_pairs ps others)
