-- How deep small trees are, and how many functions stand in one another in them: one of the parts
-- of a node is a high tree, or a function, and the others are not.
use Rattle.std.specs.Prelude.{ℕ, List, [], ◌∷◌, map, replicate}
use Rattle.js_tree.specs.declared.tree.PrefixOp.TheVariants.{Not}
use Rattle.js_tree.specs.Tree.{Expr, Num, Null, Prefix}
use Rattle.js_tree.specs.TreeRows.{expressions, statements, function}
use Rattle.js_tree.specs.Heights.{expr_height, stmt_height}
use Rattle.js_tree.specs.Depth.{by_nodes, by_functions}

-- of depth 1
abbrev pub low : Expr
low = Num 1

-- of depth 3
abbrev pub high : Expr
high = Prefix Not (Prefix Not (Num 1))

-- the depths of expressions with these parts, in the order of `expressions`
abbrev pub depths : Expr → Expr → Expr → List ℕ
depths a b c = map (expr_height by_nodes) (expressions a b c)

abbrev pub depths_by_first : List ℕ
depths_by_first = 4 ∷ 4 ∷ 5 ∷ replicate 12 4

abbrev pub depths_by_second : List ℕ
depths_by_second = 4 ∷ 4 ∷ 5 ∷ 2 ∷ 4 ∷ 4 ∷ 4 ∷ 2 ∷ 2 ∷ 4 ∷ 4 ∷ 4 ∷ 4 ∷ 4 ∷ 4 ∷ []

abbrev pub depths_by_third : List ℕ
depths_by_third = 2 ∷ 2 ∷ 3 ∷ 2 ∷ 2 ∷ 4 ∷ 4 ∷ 2 ∷ 2 ∷ 2 ∷ 2 ∷ 2 ∷ 2 ∷ 4 ∷ 2 ∷ []

-- of statements, in the order of `statements`
abbrev pub statement_depths : Expr → Expr → Expr → Expr → List ℕ
statement_depths a b c d = map (stmt_height by_nodes) (statements a b c d)

abbrev pub statements_by_first : List ℕ
statements_by_first = 5 ∷ 4 ∷ 4 ∷ 4 ∷ 4 ∷ 5 ∷ 4 ∷ 4 ∷ 4 ∷ 5 ∷ 4 ∷ 4 ∷ 4 ∷ 4 ∷ 5 ∷ 4 ∷ 5 ∷ 5 ∷ 5 ∷ []

abbrev pub statements_by_second : List ℕ
statements_by_second = 5 ∷ 4 ∷ 2 ∷ 5 ∷ 5 ∷ 4 ∷ 5 ∷ 4 ∷ 4 ∷ 3 ∷ 4 ∷ 4 ∷ 2 ∷ 4 ∷ 3 ∷ 2 ∷ 5 ∷ 3 ∷ 5
    ∷ []

abbrev pub statements_by_third : List ℕ
statements_by_third = 3 ∷ 2 ∷ 2 ∷ 5 ∷ 3 ∷ 3 ∷ 3 ∷ 4 ∷ 4 ∷ 3 ∷ 5 ∷ 5 ∷ 2 ∷ 5 ∷ 3 ∷ 2 ∷ 5 ∷ 3 ∷ 3 ∷ []

abbrev pub statements_by_fourth : List ℕ
statements_by_fourth = 3 ∷ 2 ∷ 2 ∷ 3 ∷ 3 ∷ 3 ∷ 3 ∷ 4 ∷ 5 ∷ 3 ∷ 3 ∷ 3 ∷ 2 ∷ 5 ∷ 3 ∷ 2 ∷ 3 ∷ 3 ∷ 3
    ∷ []

-- ---- functions in one another

abbrev pub flat : Expr
flat = Null

abbrev pub nested : Expr
nested = function 1

abbrev pub nestings : Expr → Expr → Expr → List ℕ
nestings a b c = map (expr_height by_functions) (expressions a b c)

abbrev pub nestings_by_first : List ℕ
nestings_by_first = 1 ∷ 1 ∷ 2 ∷ replicate 12 1

abbrev pub nestings_by_second : List ℕ
nestings_by_second = 1 ∷ 1 ∷ 2 ∷ 0 ∷ 1 ∷ 1 ∷ 1 ∷ 0 ∷ 0 ∷ replicate 6 1

abbrev pub nestings_by_third : List ℕ
nestings_by_third = 0 ∷ 0 ∷ 1 ∷ 0 ∷ 0 ∷ 1 ∷ 1 ∷ 0 ∷ 0 ∷ 0 ∷ 0 ∷ 0 ∷ 0 ∷ 1 ∷ 0 ∷ []

abbrev pub statement_nestings : Expr → Expr → Expr → Expr → List ℕ
statement_nestings a b c d = map (stmt_height by_functions) (statements a b c d)

abbrev pub nested_by_first : List ℕ
nested_by_first = 1 ∷ 1 ∷ 1 ∷ 1 ∷ 1 ∷ 1 ∷ 1 ∷ 1 ∷ 1 ∷ 1 ∷ 1 ∷ 1 ∷ 1 ∷ 1 ∷ 1 ∷ 1 ∷ 1 ∷ 1 ∷ 2 ∷ []

abbrev pub nested_by_second : List ℕ
nested_by_second = 1 ∷ 1 ∷ 0 ∷ 1 ∷ 1 ∷ 1 ∷ 1 ∷ 1 ∷ 1 ∷ 0 ∷ 1 ∷ 1 ∷ 0 ∷ 1 ∷ 0 ∷ 0 ∷ 1 ∷ 0 ∷ 2 ∷ []

abbrev pub nested_by_third : List ℕ
nested_by_third = 0 ∷ 0 ∷ 0 ∷ 1 ∷ 0 ∷ 0 ∷ 0 ∷ 1 ∷ 1 ∷ 0 ∷ 1 ∷ 1 ∷ 0 ∷ 1 ∷ 0 ∷ 0 ∷ 1 ∷ 0 ∷ 1 ∷ []

abbrev pub nested_by_fourth : List ℕ
nested_by_fourth = 0 ∷ 0 ∷ 0 ∷ 0 ∷ 0 ∷ 0 ∷ 0 ∷ 1 ∷ 1 ∷ 0 ∷ 0 ∷ 0 ∷ 0 ∷ 1 ∷ 0 ∷ 0 ∷ 0 ∷ 0 ∷ 1 ∷ []
