-- How deep a script is, and how many functions stand in one another in it.
use Rattle.std.specs.Prelude.{ℕ, suc, min}
use Rattle.js_tree.specs.Tree.{Script}
use Rattle.js_tree.specs.Heights.{Growth, stmts_height}

abbrev pub as_before : ℕ → ℕ
as_before n = n

abbrev pub by_nodes : Growth
by_nodes = record { node = suc; function = as_before }

abbrev pub by_functions : Growth
by_functions = record { node = as_before; function = suc }

-- A statement of a script has depth 1, and a node directly inside another has one more. A script is
-- as deep as its deepest node, and 0 where it has none.
abbrev pub depth : Script → ℕ
depth = stmts_height by_nodes

-- what a `u32` tells of a depth: the greatest one, where the depth is greater
abbrev pub told : ℕ → ℕ
told n = min n 4294967295

-- how many functions stand in one another at most
abbrev pub nesting : Script → ℕ
nesting = stmts_height by_functions
