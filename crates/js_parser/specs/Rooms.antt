-- How much of the limits of depth and nesting is left for what is read.
use Rattle.std.specs.Prelude.{ℕ, suc, ◌-◌, ◌&&◌, nat_le, Bool, true, Option, Some, None}
use Rattle.js_tree.specs.Tree.{Expr}
use Rattle.js_parser.specs.declared.form.Limits.{Limits}
use Rattle.js_tree.specs.Heights.{expr_height}
use Rattle.js_tree.specs.Depth.{by_nodes}

-- None where there is no limit
pub record Room : Type 0 where
  pub depth : Option ℕ
  pub nesting : Option ℕ

abbrev pub unbounded : Room
unbounded = record { depth = None; nesting = None }

abbrev pub of_limits : Limits → Room
of_limits limits = record { depth = Some limits.depth; nesting = Some limits.nesting }

abbrev pub one_less : Option ℕ → Option ℕ
one_less None = None
one_less (Some most) = Some (most - 1)

-- directly inside a node
abbrev pub inside : Room → Room
inside room = record { depth = one_less room.depth; nesting = room.nesting }

-- directly inside a function, which is directly inside a node
abbrev pub in_function : Room → Room
in_function room = record { depth = one_less room.depth; nesting = one_less room.nesting }

abbrev pub fits : Option ℕ → ℕ → Bool
fits None n = true
fits (Some most) n = nat_le n most

-- there is room for a node at all
abbrev pub fits_node : Room → Bool
fits_node room = fits room.depth 1

-- for a node with this expression directly inside it
abbrev pub fits_around : Room → Expr → Bool
fits_around room x = fits room.depth (suc (expr_height by_nodes x))

-- for a function
abbrev pub fits_function : Room → Bool
fits_function room = fits room.depth 1 && fits room.nesting 1
