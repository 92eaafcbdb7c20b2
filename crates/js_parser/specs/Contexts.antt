-- What a statement stands in, within its function.
use Rattle.std.specs.Prelude.{Bool, true, false, ◌||◌, List, [], ◌∷◌, ◌++◌}
use Rattle.js_tree.specs.Tree.{Name}

pub record Context : Type 0 where
  pub in_function : Bool
  pub in_loop : Bool
  pub in_switch : Bool
  -- the labels of the statements around it, 12.12
  pub labels : List Name
  -- of these, the labels of loops
  pub loops : List Name
  -- the labels that stand directly before it
  pub ahead : List Name

abbrev pub outermost : Bool → Context
outermost in_function = record {
  in_function = in_function;
  in_loop = false;
  in_switch = false;
  labels = [];
  loops = [];
  ahead = [];
}

-- of a script's statements
abbrev pub script : Context
script = outermost false

-- of a function's statements
abbrev pub function : Context
function = outermost true

-- of a part of a statement
abbrev pub part : Context → Context
part c = record c { ahead = [] }

-- of a loop's body
abbrev pub loop : Context → Context
loop c = record c { in_loop = true; loops = c.ahead ++ c.loops; ahead = [] }

-- of a clause of a `switch`
abbrev pub clause : Context → Context
clause c = record c { in_switch = true; ahead = [] }

-- of what stands behind a label
abbrev pub labelled : Name → Context → Context
labelled n c = record c { labels = n ∷ c.labels; ahead = n ∷ c.ahead }

-- 12.8
abbrev pub may_break : Context → Bool
may_break c = c.in_loop || c.in_switch
