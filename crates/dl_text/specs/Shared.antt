-- Lists that have several owners.
use Rattle.std.specs.Prelude.{List, [], Option, Some, None, Vec}
use Rattle.std.specs.declared.rc.Rc.{Rc}

-- what the owners hold; None is the empty list
abbrev pub items_of : {T A : Type 0} → Option (Rc (Vec T A) A) → List T
items_of None = []
items_of (Some rc) = rc.value.items
