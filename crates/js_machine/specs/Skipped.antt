-- Items of a `var` that have no initialiser.
use Rattle.std.specs.Prelude.{◌≡◌, ℕ, List}
use Rattle.js_tree.specs.declared.tree.VarItem.{VarItem}
use Rattle.js_code.specs.Cursors.{var_items_from}
use Rattle.js_machine.specs.Asks.{Program}
use Rattle.js_machine.specs.Page.{script_env}
use Rattle.js_machine.specs.Variables.{variables}

-- nothing is done between one item and another
abbrev pub Skips : List VarItem → ℕ → ℕ → Type 0
Skips items i j = (p : Program) →
    variables (var_items_from items i) script_env p ≡ variables (var_items_from items j) script_env p
