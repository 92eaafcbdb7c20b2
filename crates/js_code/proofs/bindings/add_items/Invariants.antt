use Rattle.std.proofs.Common.{◌≡◌, ◌++◌, drop}
use Rattle.js_tree.specs.Parts as parts
use Rattle.js_calls.specs.Declared.{vars_in_items}
use Rattle.js_code.proofs.bindings.add_items.Given as goal

abbrev pub invariant-loop-item : goal.invariant-loop-item
invariant-loop-item l =
    l.names ++ vars_in_items (parts.var_items (drop l.item-index l.items))
    ≡ l.initial.names ++ vars_in_items (parts.var_items l.items)
