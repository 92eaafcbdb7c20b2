-- Operators on one value, for the rows on ES3 11.3 and 11.4.
use Rattle.std.specs.Prelude.{Bool, true, false, List, [], ◌∷◌, codes, Option, Some}
use Rattle.js_values.specs.declared.number.Num.{Num}
use Rattle.js_values.specs.declared.value.Value.{Value}
use Rattle.object_heap.specs.Objects.{Heap}
use Rattle.js_tree.specs.declared.tree.PostfixOp.{PostfixOp}
use Rattle.js_tree.specs.declared.tree.PostfixOp.TheVariants as postfix
use Rattle.js_machine.specs.Asks.{Outcome, Program}
use Rattle.js_machine.specs.Globals.{changed_from, changing}
use Rattle.machine_rows.specs.Alone.{run_in, told}
use Rattle.machine_rows.specs.Samples.{nan, nothing, null, object, text, whole, yes}
use Rattle.machine_rows.specs.Writing.{x}

-- two numbers of texts, a text without digits, and so on; the last but one is an array, and the
-- last stops
abbrev pub operands : List Value
operands =
    whole 5 ∷ text (codes "3") ∷ text [] ∷ text (codes "a") ∷ text (codes " 0x1F ") ∷ nothing
    ∷ null ∷ yes ∷ nan ∷ object 2 ∷ text (codes "1.5") ∷ []

-- `++x` `x++` `--x` `x--`: what each gives, and what x is then
abbrev pub each_change
    : (PostfixOp → Bool → Program) → Heap → List (Option Outcome × Option Value)
each_change p heap =
    told (run_in heap (p postfix.Increment true)) ∷ told (run_in heap (p postfix.Increment false))
    ∷ told (run_in heap (p postfix.Decrement true))
    ∷ told (run_in heap (p postfix.Decrement false)) ∷ []

abbrev pub changes : Heap → List (Option Outcome × Option Value)
changes = each_change (λ op gives_new. changing op gives_new (Some x))

abbrev pub changes_from : Num → Heap → List (Option Outcome × Option Value)
changes_from before = each_change (λ op gives_new. changed_from op gives_new (Some x) before)
