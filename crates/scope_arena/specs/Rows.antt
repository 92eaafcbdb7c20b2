-- Scopes of the rows.
use Rattle.std.specs.Prelude.{ℕ, List, [], ◌∷◌, codes, Some, None, pos, map}
use Rattle.js_values.specs.declared.number.Num.TheVariants.{Whole}
use Rattle.js_values.specs.declared.value.Value.{Value}
use Rattle.js_values.specs.declared.value.Value.TheVariants as value
use Rattle.scope_arena.specs.Scopes.{Name, Scopes, entered, fixed_at, value_at, written_at}

abbrev pub number : ℕ → Value
number n = value.Num (Whole (pos n))

abbrev pub a : Name
a = codes "a"

abbrev pub b : Name
b = codes "b"

abbrev pub f : Name
f = codes "f"

-- an outer scope with a = 1 and b = 2
abbrev pub outer_scope : Scopes
outer_scope = written_at 0 1 (number 2) (written_at 0 0 (number 1) (entered (a ∷ b ∷ []) None []))

-- in it the scope of a function expression's name, f = 3, which is fixed
abbrev pub name_scope : Scopes
name_scope = fixed_at 1 (written_at 1 0 (number 3) (entered (f ∷ []) (Some 0) outer_scope))

-- in that one the scope of its body, with b = 4
abbrev pub three_scopes : Scopes
three_scopes = written_at 2 0 (number 4) (entered (b ∷ []) (Some 1) name_scope)

-- and beside it another body's, with a twice
abbrev pub four_scopes : Scopes
four_scopes =
    written_at 3 1 (number 6) (written_at 3 0 (number 5) (
    entered (a ∷ a ∷ []) (Some 1) three_scopes))

-- the values of these slots
abbrev pub values_at : Scopes → List (ℕ × ℕ) → List Value
values_at scopes slots = map (λ at. value_at scopes at.0 at.1) slots

-- all slots of the four
abbrev pub slots : List (ℕ × ℕ)
slots = (0, 0) ∷ (0, 1) ∷ (1, 0) ∷ (2, 0) ∷ (3, 0) ∷ (3, 1) ∷ []
