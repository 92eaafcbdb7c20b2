-- The stack of values, the newest first.
use Rattle.std.specs.Prelude.{ℕ, zero, suc, List, [], ◌∷◌}
use Rattle.js_values.specs.declared.value.Value.{Value}
use Rattle.js_values.specs.declared.value.Value.TheVariants.{Undefined}

abbrev pub top : List Value → Value
top [] = Undefined
top (v ∷ vs) = v

abbrev pub below : List Value → List Value
below [] = []
below (v ∷ vs) = vs

-- the values below so many of the newest
abbrev pub without : ℕ → List Value → List Value
without zero vs = vs
without (suc n) vs = without n (below vs)
