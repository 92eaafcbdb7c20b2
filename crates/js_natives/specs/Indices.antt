-- The indices that a loop takes, one a turn.
use Rattle.std.specs.Prelude.{ℕ, zero, suc, ◌+◌, List, [], ◌∷◌}

-- so many, from the first on
abbrev pub indices : ℕ → ℕ → List ℕ
indices first zero = []
indices first (suc count) = first ∷ indices (suc first) count

-- the same, from the last one down to the first
abbrev pub downward : ℕ → ℕ → List ℕ
downward first zero = []
downward first (suc count) = (first + count) ∷ downward first count
