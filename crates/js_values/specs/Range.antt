-- The whole numbers that a script can have: those of at most 53 bits, as every double between them
-- is whole (ES3 8.5).
use Rattle.std.specs.Prelude.{◌<◌, ◌^◌, Bool, nat_lt, ℤ, unsigned_abs}

-- from -(2^53 - 1) to 2^53 - 1
abbrev pub IsInRange : ℤ → Type 0
IsInRange z = unsigned_abs z < 2 ^ 53

abbrev pub is_in_range : ℤ → Bool
is_in_range z = nat_lt (unsigned_abs z) (2 ^ 53)
