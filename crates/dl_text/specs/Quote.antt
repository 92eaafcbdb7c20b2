-- What a string is shown as: in double quotes, printable ASCII as it is, and everything else by its
-- number.
use Rattle.std.specs.Prelude.{ℕ, ◌/◌, ◌%◌, ◌==◌, ◌||◌, ◌&&◌, nat_le, if◌then◌else◌}
use Rattle.std.specs.Prelude.{List, [], ◌∷◌, ◌++◌}
use Rattle.std.specs.List.{flat_map}
use Rattle.std.specs.Char.{digit_char}

-- a backslash, `u` and four lower-case hexadecimal digits
abbrev pub numbered_unit : ℕ → List ℕ
numbered_unit unit =
    92 ∷ 117 ∷ digit_char (unit / 4096) ∷ digit_char (unit / 256 % 16)
    ∷ digit_char (unit / 16 % 16) ∷ digit_char (unit % 16) ∷ []

-- `"` and the backslash behind a backslash, every other unit from 0x20 to 0x7E as it is, and the
-- rest by their numbers
abbrev pub quoted_unit : ℕ → List ℕ
quoted_unit unit =
    if (unit == 34) || (unit == 92) then 92 ∷ unit ∷ []
    else (if nat_le 32 unit && nat_le unit 126 then unit ∷ [] else numbered_unit unit)

-- the shown string of these units, in bytes
abbrev pub quoted : List ℕ → List ℕ
quoted units = 34 ∷ (flat_map quoted_unit units ++ 34 ∷ [])
