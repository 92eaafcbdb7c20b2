-- The UTF-16 units of characters.
use Rattle.std.specs.Prelude.{ℕ, List}
use Rattle.std.specs.List.{flat_map}
use Rattle.std.specs.Char.Escape.{encode_utf16}

-- one unit for each character up to U+FFFF, and two for each one past it
abbrev pub utf16 : List ℕ → List ℕ
utf16 characters = flat_map encode_utf16 characters
