-- Places in a text: a line and a column from 1, in characters.
use Rattle.std.specs.Prelude.{ℕ, suc, ◌+◌, ◌==◌, ◌||◌, ◌&&◌, not, Bool, false, true}
use Rattle.std.specs.Prelude.{List, [], ◌∷◌, if◌then◌else◌}
use Rattle.dl_text.specs.declared.place.Place.{Place}

-- LF, CR, U+2028 and U+2029
abbrev pub is_line_terminator : ℕ → Bool
is_line_terminator c = (c == 10) || ((c == 13) || ((c == 0x2028) || (c == 0x2029)))

-- the first character is a line feed
abbrev pub begins_line_feed : List ℕ → Bool
begins_line_feed [] = false
begins_line_feed (c ∷ cs) = c == 10

-- a line ends between the character and those behind it: not between CR and LF
abbrev pub ends_line : ℕ → List ℕ → Bool
ends_line c cs = is_line_terminator c && not ((c == 13) && begins_line_feed cs)

-- how many lines end in these characters: CR LF ends one
abbrev pub line_ends : List ℕ → ℕ
line_ends [] = 0
line_ends (c ∷ cs) = if ends_line c cs then suc (line_ends cs) else line_ends cs

-- no character is a line terminator
abbrev pub is_one_line : List ℕ → Bool
is_one_line [] = true
is_one_line (c ∷ cs) = not (is_line_terminator c) && is_one_line cs

-- how many characters stand after the last line terminator
abbrev pub last_line_length : List ℕ → ℕ
last_line_length [] = 0
last_line_length (c ∷ cs) =
    if is_one_line (c ∷ cs) then suc (last_line_length cs) else last_line_length cs

-- the place of what stands behind these characters of a text
abbrev pub place_after : List ℕ → Place
place_after before = record { line = 1 + line_ends before; column = 1 + last_line_length before }
