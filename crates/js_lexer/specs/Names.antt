-- Names as UTF-16 units.
use Rattle.std.specs.Prelude.{ℕ, Bool, false, ◌&&◌, List, [], ◌∷◌, Option, Some, None, is_none, if◌then◌else◌}
use Rattle.std.specs.List.{list_all}
use Rattle.std.specs.Option.{option_map}
use Rattle.std.specs.Char.Utf16.{utf16_chars, is_high_surrogate, is_low_surrogate, surrogate_pair_char, lone_unit_char}
use Rattle.js_lexer.specs.Characters.{begins_name, continues_name}
use Rattle.js_lexer.specs.Words.{word_of}

-- a character passes; a surrogate with no partner does not
abbrev pub passes : (ℕ → Bool) → Option ℕ → Bool
passes test None = false
passes test (Some c) = test c

-- the characters, with `None` for each surrogate that has no partner, are one name
abbrev pub is_name_text : List (Option ℕ) → Bool
is_name_text [] = false
is_name_text (c ∷ cs) = passes begins_name c && list_all (passes continues_name) (c ∷ cs)

-- the units are one name that is no word
abbrev pub is_name : List ℕ → Bool
is_name units = is_name_text (utf16_chars units) && is_none (word_of units)

-- the character at the front, and how many units it takes; `None` at a surrogate with no partner
abbrev pub character_at : List ℕ → Option (ℕ × ℕ)
character_at [] = None
character_at (u ∷ []) = option_map (λ c. (c, 1)) (lone_unit_char u)
character_at (u ∷ v ∷ us) =
    if is_high_surrogate u && is_low_surrogate v then Some (surrogate_pair_char u v, 2) else option_map (λ c. (c, 1)) (lone_unit_char u)

-- every character goes on with a name
abbrev pub goes_on : List ℕ → Bool
goes_on units = list_all (passes continues_name) (utf16_chars units)

-- the first character begins a name
abbrev pub begins : Option (ℕ × ℕ) → Bool
begins None = false
begins (Some c) = begins_name c.0
