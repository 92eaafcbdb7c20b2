-- Where reading stands in a text: the bytes behind it, the place, and whether a carriage return was the last character.
use Rattle.std.specs.Prelude.{ℕ, ◌+◌, ◌≤◌, ◌==◌, ◌||◌, ◌&&◌, Bool, false, List, [], ◌∷◌, fold, Option, Some, None, if◌then◌else◌}
use Rattle.std.specs.List.{list_any}
use Rattle.std.specs.Char.{len_utf8}
use Rattle.dl_text.specs.declared.place.Place.{Place}
use Rattle.dl_text.specs.Place.{is_line_terminator}
use Rattle.js_lexer.specs.declared.position.Position.{Position}
use Rattle.js_lexer.specs.declared.token.Token.{Token}
use Rattle.js_lexer.specs.declared.token.TokenKind.{TokenKind}

-- at the start of a text, of whose bytes so many stand before it
abbrev pub at_start : ℕ → Position
at_start bytes =
    record { bytes = bytes; place = record { line = 1; column = 1 }; after_return = false }

-- behind one more character: a line feed behind a carriage return changes no place
abbrev pub place_past : Bool → ℕ → Place → Place
place_past after_return c place =
    if is_line_terminator c
    then (if after_return && (c == 10) then place else record { line = place.line + 1; column = 1 })
    else record { line = place.line; column = place.column + 1 }

abbrev pub past : Position → ℕ → Position
past p c = record { bytes = p.bytes + len_utf8 c; place = place_past p.after_return c p.place; after_return = c == 13 }

-- behind these characters
abbrev pub passed : Position → List ℕ → Position
passed = fold past

-- no line and no column is past the bytes
pub record IsBounded (p : Position) : Type 0 where
  pub line_within : p.place.line ≤ p.bytes + 1
  pub column_within : p.place.column ≤ p.bytes + 1

-- the token of a piece, if it is one
abbrev pub tokens_at : Position → Bool → List ℕ → Option TokenKind → List Token
tokens_at p newline characters None = []
tokens_at p newline characters (Some kind) =
    record { kind = kind; start = p.bytes; end = (passed p characters).bytes; place = p.place; newline = newline } ∷ []

-- whether a line terminator stands behind the last token
abbrev pub newline_after : Bool → List ℕ → Option TokenKind → Bool
newline_after newline characters None = newline || list_any is_line_terminator characters
newline_after newline characters (Some kind) = false
