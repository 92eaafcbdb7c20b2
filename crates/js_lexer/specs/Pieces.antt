-- What a piece may be, whatever follows it.
use Rattle.std.specs.Prelude.{◌^◌, ◌<◌, take, ℕ, ◌≡◌, ◌≤◌, ◌==◌, ◌||◌, true, false, List, [], ◌∷◌, ◌++◌, length, drop, Option, Some, None}
use Rattle.std.specs.List.{list_all}
use Rattle.dl_text.specs.Utf16.{utf16}
use Rattle.js_lexer.specs.Characters.{first_is, is_at, in_line, begins_name, continues_name, is_digit, is_hex_digit, number_of}
use Rattle.js_lexer.specs.Marks.{spelling}
use Rattle.js_lexer.specs.Fronts.{IsInside, after_number, is_hex_number, comment_end, is_blank, is_quote, name_kind}
use Rattle.js_lexer.specs.declared.mark.Mark.{Mark}
use Rattle.js_lexer.specs.declared.mark.Mark.TheVariants as m
use Rattle.js_lexer.specs.declared.token.TokenKind.{TokenKind}
use Rattle.js_lexer.specs.declared.token.TokenKind.TheVariants as t

-- the characters are a piece: white space, a line terminator, a comment, or this token
pub data IsPiece : List ℕ → Option TokenKind → Type 0 where
  blank : {c : ℕ} → is_blank c ≡ true → IsPiece (c ∷ []) None
  line_comment : {cs : List ℕ} → list_all in_line cs ≡ true → IsPiece (47 ∷ 47 ∷ cs) None
  long_comment : {cs : List ℕ} → comment_end cs ≡ Some (length cs) → IsPiece (47 ∷ 42 ∷ cs) None
  name : {c : ℕ} {cs : List ℕ} → begins_name c ≡ true → list_all continues_name cs ≡ true → IsPiece (c ∷ cs) (Some (name_kind (utf16 (c ∷ cs))))
  zero : IsPiece (48 ∷ []) (Some (t.Number 0))
  decimal : {c : ℕ} {cs : List ℕ} → (c == 48) ≡ false → is_digit c ≡ true → list_all is_digit cs ≡ true → IsPiece (c ∷ cs) (Some (t.Number (number_of 10 (c ∷ cs))))
  hexadecimal : {x c : ℕ} {cs : List ℕ} → ((x == 120) || (x == 88)) ≡ true → is_hex_digit c ≡ true → list_all is_hex_digit cs ≡ true
      → IsPiece (48 ∷ x ∷ c ∷ cs) (Some (t.Number (number_of 16 (c ∷ cs))))
  string : {c : ℕ} {cs : List ℕ} (n : ℕ) (units : List ℕ) → is_quote c ≡ true → IsInside c cs n units → drop n cs ≡ c ∷ [] → IsPiece (c ∷ cs) (Some (t.Str units))
  mark : (m : Mark) → IsPiece (spelling m) (Some (t.Mark m))

-- what may follow a piece: nothing that is refused directly behind a number, whose value is not too wide; no digit behind a dot;
-- nothing that makes a slash begin a comment
abbrev pub IsAllowed : List ℕ → Option TokenKind → List ℕ → Type 0
IsAllowed characters (Some (t.Number value)) rest = (after_number (is_hex_number characters) rest ≡ None) × (value < 2 ^ 53)
IsAllowed characters (Some (t.Mark m.Dot)) rest = first_is is_digit rest ≡ false
IsAllowed characters (Some (t.Mark m.Slash)) rest = is_at 42 rest ≡ false
IsAllowed characters kind rest = Unit {0}

-- the first n characters of the text are a piece, no longer front of the text is one, and what follows is allowed
pub record IsNextPiece (text : List ℕ) (n : ℕ) (kind : Option TokenKind) : Type 0 where
  pub within : n ≤ length text
  pub is_piece : IsPiece (take n text) kind
  pub longest : (others after : List ℕ) (other : Option TokenKind) → text ≡ others ++ after → IsPiece others other → length others ≤ n
  pub allowed : IsAllowed (take n text) kind (drop n text)
