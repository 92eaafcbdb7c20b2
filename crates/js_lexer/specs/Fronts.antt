-- What stands at a place of a text, by the characters from there on (ES3 section 7): a piece, or a fault.
use Rattle.std.specs.Prelude.{ℕ, suc, ◌+◌, ◌*◌, ◌^◌, ◌≡◌, ◌==◌, ◌||◌, ◌&&◌, nat_lt, Bool, true, false, not, List, [], ◌∷◌, ◌++◌, length, take, drop, Option, Some, None, if◌then◌else◌}
use Rattle.std.specs.Option.{option_map}
use Rattle.std.specs.Char.{digit_value}
use Rattle.std.specs.Char.Escape.{encode_utf16}
use Rattle.dl_text.specs.Place.{is_line_terminator}
use Rattle.dl_text.specs.Utf16.{utf16}
use Rattle.js_lexer.specs.Characters.{is_white_space, in_line, begins_name, continues_name, is_digit, is_hex_digit, first_is, is_at, run, number_of}
use Rattle.js_lexer.specs.Words.{word_of}
use Rattle.js_lexer.specs.Marks as marks
use Rattle.js_lexer.specs.declared.mark.Mark.{Mark}
use Rattle.js_lexer.specs.declared.word.Word.{Word}
use Rattle.js_lexer.specs.declared.front.Front.{Front}
use Rattle.js_lexer.specs.declared.front.Front.TheVariants.{Next, Bad}
use Rattle.js_lexer.specs.declared.token.LexKind.{LexKind}
use Rattle.js_lexer.specs.declared.token.LexKind.TheVariants as k
use Rattle.js_lexer.specs.declared.token.TokenKind.{TokenKind}
use Rattle.js_lexer.specs.declared.token.TokenKind.TheVariants as t

-- ---- comments

abbrev pub closes_comment : List ℕ → Bool
closes_comment [] = false
closes_comment (c ∷ cs) = (c == 42) && is_at 47 cs

-- how many characters there are up to the first `*/` and with it
abbrev pub comment_end : List ℕ → Option ℕ
comment_end [] = None
comment_end (c ∷ cs) = if closes_comment (c ∷ cs) then Some 2 else option_map suc (comment_end cs)

-- `/*`, before these characters
abbrev pub long_comment : Option ℕ → Front
long_comment None = Bad k.OpenComment 0
long_comment (Some n) = Next (2 + n) None

-- `//` goes on up to the next line terminator
abbrev pub line_comment : List ℕ → Front
line_comment cs = Next (2 + run in_line cs) None

-- ---- names

-- a word where the units are written as one, and a name otherwise
abbrev pub word_or_name : List ℕ → Option Word → TokenKind
word_or_name units None = t.Name units
word_or_name units (Some word) = t.Word word

abbrev pub name_kind : List ℕ → TokenKind
name_kind units = word_or_name units (word_of units)

-- a name goes on as long as the characters do
abbrev pub name : List ℕ → Front
name cs = let n = run continues_name cs in Next n (Some (name_kind (utf16 (take n cs))))

-- ---- numbers

-- `0x` or `0X` and a hexadecimal digit
abbrev pub is_hex_number : List ℕ → Bool
is_hex_number (a ∷ b ∷ c ∷ cs) = (a == 48) && (((b == 120) || (b == 88)) && is_hex_digit c)
is_hex_number cs = false

-- what may not stand directly behind a number, hexadecimal or not
abbrev pub after_number : Bool → List ℕ → Option LexKind
after_number hex [] = None
after_number hex (c ∷ cs) =
    if is_digit c then Some k.Octal
    else (if not hex && (c == 46) then Some k.Fraction
    else (if not hex && ((c == 101) || (c == 69)) then Some k.Exponent
    else (if begins_name c || (c == 92) then Some k.NumberTail else None)))

-- the value is tested after what follows
abbrev pub tested_number : ℕ → ℕ → Option LexKind → Front
tested_number n value (Some kind) = Bad kind 0
tested_number n value None = if nat_lt value (2 ^ 53) then Next n (Some (t.Number value)) else Bad k.WideNumber 0

-- behind `0x`: every hexadecimal digit
abbrev pub hex_number : List ℕ → Front
hex_number cs = let n = run is_hex_digit cs in tested_number (2 + n) (number_of 16 (take n cs)) (after_number true (drop n cs))

-- `0` alone, or every digit
abbrev pub decimal_length : List ℕ → ℕ
decimal_length cs = if is_at 48 cs then 1 else run is_digit cs

abbrev pub decimal_number : List ℕ → Front
decimal_number cs = let n = decimal_length cs in tested_number n (number_of 10 (take n cs)) (after_number false (drop n cs))

abbrev pub number : List ℕ → Front
number cs = if is_hex_number cs then hex_number (drop 2 cs) else decimal_number cs

-- ---- marks

abbrev pub mark_or_fault : Option Mark → Front
mark_or_fault (Some m) = Next (length (marks.spelling m)) (Some (t.Mark m))
mark_or_fault None = Bad k.BadCharacter 0

abbrev pub mark : List ℕ → Front
mark cs = mark_or_fault (marks.front_mark cs)

-- ---- strings

-- a single character behind a backslash
abbrev pub escaped : ℕ → ℕ
escaped c = if c == 98 then 8 else (if c == 116 then 9 else (if c == 110 then 10
    else (if c == 118 then 11 else (if c == 102 then 12 else (if c == 114 then 13 else c)))))

-- two hexadecimal digits behind `\x`: the unit, and the length from the backslash on
abbrev pub two_digits : List ℕ → Option (ℕ × ℕ)
two_digits (a ∷ b ∷ cs) = if is_hex_digit a && is_hex_digit b then Some (16 * digit_value a + digit_value b, 4) else None
two_digits cs = None

-- four hexadecimal digits behind `\u`
abbrev pub four_digits : List ℕ → Option (ℕ × ℕ)
four_digits (a ∷ b ∷ c ∷ d ∷ cs) =
    if is_hex_digit a && (is_hex_digit b && (is_hex_digit c && is_hex_digit d))
    then Some (4096 * digit_value a + 256 * digit_value b + 16 * digit_value c + digit_value d, 6) else None
four_digits cs = None

-- what stands behind a backslash: what it gives, and the length from the backslash on
abbrev pub escape_by : ℕ → List ℕ → Option (ℕ × ℕ)
escape_by c cs =
    if c == 120 then two_digits cs
    else (if c == 117 then four_digits cs
    else (if is_digit c then (if (c == 48) && not (first_is is_digit cs) then Some (0, 2) else None)
    else (if is_line_terminator c then None else Some (escaped c, 2))))

abbrev pub escape : List ℕ → Option (ℕ × ℕ)
escape [] = None
escape (c ∷ cs) = escape_by c cs

-- what of a string between these quotes stands at the front: what it gives, and its length
abbrev pub string_part : ℕ → List ℕ → Option (ℕ × ℕ)
string_part quote [] = None
string_part quote (c ∷ cs) = if c == 92 then escape cs else (if (c == quote) || is_line_terminator c then None else Some (c, 1))

-- the first n characters are the parts of a string, as far as there are any, and give these units
pub data IsInside (quote : ℕ) : List ℕ → ℕ → List ℕ → Type 0 where
  none : {cs : List ℕ} → string_part quote cs ≡ None → IsInside quote cs 0 []
  more : {cs : List ℕ} (value len n : ℕ) (units : List ℕ) → string_part quote cs ≡ Some (value, len) → IsInside quote (drop len cs) n units
      → IsInside quote cs (len + n) (encode_utf16 value ++ units)

-- a line terminator or the end of the text
abbrev pub is_line_end : List ℕ → Bool
is_line_end [] = true
is_line_end (c ∷ cs) = is_line_terminator c

-- behind n characters of parts, which give these units: the closing quote, or a backslash that begins no escape, or the end of the line
abbrev pub string_end : ℕ → ℕ → List ℕ → List ℕ → Front
string_end quote n units [] = Bad k.OpenString 0
string_end quote n units (c ∷ cs) =
    if c == quote then Next (n + 2) (Some (t.Str units))
    else (if (c == 92) && not (is_line_end cs) then Bad k.BadEscape (n + 1) else Bad k.OpenString 0)

-- ---- any place

abbrev pub is_quote : ℕ → Bool
is_quote c = (c == 34) || (c == 39)

-- white space and line terminators
abbrev pub is_blank : ℕ → Bool
is_blank c = is_white_space c || is_line_terminator c

-- a slash, and what follows it: a slash that begins no comment is a mark
abbrev pub slash : List ℕ → List ℕ → Front
slash text [] = mark text
slash text (c ∷ cs) = if c == 47 then line_comment cs else (if c == 42 then long_comment (comment_end cs) else mark text)

-- any character but a quote, and what follows it
abbrev pub front_by : ℕ → List ℕ → Front
front_by c cs =
    if is_blank c then Next 1 None
    else (if c == 47 then slash (c ∷ cs) cs
    else (if begins_name c then name (c ∷ cs)
    else (if is_digit c then number (c ∷ cs)
    else (if (c == 46) && first_is is_digit cs then Bad k.Fraction 0
    else (if c == 92 then Bad k.NameEscape 0
    else mark (c ∷ cs))))))

-- the text from a place on begins with this
pub data StandsAt : List ℕ → Front → Type 0 where
  string : {c : ℕ} {cs : List ℕ} (n : ℕ) (units : List ℕ) → is_quote c ≡ true → IsInside c cs n units → StandsAt (c ∷ cs) (string_end c n units (drop n cs))
  other : {c : ℕ} {cs : List ℕ} → is_quote c ≡ false → StandsAt (c ∷ cs) (front_by c cs)
