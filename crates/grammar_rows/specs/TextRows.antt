-- Rows by texts: what the tokens of a text are, and whether scripts begin with them. In a row
-- tokens stand apart by one space, or by one line feed, which is a line terminator. One that begins
-- with a digit is a number, one with a quote a string, one that is spelled as a mark or a word is
-- that, and any other a name.
use Rattle.std.specs.Prelude.{ℕ, ◌-◌, ◌≡◌, ◌==◌, ◌&&◌, nat_lt, nat_le, not, Bool, true, false, List, [], ◌∷◌, ◌++◌, length, take, drop, map, filter, codes, Option, Some, None, if◌then◌else◌}
use Rattle.std.specs.List.{find}
use Rattle.js_lexer.specs.Characters.{begins, first_is, is_digit, number_of}
use Rattle.js_lexer.specs.Marks as marks
use Rattle.js_lexer.specs.Words as words
use Rattle.js_lexer.specs.declared.mark.Mark.{Mark}
use Rattle.js_lexer.specs.declared.word.Word.{Word}
use Rattle.js_tree.specs.Tree.{Script}
use Rattle.js_parser.specs.declared.form.Form.{Form}
use Rattle.js_parser.specs.declared.form.Form.TheVariants.{Source, Written}
use Rattle.js_parser.specs.declared.form.Limits.{Limits}
use Rattle.js_parser.specs.Bounds.{in_source, in_site}
use Rattle.js_parser.specs.Symbols.{Symbol, Symbols, word, mark, name, number_in, string, end}
use Rattle.js_parser.specs.Accepted.{Accepted}
use Rattle.js_parser.specs.Fault.{Begins}
use Rattle.js_printer.specs.PrintedText.{script_text}

-- ---- the tokens of a text

-- a token's characters, and whether a line feed stands before them
pub record Spelled : Type 0 where
  pub characters : List ℕ
  pub newline : Bool

-- the characters up to the next space or line feed, and the tokens behind it
pub record Split : Type 0 where
  pub characters : List ℕ
  pub behind : List Spelled

abbrev pub parted : Bool → Split → Split
parted newline rest = record {
  characters = [];
  behind =
      record { characters = rest.characters; newline = newline } ∷ rest.behind;
}

abbrev pub and_split : ℕ → Split → Split
and_split c rest =
    if c == 32 then parted false rest
    else (if c == 10 then parted true rest else record {
      characters = c ∷ rest.characters;
      behind =
          rest.behind;
    })

abbrev pub split : List ℕ → Split
split [] = record { characters = []; behind = [] }
split (c ∷ cs) = and_split c (split cs)

abbrev pub is_hexadecimal : List ℕ → Bool
is_hexadecimal = begins (codes "0x")

abbrev pub value : List ℕ → ℕ
value cs = if is_hexadecimal cs then number_of 16 (drop 2 cs) else number_of 10 cs

-- a small letter
abbrev pub is_letter : ℕ → Bool
is_letter c = nat_le 97 c && nat_le c 122

abbrev pub is_quote : ℕ → Bool
is_quote c = c == 34

-- of more than one character
abbrev pub is_long : List ℕ → Bool
is_long cs = nat_lt 1 (length cs)

abbrev pub word_or_name : Option Word → List ℕ → Bool → Symbol
word_or_name (Some w) = λ cs. word w
word_or_name None = name

abbrev pub mark_or_name : Option Mark → List ℕ → Bool → Symbol
mark_or_name (Some m) = λ cs. mark m
mark_or_name None = name

-- what a token is: its first character is a digit, a quote or a letter, or it is a mark
abbrev pub told_by : Bool → Bool → Bool → Bool → List ℕ → Bool → Symbol
told_by true quote letter long cs = number_in (not (is_hexadecimal cs)) (value cs)
told_by false true letter long cs = string (drop 1 (take (length cs - 1) cs))
told_by false false true true cs = word_or_name (words.word_of cs) cs
told_by false false true false cs = name cs
told_by false false false long cs = mark_or_name
    (find (λ m. words.is_spelled (marks.spelling m) cs) marks.marks) cs

abbrev pub told : Spelled → Symbol
told s =
    let cs = s.characters in
    told_by (first_is is_digit cs) (first_is is_quote cs) (first_is is_letter cs)
    (is_long cs) cs s.newline

abbrev pub is_some : Spelled → Bool
is_some s = nat_lt 0 (length s.characters)

abbrev pub all_spelled : Split → List Spelled
all_spelled s = record { characters = s.characters; newline = false } ∷ s.behind

abbrev pub tokens : List ℕ → Symbols
tokens text = map told (filter is_some (all_spelled (split text)))

-- ---- rows

abbrev pub limits_of : Form → Limits
limits_of Source = in_source
limits_of Written = in_site

-- the text is an accepted script with this tree
abbrev pub IsOf : Form → List ℕ → Script → Type 0
IsOf form text = Accepted form (limits_of form) (tokens text ++ (end false ∷ []))

-- the first text is an accepted script, which is written as the second
pub record Reads (form : Form) (text printed : List ℕ) : Type 0 where
  pub tree : Script
  pub accepted : IsOf form text tree
  pub written : script_text tree ≡ printed

-- the two texts are accepted scripts of one tree
pub record Same (form : Form) (text other : List ℕ) : Type 0 where
  pub tree : Script
  pub accepted : IsOf form text tree
  pub other_accepted : IsOf form other tree

-- scripts begin with the first text, and none with its tokens and that of the second
pub record BreaksAt (form : Form) (text token : List ℕ) : Type 0 where
  pub begins : Begins form (limits_of form).functions (tokens text)
  pub ends : Begins form (limits_of form).functions (tokens text ++ tokens token) → ⊥
