-- Kinds of tokens that may be written, and stand side by side, such that each is read again.
use Rattle.std.proofs.Common.{◌≡◌, ℕ, ◌^◌, ◌≤◌, ◌<◌, ◌==◌, nat_le, Bool, true, false, not, ◌&&◌, ◌||◌, List, [], ◌∷◌, ◌++◌, codes, length, Some, None, refl, ap, sym, ◌∙◌, subst, arith, lit<}
use Rattle.std.specs.List.{list_all, flat_map}
use Rattle.std.specs.Char.{is_ascii_alphabetic, is_ascii_alphanumeric}
use Rattle.std.specs.Char.Utf16.{utf16_lossy_chars}
use Rattle.std.specs.Fmt.{decimal}
use Rattle.std.proofs.lemmas.Bool.{leb-true, eqb-true}
use Rattle.std.proofs.lemmas.Bool.Decides.{nat_tests}
use Rattle.std.proofs.lemmas.Fmt.{decimal_nonempty}
use Rattle.unicode_ident.proofs.IdentLemmas.{is_xid_continue-ascii}
use Rattle.dl_text.specs.Quote.{quoted, quoted_unit}
use Rattle.js_lexer.specs.Characters.{begins, begins_name, continues_name, first_is, is_digit}
use Rattle.js_lexer.specs.Fronts.{StandsAt, after_number}
use Rattle.js_lexer.specs.Marks.{spelling}
use Rattle.js_lexer.specs.Names.{is_name}
use Rattle.js_lexer.specs.Words as words
use Rattle.js_lexer.specs.Words.{is_spelled}
use Rattle.js_lexer.specs.declared.word.Word.{Word}
use Rattle.js_lexer.specs.declared.front.Front.TheVariants.{Next}
use Rattle.js_lexer.specs.declared.mark.Mark.{Mark}
use Rattle.js_lexer.specs.declared.mark.Mark.TheVariants as m
use Rattle.js_lexer.specs.declared.token.TokenKind.{TokenKind}
use Rattle.js_lexer.specs.declared.token.TokenKind.TheVariants as k
use Rattle.js_lexer.proofs.Longest.{plain}
use Rattle.js_lexer.proofs.PieceLaws.{left, right}
use Rattle.js_lexer.proofs.Within.{continues_first, mark_length}
use Rattle.js_printer.specs.Printed.{Kinds}
use Rattle.js_printer.specs.PrintedText.{spelled, last_is, needs_space, space}
use Rattle.cluster_files.specs.WritableKinds.{IsWritable, are_units}
use Rattle.cluster_files.proofs.SpelledNames.{word_stands, word_continues, word_some, written_name_stands, name_text}
use Rattle.cluster_files.proofs.SpelledNumbers.{number_stands, decimal_digits}
use Rattle.cluster_files.proofs.SpelledStrings.{string_stands}
use Rattle.cluster_files.proofs.SpelledMarks.{is_loud, mark_stops, mark_stands}

-- ---- what may stand side by side

abbrev pub is_quiet : TokenKind → Bool
is_quiet (k.Mark x) = not (first_is is_loud (spelling x))
is_quiet _ = true

abbrev pub is_no_dot : TokenKind → Bool
is_no_dot (k.Mark m.Dot) = false
is_no_dot _ = true

abbrev pub is_a_name : TokenKind → Bool
is_a_name (k.Name n) = true
is_a_name _ = false

-- the first kind passes, if there is one
abbrev pub heads : (TokenKind → Bool) → Kinds → Bool
heads p [] = true
heads p (kind ∷ rest) = p kind

-- A mark that may go on is followed by no mark with which it would, but for `+` and `-`, which the
-- rule of spaces parts. A name stands behind a dot, and no dot behind a number.
abbrev pub mark_fits : Mark → Kinds → Bool
mark_fits m.Dot rest = heads is_a_name rest
mark_fits m.Less rest = heads is_quiet rest
mark_fits m.Greater rest = heads is_quiet rest
mark_fits m.Equal rest = heads is_quiet rest
mark_fits m.NotEqual rest = heads is_quiet rest
mark_fits m.Plus rest = heads is_quiet rest
mark_fits m.Minus rest = heads is_quiet rest
mark_fits m.Times rest = heads is_quiet rest
mark_fits m.Slash rest = heads is_quiet rest
mark_fits m.Percent rest = heads is_quiet rest
mark_fits m.ShiftLeft rest = heads is_quiet rest
mark_fits m.ShiftRight rest = heads is_quiet rest
mark_fits m.ShiftRightUnsigned rest = heads is_quiet rest
mark_fits m.BitAnd rest = heads is_quiet rest
mark_fits m.BitOr rest = heads is_quiet rest
mark_fits m.BitXor rest = heads is_quiet rest
mark_fits m.Not rest = heads is_quiet rest
mark_fits m.Assign rest = heads is_quiet rest
mark_fits _ rest = true

abbrev pub next_fits : TokenKind → Kinds → Bool
next_fits (k.Number n) rest = heads is_no_dot rest
next_fits (k.Mark x) rest = mark_fits x rest
next_fits _ rest = true

abbrev pub AllFit : Kinds → Type 0
AllFit [] = Unit {0}
AllFit (kind ∷ rest) = (next_fits kind rest ≡ true) × AllFit rest

-- ---- what may stand behind a kind in a text

abbrev pub Stops : TokenKind → List ℕ → Type 0
Stops (k.Word word) rest = first_is continues_name rest ≡ false
Stops (k.Name n) rest = first_is continues_name rest ≡ false
Stops (k.Number n) rest = after_number false rest ≡ None
Stops (k.Str text) rest = Unit {0}
Stops (k.Mark x) rest = mark_stops x rest ≡ true
Stops k.End rest = Unit {0}

pub kind_stands : (kind : TokenKind) (rest : List ℕ) → IsWritable kind → Stops kind rest → StandsAt (spelled kind ++ rest) (Next (length (spelled kind)) (Some kind))
kind_stands (k.Word word) rest h s = word_stands word rest s
kind_stands (k.Name n) rest h s = written_name_stands n rest h.0 h.1 s
kind_stands (k.Number n) rest h s = number_stands n rest h s
kind_stands (k.Str text) rest h s = string_stands text rest h
kind_stands (k.Mark x) rest h s = mark_stands x rest s
kind_stands k.End rest h s = absurd h

-- ---- a character that goes on with nothing

-- a space or a line feed
is_gap : ℕ → Bool
is_gap c = (c == 32) || (c == 10)

no_continue : (c : ℕ) → c < 128 → ((c == 36) || ((c == 95) || (is_ascii_alphanumeric c || (c == 95)))) ≡ false → continues_name c ≡ false
no_continue c low e = rw (is_xid_continue-ascii c low) e

space_continues : continues_name 32 ≡ false
space_continues = no_continue 32 (lit< tt) refl

feed_continues : continues_name 10 ≡ false
feed_continues = no_continue 10 (lit< tt) refl

after_at : (c : ℕ) (cs : List ℕ) → is_digit c ≡ false → (c == 46) ≡ false → ((c == 101) || (c == 69)) ≡ false → begins_name c ≡ false → (c == 92) ≡ false → after_number false (c ∷ cs) ≡ None
after_at c cs d p e b s = rw (d, p, e, b, s) refl

mark_space : (x : Mark) (rest : List ℕ) → mark_stops x (32 ∷ rest) ≡ true
mark_space m.Plus rest = refl
mark_space _ rest = refl

mark_feed : (x : Mark) (rest : List ℕ) → mark_stops x (10 ∷ rest) ≡ true
mark_feed m.Plus rest = refl
mark_feed _ rest = refl

pub stops_at_space : (kind : TokenKind) (rest : List ℕ) → Stops kind (32 ∷ rest)
stops_at_space (k.Word word) rest = space_continues
stops_at_space (k.Name n) rest = space_continues
stops_at_space (k.Number n) rest = after_at 32 rest refl refl refl (plain 32 (lit< tt) refl) refl
stops_at_space (k.Str text) rest = tt
stops_at_space (k.Mark x) rest = mark_space x rest
stops_at_space k.End rest = tt

pub stops_at_feed : (kind : TokenKind) (rest : List ℕ) → Stops kind (10 ∷ rest)
stops_at_feed (k.Word word) rest = feed_continues
stops_at_feed (k.Name n) rest = feed_continues
stops_at_feed (k.Number n) rest = after_at 10 rest refl refl refl (plain 10 (lit< tt) refl) refl
stops_at_feed (k.Str text) rest = tt
stops_at_feed (k.Mark x) rest = mark_feed x rest
stops_at_feed k.End rest = tt

mark_end : (x : Mark) → mark_stops x [] ≡ true
mark_end m.Plus = refl
mark_end _ = refl

pub stops_at_nothing : (kind : TokenKind) → Stops kind []
stops_at_nothing (k.Word word) = refl
stops_at_nothing (k.Name n) = refl
stops_at_nothing (k.Number n) = refl
stops_at_nothing (k.Str text) = tt
stops_at_nothing (k.Mark x) = mark_end x
stops_at_nothing k.End = tt

-- ---- the characters of a kind

last_all : (p : ℕ → Bool) (us : List ℕ) → 0 < length us → list_all p us ≡ true → last_is p us ≡ true
last_all p [] l h = absurd (omega arith)
last_all p (u ∷ []) l h = left (p u) true h
last_all p (u ∷ v ∷ us) l h = last_all p (v ∷ us) (omega arith) (right (p u) (list_all p (v ∷ us)) h)

first_all : (p : ℕ → Bool) (us : List ℕ) → 0 < length us → list_all p us ≡ true → first_is p us ≡ true
first_all p [] l h = absurd (omega arith)
first_all p (u ∷ us) l h = left (p u) (list_all p us) h

first_append : (p : ℕ → Bool) (us rest : List ℕ) → 0 < length us → first_is p (us ++ rest) ≡ first_is p us
first_append p [] rest l = absurd (omega arith)
first_append p (u ∷ us) rest l = refl

digit_name : (c : ℕ) → is_digit c ≡ true → begins_name c ≡ false
digit_name c h =
    let low = leb-true 48 c (left (nat_le 48 c) (nat_le c 57) h) in
    let high = leb-true c 57 (right (nat_le 48 c) (nat_le c 57) h) in
    plain c (omega arith) (alphabetic c low high)
  where
    alphabetic : (c : ℕ) → 48 ≤ c → c ≤ 57 → ((c == 36) || ((c == 95) || is_ascii_alphabetic c)) ≡ false
    alphabetic c low high = grind (arith, nat_tests)

digit_continues : (c : ℕ) → is_digit c ≡ true → continues_name c ≡ true
digit_continues c h =
    let low = leb-true 48 c (left (nat_le 48 c) (nat_le c 57) h) in
    let high = leb-true c 57 (right (nat_le 48 c) (nat_le c 57) h) in
    rw (is_xid_continue-ascii c (omega arith)) (digit c low high)
  where
    digit : (c : ℕ) → 48 ≤ c → c ≤ 57 → ((c == 36) || ((c == 95) || (is_ascii_alphanumeric c || (c == 95)))) ≡ true
    digit c low high = grind (arith, nat_tests)

digits_continue : (us : List ℕ) → list_all is_digit us ≡ true → list_all continues_name us ≡ true
digits_continue [] h = refl
digits_continue (u ∷ us) h = rw (digit_continues u (left (is_digit u) (list_all is_digit us) h)) (digits_continue us (right (is_digit u) (list_all is_digit us) h))

-- the characters of a word, a name or a number go on with a name
pub record IsRun (us : List ℕ) : Type 0 where
  pub some : 0 < length us
  pub all : list_all continues_name us ≡ true

pub word_run : (word : Word) → IsRun (words.spelling word)
word_run word = record { some = word_some word; all = word_continues word }

pub name_run : (n : List ℕ) → is_name n ≡ true → are_units n ≡ true → IsRun (utf16_lossy_chars n)
name_run n h a =
    let is = name_text n h a in
    subst IsRun (sym is.written) (record { some = omega arith; all = rw (continues_first is.first is.begins) is.goes_on })

pub number_run : (n : ℕ) → n < 2 ^ 53 → IsRun (decimal n)
number_run n h = record { some = decimal_nonempty n (omega arith); all = digits_continue (decimal n) (decimal_digits n h) }

-- ---- side by side

clash : true ≡ false → ⊥
clash e = absurd (cc)

either : (a b : Bool) → (a || b) ≡ false → (a ≡ false) × (b ≡ false)
either true b h = absurd (cc)
either false b h = (refl, h)

-- behind what goes on with a name there is a space before what goes on with one
run_stops : (before after rest : List ℕ) → IsRun before → 0 < length after → first_is continues_name (space (needs_space before after) ++ (after ++ rest)) ≡ false
run_stops before after rest r l = at (needs_space before after) refl
  where
    others : Bool
    others = (is_spelled (codes "+") before && begins (codes "+") after) || (is_spelled (codes "-") before && begins (codes "-") after)

    at : (b : Bool) → needs_space before after ≡ b → first_is continues_name (space b ++ (after ++ rest)) ≡ false
    at true e = space_continues
    at false e =
        let both = either (last_is continues_name before && first_is continues_name after) others e in
        first_append continues_name after rest l ∙ (rw (last_all continues_name before r.some r.all) at both.0)

run_apart : (before after : List ℕ) → IsRun before → IsRun after → needs_space before after ≡ true
run_apart before after r q = rw (last_all continues_name before r.some r.all, first_all continues_name after q.some q.all) refl

after_run : (before after rest : List ℕ) → IsRun before → IsRun after → after_number false (space (needs_space before after) ++ (after ++ rest)) ≡ None
after_run before after rest r q = rw (run_apart before after r q) (stops_at_space (k.Number 0) (after ++ rest))

after_gap : (b : Bool) (rest : List ℕ) → after_number false rest ≡ None → after_number false (space b ++ rest) ≡ None
after_gap true rest h = stops_at_space (k.Number 0) rest
after_gap false rest h = h

after_mark : (x : Mark) (rest : List ℕ) → is_no_dot (k.Mark x) ≡ true → after_number false (spelling x ++ rest) ≡ None
after_mark m.OpenBrace rest h = after_at 123 (rest) refl refl refl (plain 123 (lit< tt) refl) refl
after_mark m.CloseBrace rest h = after_at 125 (rest) refl refl refl (plain 125 (lit< tt) refl) refl
after_mark m.OpenParenthesis rest h = after_at 40 (rest) refl refl refl (plain 40 (lit< tt) refl) refl
after_mark m.CloseParenthesis rest h = after_at 41 (rest) refl refl refl (plain 41 (lit< tt) refl) refl
after_mark m.OpenBracket rest h = after_at 91 (rest) refl refl refl (plain 91 (lit< tt) refl) refl
after_mark m.CloseBracket rest h = after_at 93 (rest) refl refl refl (plain 93 (lit< tt) refl) refl
after_mark m.Dot rest h = absurd (cc)
after_mark m.Semicolon rest h = after_at 59 (rest) refl refl refl (plain 59 (lit< tt) refl) refl
after_mark m.Comma rest h = after_at 44 (rest) refl refl refl (plain 44 (lit< tt) refl) refl
after_mark m.Less rest h = after_at 60 (rest) refl refl refl (plain 60 (lit< tt) refl) refl
after_mark m.Greater rest h = after_at 62 (rest) refl refl refl (plain 62 (lit< tt) refl) refl
after_mark m.LessEqual rest h = after_at 60 (61 ∷ rest) refl refl refl (plain 60 (lit< tt) refl) refl
after_mark m.GreaterEqual rest h = after_at 62 (61 ∷ rest) refl refl refl (plain 62 (lit< tt) refl) refl
after_mark m.Equal rest h = after_at 61 (61 ∷ rest) refl refl refl (plain 61 (lit< tt) refl) refl
after_mark m.NotEqual rest h = after_at 33 (61 ∷ rest) refl refl refl (plain 33 (lit< tt) refl) refl
after_mark m.StrictEqual rest h = after_at 61 (61 ∷ 61 ∷ rest) refl refl refl (plain 61 (lit< tt) refl) refl
after_mark m.StrictNotEqual rest h = after_at 33 (61 ∷ 61 ∷ rest) refl refl refl (plain 33 (lit< tt) refl) refl
after_mark m.Plus rest h = after_at 43 (rest) refl refl refl (plain 43 (lit< tt) refl) refl
after_mark m.Minus rest h = after_at 45 (rest) refl refl refl (plain 45 (lit< tt) refl) refl
after_mark m.Times rest h = after_at 42 (rest) refl refl refl (plain 42 (lit< tt) refl) refl
after_mark m.Slash rest h = after_at 47 (rest) refl refl refl (plain 47 (lit< tt) refl) refl
after_mark m.Percent rest h = after_at 37 (rest) refl refl refl (plain 37 (lit< tt) refl) refl
after_mark m.PlusPlus rest h = after_at 43 (43 ∷ rest) refl refl refl (plain 43 (lit< tt) refl) refl
after_mark m.MinusMinus rest h = after_at 45 (45 ∷ rest) refl refl refl (plain 45 (lit< tt) refl) refl
after_mark m.ShiftLeft rest h = after_at 60 (60 ∷ rest) refl refl refl (plain 60 (lit< tt) refl) refl
after_mark m.ShiftRight rest h = after_at 62 (62 ∷ rest) refl refl refl (plain 62 (lit< tt) refl) refl
after_mark m.ShiftRightUnsigned rest h = after_at 62 (62 ∷ 62 ∷ rest) refl refl refl (plain 62 (lit< tt) refl) refl
after_mark m.BitAnd rest h = after_at 38 (rest) refl refl refl (plain 38 (lit< tt) refl) refl
after_mark m.BitOr rest h = after_at 124 (rest) refl refl refl (plain 124 (lit< tt) refl) refl
after_mark m.BitXor rest h = after_at 94 (rest) refl refl refl (plain 94 (lit< tt) refl) refl
after_mark m.Not rest h = after_at 33 (rest) refl refl refl (plain 33 (lit< tt) refl) refl
after_mark m.BitNot rest h = after_at 126 (rest) refl refl refl (plain 126 (lit< tt) refl) refl
after_mark m.And rest h = after_at 38 (38 ∷ rest) refl refl refl (plain 38 (lit< tt) refl) refl
after_mark m.Or rest h = after_at 124 (124 ∷ rest) refl refl refl (plain 124 (lit< tt) refl) refl
after_mark m.Question rest h = after_at 63 (rest) refl refl refl (plain 63 (lit< tt) refl) refl
after_mark m.Colon rest h = after_at 58 (rest) refl refl refl (plain 58 (lit< tt) refl) refl
after_mark m.Assign rest h = after_at 61 (rest) refl refl refl (plain 61 (lit< tt) refl) refl
after_mark m.PlusAssign rest h = after_at 43 (61 ∷ rest) refl refl refl (plain 43 (lit< tt) refl) refl
after_mark m.MinusAssign rest h = after_at 45 (61 ∷ rest) refl refl refl (plain 45 (lit< tt) refl) refl
after_mark m.TimesAssign rest h = after_at 42 (61 ∷ rest) refl refl refl (plain 42 (lit< tt) refl) refl
after_mark m.SlashAssign rest h = after_at 47 (61 ∷ rest) refl refl refl (plain 47 (lit< tt) refl) refl
after_mark m.PercentAssign rest h = after_at 37 (61 ∷ rest) refl refl refl (plain 37 (lit< tt) refl) refl
after_mark m.ShiftLeftAssign rest h = after_at 60 (60 ∷ 61 ∷ rest) refl refl refl (plain 60 (lit< tt) refl) refl
after_mark m.ShiftRightAssign rest h = after_at 62 (62 ∷ 61 ∷ rest) refl refl refl (plain 62 (lit< tt) refl) refl
after_mark m.ShiftRightUnsignedAssign rest h = after_at 62 (62 ∷ 62 ∷ 61 ∷ rest) refl refl refl (plain 62 (lit< tt) refl) refl
after_mark m.BitAndAssign rest h = after_at 38 (61 ∷ rest) refl refl refl (plain 38 (lit< tt) refl) refl
after_mark m.BitOrAssign rest h = after_at 124 (61 ∷ rest) refl refl refl (plain 124 (lit< tt) refl) refl
after_mark m.BitXorAssign rest h = after_at 94 (61 ∷ rest) refl refl refl (plain 94 (lit< tt) refl) refl

-- behind a number
number_stops : (n : ℕ) (next : TokenKind) (rest : List ℕ) → n < 2 ^ 53 → IsWritable next → is_no_dot next ≡ true
    → after_number false (space (needs_space (decimal n) (spelled next)) ++ (spelled next ++ rest)) ≡ None
number_stops n (k.Word word) rest s h f = after_run (decimal n) (words.spelling word) rest (number_run n s) (word_run word)
number_stops n (k.Name o) rest s h f = after_run (decimal n) (utf16_lossy_chars o) rest (number_run n s) (name_run o h.0 h.1)
number_stops n (k.Number o) rest s h f = after_run (decimal n) (decimal o) rest (number_run n s) (number_run o h)
number_stops n (k.Str text) rest s h f =
    after_gap (needs_space (decimal n) (quoted text)) (quoted text ++ rest) (after_at 34 ((flat_map quoted_unit text ++ (34 ∷ [])) ++ rest) refl refl refl (plain 34 (lit< tt) refl) refl)
number_stops n (k.Mark x) rest s h f = after_gap (needs_space (decimal n) (spelling x)) (spelling x ++ rest) (after_mark x rest f)
number_stops n k.End rest s h f = absurd h

-- what goes on with a name goes on with no mark
loud_is : (c : ℕ) → is_loud c ≡ true → continues_name c ≡ false
loud_is c h = at (61 == c) (60 == c) (62 == c) (38 == c) (124 == c) (42 == c) (47 == c) refl refl refl refl refl refl refl h
  where
    by : (d : ℕ) → (d == c) ≡ true → continues_name d ≡ false → continues_name c ≡ false
    by d e n = subst (λ x. continues_name x ≡ false) (eqb-true d c e) n

    at : (a b d e f g i : Bool) → (61 == c) ≡ a → (60 == c) ≡ b → (62 == c) ≡ d → (38 == c) ≡ e → (124 == c) ≡ f → (42 == c) ≡ g → (47 == c) ≡ i
        → (a || (b || (d || (e || (f || (g || i)))))) ≡ true → continues_name c ≡ false
    at true b d e f g i ea eb ed ee ef eg ei h = by 61 ea (no_continue 61 (lit< tt) refl)
    at false true d e f g i ea eb ed ee ef eg ei h = by 60 eb (no_continue 60 (lit< tt) refl)
    at false false true e f g i ea eb ed ee ef eg ei h = by 62 ed (no_continue 62 (lit< tt) refl)
    at false false false true f g i ea eb ed ee ef eg ei h = by 38 ee (no_continue 38 (lit< tt) refl)
    at false false false false true g i ea eb ed ee ef eg ei h = by 124 ef (no_continue 124 (lit< tt) refl)
    at false false false false false true i ea eb ed ee ef eg ei h = by 42 eg (no_continue 42 (lit< tt) refl)
    at false false false false false false true ea eb ed ee ef eg ei h = by 47 ei (no_continue 47 (lit< tt) refl)
    at false false false false false false false ea eb ed ee ef eg ei h = absurd (cc)

not_loud : (c : ℕ) → continues_name c ≡ true → is_loud c ≡ false
not_loud c h = at (is_loud c) refl
  where
    at : (b : Bool) → is_loud c ≡ b → is_loud c ≡ false
    at true e = absurd (clash (sym h ∙ loud_is c e))
    at false e = e

run_quiet : (us : List ℕ) → IsRun us → first_is is_loud us ≡ false
run_quiet us r = at us r.some r.all
  where
    at : (us : List ℕ) → 0 < length us → list_all continues_name us ≡ true → first_is is_loud us ≡ false
    at [] l h = absurd (omega arith)
    at (u ∷ us) l h = not_loud u (left (continues_name u) (list_all continues_name us) h)

unless : (a : Bool) → not a ≡ true → a ≡ false
unless true h = absurd (cc)
unless false h = refl

-- a kind that is quiet begins with no character with which a mark goes on
record IsQuietText (us : List ℕ) : Type 0 where
  some : 0 < length us
  quiet : first_is is_loud us ≡ false

run_text : (us : List ℕ) → IsRun us → IsQuietText us
run_text us r = record { some = r.some; quiet = run_quiet us r }

quiet_text : (next : TokenKind) → IsWritable next → is_quiet next ≡ true → IsQuietText (spelled next)
quiet_text (k.Word word) h q = run_text (words.spelling word) (word_run word)
quiet_text (k.Name n) h q = run_text (utf16_lossy_chars n) (name_run n h.0 h.1)
quiet_text (k.Number n) h q = run_text (decimal n) (number_run n h)
quiet_text (k.Str text) h q = record { some = omega arith; quiet = refl }
quiet_text (k.Mark x) h q = record { some = mark_length x; quiet = unless (first_is is_loud (spelling x)) q }
quiet_text k.End h q = absurd h

-- behind a mark that may go on
quiet_stops : (b : Bool) (after rest : List ℕ) → IsQuietText after → not (first_is is_loud (space b ++ (after ++ rest))) ≡ true
quiet_stops true after rest t = refl
quiet_stops false after rest t = ap not (first_append is_loud after rest t.some ∙ t.quiet)

-- behind `+` and `-`
sign_at : (c : ℕ) (after rest : List ℕ) → IsQuietText after → begins (c ∷ []) after ≡ false → first_is (λ d. is_loud d || (c == d)) (after ++ rest) ≡ false
sign_at c [] rest t h = let l = t.some in absurd (omega arith)
sign_at c (d ∷ ds) rest t h = rw t.quiet (alone (c == d) h)
  where
    alone : (a : Bool) → (a && true) ≡ false → a ≡ false
    alone true h = h
    alone false h = refl

plus_stops : (after rest : List ℕ) → IsQuietText after → mark_stops m.Plus (space (needs_space (codes "+") after) ++ (after ++ rest)) ≡ true
plus_stops after rest t = at (needs_space (codes "+") after) refl
  where
    at : (b : Bool) → needs_space (codes "+") after ≡ b → mark_stops m.Plus (space b ++ (after ++ rest)) ≡ true
    at true e = refl
    at false e =
        let both = either (continues_name 43 && first_is continues_name after) (begins (codes "+") after || false) e in
        ap not (sign_at 43 after rest t (either (begins (codes "+") after) false both.1).0)

minus_stops : (after rest : List ℕ) → IsQuietText after → mark_stops m.Minus (space (needs_space (codes "-") after) ++ (after ++ rest)) ≡ true
minus_stops after rest t = at (needs_space (codes "-") after) refl
  where
    at : (b : Bool) → needs_space (codes "-") after ≡ b → mark_stops m.Minus (space b ++ (after ++ rest)) ≡ true
    at true e = refl
    at false e =
        let both = either (continues_name 45 && first_is continues_name after) (begins (codes "-") after) e in
        ap not (sign_at 45 after rest t both.1)

-- behind a dot
dot_stops : (b : Bool) (next : TokenKind) (rest : List ℕ) → IsWritable next → is_a_name next ≡ true → mark_stops m.Dot (space b ++ (spelled next ++ rest)) ≡ true
dot_stops b (k.Word word) rest h f = absurd (cc)
dot_stops true (k.Name n) rest h f = refl
dot_stops false (k.Name n) rest h f =
    let is = name_text n h.0 h.1 in
    subst (λ us. not (first_is is_digit (us ++ rest)) ≡ true) (sym is.written) (ap not (no_digit is.first is.begins))
  where
    no_digit : (c : ℕ) → begins_name c ≡ true → is_digit c ≡ false
    no_digit c h = at (is_digit c) refl
      where
        at : (b : Bool) → is_digit c ≡ b → is_digit c ≡ false
        at true e = absurd (clash (sym h ∙ digit_name c e))
        at false e = e
dot_stops b (k.Number n) rest h f = absurd (cc)
dot_stops b (k.Str text) rest h f = absurd (cc)
dot_stops b (k.Mark x) rest h f = absurd (cc)
dot_stops b k.End rest h f = absurd h

mark_stops_at : (x : Mark) (next : TokenKind) (more : Kinds) (rest : List ℕ) → IsWritable next → mark_fits x (next ∷ more) ≡ true
    → mark_stops x (space (needs_space (spelling x) (spelled next)) ++ (spelled next ++ rest)) ≡ true
mark_stops_at m.Dot next more rest h f = dot_stops (needs_space (spelling m.Dot) (spelled next)) next rest h f
mark_stops_at m.Plus next more rest h f = plus_stops (spelled next) rest (quiet_text next h f)
mark_stops_at m.Minus next more rest h f = minus_stops (spelled next) rest (quiet_text next h f)
mark_stops_at m.Less next more rest h f = quiet_stops (needs_space (spelling m.Less) (spelled next)) (spelled next) rest (quiet_text next h f)
mark_stops_at m.Greater next more rest h f = quiet_stops (needs_space (spelling m.Greater) (spelled next)) (spelled next) rest (quiet_text next h f)
mark_stops_at m.Equal next more rest h f = quiet_stops (needs_space (spelling m.Equal) (spelled next)) (spelled next) rest (quiet_text next h f)
mark_stops_at m.NotEqual next more rest h f = quiet_stops (needs_space (spelling m.NotEqual) (spelled next)) (spelled next) rest (quiet_text next h f)
mark_stops_at m.Times next more rest h f = quiet_stops (needs_space (spelling m.Times) (spelled next)) (spelled next) rest (quiet_text next h f)
mark_stops_at m.Slash next more rest h f = quiet_stops (needs_space (spelling m.Slash) (spelled next)) (spelled next) rest (quiet_text next h f)
mark_stops_at m.Percent next more rest h f = quiet_stops (needs_space (spelling m.Percent) (spelled next)) (spelled next) rest (quiet_text next h f)
mark_stops_at m.ShiftLeft next more rest h f = quiet_stops (needs_space (spelling m.ShiftLeft) (spelled next)) (spelled next) rest (quiet_text next h f)
mark_stops_at m.ShiftRight next more rest h f = quiet_stops (needs_space (spelling m.ShiftRight) (spelled next)) (spelled next) rest (quiet_text next h f)
mark_stops_at m.ShiftRightUnsigned next more rest h f = quiet_stops (needs_space (spelling m.ShiftRightUnsigned) (spelled next)) (spelled next) rest (quiet_text next h f)
mark_stops_at m.BitAnd next more rest h f = quiet_stops (needs_space (spelling m.BitAnd) (spelled next)) (spelled next) rest (quiet_text next h f)
mark_stops_at m.BitOr next more rest h f = quiet_stops (needs_space (spelling m.BitOr) (spelled next)) (spelled next) rest (quiet_text next h f)
mark_stops_at m.BitXor next more rest h f = quiet_stops (needs_space (spelling m.BitXor) (spelled next)) (spelled next) rest (quiet_text next h f)
mark_stops_at m.Not next more rest h f = quiet_stops (needs_space (spelling m.Not) (spelled next)) (spelled next) rest (quiet_text next h f)
mark_stops_at m.Assign next more rest h f = quiet_stops (needs_space (spelling m.Assign) (spelled next)) (spelled next) rest (quiet_text next h f)
mark_stops_at _ next more rest h f = refl

kind_some : (kind : TokenKind) → IsWritable kind → 0 < length (spelled kind)
kind_some (k.Word word) h = word_some word
kind_some (k.Name n) h = (name_run n h.0 h.1).some
kind_some (k.Number n) h = (number_run n h).some
kind_some (k.Str text) h = omega arith
kind_some (k.Mark x) h = mark_length x
kind_some k.End h = absurd h

-- what is written behind a kind does not go on with it
pub stops_before : (kind next : TokenKind) (more : Kinds) (rest : List ℕ) → IsWritable kind → IsWritable next → next_fits kind (next ∷ more) ≡ true
    → Stops kind (space (needs_space (spelled kind) (spelled next)) ++ (spelled next ++ rest))
stops_before (k.Word word) next more rest h i f = run_stops (words.spelling word) (spelled next) rest (word_run word) (kind_some next i)
stops_before (k.Name n) next more rest h i f = run_stops (utf16_lossy_chars n) (spelled next) rest (name_run n h.0 h.1) (kind_some next i)
stops_before (k.Number n) next more rest h i f = number_stops n next rest h i f
stops_before (k.Str text) next more rest h i f = tt
stops_before (k.Mark x) next more rest h i f = mark_stops_at x next more rest i f
stops_before k.End next more rest h i f = tt
