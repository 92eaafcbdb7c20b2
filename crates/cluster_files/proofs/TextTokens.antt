-- The tokens of the text of kinds: just these kinds, each on the line, and the end on the next one.
use Rattle.std.proofs.Common.{◌≡◌, ℕ, suc, ◌+◌, ◌-◌, ◌/◌, ◌%◌, ◌<◌, ◌==◌, ◌||◌, ◌&&◌, nat_lt, nat_le, Bool, true, false, List, [], ◌∷◌, ◌++◌, length, drop, cond, refl, ap, sym, ◌∙◌, arith, length-append, append_assoc}
use Rattle.std.specs.List.{list_all, list_any, flat_map}
use Rattle.std.specs.Char.{digit_char}
use Rattle.std.specs.Fmt.{decimal}
use Rattle.std.proofs.Math.Utf8.{scalar, scalars, encodes}
use Rattle.std.proofs.lemmas.Bool.{leb-true, lt-ltb, eqb-true, ltb-true}
use Rattle.std.proofs.lemmas.Bool.Decides.{nat_tests}
use Rattle.std.proofs.lemmas.Str.{encode_ascii, encodes-append}
use Rattle.unicode_ident.proofs.Computing.{unicode_ident}
use Rattle.dl_text.specs.Place.{is_line_terminator}
use Rattle.dl_text.specs.Quote.{quoted_unit, numbered_unit}
use Rattle.js_lexer.specs.Characters.{continues_name, is_digit}
use Rattle.js_lexer.specs.Tokens.{IsTokens, has_byte_order_mark, body, body_start, token, tokens_behind}
use Rattle.js_lexer.specs.Marks as marks
use Rattle.js_lexer.specs.declared.mark.Mark.{Mark}
use Rattle.js_lexer.specs.declared.mark.Mark.TheVariants as m
use Rattle.js_lexer.specs.declared.token.Token.{Token}
use Rattle.js_lexer.specs.declared.token.TokenKind.{TokenKind}
use Rattle.js_lexer.specs.declared.token.TokenKind.TheVariants as k
use Rattle.js_lexer.proofs.PieceLaws.{left, right}
use Rattle.js_parser.specs.Symbols.{symbol, symbols, is_in_decimal, end}
use Rattle.js_printer.specs.Printed.{Kinds}
use Rattle.js_printer.specs.PrintedText.{spelled, needs_space, space, gap, text}
use Rattle.cluster_files.specs.ReadsBack.{on_line, line_of}
use Rattle.cluster_files.specs.WritableKinds.{are_units, IsWritable, AreWritable}
use Rattle.cluster_files.proofs.SpelledNames.{name_text, word_scalars}
use Rattle.cluster_files.proofs.SpelledNumbers.{decimal_digits}
use Rattle.cluster_files.proofs.SpelledMarks.{mark_scalars}
use Rattle.cluster_files.proofs.Neighbours.{AllFit, IsRun, word_run, name_run, number_run}
use Rattle.cluster_files.proofs.CutText.{closing, last_pieces, pieces, spaced, text_is_cut}

-- ---- the characters of the text

pub scalars_append : (cs ds : List ℕ) → scalars cs ≡ true → scalars ds ≡ true → scalars (cs ++ ds) ≡ true
scalars_append [] ds h i = i
scalars_append (c ∷ cs) ds h i = rw (left (scalar c) (scalars cs) h) (scalars_append cs ds (right (scalar c) (scalars cs) h) i)

low_scalar : (c : ℕ) → c < 128 → scalar c ≡ true
low_scalar c h = rw (lt-ltb c 0xD800 (omega arith)) refl

digit_low : (c : ℕ) → is_digit c ≡ true → c < 128
digit_low c h = let high = leb-true c 57 (right (nat_le 48 c) (nat_le c 57) h) in omega arith

digits_scalars : (cs : List ℕ) → list_all is_digit cs ≡ true → scalars cs ≡ true
digits_scalars [] h = refl
digits_scalars (c ∷ cs) h = rw (low_scalar c (digit_low c (left (is_digit c) (list_all is_digit cs) h))) (digits_scalars cs (right (is_digit c) (list_all is_digit cs) h))

hex_low : (d : ℕ) → d < 16 → digit_char d < 128
hex_low d h = at (nat_lt d 10)
  where
    at : (b : Bool) → cond b (48 + d) (87 + d) < 128
    at true = omega arith
    at false = omega arith

numbered_scalars : (u : ℕ) → u < 0x1_0000 → scalars (numbered_unit u) ≡ true
numbered_scalars u h =
    rw (
      low_scalar (digit_char (u / 4096)) (hex_low (u / 4096) (omega arith)),
      low_scalar (digit_char (u / 256 % 16)) (hex_low (u / 256 % 16) (omega arith)),
      low_scalar (digit_char (u / 16 % 16)) (hex_low (u / 16 % 16) (omega arith)),
      low_scalar (digit_char (u % 16)) (hex_low (u % 16) (omega arith)),
    )
    refl

unit_scalars : (u : ℕ) → u < 0x1_0000 → scalars (quoted_unit u) ≡ true
unit_scalars u h = at (u == 34) (u == 92) (nat_le 32 u && nat_le u 126) refl refl refl
  where
    at : (a b c : Bool) → (u == 34) ≡ a → (u == 92) ≡ b → (nat_le 32 u && nat_le u 126) ≡ c → scalars (cond (a || b) (92 ∷ u ∷ []) (cond c (u ∷ []) (numbered_unit u))) ≡ true
    at true b c e g i = let same : u ≡ 34 = eqb-true u 34 e in rw (low_scalar u (omega arith)) refl
    at false true c e g i = let same : u ≡ 92 = eqb-true u 92 g in rw (low_scalar u (omega arith)) refl
    at false false true e g i = let high = leb-true u 126 (right (nat_le 32 u) (nat_le u 126) i) in rw (low_scalar u (omega arith)) refl
    at false false false e g i = numbered_scalars u h

units_scalars : (us : List ℕ) → are_units us ≡ true → scalars (flat_map quoted_unit us) ≡ true
units_scalars [] h = refl
units_scalars (u ∷ us) h =
    scalars_append (quoted_unit u) (flat_map quoted_unit us) (unit_scalars u (ltb-true u 0x1_0000 (left (nat_lt u 0x1_0000) (are_units us) h)))
    (units_scalars us (right (nat_lt u 0x1_0000) (are_units us) h))

kind_scalars : (kind : TokenKind) → IsWritable kind → scalars (spelled kind) ≡ true
kind_scalars (k.Word word) h = word_scalars word
kind_scalars (k.Name n) h = let is = name_text n h.0 h.1 in ap scalars is.written ∙ is.scalar
kind_scalars (k.Number n) h = digits_scalars (decimal n) (decimal_digits n h)
kind_scalars (k.Str text) h = scalars_append (flat_map quoted_unit text) (34 ∷ []) (units_scalars text h) refl
kind_scalars (k.Mark x) h = mark_scalars x
kind_scalars k.End h = absurd h

gap_scalars : (b : Bool) → scalars (space b) ≡ true
gap_scalars true = refl
gap_scalars false = refl

pub text_scalars : (kinds : Kinds) → AreWritable kinds → scalars (text kinds) ≡ true
text_scalars [] w = refl
text_scalars (kind ∷ []) w = scalars_append (spelled kind) [] (kind_scalars kind w.0) refl
text_scalars (kind ∷ next ∷ more) w =
    scalars_append (spelled kind) (space (needs_space (spelled kind) (spelled next)) ++ text (next ∷ more)) (kind_scalars kind w.0)
    (scalars_append (space (needs_space (spelled kind) (spelled next))) (text (next ∷ more)) (gap_scalars (needs_space (spelled kind) (spelled next))) (text_scalars (next ∷ more) w.1))

-- ---- no byte order mark begins the text

no_mark : continues_name 0xFEFF ≡ false
unfolding unicode_ident
no_mark = refl

clash : true ≡ false → ⊥
clash e = absurd (cc)

run_plain : (us : List ℕ) → IsRun us → (rest : List ℕ) → has_byte_order_mark (us ++ rest) ≡ false
run_plain us r rest = at us r.some r.all
  where
    at : (us : List ℕ) → 0 < length us → list_all continues_name us ≡ true → has_byte_order_mark (us ++ rest) ≡ false
    at [] l h = absurd (omega arith)
    at (u ∷ us) l h = by (u == 0xFEFF) refl
      where
        by : (b : Bool) → (u == 0xFEFF) ≡ b → (u == 0xFEFF) ≡ false
        by true e = absurd (clash (sym (left (continues_name u) (list_all continues_name us) h) ∙ (ap continues_name (eqb-true u 0xFEFF e) ∙ no_mark)))
        by false e = e

mark_plain : (x : Mark) (rest : List ℕ) → has_byte_order_mark (marks.spelling x ++ rest) ≡ false
mark_plain m.Plus rest = refl
mark_plain _ rest = refl

kind_plain : (kind : TokenKind) → IsWritable kind → (rest : List ℕ) → has_byte_order_mark (spelled kind ++ rest) ≡ false
kind_plain (k.Word word) h rest = run_plain (spelled (k.Word word)) (word_run word) rest
kind_plain (k.Name n) h rest = run_plain (spelled (k.Name n)) (name_run n h.0 h.1) rest
kind_plain (k.Number n) h rest = run_plain (decimal n) (number_run n h) rest
kind_plain (k.Str text) h rest = refl
kind_plain (k.Mark x) h rest = mark_plain x rest
kind_plain k.End h rest = absurd h

closing_plain : (feed : Bool) → has_byte_order_mark (closing feed) ≡ false
closing_plain true = refl
closing_plain false = refl

text_plain : (feed : Bool) (kinds : Kinds) → AreWritable kinds → has_byte_order_mark (text kinds ++ closing feed) ≡ false
text_plain feed [] w = closing_plain feed
text_plain feed (kind ∷ rest) w =
    ap has_byte_order_mark (append_assoc (spelled kind) (gap kind rest ++ text rest) (closing feed)) ∙ kind_plain kind w.0 ((gap kind rest ++ text rest) ++ closing feed)

-- ---- symbols

digits_bytes : (cs : List ℕ) → list_all is_digit cs ≡ true → length (encodes cs) ≡ length cs
digits_bytes [] h = refl
digits_bytes (c ∷ cs) h =
    ap (λ bs. length (bs ++ encodes cs)) (encode_ascii c (digit_low c (left (is_digit c) (list_all is_digit cs) h))) ∙ ap suc (digits_bytes cs (right (is_digit c) (list_all is_digit cs) h))

-- how many bytes a piece has
token_bytes : (start : ℕ) (before cs : List ℕ) → (start + length (encodes (before ++ cs))) - (start + length (encodes before)) ≡ length (encodes cs)
token_bytes start before cs = let e = ap length (encodes-append before cs) ∙ length-append (encodes before) (encodes cs) in omega arith

same_number : (n : ℕ) → (n == n) ≡ true
same_number n = grind (arith, nat_tests)

in_decimal : (start : ℕ) (before : List ℕ) (kind : TokenKind) → IsWritable kind → is_in_decimal kind ((start + length (encodes (before ++ spelled kind))) - (start + length (encodes before))) ≡ true
in_decimal start before (k.Word word) h = refl
in_decimal start before (k.Name n) h = refl
in_decimal start before (k.Number n) h =
    ap (λ l. l == length (decimal n)) (token_bytes start before (decimal n) ∙ digits_bytes (decimal n) (decimal_digits n h)) ∙ same_number (length (decimal n))
in_decimal start before (k.Str text) h = refl
in_decimal start before (k.Mark x) h = refl
in_decimal start before k.End h = refl

token_symbol : (start : ℕ) (before gap : List ℕ) (kind : TokenKind) → IsWritable kind → list_any is_line_terminator gap ≡ false → symbol (token start before gap (spelled kind) kind) ≡ on_line kind
token_symbol start before gap kind h e =
    ap (λ b. record { kind = kind; newline = b; in_decimal = is_in_decimal kind ((start + length (encodes (before ++ spelled kind))) - (start + length (encodes before))) }) e
    ∙ ap (λ b. record { kind = kind; newline = false; in_decimal = b }) (in_decimal start before kind h)

any_last : (gap : List ℕ) → list_any is_line_terminator (gap ++ (10 ∷ [])) ≡ true
any_last [] = refl
any_last (c ∷ cs) = ap (λ b. is_line_terminator c || b) (any_last cs) ∙ or_true (is_line_terminator c)
  where
    or_true : (a : Bool) → (a || true) ≡ true
    or_true true = refl
    or_true false = refl

end_symbol : (feed : Bool) (start : ℕ) (before gap : List ℕ) → list_any is_line_terminator gap ≡ false → symbols (tokens_behind start before gap (last_pieces feed)) ≡ end feed ∷ []
end_symbol true start before gap e = ap (λ b. end b ∷ []) (any_last gap)
end_symbol false start before gap e = ap (λ b. end b ∷ []) e

pub text_symbols : (feed : Bool) (start : ℕ) (before gap : List ℕ) (kinds : Kinds) → AreWritable kinds → list_any is_line_terminator gap ≡ false
    → symbols (tokens_behind start before gap (pieces feed kinds)) ≡ line_of kinds ++ (end feed ∷ [])
text_symbols feed start before gap [] w e = end_symbol feed start before gap e
text_symbols feed start before gap (kind ∷ []) w e =
    ap (λ s. s ∷ symbols (tokens_behind start (before ++ spelled kind) [] (last_pieces feed))) (token_symbol start before gap kind w.0 e)
    ∙ ap (λ ss. on_line kind ∷ ss) (end_symbol feed start (before ++ spelled kind) [] refl)
text_symbols feed start before gap (kind ∷ next ∷ more) w e =
    ap (λ s. s ∷ symbols (tokens_behind start (before ++ spelled kind) [] (spaced (needs_space (spelled kind) (spelled next)) (pieces feed (next ∷ more))))) (token_symbol start before gap kind w.0 e)
    ∙ ap (λ ss. on_line kind ∷ ss) (behind (needs_space (spelled kind) (spelled next)) (λ before gap. text_symbols feed start before gap (next ∷ more) w.1))
  where
    behind : (b : Bool) → ((before gap : List ℕ) → list_any is_line_terminator gap ≡ false → symbols (tokens_behind start before gap (pieces feed (next ∷ more))) ≡ line_of (next ∷ more) ++ (end feed ∷ []))
        → symbols (tokens_behind start (before ++ spelled kind) [] (spaced b (pieces feed (next ∷ more)))) ≡ line_of (next ∷ more) ++ (end feed ∷ [])
    behind true rec = rec ((before ++ spelled kind) ++ (32 ∷ [])) (32 ∷ []) refl
    behind false rec = rec (before ++ spelled kind) [] refl

-- ---- all of it

-- the text of these kinds, which a line feed closes or nothing, has them as its tokens
pub record ReadsAs (feed : Bool) (kinds : Kinds) : Type 0 where
  pub tokens : List Token
  pub cut : IsTokens (text kinds ++ closing feed) tokens
  pub are : symbols tokens ≡ line_of kinds ++ (end feed ∷ [])
  pub characters : scalars (text kinds ++ closing feed) ≡ true

closing_scalars : (feed : Bool) → scalars (closing feed) ≡ true
closing_scalars true = refl
closing_scalars false = refl

pub text_reads : (feed : Bool) (kinds : Kinds) → AreWritable kinds → AllFit kinds → ReadsAs feed kinds
text_reads feed kinds w f =
    let whole = text kinds ++ closing feed in
    let plain = text_plain feed kinds w in
    let same : body whole ≡ whole = ap (λ b. cond b (drop 1 whole) whole) plain in
    record {
      tokens = tokens_behind (body_start whole) [] [] (pieces feed kinds);
      cut = record { pieces = pieces feed kinds; cut = rw same (text_is_cut feed kinds w f); are = refl };
      are = text_symbols feed (body_start whole) [] [] kinds w refl;
      characters = scalars_append (text kinds) (closing feed) (text_scalars kinds w) (closing_scalars feed);
    }
