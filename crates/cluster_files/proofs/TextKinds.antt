-- The kinds of a text's tokens may be written.
use Rattle.std.proofs.Common.{◌≡◌, ℕ, zero, suc, ◌+◌, ◌*◌, ◌≤◌, ◌<◌, ◌==◌, ◌||◌, ◌&&◌, not, Bool, true, false, List, [], ◌∷◌, ◌++◌, take, drop, Option, Some, None, cond, refl, ap, sym, subst, arith}
use Rattle.std.specs.List.{list_all}
use Rattle.std.specs.Char.{digit_value}
use Rattle.std.proofs.Math.Utf8.{scalar, scalars}
use Rattle.std.proofs.lemmas.Bool.Decides.{nat_tests}
use Rattle.dl_text.specs.Place.{is_line_terminator}
use Rattle.dl_text.specs.Utf16.{utf16}
use Rattle.js_lexer.specs.Characters.{begins_name, continues_name, is_digit, is_hex_digit, first_is}
use Rattle.js_lexer.specs.Fronts.{IsInside, none, more, string_part, escape, escape_by, escaped, two_digits, four_digits, word_or_name}
use Rattle.js_lexer.specs.Pieces as p
use Rattle.js_lexer.specs.Pieces.{IsPiece, IsAllowed}
use Rattle.js_lexer.specs.Tokens.{Piece, Cut, done, piece, IsTokens, body, has_byte_order_mark, body_start, tokens_of, tokens_behind, gap_after}
use Rattle.js_lexer.specs.Words.{word_of}
use Rattle.js_lexer.specs.declared.token.Token.{Token}
use Rattle.js_lexer.specs.declared.token.TokenKind.{TokenKind}
use Rattle.js_lexer.specs.declared.word.Word.{Word}
use Rattle.js_lexer.proofs.PieceLaws.{left, right}
use Rattle.js_parser.specs.Symbols.{symbols}
use Rattle.cluster_files.specs.WritableKinds.{are_units, IsRead, AreRead}
use Rattle.cluster_files.proofs.Scalars.{is_character, bounded, units_below, characters_units}
use Rattle.cluster_files.proofs.SpelledNames.{name_read}

-- ---- strings

abbrev Below : Option (ℕ × ℕ) → Type 0
Below None = Unit {0}
Below (Some part) = part.0 < 0x11_0000

either : (b : Bool) (x y : Option (ℕ × ℕ)) → (b ≡ true → Below x) → (b ≡ false → Below y) → Below (cond b x y)
either true x y f g = f refl
either false x y f g = g refl

digit_below : (c : ℕ) → digit_value c ≤ 36
digit_below c = grind (arith, nat_tests)

two_below : (cs : List ℕ) → Below (two_digits cs)
two_below [] = tt
two_below (a ∷ []) = tt
two_below (a ∷ b ∷ cs) =
    either (is_hex_digit a && is_hex_digit b) (Some (16 * digit_value a + digit_value b, 4)) None (λ e. let m = digit_below a in let n = digit_below b in omega arith) (λ e. tt)

four_below : (cs : List ℕ) → Below (four_digits cs)
four_below [] = tt
four_below (a ∷ []) = tt
four_below (a ∷ b ∷ []) = tt
four_below (a ∷ b ∷ c ∷ []) = tt
four_below (a ∷ b ∷ c ∷ d ∷ cs) =
    either (is_hex_digit a && (is_hex_digit b && (is_hex_digit c && is_hex_digit d))) (Some (4096 * digit_value a + 256 * digit_value b + 16 * digit_value c + digit_value d, 6)) None
    (λ e. let m = digit_below a in let n = digit_below b in let o = digit_below c in let q = digit_below d in omega arith) (λ e. tt)

escaped_below : (c : ℕ) → c < 0x11_0000 → escaped c < 0x11_0000
escaped_below c h = grind (arith, nat_tests)

escape_below : (c : ℕ) (cs : List ℕ) → c < 0x11_0000 → Below (escape_by c cs)
escape_below c cs h =
    either (c == 120) (two_digits cs) _ (λ e. two_below cs)
    (λ e. either (c == 117) (four_digits cs) _ (λ e. four_below cs)
    (λ e. either (is_digit c) _ _ (λ e. either ((c == 48) && not (first_is is_digit cs)) (Some (0, 2)) None (λ e. omega arith) (λ e. tt))
    (λ e. either (is_line_terminator c) None (Some (escaped c, 2)) (λ e. tt) (λ e. escaped_below c h))))

part_below : (quote : ℕ) (cs : List ℕ) → scalars cs ≡ true → Below (string_part quote cs)
part_below quote [] h = tt
part_below quote (c ∷ cs) h =
    either (c == 92) (escape cs) _ (λ e. behind cs (right (scalar c) (scalars cs) h))
    (λ e. either ((c == quote) || is_line_terminator c) None (Some (c, 1)) (λ e. tt) (λ e. bounded c (is_character c (left (scalar c) (scalars cs) h))))
  where
    behind : (cs : List ℕ) → scalars cs ≡ true → Below (escape cs)
    behind [] h = tt
    behind (d ∷ ds) h = escape_below d ds (bounded d (is_character d (left (scalar d) (scalars ds) h)))

pub scalars_drop : (n : ℕ) (cs : List ℕ) → scalars cs ≡ true → scalars (drop n cs) ≡ true
scalars_drop zero cs h = h
scalars_drop (suc n) [] h = refl
scalars_drop (suc n) (c ∷ cs) h = scalars_drop n cs (right (scalar c) (scalars cs) h)

pub scalars_take : (n : ℕ) (cs : List ℕ) → scalars cs ≡ true → scalars (take n cs) ≡ true
scalars_take zero cs h = refl
scalars_take (suc n) [] h = refl
scalars_take (suc n) (c ∷ cs) h = rw (left (scalar c) (scalars cs) h) (scalars_take n cs (right (scalar c) (scalars cs) h))

inside_units : (quote : ℕ) (cs : List ℕ) (n : ℕ) (us : List ℕ) → IsInside quote cs n us → scalars cs ≡ true → are_units us ≡ true
inside_units quote cs n us (none e) h = refl
inside_units quote cs n us (more value len size units e rest) h =
    units_below value units (subst Below e (part_below quote cs h)) (inside_units quote (drop len cs) size units rest (scalars_drop len cs h))

-- ---- pieces

abbrev PieceRead : Option TokenKind → Type 0
PieceRead None = Unit {0}
PieceRead (Some kind) = IsRead kind

name_is_read : (c : ℕ) (cs : List ℕ) (o : Option Word) → word_of (utf16 (c ∷ cs)) ≡ o → begins_name c ≡ true → list_all continues_name cs ≡ true → scalars (c ∷ cs) ≡ true
    → IsRead (word_or_name (utf16 (c ∷ cs)) o)
name_is_read c cs (Some word) e b h s = tt
name_is_read c cs None e b h s = (name_read c cs (utf16 (c ∷ cs)) b h s (ap (word_or_name (utf16 (c ∷ cs))) e), characters_units (c ∷ cs) s)

piece_read : (cs : List ℕ) (o : Option TokenKind) (rest : List ℕ) → IsPiece cs o → IsAllowed cs o rest → scalars cs ≡ true → PieceRead o
piece_read cs o rest (p.blank b) a s = tt
piece_read cs o rest (p.line_comment h) a s = tt
piece_read cs o rest (p.long_comment h) a s = tt
piece_read cs o rest (p.name {c = c} {cs = ds} b h) a s = name_is_read c ds (word_of (utf16 (c ∷ ds))) refl b h s
piece_read cs o rest p.zero a s = a.1
piece_read cs o rest (p.decimal z d h) a s = a.1
piece_read cs o rest (p.hexadecimal e d h) a s = a.1
piece_read cs o rest (p.string {c = c} {cs = ds} n units q inside closed) a s = inside_units c ds n units inside (right (scalar c) (scalars ds) s)
piece_read cs o rest (p.mark x) a s = tt

abbrev PiecesRead : List Piece → Type 0
PiecesRead [] = Unit {0}
PiecesRead (p ∷ ps) = PieceRead p.kind × PiecesRead ps

cut_read : (cs rest : List ℕ) (ps : List Piece) → Cut cs ps rest → scalars cs ≡ true → PiecesRead ps
cut_read cs rest ps done s = tt
cut_read cs rest ps (piece {pieces = others} n kind next cut) s =
    (piece_read (take n cs) kind (drop n cs) next.is_piece next.allowed (scalars_take n cs s), cut_read (drop n cs) rest others cut (scalars_drop n cs s))

-- ---- tokens

token_read : (start : ℕ) (before gap characters : List ℕ) (o : Option TokenKind) (rest : List Token) → PieceRead o → AreRead (symbols rest)
    → AreRead (symbols (tokens_of start before gap characters o ++ rest))
token_read start before gap characters None rest h r = r
token_read start before gap characters (Some kind) rest h r = (h, r)

tokens_read : (start : ℕ) (before gap : List ℕ) (ps : List Piece) → PiecesRead ps → AreRead (symbols (tokens_behind start before gap ps))
tokens_read start before gap [] h = (tt, tt)
tokens_read start before gap (p ∷ ps) h =
    token_read start before gap p.characters p.kind (tokens_behind start (before ++ p.characters) (gap_after gap p.characters p.kind) ps) h.0
    (tokens_read start (before ++ p.characters) (gap_after gap p.characters p.kind) ps h.1)

body_scalars : (text : List ℕ) → scalars text ≡ true → scalars (body text) ≡ true
body_scalars text h = at (has_byte_order_mark text)
  where
    at : (b : Bool) → scalars (cond b (drop 1 text) text) ≡ true
    at true = scalars_drop 1 text h
    at false = h

pub text_kinds : (text : List ℕ) (tokens : List Token) → scalars text ≡ true → IsTokens text tokens → AreRead (symbols tokens)
text_kinds text tokens h t =
    subst (λ ts. AreRead (symbols ts)) (sym t.are) (tokens_read (body_start text) [] [] t.pieces (cut_read (body text) [] t.pieces t.cut (body_scalars text h)))
