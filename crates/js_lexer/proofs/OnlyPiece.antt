-- The piece that stands at a place is the one that is longest and may be followed by what follows.
use Rattle.std.proofs.Common.{◌≡◌, ℕ, zero, suc, ◌+◌, ◌^◌, ◌≤◌, ◌<◌, Bool, true, false, ◌||◌, ◌&&◌, ◌==◌, nat_lt, not, List, [], ◌∷◌, ◌++◌, length, take, drop, Option, Some, None, cond, refl, ap, sym, ◌∙◌, subst, arith, lit<}
use Rattle.std.specs.List.{list_all}
use Rattle.std.proofs.lemmas.Bool.Decides.{nat_tests}
use Rattle.dl_text.specs.Utf16.{utf16}
use Rattle.js_lexer.specs.Characters.{continues_name, begins_name, is_digit, is_hex_digit, is_at, first_is, run, begins, in_line, number_of}
use Rattle.js_lexer.specs.Words.{is_spelled}
use Rattle.js_lexer.specs.Marks.{spelling, marks, front_mark}
use Rattle.js_lexer.specs.Fronts as f
use Rattle.js_lexer.specs.Fronts.{StandsAt, IsInside, string_end, front_by, is_quote, is_blank, name_kind, word_or_name, after_number, is_hex_number}
use Rattle.js_lexer.specs.Pieces as p
use Rattle.js_lexer.specs.Pieces.{IsPiece, IsAllowed, IsNextPiece}
use Rattle.js_lexer.specs.declared.word.Word.{Word}
use Rattle.js_lexer.specs.declared.mark.Mark.{Mark}
use Rattle.js_lexer.specs.declared.mark.Mark.TheVariants as m
use Rattle.js_lexer.specs.declared.front.Front.{Front}
use Rattle.js_lexer.specs.declared.front.Front.TheVariants.{Next, Bad}
use Rattle.js_lexer.specs.declared.token.LexKind.{LexKind}
use Rattle.js_lexer.specs.declared.token.LexKind.TheVariants as k
use Rattle.js_lexer.specs.declared.token.TokenKind.{TokenKind}
use Rattle.js_lexer.specs.declared.token.TokenKind.TheVariants as t
use Rattle.js_lexer.proofs.Within.{front_case, stands_within, find_passes, continues_first}
use Rattle.js_lexer.proofs.Longest.{plain, run_bound, digit_front, digit_quote, not_hex, name_front, name_quote, comment_append, inside_append, length_dropped, drop_append, begins_self, mark_found, longest_piece}
use Rattle.js_lexer.proofs.PieceLaws.{same_number, left, right, run_all, run_suc, two_more, length_taken, begins_take, a_piece_stands}

-- ---- what follows is allowed

abbrev AllowedAt : List ℕ → Front → Type 0
AllowedAt text (Next n kind) = IsAllowed (take n text) kind (drop n text)
AllowedAt text (Bad kind n) = Unit {0}

name_allowed : (u rest units : List ℕ) (o : Option Word) → IsAllowed u (Some (word_or_name units o)) rest
name_allowed u rest units None = tt
name_allowed u rest units (Some word) = tt

begins_at : (x : ℕ) (cs : List ℕ) → begins (x ∷ []) cs ≡ true → is_at x cs ≡ true
begins_at x [] e = absurd (cc)
begins_at x (c ∷ cs) e = let same = same_number x c (left (x == c) true e) in subst (λ y. (c == y) ≡ true) (sym same) (self c)
  where
    self : (y : ℕ) → (y == y) ≡ true
    self y = grind (arith, nat_tests)

mark_allowed : (cs : List ℕ) → (is_at 46 cs ≡ true → first_is is_digit (drop 1 cs) ≡ false) → (is_at 47 cs ≡ true → is_at 42 (drop 1 cs) ≡ false) → AllowedAt cs (f.mark cs)
mark_allowed cs dot slash = at (front_mark cs) refl
  where
    by : (x : Mark) → begins (spelling x) cs ≡ true → IsAllowed (take (length (spelling x)) cs) (Some (t.Mark x)) (drop (length (spelling x)) cs)
    by m.OpenBrace b = tt
    by m.CloseBrace b = tt
    by m.OpenParenthesis b = tt
    by m.CloseParenthesis b = tt
    by m.OpenBracket b = tt
    by m.CloseBracket b = tt
    by m.Dot b = dot (begins_at 46 cs b)
    by m.Semicolon b = tt
    by m.Comma b = tt
    by m.Less b = tt
    by m.Greater b = tt
    by m.LessEqual b = tt
    by m.GreaterEqual b = tt
    by m.Equal b = tt
    by m.NotEqual b = tt
    by m.StrictEqual b = tt
    by m.StrictNotEqual b = tt
    by m.Plus b = tt
    by m.Minus b = tt
    by m.Times b = tt
    by m.Slash b = slash (begins_at 47 cs b)
    by m.Percent b = tt
    by m.PlusPlus b = tt
    by m.MinusMinus b = tt
    by m.ShiftLeft b = tt
    by m.ShiftRight b = tt
    by m.ShiftRightUnsigned b = tt
    by m.BitAnd b = tt
    by m.BitOr b = tt
    by m.BitXor b = tt
    by m.Not b = tt
    by m.BitNot b = tt
    by m.And b = tt
    by m.Or b = tt
    by m.Question b = tt
    by m.Colon b = tt
    by m.Assign b = tt
    by m.PlusAssign b = tt
    by m.MinusAssign b = tt
    by m.TimesAssign b = tt
    by m.SlashAssign b = tt
    by m.PercentAssign b = tt
    by m.ShiftLeftAssign b = tt
    by m.ShiftRightAssign b = tt
    by m.ShiftRightUnsignedAssign b = tt
    by m.BitAndAssign b = tt
    by m.BitOrAssign b = tt
    by m.BitXorAssign b = tt

    at : (o : Option Mark) → front_mark cs ≡ o → AllowedAt cs (f.mark_or_fault o)
    at None e = tt
    at (Some x) e = by x (find_passes (λ y. begins (spelling y) cs) marks x e)

lower : (value : ℕ) → nat_lt value (2 ^ 53) ≡ true → value < 2 ^ 53
lower value h = grind (arith, nat_tests)

tested_allowed : (cs : List ℕ) (n value : ℕ) (hex : Bool) (rest : List ℕ) → is_hex_number (take n cs) ≡ hex → drop n cs ≡ rest → AllowedAt cs (f.tested_number n value (after_number hex rest))
tested_allowed cs n value hex rest h r = at (after_number hex rest) refl
  where
    at : (o : Option LexKind) → after_number hex rest ≡ o → AllowedAt cs (f.tested_number n value o)
    at (Some kind) e = tt
    at None e =
        front_case (AllowedAt cs) (nat_lt value (2 ^ 53)) (Next n (Some (t.Number value))) (Bad k.WideNumber 0)
        (λ l. (ap (λ b. after_number b (drop n cs)) h ∙ ap (after_number hex) r ∙ e, lower value l)) (λ _. tt)

drop_two : (n : ℕ) (a b : ℕ) (cs : List ℕ) → drop (2 + n) (a ∷ b ∷ cs) ≡ drop n cs
drop_two n a b cs = ap (λ m. drop m (a ∷ b ∷ cs)) (two_more n)

number_allowed : (c : ℕ) (cs : List ℕ) → is_digit c ≡ true → AllowedAt (c ∷ cs) (f.number (c ∷ cs))
number_allowed c cs d = at (is_hex_number (c ∷ cs)) refl
  where
    hex : (cs : List ℕ) → is_hex_number (c ∷ cs) ≡ true → AllowedAt (c ∷ cs) (f.hex_number (drop 2 (c ∷ cs)))
    hex [] e = absurd (cc)
    hex (b ∷ []) e = absurd (cc)
    hex (b ∷ x ∷ cs) e =
        let n = run is_hex_digit (x ∷ cs) in
        let digit = right ((b == 120) || (b == 88)) (is_hex_digit x) (right (c == 48) (((b == 120) || (b == 88)) && is_hex_digit x) e) in
        let front : is_hex_number (take (2 + n) (c ∷ b ∷ x ∷ cs)) ≡ true =
        ap (λ j. is_hex_number (take j (c ∷ b ∷ x ∷ cs))) (two_more n) ∙ ap (λ j. is_hex_number (c ∷ b ∷ take j (x ∷ cs))) (run_suc is_hex_digit x cs digit) ∙ e in
        tested_allowed (c ∷ b ∷ x ∷ cs) (2 + n) (number_of 16 (take n (x ∷ cs))) true (drop n (x ∷ cs)) front (drop_two n c b (x ∷ cs))

    short : (b : Bool) → (c == 48) ≡ b → is_hex_number (take (cond b 1 (run is_digit (c ∷ cs))) (c ∷ cs)) ≡ false
    short true e = refl
    short false e = ap (λ j. is_hex_number (take j (c ∷ cs))) (run_suc is_digit c cs d) ∙ not_hex c (take (run is_digit cs) cs) e

    at : (b : Bool) → is_hex_number (c ∷ cs) ≡ b → AllowedAt (c ∷ cs) (cond b (f.hex_number (drop 2 (c ∷ cs))) (f.decimal_number (c ∷ cs)))
    at true e = hex cs e
    at false e =
        let n = f.decimal_length (c ∷ cs) in
        tested_allowed (c ∷ cs) n (number_of 10 (take n (c ∷ cs))) false (drop n (c ∷ cs)) (short (c == 48) refl) refl

long_allowed : (text : List ℕ) (o : Option ℕ) → AllowedAt text (f.long_comment o)
long_allowed text None = tt
long_allowed text (Some n) = tt

unlike : (c x y : ℕ) → c ≡ x → (x == y) ≡ false → (c == y) ≡ true → ⊥
unlike c x y e h t = let a = ap (λ z. z == y) e in absurd (cc)

slash_allowed : (c : ℕ) (cs : List ℕ) → c ≡ 47 → AllowedAt (c ∷ cs) (f.slash (c ∷ cs) cs)
slash_allowed c [] e = mark_allowed (c ∷ []) (λ h. absurd (unlike c 47 46 e refl h)) (λ _. refl)
slash_allowed c (d ∷ cs) e =
    let P = AllowedAt (c ∷ d ∷ cs) in
    front_case P (d == 47) _ _ (λ _. tt)
    (λ _. front_case P (d == 42) _ _ (λ _. long_allowed (c ∷ d ∷ cs) (f.comment_end cs)) (λ h. mark_allowed (c ∷ d ∷ cs) (λ x. absurd (unlike c 47 46 e refl x)) (λ _. h)))

dot_free : (a b : Bool) → (a && b) ≡ false → a ≡ true → b ≡ false
dot_free true b e h = e
dot_free false b e h = absurd (cc)

by_allowed : (c : ℕ) (cs : List ℕ) → AllowedAt (c ∷ cs) (front_by c cs)
by_allowed c cs =
    let P = AllowedAt (c ∷ cs) in
    front_case P (is_blank c) _ _ (λ _. tt)
    (λ _. front_case P (c == 47) _ _ (λ e. slash_allowed c cs (same_number c 47 e))
    (λ s. front_case P (begins_name c) _ _ (λ _. let n = run continues_name (c ∷ cs) in name_allowed (take n (c ∷ cs)) (drop n (c ∷ cs)) (utf16 (take n (c ∷ cs))) (Rattle.js_lexer.specs.Words.word_of (utf16 (take n (c ∷ cs)))))
    (λ _. front_case P (is_digit c) _ _ (λ d. number_allowed c cs d)
    (λ _. front_case P ((c == 46) && first_is is_digit cs) _ _ (λ _. tt)
    (λ dot. front_case P (c == 92) _ _ (λ _. tt) (λ _. mark_allowed (c ∷ cs) (λ h. dot_free (c == 46) (first_is is_digit cs) dot h) (λ h. absurd (clash (c == 47) s h))))))))
  where
    clash : (b : Bool) → b ≡ false → b ≡ true → ⊥
    clash b e h = absurd (cc)

end_allowed : (text : List ℕ) (quote n : ℕ) (units rest : List ℕ) → AllowedAt text (string_end quote n units rest)
end_allowed text quote n units [] = tt
end_allowed text quote n units (c ∷ rest) =
    front_case (AllowedAt text) (c == quote) _ _ (λ _. tt) (λ _. front_case (AllowedAt text) ((c == 92) && not (f.is_line_end rest)) _ _ (λ _. tt) (λ _. tt))

at_allowed : (text : List ℕ) (front : Front) → StandsAt text front → AllowedAt text front
at_allowed text front (f.string {c = c} {cs = cs} n units q inside) = end_allowed (c ∷ cs) c n units (drop n cs)
at_allowed text front (f.other {c = c} {cs = cs} unquoted) = by_allowed c cs

allowed_follows : (text : List ℕ) (n : ℕ) (kind : Option TokenKind) → StandsAt text (Next n kind) → IsAllowed (take n text) kind (drop n text)
allowed_follows text n kind s = at_allowed text (Next n kind) s

-- ---- the longest piece that is allowed stands there

abbrev IsLongest : List ℕ → List ℕ → Type 0
IsLongest u rest = (v w : List ℕ) (other : Option TokenKind) → u ++ rest ≡ v ++ w → IsPiece v other → length v ≤ length u

take_drop : (n : ℕ) (cs : List ℕ) → cs ≡ take n cs ++ drop n cs
take_drop zero cs = refl
take_drop (suc n) [] = refl
take_drop (suc n) (c ∷ cs) = ap (λ ds. c ∷ ds) (take_drop n cs)

take_front : (u w : List ℕ) → take (length u) (u ++ w) ≡ u
take_front [] w = refl
take_front (c ∷ u) w = ap (λ ds. c ∷ ds) (take_front u w)

drop_front : (u w : List ℕ) → drop (length u) (u ++ w) ≡ w
drop_front [] w = refl
drop_front (c ∷ u) w = drop_front u w

-- a front of the text that is a piece, for a longest one
no_longer : (u w : List ℕ) (n : ℕ) (other : Option TokenKind) → IsLongest u w → n ≤ length (u ++ w) → IsPiece (take n (u ++ w)) other → n ≤ length u
no_longer u w n other longest within piece =
    let le = longest (take n (u ++ w)) (drop n (u ++ w)) other (take_drop n (u ++ w)) piece in
    let size = length_taken n (u ++ w) within in omega arith

exact_length : (u w : List ℕ) (kind other : Option TokenKind) (n : ℕ) → IsPiece u kind → IsLongest u w → StandsAt (u ++ w) (Next n other) → n ≡ length u
exact_length u w kind other n piece longest s =
    let within = stands_within (u ++ w) (Next n other) s in
    let least = longest_piece (u ++ w) u w n other kind s refl piece in
    let most = no_longer u w n other longest within.1 (a_piece_stands (u ++ w) n other s) in
    omega arith

-- a front that is computed is the piece
becomes : (u w : List ℕ) (kind : Option TokenKind) (front : Front) → StandsAt (u ++ w) front → front ≡ Next (length u) kind → StandsAt (u ++ w) (Next (length u) kind)
becomes u w kind front s e = subst (StandsAt (u ++ w)) e s

tested_next : (n value : ℕ) (fault : Option LexKind) → fault ≡ None → value < 2 ^ 53 → f.tested_number n value fault ≡ Next n (Some (t.Number value))
tested_next n value fault e lt = ap (f.tested_number n value) e ∙ ap (λ b. cond b (Next n (Some (t.Number value))) (Bad k.WideNumber 0)) (low value lt)
  where
    low : (value : ℕ) → value < 2 ^ 53 → nat_lt value (2 ^ 53) ≡ true
    low value lt = grind (arith, nat_tests)

-- what a number of this length is
number_next : (u w : List ℕ) (n base : ℕ) (hex : Bool) → n ≡ length u → after_number hex w ≡ None → number_of base u < 2 ^ 53
    → f.tested_number n (number_of base (take n (u ++ w))) (after_number hex (drop n (u ++ w))) ≡ Next (length u) (Some (t.Number (number_of base u)))
number_next u w n base hex e after low =
    ap (λ m. f.tested_number m (number_of base (take m (u ++ w))) (after_number hex (drop m (u ++ w)))) e
    ∙ ap (λ v. f.tested_number (length u) (number_of base v) (after_number hex (drop (length u) (u ++ w)))) (take_front u w)
    ∙ ap (λ v. f.tested_number (length u) (number_of base u) (after_number hex v)) (drop_front u w)
    ∙ tested_next (length u) (number_of base u) (after_number hex w) after low

decimal_stands : (c : ℕ) (cs w : List ℕ) → (c == 48) ≡ false → is_digit c ≡ true → list_all is_digit cs ≡ true → IsLongest (c ∷ cs) w
    → IsAllowed (c ∷ cs) (Some (t.Number (number_of 10 (c ∷ cs)))) w → StandsAt (c ∷ cs ++ w) (Next (length (c ∷ cs)) (Some (t.Number (number_of 10 (c ∷ cs)))))
decimal_stands c cs w z d h longest allowed =
    becomes (c ∷ cs) w (Some (t.Number (number_of 10 (c ∷ cs)))) (front_by c (cs ++ w)) (f.other (digit_quote c d))
    (digit_front c (cs ++ w) d ∙ ap (λ b. cond b (f.hex_number (drop 2 (c ∷ cs ++ w))) (f.decimal_number (c ∷ cs ++ w))) (not_hex c (cs ++ w) z)
    ∙ number_next (c ∷ cs) w (f.decimal_length (c ∷ cs ++ w)) 10 false size (ap (λ b. after_number b w) (sym (not_hex c cs z)) ∙ allowed.0) allowed.1)
  where
    r : ℕ
    r = run is_digit (cs ++ w)

    length_is : f.decimal_length (c ∷ cs ++ w) ≡ suc (run is_digit (cs ++ w))
    length_is = ap (λ b. cond b 1 (run is_digit (c ∷ cs ++ w))) z ∙ run_suc is_digit c (cs ++ w) d

    size : f.decimal_length (c ∷ cs ++ w) ≡ length (c ∷ cs)
    size =
        let least = run_bound is_digit cs w h in
        let within = Rattle.js_lexer.proofs.Within.run_le is_digit (cs ++ w) in
        let most = no_longer (c ∷ cs) w (suc (run is_digit (cs ++ w))) (Some (t.Number (number_of 10 (c ∷ take (run is_digit (cs ++ w)) (cs ++ w))))) longest (omega arith) (p.decimal z d (run_all is_digit (cs ++ w))) in
        let e = length_is in omega arith

hex_stands : (x c : ℕ) (cs w : List ℕ) → ((x == 120) || (x == 88)) ≡ true → is_hex_digit c ≡ true → list_all is_hex_digit cs ≡ true → IsLongest (48 ∷ x ∷ c ∷ cs) w
    → IsAllowed (48 ∷ x ∷ c ∷ cs) (Some (t.Number (number_of 16 (c ∷ cs)))) w → StandsAt (48 ∷ x ∷ c ∷ cs ++ w) (Next (length (48 ∷ x ∷ c ∷ cs)) (Some (t.Number (number_of 16 (c ∷ cs)))))
hex_stands x c cs w e d h longest allowed =
    becomes (48 ∷ x ∷ c ∷ cs) w (Some (t.Number (number_of 16 (c ∷ cs)))) (front_by 48 (x ∷ c ∷ cs ++ w)) (f.other refl)
    (digit_front 48 (x ∷ c ∷ cs ++ w) refl ∙ ap (λ b. cond b (f.hex_number (c ∷ cs ++ w)) (f.decimal_number (48 ∷ x ∷ c ∷ cs ++ w))) (is_hex (cs ++ w)) ∙ value)
  where
    is_hex : (ds : List ℕ) → is_hex_number (48 ∷ x ∷ c ∷ ds) ≡ true
    is_hex ds = rw (e, d) refl

    size : run is_hex_digit (c ∷ cs ++ w) ≡ length (c ∷ cs)
    size =
        let one = run_suc is_hex_digit c (cs ++ w) d in
        let least = run_bound is_hex_digit cs w h in
        let within = Rattle.js_lexer.proofs.Within.run_le is_hex_digit (cs ++ w) in
        let most = no_longer (48 ∷ x ∷ c ∷ cs) w (suc (suc (suc (run is_hex_digit (cs ++ w))))) (Some (t.Number (number_of 16 (c ∷ take (run is_hex_digit (cs ++ w)) (cs ++ w))))) longest (omega arith) (p.hexadecimal e d (run_all is_hex_digit (cs ++ w))) in
        omega arith

    value : f.hex_number (c ∷ cs ++ w) ≡ Next (suc (suc (suc (length cs)))) (Some (t.Number (number_of 16 (c ∷ cs))))
    value =
        ap (λ m. f.tested_number (2 + m) (number_of 16 (take m (c ∷ cs ++ w))) (after_number true (drop m (c ∷ cs ++ w)))) size
        ∙ ap (λ v. f.tested_number (2 + length (c ∷ cs)) (number_of 16 v) (after_number true (drop (length (c ∷ cs)) (c ∷ cs ++ w)))) (take_front (c ∷ cs) w)
        ∙ ap (λ v. f.tested_number (2 + length (c ∷ cs)) (number_of 16 (c ∷ cs)) (after_number true v)) (drop_front (c ∷ cs) w)
        ∙ tested_next (2 + length (c ∷ cs)) (number_of 16 (c ∷ cs)) (after_number true w) (ap (λ b. after_number b w) (sym (is_hex cs)) ∙ allowed.0) allowed.1
        ∙ ap (λ m. Next m (Some (t.Number (number_of 16 (c ∷ cs))))) (two_more (length (c ∷ cs)))

zero_stands : (w : List ℕ) → IsLongest (48 ∷ []) w → IsAllowed (48 ∷ []) (Some (t.Number 0)) w → StandsAt (48 ∷ w) (Next 1 (Some (t.Number 0)))
zero_stands w longest allowed = at (is_hex_number (48 ∷ w)) refl
  where
    not_longer : (w : List ℕ) → IsLongest (48 ∷ []) w → is_hex_number (48 ∷ w) ≡ true → ⊥
    not_longer [] l e = absurd (cc)
    not_longer (b ∷ []) l e = absurd (cc)
    not_longer (b ∷ d ∷ cs) l e =
        let le = l (48 ∷ b ∷ d ∷ []) cs (Some (t.Number (number_of 16 (d ∷ [])))) refl (p.hexadecimal (left ((b == 120) || (b == 88)) (is_hex_digit d) e) (right ((b == 120) || (b == 88)) (is_hex_digit d) e) refl) in
        absurd (omega arith)

    at : (b : Bool) → is_hex_number (48 ∷ w) ≡ b → StandsAt (48 ∷ w) (Next 1 (Some (t.Number 0)))
    at true e = absurd (not_longer w longest e)
    at false e =
        becomes (48 ∷ []) w (Some (t.Number 0)) (front_by 48 w) (f.other refl)
        (digit_front 48 w refl ∙ ap (λ b. cond b (f.hex_number (drop 2 (48 ∷ w))) (f.decimal_number (48 ∷ w))) e
        ∙ number_next (48 ∷ []) w 1 10 false refl allowed.0 (lit< tt))

-- ---- marks

own_mark : (x : Mark) → front_mark (spelling x) ≡ Some x
own_mark m.OpenBrace = refl
own_mark m.CloseBrace = refl
own_mark m.OpenParenthesis = refl
own_mark m.CloseParenthesis = refl
own_mark m.OpenBracket = refl
own_mark m.CloseBracket = refl
own_mark m.Dot = refl
own_mark m.Semicolon = refl
own_mark m.Comma = refl
own_mark m.Less = refl
own_mark m.Greater = refl
own_mark m.LessEqual = refl
own_mark m.GreaterEqual = refl
own_mark m.Equal = refl
own_mark m.NotEqual = refl
own_mark m.StrictEqual = refl
own_mark m.StrictNotEqual = refl
own_mark m.Plus = refl
own_mark m.Minus = refl
own_mark m.Times = refl
own_mark m.Slash = refl
own_mark m.Percent = refl
own_mark m.PlusPlus = refl
own_mark m.MinusMinus = refl
own_mark m.ShiftLeft = refl
own_mark m.ShiftRight = refl
own_mark m.ShiftRightUnsigned = refl
own_mark m.BitAnd = refl
own_mark m.BitOr = refl
own_mark m.BitXor = refl
own_mark m.Not = refl
own_mark m.BitNot = refl
own_mark m.And = refl
own_mark m.Or = refl
own_mark m.Question = refl
own_mark m.Colon = refl
own_mark m.Assign = refl
own_mark m.PlusAssign = refl
own_mark m.MinusAssign = refl
own_mark m.TimesAssign = refl
own_mark m.SlashAssign = refl
own_mark m.PercentAssign = refl
own_mark m.ShiftLeftAssign = refl
own_mark m.ShiftRightAssign = refl
own_mark m.ShiftRightUnsignedAssign = refl
own_mark m.BitAndAssign = refl
own_mark m.BitOrAssign = refl
own_mark m.BitXorAssign = refl

-- two marks of one length that a text begins with are one
mark_one : (cs : List ℕ) (x y : Mark) → begins (spelling x) cs ≡ true → begins (spelling y) cs ≡ true → length (spelling x) ≡ length (spelling y) → x ≡ y
mark_one cs x y b d e =
    let same : spelling x ≡ spelling y = sym (begins_take (spelling x) cs b) ∙ ap (λ n. take n cs) e ∙ begins_take (spelling y) cs d in
    let one : Some x ≡ Some y = sym (own_mark x) ∙ ap front_mark same ∙ own_mark y in cc

mark_next : (x : Mark) (w : List ℕ) → IsLongest (spelling x) w → StandsAt (spelling x ++ w) (f.mark (spelling x ++ w)) → StandsAt (spelling x ++ w) (Next (length (spelling x)) (Some (t.Mark x)))
mark_next x w longest s = at (front_mark (spelling x ++ w)) refl
  where
    at : (o : Option Mark) → front_mark (spelling x ++ w) ≡ o → StandsAt (spelling x ++ w) (Next (length (spelling x)) (Some (t.Mark x)))
    at None e = absurd (mark_found x w e)
    at (Some z) e =
        let there : StandsAt (spelling x ++ w) (Next (length (spelling z)) (Some (t.Mark z))) = subst (λ o. StandsAt (spelling x ++ w) (f.mark_or_fault o)) e s in
        let size = exact_length (spelling x) w (Some (t.Mark x)) (Some (t.Mark z)) (length (spelling z)) (p.mark x) longest there in
        let same = mark_one (spelling x ++ w) z x (find_passes (λ y. begins (spelling y) (spelling x ++ w)) marks z e) (begins_self (spelling x) w) size in
        subst (λ y. StandsAt (spelling x ++ w) (Next (length (spelling y)) (Some (t.Mark y)))) same there

-- where the front is that of a mark
other_mark : (c : ℕ) (cs text : List ℕ) → text ≡ c ∷ cs → is_quote c ≡ false → is_blank c ≡ false → (c == 47) ≡ false → begins_name c ≡ false → is_digit c ≡ false → ((c == 46) && first_is is_digit cs) ≡ false → (c == 92) ≡ false → StandsAt text (f.mark text)
other_mark c cs text e q b s n d dot back =
    subst (λ ds. StandsAt ds (f.mark ds)) (sym e) (subst (StandsAt (c ∷ cs)) front (f.other q))
  where
    front : front_by c cs ≡ f.mark (c ∷ cs)
    front = rw (b, s, n, d, dot, back) refl

slash_mark : (w : List ℕ) → IsLongest (47 ∷ []) w → is_at 42 w ≡ false → StandsAt (47 ∷ w) (f.mark (47 ∷ w))
slash_mark [] longest h = f.other refl
slash_mark (d ∷ w) longest h = at (d == 47) refl
  where
    at : (b : Bool) → (d == 47) ≡ b → StandsAt (47 ∷ d ∷ w) (f.mark (47 ∷ d ∷ w))
    at true e =
        let same = same_number d 47 e in
        let le = longest (47 ∷ 47 ∷ []) w None (ap (λ x. 47 ∷ x ∷ w) same) (p.line_comment refl) in
        absurd (omega arith)
    at false e = subst (StandsAt (47 ∷ d ∷ w)) (front e) (f.other refl)
      where
        front : (d == 47) ≡ false → front_by 47 (d ∷ w) ≡ f.mark (47 ∷ d ∷ w)
        front e = rw (e, h) refl

mark_stands : (x : Mark) (w : List ℕ) → IsLongest (spelling x) w → IsAllowed (spelling x) (Some (t.Mark x)) w → StandsAt (spelling x ++ w) (Next (length (spelling x)) (Some (t.Mark x)))
mark_stands m.OpenBrace w l a = mark_next m.OpenBrace w l (other_mark 123 (w) (123 ∷ w) refl refl refl refl (plain 123 (lit< tt) refl) refl refl refl)
mark_stands m.CloseBrace w l a = mark_next m.CloseBrace w l (other_mark 125 (w) (125 ∷ w) refl refl refl refl (plain 125 (lit< tt) refl) refl refl refl)
mark_stands m.OpenParenthesis w l a = mark_next m.OpenParenthesis w l (other_mark 40 (w) (40 ∷ w) refl refl refl refl (plain 40 (lit< tt) refl) refl refl refl)
mark_stands m.CloseParenthesis w l a = mark_next m.CloseParenthesis w l (other_mark 41 (w) (41 ∷ w) refl refl refl refl (plain 41 (lit< tt) refl) refl refl refl)
mark_stands m.OpenBracket w l a = mark_next m.OpenBracket w l (other_mark 91 (w) (91 ∷ w) refl refl refl refl (plain 91 (lit< tt) refl) refl refl refl)
mark_stands m.CloseBracket w l a = mark_next m.CloseBracket w l (other_mark 93 (w) (93 ∷ w) refl refl refl refl (plain 93 (lit< tt) refl) refl refl refl)
mark_stands m.Dot w l a = mark_next m.Dot w l (other_mark 46 w (46 ∷ w) refl refl refl refl (plain 46 (lit< tt) refl) refl a refl)
mark_stands m.Semicolon w l a = mark_next m.Semicolon w l (other_mark 59 (w) (59 ∷ w) refl refl refl refl (plain 59 (lit< tt) refl) refl refl refl)
mark_stands m.Comma w l a = mark_next m.Comma w l (other_mark 44 (w) (44 ∷ w) refl refl refl refl (plain 44 (lit< tt) refl) refl refl refl)
mark_stands m.Less w l a = mark_next m.Less w l (other_mark 60 (w) (60 ∷ w) refl refl refl refl (plain 60 (lit< tt) refl) refl refl refl)
mark_stands m.Greater w l a = mark_next m.Greater w l (other_mark 62 (w) (62 ∷ w) refl refl refl refl (plain 62 (lit< tt) refl) refl refl refl)
mark_stands m.LessEqual w l a = mark_next m.LessEqual w l (other_mark 60 (61 ∷ w) (60 ∷ 61 ∷ w) refl refl refl refl (plain 60 (lit< tt) refl) refl refl refl)
mark_stands m.GreaterEqual w l a = mark_next m.GreaterEqual w l (other_mark 62 (61 ∷ w) (62 ∷ 61 ∷ w) refl refl refl refl (plain 62 (lit< tt) refl) refl refl refl)
mark_stands m.Equal w l a = mark_next m.Equal w l (other_mark 61 (61 ∷ w) (61 ∷ 61 ∷ w) refl refl refl refl (plain 61 (lit< tt) refl) refl refl refl)
mark_stands m.NotEqual w l a = mark_next m.NotEqual w l (other_mark 33 (61 ∷ w) (33 ∷ 61 ∷ w) refl refl refl refl (plain 33 (lit< tt) refl) refl refl refl)
mark_stands m.StrictEqual w l a = mark_next m.StrictEqual w l (other_mark 61 (61 ∷ 61 ∷ w) (61 ∷ 61 ∷ 61 ∷ w) refl refl refl refl (plain 61 (lit< tt) refl) refl refl refl)
mark_stands m.StrictNotEqual w l a = mark_next m.StrictNotEqual w l (other_mark 33 (61 ∷ 61 ∷ w) (33 ∷ 61 ∷ 61 ∷ w) refl refl refl refl (plain 33 (lit< tt) refl) refl refl refl)
mark_stands m.Plus w l a = mark_next m.Plus w l (other_mark 43 (w) (43 ∷ w) refl refl refl refl (plain 43 (lit< tt) refl) refl refl refl)
mark_stands m.Minus w l a = mark_next m.Minus w l (other_mark 45 (w) (45 ∷ w) refl refl refl refl (plain 45 (lit< tt) refl) refl refl refl)
mark_stands m.Times w l a = mark_next m.Times w l (other_mark 42 (w) (42 ∷ w) refl refl refl refl (plain 42 (lit< tt) refl) refl refl refl)
mark_stands m.Slash w l a = mark_next m.Slash w l (slash_mark w l a)
mark_stands m.Percent w l a = mark_next m.Percent w l (other_mark 37 (w) (37 ∷ w) refl refl refl refl (plain 37 (lit< tt) refl) refl refl refl)
mark_stands m.PlusPlus w l a = mark_next m.PlusPlus w l (other_mark 43 (43 ∷ w) (43 ∷ 43 ∷ w) refl refl refl refl (plain 43 (lit< tt) refl) refl refl refl)
mark_stands m.MinusMinus w l a = mark_next m.MinusMinus w l (other_mark 45 (45 ∷ w) (45 ∷ 45 ∷ w) refl refl refl refl (plain 45 (lit< tt) refl) refl refl refl)
mark_stands m.ShiftLeft w l a = mark_next m.ShiftLeft w l (other_mark 60 (60 ∷ w) (60 ∷ 60 ∷ w) refl refl refl refl (plain 60 (lit< tt) refl) refl refl refl)
mark_stands m.ShiftRight w l a = mark_next m.ShiftRight w l (other_mark 62 (62 ∷ w) (62 ∷ 62 ∷ w) refl refl refl refl (plain 62 (lit< tt) refl) refl refl refl)
mark_stands m.ShiftRightUnsigned w l a = mark_next m.ShiftRightUnsigned w l (other_mark 62 (62 ∷ 62 ∷ w) (62 ∷ 62 ∷ 62 ∷ w) refl refl refl refl (plain 62 (lit< tt) refl) refl refl refl)
mark_stands m.BitAnd w l a = mark_next m.BitAnd w l (other_mark 38 (w) (38 ∷ w) refl refl refl refl (plain 38 (lit< tt) refl) refl refl refl)
mark_stands m.BitOr w l a = mark_next m.BitOr w l (other_mark 124 (w) (124 ∷ w) refl refl refl refl (plain 124 (lit< tt) refl) refl refl refl)
mark_stands m.BitXor w l a = mark_next m.BitXor w l (other_mark 94 (w) (94 ∷ w) refl refl refl refl (plain 94 (lit< tt) refl) refl refl refl)
mark_stands m.Not w l a = mark_next m.Not w l (other_mark 33 (w) (33 ∷ w) refl refl refl refl (plain 33 (lit< tt) refl) refl refl refl)
mark_stands m.BitNot w l a = mark_next m.BitNot w l (other_mark 126 (w) (126 ∷ w) refl refl refl refl (plain 126 (lit< tt) refl) refl refl refl)
mark_stands m.And w l a = mark_next m.And w l (other_mark 38 (38 ∷ w) (38 ∷ 38 ∷ w) refl refl refl refl (plain 38 (lit< tt) refl) refl refl refl)
mark_stands m.Or w l a = mark_next m.Or w l (other_mark 124 (124 ∷ w) (124 ∷ 124 ∷ w) refl refl refl refl (plain 124 (lit< tt) refl) refl refl refl)
mark_stands m.Question w l a = mark_next m.Question w l (other_mark 63 (w) (63 ∷ w) refl refl refl refl (plain 63 (lit< tt) refl) refl refl refl)
mark_stands m.Colon w l a = mark_next m.Colon w l (other_mark 58 (w) (58 ∷ w) refl refl refl refl (plain 58 (lit< tt) refl) refl refl refl)
mark_stands m.Assign w l a = mark_next m.Assign w l (other_mark 61 (w) (61 ∷ w) refl refl refl refl (plain 61 (lit< tt) refl) refl refl refl)
mark_stands m.PlusAssign w l a = mark_next m.PlusAssign w l (other_mark 43 (61 ∷ w) (43 ∷ 61 ∷ w) refl refl refl refl (plain 43 (lit< tt) refl) refl refl refl)
mark_stands m.MinusAssign w l a = mark_next m.MinusAssign w l (other_mark 45 (61 ∷ w) (45 ∷ 61 ∷ w) refl refl refl refl (plain 45 (lit< tt) refl) refl refl refl)
mark_stands m.TimesAssign w l a = mark_next m.TimesAssign w l (other_mark 42 (61 ∷ w) (42 ∷ 61 ∷ w) refl refl refl refl (plain 42 (lit< tt) refl) refl refl refl)
mark_stands m.SlashAssign w l a = mark_next m.SlashAssign w l (f.other refl)
mark_stands m.PercentAssign w l a = mark_next m.PercentAssign w l (other_mark 37 (61 ∷ w) (37 ∷ 61 ∷ w) refl refl refl refl (plain 37 (lit< tt) refl) refl refl refl)
mark_stands m.ShiftLeftAssign w l a = mark_next m.ShiftLeftAssign w l (other_mark 60 (60 ∷ 61 ∷ w) (60 ∷ 60 ∷ 61 ∷ w) refl refl refl refl (plain 60 (lit< tt) refl) refl refl refl)
mark_stands m.ShiftRightAssign w l a = mark_next m.ShiftRightAssign w l (other_mark 62 (62 ∷ 61 ∷ w) (62 ∷ 62 ∷ 61 ∷ w) refl refl refl refl (plain 62 (lit< tt) refl) refl refl refl)
mark_stands m.ShiftRightUnsignedAssign w l a = mark_next m.ShiftRightUnsignedAssign w l (other_mark 62 (62 ∷ 62 ∷ 61 ∷ w) (62 ∷ 62 ∷ 62 ∷ 61 ∷ w) refl refl refl refl (plain 62 (lit< tt) refl) refl refl refl)
mark_stands m.BitAndAssign w l a = mark_next m.BitAndAssign w l (other_mark 38 (61 ∷ w) (38 ∷ 61 ∷ w) refl refl refl refl (plain 38 (lit< tt) refl) refl refl refl)
mark_stands m.BitOrAssign w l a = mark_next m.BitOrAssign w l (other_mark 124 (61 ∷ w) (124 ∷ 61 ∷ w) refl refl refl refl (plain 124 (lit< tt) refl) refl refl refl)
mark_stands m.BitXorAssign w l a = mark_next m.BitXorAssign w l (other_mark 94 (61 ∷ w) (94 ∷ 61 ∷ w) refl refl refl refl (plain 94 (lit< tt) refl) refl refl refl)

-- ---- the law

blank_quote : (c : ℕ) → is_blank c ≡ true → is_quote c ≡ false
blank_quote c h = grind (arith, nat_tests)

blank_front : (c : ℕ) (w : List ℕ) → is_blank c ≡ true → front_by c w ≡ Next 1 None
blank_front c w b = rw b refl

name_stands : (c : ℕ) (cs w : List ℕ) → begins_name c ≡ true → list_all continues_name cs ≡ true → IsLongest (c ∷ cs) w
    → StandsAt (c ∷ cs ++ w) (Next (length (c ∷ cs)) (Some (name_kind (utf16 (c ∷ cs)))))
name_stands c cs w b h longest =
    let n = run continues_name (c ∷ cs ++ w) in
    let there : StandsAt (c ∷ cs ++ w) (f.name (c ∷ cs ++ w)) = subst (StandsAt (c ∷ cs ++ w)) (name_front c (cs ++ w) b) (f.other (name_quote c b)) in
    let size = exact_length (c ∷ cs) w (Some (name_kind (utf16 (c ∷ cs)))) (Some (name_kind (utf16 (take n (c ∷ cs ++ w))))) n (p.name b h) longest there in
    becomes (c ∷ cs) w (Some (name_kind (utf16 (c ∷ cs)))) (f.name (c ∷ cs ++ w)) there
    (ap (λ j. Next j (Some (name_kind (utf16 (take j (c ∷ cs ++ w)))))) size ∙ ap (λ u. Next (length (c ∷ cs)) (Some (name_kind (utf16 u)))) (take_front (c ∷ cs) w))

string_stands : (c : ℕ) (cs w : List ℕ) (n : ℕ) (units : List ℕ) → is_quote c ≡ true → IsInside c cs n units → drop n cs ≡ c ∷ [] → StandsAt (c ∷ cs ++ w) (Next (length (c ∷ cs)) (Some (t.Str units)))
string_stands c cs w n units q inside closed =
    let size = length_dropped n cs c closed in
    let far : drop n (cs ++ w) ≡ c ∷ w = drop_append n cs w (omega arith) ∙ ap (λ ds. ds ++ w) closed in
    let long : n + 2 ≡ length (c ∷ cs) = omega arith in
    becomes (c ∷ cs) w (Some (t.Str units)) (string_end c n units (drop n (cs ++ w))) (f.string n units q (inside_append c cs w n units q inside closed))
    (ap (string_end c n units) far ∙ ap (λ b. cond b (Next (n + 2) (Some (t.Str units))) (cond ((c == 92) && not (f.is_line_end w)) (Bad k.BadEscape (n + 1)) (Bad k.OpenString 0))) (self c) ∙ ap (λ m. Next m (Some (t.Str units))) long)
  where
    self : (y : ℕ) → (y == y) ≡ true
    self y = grind (arith, nat_tests)

longest_allowed_stands : (u w : List ℕ) (kind : Option TokenKind) → IsPiece u kind → IsLongest u w → IsAllowed u kind w → StandsAt (u ++ w) (Next (length u) kind)
longest_allowed_stands u w kind (p.blank {c = c} b) longest allowed = becomes (c ∷ []) w None (front_by c w) (f.other (blank_quote c b)) (blank_front c w b)
longest_allowed_stands u w kind (p.line_comment {cs = cs} h) longest allowed =
    let there : StandsAt (47 ∷ 47 ∷ cs ++ w) (Next (2 + run in_line (cs ++ w)) None) = f.other refl in
    let size = exact_length (47 ∷ 47 ∷ cs) w None None (2 + run in_line (cs ++ w)) (p.line_comment h) longest there in
    subst (λ n. StandsAt (47 ∷ 47 ∷ cs ++ w) (Next n None)) size there
longest_allowed_stands u w kind (p.long_comment {cs = cs} h) longest allowed =
    becomes (47 ∷ 42 ∷ cs) w None (front_by 47 (42 ∷ cs ++ w)) (f.other refl) (ap f.long_comment (comment_append cs w (length cs) h) ∙ ap (λ n. Next n None) (two_more (length cs)))
longest_allowed_stands u w kind (p.name {c = c} {cs = cs} b h) longest allowed = name_stands c cs w b h longest
longest_allowed_stands u w kind p.zero longest allowed = zero_stands w longest allowed
longest_allowed_stands u w kind (p.decimal {c = c} {cs = cs} z d h) longest allowed = decimal_stands c cs w z d h longest allowed
longest_allowed_stands u w kind (p.hexadecimal {x = x} {c = c} {cs = cs} e d h) longest allowed = hex_stands x c cs w e d h longest allowed
longest_allowed_stands u w kind (p.string {c = c} {cs = cs} n units q inside closed) longest allowed = string_stands c cs w n units q inside closed
longest_allowed_stands u w kind (p.mark x) longest allowed = mark_stands x w longest allowed

-- what stands is the next piece
pub next_piece : (text : List ℕ) (n : ℕ) (kind : Option TokenKind) → StandsAt text (Next n kind) → IsNextPiece text n kind
next_piece text n kind s = record {
  within = (stands_within text (Next n kind) s).1;
  is_piece = a_piece_stands text n kind s;
  longest = λ others after other e piece. longest_piece text others after n kind other s e piece;
  allowed = allowed_follows text n kind s;
}

-- and the next piece stands
pub next_stands : (text : List ℕ) (n : ℕ) (kind : Option TokenKind) → IsNextPiece text n kind → StandsAt text (Next n kind)
next_stands text n kind next =
    let size = length_taken n text next.within in
    let whole = take_drop n text in
    let longest : IsLongest (take n text) (drop n text) = λ v w other e piece. subst (λ m. length v ≤ m) (sym size) (next.longest v w other (whole ∙ e) piece) in
    let there = longest_allowed_stands (take n text) (drop n text) kind next.is_piece longest next.allowed in
    subst (λ m. StandsAt text (Next m kind)) size (subst (λ ds. StandsAt ds (Next (length (take n text)) kind)) (sym whole) there)
