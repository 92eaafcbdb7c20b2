-- The piece that stands at a place is the longest that the text there begins with.
use Rattle.std.proofs.Common.{◌≡◌, ◌≢◌, ℕ, zero, suc, ◌+◌, ◌^◌, ◌≤◌, ◌<◌, Bool, true, false, ◌||◌, ◌&&◌, ◌==◌, nat_lt, nat_le, not, List, [], ◌∷◌, ◌++◌, length, take, drop, Option, Some, None, ◌⊎◌, inl, inr, ◌-◌, cond, refl, ap, sym, ◌∙◌, subst, arith, lit<}
use Rattle.std.specs.List.{find, list_all, list_any}
use Rattle.std.specs.Option.{option_map}
use Rattle.std.specs.Char.{is_ascii_alphabetic}
use Rattle.std.proofs.lemmas.Bool.Decides.{nat_tests}
use Rattle.std.proofs.lemmas.Bool.{cases_lt}
use Rattle.unicode_ident.specs.Ident.{is_xid_start}
use Rattle.unicode_ident.proofs.Computing.{unicode_ident}
use Rattle.unicode_ident.proofs.IdentLemmas.{is_xid_start-ascii}
use Rattle.dl_text.specs.Place.{is_line_terminator}
use Rattle.js_lexer.specs.Characters.{begins_name, continues_name, is_digit, is_hex_digit, first_is, run, begins, in_line, number_of}
use Rattle.js_lexer.specs.Words.{is_spelled}
use Rattle.js_lexer.specs.Marks.{spelling, marks, front_mark}
use Rattle.js_lexer.specs.Fronts as f
use Rattle.js_lexer.specs.Fronts.{StandsAt, IsInside, string_part, string_end, front_by, is_quote, is_blank}
use Rattle.js_lexer.specs.Pieces as p
use Rattle.js_lexer.specs.Pieces.{IsPiece}
use Rattle.js_lexer.specs.declared.mark.Mark.{Mark}
use Rattle.js_lexer.specs.declared.mark.Mark.TheVariants as m
use Rattle.js_lexer.specs.declared.front.Front.{Front}
use Rattle.js_lexer.specs.declared.front.Front.TheVariants.{Next, Bad}
use Rattle.js_lexer.specs.declared.token.LexKind.{LexKind}
use Rattle.js_lexer.specs.declared.token.TokenKind.{TokenKind}
use Rattle.js_lexer.proofs.Within.{front_case, stands_within}
use Rattle.js_lexer.proofs.OneAnswer.{stands_one}

-- a piece of at least so many characters, or a fault
abbrev AtLeast : ℕ → Front → Type 0
AtLeast k (Next n kind) = k ≤ n
AtLeast k (Bad kind n) = Unit {0}

-- what stands there is what is computed
at_least : (text : List ℕ) (n k : ℕ) (kind : Option TokenKind) (front : Front) → StandsAt text (Next n kind) → StandsAt text front → AtLeast k front → k ≤ n
at_least text n k kind front s s' h = subst (AtLeast k) (sym (stands_one text (Next n kind) front s s')) h

one_at_least : (text : List ℕ) (n : ℕ) (kind : Option TokenKind) → StandsAt text (Next n kind) → 1 ≤ n
one_at_least text n kind s = let h = stands_within text (Next n kind) s in omega (arith, h.0)

-- ---- runs

pub run_bound : (p : ℕ → Bool) (v w : List ℕ) → list_all p v ≡ true → length v ≤ run p (v ++ w)
run_bound p [] w h = omega arith
run_bound p (c ∷ v) w h = step (p c) h (run_bound p v w)
  where
    step : (b : Bool) → (b && list_all p v) ≡ true → (list_all p v ≡ true → length v ≤ run p (v ++ w)) → suc (length v) ≤ cond b (suc (run p (v ++ w))) 0
    step true h k = let r = k h in omega arith
    step false h k = absurd (cc)

pub all_and : (p : ℕ → Bool) (c : ℕ) (cs : List ℕ) → p c ≡ true → list_all p cs ≡ true → list_all p (c ∷ cs) ≡ true
all_and p c cs e h = rw e h

-- ---- classes of characters

digit_bounds : (c : ℕ) → is_digit c ≡ true → (48 ≤ c) × (c ≤ 57)
digit_bounds c h = (grind (arith, nat_tests), grind (arith, nat_tests))

pub plain : (c : ℕ) → c < 128 → ((c == 36) || ((c == 95) || is_ascii_alphabetic c)) ≡ false → begins_name c ≡ false
plain c low e = rw (is_xid_start-ascii c low) e

digit_name : (c : ℕ) → is_digit c ≡ true → begins_name c ≡ false
digit_name c h = let b = digit_bounds c h in plain c (omega arith) (alphabetic c b.0 b.1)
  where
    alphabetic : (c : ℕ) → 48 ≤ c → c ≤ 57 → ((c == 36) || ((c == 95) || is_ascii_alphabetic c)) ≡ false
    alphabetic c low high = grind (arith, nat_tests)

digit_blank : (c : ℕ) → is_digit c ≡ true → is_blank c ≡ false
digit_blank c h = let b = digit_bounds c h in blank c b.0 b.1
  where
    blank : (c : ℕ) → 48 ≤ c → c ≤ 57 → is_blank c ≡ false
    blank c low high = grind (arith, nat_tests)

digit_slash : (c : ℕ) → is_digit c ≡ true → (c == 47) ≡ false
digit_slash c h = let b = digit_bounds c h in grind (arith, nat_tests)

pub digit_quote : (c : ℕ) → is_digit c ≡ true → is_quote c ≡ false
digit_quote c h = let b = digit_bounds c h in grind (arith, nat_tests)

-- no white space and no line terminator begins a name
xid_name : (c : ℕ) → 128 ≤ c → is_xid_start c ≡ false → begins_name c ≡ false
xid_name c le e = rw (differs c 36 (omega arith), differs c 95 (omega arith), e) refl
  where
    differs : (c d : ℕ) → d < c → (c == d) ≡ false
    differs c d lt = grind (arith, nat_tests)

xid_A0 : is_xid_start 0xA0 ≡ false
unfolding unicode_ident
xid_A0 = refl

xid_1680 : is_xid_start 0x1680 ≡ false
unfolding unicode_ident
xid_1680 = refl

xid_3000 : is_xid_start 0x3000 ≡ false
unfolding unicode_ident
xid_3000 = refl

-- each number below n passes
all_below : (ℕ → Bool) → ℕ → Bool
all_below p zero = true
all_below p (suc n) = p n && all_below p n

all_below_at : (p : ℕ → Bool) (n j : ℕ) → all_below p n ≡ true → j < n → p j ≡ true
unfolding all_below
all_below_at p zero j h lt = absurd (omega arith)
all_below_at p (suc n) j h lt = at (p n) refl h (cases_lt j n) (all_below_at p n j)
  where
    at : (b : Bool) → p n ≡ b → (b && all_below p n) ≡ true → (j < n) ⊎ (n ≤ j) → (all_below p n ≡ true → j < n → p j ≡ true) → p j ≡ true
    at true e h (inl below) rec = rec h below
    at true e h (inr last) rec = let same : n ≡ j = omega arith in subst (λ k. p k ≡ true) same e
    at false e h c rec = absurd (cc)

-- U+2000 to U+205F begin no name
xid_2000_all : all_below (λ d. not (is_xid_start (0x2000 + d))) 0x60 ≡ true
unfolding unicode_ident all_below
xid_2000_all = refl

xid_2000 : (d : ℕ) → d < 0x60 → not (is_xid_start (0x2000 + d)) ≡ true
xid_2000 d lt = all_below_at (λ x. not (is_xid_start (0x2000 + x))) 0x60 d xid_2000_all lt

blank_ascii : (c : ℕ) → is_blank c ≡ true → c < 128 → ((c == 36) || ((c == 95) || is_ascii_alphabetic c)) ≡ false
blank_ascii c h lt = grind (arith, nat_tests)

blank_low : (c : ℕ) → is_blank c ≡ true → 128 ≤ c → c < 0x2000 → c ≢ 0xA0 → c ≡ 0x1680
blank_low c h le lt n = grind (arith, nat_tests)

blank_high : (c : ℕ) → is_blank c ≡ true → 0x2060 ≤ c → c ≡ 0x3000
blank_high c h le = grind (arith, nat_tests)

blank_name : (c : ℕ) → is_blank c ≡ true → begins_name c ≡ false
blank_name c h = low (cases_lt c 128)
  where
    by_number : {d : ℕ} → c ≡ d → 128 ≤ c → is_xid_start d ≡ false → begins_name c ≡ false
    by_number e le x = xid_name c le (ap is_xid_start e ∙ x)

    two : (b : Bool) → (c == 0xA0) ≡ b → 128 ≤ c → c < 0x2000 → begins_name c ≡ false
    two true e le lt = by_number (equal e) le xid_A0
      where
        equal : (c == 0xA0) ≡ true → c ≡ 0xA0
        equal e = grind (arith, nat_tests)
    two false e le lt = by_number (blank_low c h le lt (differ e)) le xid_1680
      where
        differ : (c == 0xA0) ≡ false → c ≢ 0xA0
        differ e = grind (arith, nat_tests)

    off : (b : Bool) → not b ≡ true → b ≡ false
    off true e = absurd (cc)
    off false e = refl

    middle : (c < 0x2060) ⊎ (0x2060 ≤ c) → 0x2000 ≤ c → begins_name c ≡ false
    middle (inl lt) le =
        let e : 0x2000 + (c - 0x2000) ≡ c = omega arith in
        xid_name c (omega arith) (off (is_xid_start c) (subst (λ x. not (is_xid_start x) ≡ true) e (xid_2000 (c - 0x2000) (omega arith))))
    middle (inr ge) le = by_number (blank_high c h ge) (omega arith) xid_3000

    high : (c < 0x2000) ⊎ (0x2000 ≤ c) → 128 ≤ c → begins_name c ≡ false
    high (inl lt) le = two (c == 0xA0) refl le lt
    high (inr ge) le = middle (cases_lt c 0x2060) ge

    low : (c < 128) ⊎ (128 ≤ c) → begins_name c ≡ false
    low (inl lt) = plain c lt (blank_ascii c h lt)
    low (inr le) = high (cases_lt c 0x2000) le

name_blank : (c : ℕ) → begins_name c ≡ true → is_blank c ≡ false
name_blank c h = at (is_blank c) refl
  where
    at : (b : Bool) → is_blank c ≡ b → is_blank c ≡ false
    at true e = let n = blank_name c e in absurd (cc)
    at false e = e

name_not : (c d : ℕ) → begins_name c ≡ true → begins_name d ≡ false → (c == d) ≡ false
name_not c d h e = let ne : c ≢ d = λ same. clash (ap begins_name same) in grind (arith, nat_tests)
  where
    clash : begins_name c ≡ begins_name d → ⊥
    clash e' = absurd (cc)

pub name_quote : (c : ℕ) → begins_name c ≡ true → is_quote c ≡ false
name_quote c h = rw (name_not c 34 h (plain 34 (lit< tt) refl), name_not c 39 h (plain 39 (lit< tt) refl)) refl

-- ---- comments

pub comment_append : (cs w : List ℕ) (k : ℕ) → f.comment_end cs ≡ Some k → f.comment_end (cs ++ w) ≡ Some k
comment_append [] w k e = absurd (cc)
comment_append (c ∷ []) w k e = last (c == 42) e
  where
    last : (b : Bool) → cond (b && false) (Some 2) None ≡ Some k → f.comment_end (c ∷ w) ≡ Some k
    last true e = absurd (cc)
    last false e = absurd (cc)
comment_append (c ∷ d ∷ cs) w k e = step ((c == 42) && (d == 47)) (f.comment_end (d ∷ cs)) refl e (comment_append (d ∷ cs) w)
  where
    step : (b : Bool) (o : Option ℕ) → f.comment_end (d ∷ cs) ≡ o → cond b (Some 2) (option_map suc o) ≡ Some k
        → ((j : ℕ) → f.comment_end (d ∷ cs) ≡ Some j → f.comment_end (d ∷ cs ++ w) ≡ Some j) → cond b (Some 2) (option_map suc (f.comment_end (d ∷ cs ++ w))) ≡ Some k
    step true o h e rec = e
    step false None h e rec = absurd (cc)
    step false (Some j) h e rec = ap (option_map suc) (rec j h) ∙ e

-- ---- strings

-- a part of a string that is not at the end is the same in a longer text
abbrev SameWith : List ℕ → ℕ → Option (ℕ × ℕ) → Option (ℕ × ℕ) → Type 0
SameWith cs size None after = Unit {0}
SameWith cs size (Some part) after = part.1 < size → after ≡ Some part

same_case : (cs : List ℕ) (size : ℕ) (b : Bool) (x y x' y' : Option (ℕ × ℕ)) → SameWith cs size x x' → SameWith cs size y y' → SameWith cs size (cond b x y) (cond b x' y')
same_case cs size true x y x' y' h k = h
same_case cs size false x y x' y' h k = k

same_self : (cs : List ℕ) (size : ℕ) (x : Option (ℕ × ℕ)) → SameWith cs size x x
same_self cs size None = tt
same_self cs size (Some part) = λ _. refl

two_same : (cs w : List ℕ) (size : ℕ) → SameWith cs size (f.two_digits cs) (f.two_digits (cs ++ w))
two_same [] w size = tt
two_same (a ∷ []) w size = tt
two_same (a ∷ b ∷ cs) w size = same_self cs size (f.two_digits (a ∷ b ∷ cs))

four_same : (cs w : List ℕ) (size : ℕ) → SameWith cs size (f.four_digits cs) (f.four_digits (cs ++ w))
four_same [] w size = tt
four_same (a ∷ []) w size = tt
four_same (a ∷ b ∷ []) w size = tt
four_same (a ∷ b ∷ c ∷ []) w size = tt
four_same (a ∷ b ∷ c ∷ d ∷ cs) w size = same_self cs size (f.four_digits (a ∷ b ∷ c ∷ d ∷ cs))

-- `\0` is followed by a character
null_same : (c : ℕ) (cs w : List ℕ) (b : Bool) → SameWith cs (suc (suc (length cs))) (cond (b && not (first_is is_digit cs)) (Some (0, 2)) None) (cond (b && not (first_is is_digit (cs ++ w))) (Some (0, 2)) None)
null_same c [] w true = λ lt. absurd (omega arith)
null_same c [] w false = tt
null_same c (d ∷ cs) w b = same_self (d ∷ cs) (suc (suc (length (d ∷ cs)))) (cond (b && not (is_digit d)) (Some (0, 2)) None)

escape_same : (cs w : List ℕ) → SameWith cs (suc (length cs)) (f.escape cs) (f.escape (cs ++ w))
escape_same [] w = tt
escape_same (c ∷ cs) w =
    let size = suc (suc (length cs)) in
    same_case cs size (c == 120) _ _ _ _ (two_same cs w size)
    (same_case cs size (c == 117) _ _ _ _ (four_same cs w size)
    (same_case cs size (is_digit c) _ _ _ _ (null_same c cs w (c == 48)) (same_self cs size (cond (is_line_terminator c) None (Some (f.escaped c, 2))))))

part_same : (quote : ℕ) (cs w : List ℕ) → SameWith cs (length cs) (string_part quote cs) (string_part quote (cs ++ w))
part_same quote [] w = tt
part_same quote (c ∷ cs) w = same_case cs (suc (length cs)) (c == 92) _ _ _ _ (escape_same cs w) (same_self cs (suc (length cs)) (cond ((c == quote) || is_line_terminator c) None (Some (c, 1))))

part_append : (quote : ℕ) (cs w : List ℕ) (value len : ℕ) → string_part quote cs ≡ Some (value, len) → len < length cs → string_part quote (cs ++ w) ≡ Some (value, len)
part_append quote cs w value len e lt = (subst (λ o. SameWith cs (length cs) o (string_part quote (cs ++ w))) e (part_same quote cs w)) lt

pub quote_stops : (quote : ℕ) (cs : List ℕ) → is_quote quote ≡ true → string_part quote (quote ∷ cs) ≡ None
quote_stops quote cs h = rw (not_backslash, same) refl
  where
    not_backslash : (quote == 92) ≡ false
    not_backslash = grind (arith, nat_tests)

    same : (quote == quote) ≡ true
    same = grind (arith, nat_tests)

pub drop_append : (n : ℕ) (cs w : List ℕ) → n ≤ length cs → drop n (cs ++ w) ≡ drop n cs ++ w
drop_append zero cs w le = refl
drop_append (suc n) [] w le = absurd (omega arith)
drop_append (suc n) (c ∷ cs) w le = drop_append n cs w (omega arith)

pub length_dropped : (n : ℕ) (cs : List ℕ) (q : ℕ) → drop n cs ≡ q ∷ [] → length cs ≡ suc n
length_dropped zero cs q e = ap length e
length_dropped (suc n) [] q e = absurd (cc)
length_dropped (suc n) (c ∷ cs) q e = ap suc (length_dropped n cs q e)

drop_sum : (cs : List ℕ) (i j : ℕ) → drop j (drop i cs) ≡ drop (i + j) cs
drop_sum cs i j = Rattle.js_lexer.proofs.Strings.drop_drop cs i j

-- the inside of a string that is closed is the same in a longer text
pub inside_append : (quote : ℕ) (cs w : List ℕ) (n : ℕ) (units : List ℕ) → is_quote quote ≡ true → IsInside quote cs n units → drop n cs ≡ quote ∷ [] → IsInside quote (cs ++ w) n units
inside_append quote cs w n units q (f.none e) closed = f.none (ap (λ ds. string_part quote (ds ++ w)) closed ∙ quote_stops quote w q)
inside_append quote cs w n units q (f.more value len k us e rest) closed =
    let size = length_dropped (len + k) cs quote closed in
    let tail = inside_append quote (drop len cs) w k us q rest (drop_sum cs len k ∙ closed) in
    f.more value len k us (part_append quote cs w value len e (omega arith)) (subst (λ ds. IsInside quote ds k us) (sym (drop_append len cs w (omega arith))) tail)

-- ---- marks

eq_suc : (n k : ℕ) → (suc n == suc k) ≡ (n == k)
eq_suc n k = grind (arith, nat_tests)

pub spelled_same : (xs ys : List ℕ) → is_spelled xs ys ≡ true → xs ≡ ys
spelled_same [] [] h = refl
spelled_same [] (y ∷ ys) h = absurd (no_length (length ys) h)
  where
    no_length : (n : ℕ) → ((0 == suc n) && true) ≡ true → ⊥
    no_length n h = grind (arith, nat_tests)
spelled_same (x ∷ xs) [] h = absurd (no_begin (suc (length xs) == 0) h)
  where
    no_begin : (b : Bool) → (b && false) ≡ true → ⊥
    no_begin true h = absurd (cc)
    no_begin false h = absurd (cc)
spelled_same (x ∷ xs) (y ∷ ys) h =
    let head : x ≡ y = first ((suc (length xs)) == (suc (length ys))) (x == y) (begins xs ys) h refl in
    let tail : xs ≡ ys = spelled_same xs ys (rest (length xs) (length ys) (x == y) (begins xs ys) h) in
    cc
  where
    first : (a b d : Bool) → (a && (b && d)) ≡ true → (x == y) ≡ b → x ≡ y
    first true true d h e = grind (arith, nat_tests)
    first true false d h e = absurd (cc)
    first false b d h e = absurd (cc)

    rest : (n k : ℕ) (b d : Bool) → ((suc n == suc k) && (b && d)) ≡ true → ((n == k) && d) ≡ true
    rest n k true d h = ap (λ b. b && d) (sym (eq_suc n k)) ∙ h
    rest n k false d h = absurd (nothing (suc n == suc k) h)
      where
        nothing : (a : Bool) → (a && false) ≡ true → ⊥
        nothing true h = absurd (cc)
        nothing false h = absurd (cc)

-- none that follows is longer
ordered : List Mark → Bool
ordered [] = true
ordered (x ∷ xs) = list_all (λ y. nat_le (length (spelling y)) (length (spelling x))) xs && ordered xs

marks_ordered : ordered marks ≡ true
unfolding ordered
marks_ordered = refl

among : Mark → List Mark → Bool
among x xs = list_any (λ y. is_spelled (spelling y) (spelling x)) xs

each_mark : (x : Mark) → among x marks ≡ true
unfolding among
each_mark m.OpenBrace = refl
each_mark m.CloseBrace = refl
each_mark m.OpenParenthesis = refl
each_mark m.CloseParenthesis = refl
each_mark m.OpenBracket = refl
each_mark m.CloseBracket = refl
each_mark m.Dot = refl
each_mark m.Semicolon = refl
each_mark m.Comma = refl
each_mark m.Less = refl
each_mark m.Greater = refl
each_mark m.LessEqual = refl
each_mark m.GreaterEqual = refl
each_mark m.Equal = refl
each_mark m.NotEqual = refl
each_mark m.StrictEqual = refl
each_mark m.StrictNotEqual = refl
each_mark m.Plus = refl
each_mark m.Minus = refl
each_mark m.Times = refl
each_mark m.Slash = refl
each_mark m.Percent = refl
each_mark m.PlusPlus = refl
each_mark m.MinusMinus = refl
each_mark m.ShiftLeft = refl
each_mark m.ShiftRight = refl
each_mark m.ShiftRightUnsigned = refl
each_mark m.BitAnd = refl
each_mark m.BitOr = refl
each_mark m.BitXor = refl
each_mark m.Not = refl
each_mark m.BitNot = refl
each_mark m.And = refl
each_mark m.Or = refl
each_mark m.Question = refl
each_mark m.Colon = refl
each_mark m.Assign = refl
each_mark m.PlusAssign = refl
each_mark m.MinusAssign = refl
each_mark m.TimesAssign = refl
each_mark m.SlashAssign = refl
each_mark m.PercentAssign = refl
each_mark m.ShiftLeftAssign = refl
each_mark m.ShiftRightAssign = refl
each_mark m.ShiftRightUnsignedAssign = refl
each_mark m.BitAndAssign = refl
each_mark m.BitOrAssign = refl
each_mark m.BitXorAssign = refl

not_longer : (x z : Mark) (xs : List Mark) → among x xs ≡ true → list_all (λ y. nat_le (length (spelling y)) (length (spelling z))) xs ≡ true → length (spelling x) ≤ length (spelling z)
unfolding among
not_longer x z [] h k = absurd (cc)
not_longer x z (y ∷ xs) h k = at (is_spelled (spelling y) (spelling x)) refl h (left _ _ k) (λ h'. not_longer x z xs h' (right _ _ k))
  where
    left : (a b : Bool) → (a && b) ≡ true → a ≡ true
    left true b e = refl
    left false b e = absurd (cc)

    right : (a b : Bool) → (a && b) ≡ true → b ≡ true
    right true b e = e
    right false b e = absurd (cc)

    at : (b : Bool) → is_spelled (spelling y) (spelling x) ≡ b → (b || among x xs) ≡ true → nat_le (length (spelling y)) (length (spelling z)) ≡ true
        → (among x xs ≡ true → length (spelling x) ≤ length (spelling z)) → length (spelling x) ≤ length (spelling z)
    at true e h le rec = let same = ap length (spelled_same (spelling y) (spelling x) e) in grind (arith, nat_tests)
    at false e h le rec = rec h

first_longest : (cs : List ℕ) (xs : List Mark) (x z : Mark) → ordered xs ≡ true → among x xs ≡ true → begins (spelling x) cs ≡ true → find (λ y. begins (spelling y) cs) xs ≡ Some z
    → length (spelling x) ≤ length (spelling z)
unfolding ordered among
first_longest cs [] x z o h b e = absurd (cc)
first_longest cs (y ∷ xs) x z o h b e = at (begins (spelling y) cs) refl e (first_longest cs xs x z (right _ _ o))
  where
    left : (a b : Bool) → (a && b) ≡ true → a ≡ true
    left true b e = refl
    left false b e = absurd (cc)

    right : (a b : Bool) → (a && b) ≡ true → b ≡ true
    right true b e = e
    right false b e = absurd (cc)

    by : (b : Bool) → is_spelled (spelling y) (spelling x) ≡ b → (b || among x xs) ≡ true → length (spelling x) ≤ length (spelling y)
    by true e h = let same = ap length (spelled_same (spelling y) (spelling x) e) in omega arith
    by false e h = not_longer x y xs h (left _ _ o)

    later : (b : Bool) → is_spelled (spelling y) (spelling x) ≡ b → (b || among x xs) ≡ true → begins (spelling y) cs ≡ false → among x xs ≡ true
    later true e h n = let same = ap (λ s. begins s cs) (spelled_same (spelling y) (spelling x) e) in absurd (cc)
    later false e h n = h

    at : (t : Bool) → begins (spelling y) cs ≡ t → cond t (Some y) (find (λ y. begins (spelling y) cs) xs) ≡ Some z
        → (among x xs ≡ true → begins (spelling x) cs ≡ true → find (λ y. begins (spelling y) cs) xs ≡ Some z → length (spelling x) ≤ length (spelling z)) → length (spelling x) ≤ length (spelling z)
    at true t e rec = let same : y ≡ z = cc in subst (λ v. length (spelling x) ≤ length (spelling v)) same (by (is_spelled (spelling y) (spelling x)) refl h)
    at false t e rec = rec (later (is_spelled (spelling y) (spelling x)) refl h t) b e

not_none : (cs : List ℕ) (xs : List Mark) (x : Mark) → among x xs ≡ true → begins (spelling x) cs ≡ true → find (λ y. begins (spelling y) cs) xs ≡ None → ⊥
unfolding among
not_none cs [] x h b e = absurd (cc)
not_none cs (y ∷ xs) x h b e = at (begins (spelling y) cs) refl e (not_none cs xs x)
  where
    later : (b : Bool) → is_spelled (spelling y) (spelling x) ≡ b → (b || among x xs) ≡ true → begins (spelling y) cs ≡ false → among x xs ≡ true
    later true e h n = let same = ap (λ s. begins s cs) (spelled_same (spelling y) (spelling x) e) in absurd (cc)
    later false e h n = h

    at : (t : Bool) → begins (spelling y) cs ≡ t → cond t (Some y) (find (λ y. begins (spelling y) cs) xs) ≡ None
        → (among x xs ≡ true → begins (spelling x) cs ≡ true → find (λ y. begins (spelling y) cs) xs ≡ None → ⊥) → ⊥
    at true t e rec = absurd (cc)
    at false t e rec = rec (later (is_spelled (spelling y) (spelling x)) refl h t) b e

pub begins_self : (xs w : List ℕ) → begins xs (xs ++ w) ≡ true
begins_self [] w = refl
begins_self (x ∷ xs) w = rw (same x) (begins_self xs w)
  where
    same : (x : ℕ) → (x == x) ≡ true
    same x = grind (arith, nat_tests)

-- a text that begins with a mark has a longest one
pub mark_found : (x : Mark) (w : List ℕ) → front_mark (spelling x ++ w) ≡ None → ⊥
mark_found x w e = not_none (spelling x ++ w) marks x (each_mark x) (begins_self (spelling x) w) e

mark_at_least : (x : Mark) (w : List ℕ) → AtLeast (length (spelling x)) (f.mark (spelling x ++ w))
mark_at_least x w = at (front_mark (spelling x ++ w)) refl
  where
    at : (o : Option Mark) → front_mark (spelling x ++ w) ≡ o → AtLeast (length (spelling x)) (f.mark_or_fault o)
    at None e = tt
    at (Some z) e = first_longest (spelling x ++ w) marks x z marks_ordered (each_mark x) (begins_self (spelling x) w) e

-- a character that begins a mark alone
mark_front : (c : ℕ) (cs w : List ℕ) (x : Mark) → spelling x ≡ c ∷ cs → is_blank c ≡ false → (c == 47) ≡ false → begins_name c ≡ false → is_digit c ≡ false → (c == 46) ≡ false → (c == 92) ≡ false
    → AtLeast (length (spelling x)) (front_by c (cs ++ w))
mark_front c cs w x e b s n d dot back =
    rw (b, s, n, d, dot, back) (subst (λ ds. AtLeast (length (spelling x)) (f.mark (ds ++ w))) e (mark_at_least x w))

-- a mark is a single character, or this
mark_stands : (x : Mark) (w : List ℕ) (n : ℕ) (kind : Option TokenKind) → StandsAt (spelling x ++ w) (Next n kind) → length (spelling x) ≤ n
mark_stands m.OpenBrace w n kind s = one_at_least (spelling m.OpenBrace ++ w) n kind s
mark_stands m.CloseBrace w n kind s = one_at_least (spelling m.CloseBrace ++ w) n kind s
mark_stands m.OpenParenthesis w n kind s = one_at_least (spelling m.OpenParenthesis ++ w) n kind s
mark_stands m.CloseParenthesis w n kind s = one_at_least (spelling m.CloseParenthesis ++ w) n kind s
mark_stands m.OpenBracket w n kind s = one_at_least (spelling m.OpenBracket ++ w) n kind s
mark_stands m.CloseBracket w n kind s = one_at_least (spelling m.CloseBracket ++ w) n kind s
mark_stands m.Dot w n kind s = one_at_least (spelling m.Dot ++ w) n kind s
mark_stands m.Semicolon w n kind s = one_at_least (spelling m.Semicolon ++ w) n kind s
mark_stands m.Comma w n kind s = one_at_least (spelling m.Comma ++ w) n kind s
mark_stands m.Less w n kind s = one_at_least (spelling m.Less ++ w) n kind s
mark_stands m.Greater w n kind s = one_at_least (spelling m.Greater ++ w) n kind s
mark_stands m.LessEqual w n kind s = at_least (spelling m.LessEqual ++ w) n 2 kind (front_by 60 ((61 ∷ []) ++ w)) s (f.other refl) (mark_front 60 (61 ∷ []) w m.LessEqual refl refl refl (plain 60 (lit< tt) refl) refl refl refl)
mark_stands m.GreaterEqual w n kind s = at_least (spelling m.GreaterEqual ++ w) n 2 kind (front_by 62 ((61 ∷ []) ++ w)) s (f.other refl) (mark_front 62 (61 ∷ []) w m.GreaterEqual refl refl refl (plain 62 (lit< tt) refl) refl refl refl)
mark_stands m.Equal w n kind s = at_least (spelling m.Equal ++ w) n 2 kind (front_by 61 ((61 ∷ []) ++ w)) s (f.other refl) (mark_front 61 (61 ∷ []) w m.Equal refl refl refl (plain 61 (lit< tt) refl) refl refl refl)
mark_stands m.NotEqual w n kind s = at_least (spelling m.NotEqual ++ w) n 2 kind (front_by 33 ((61 ∷ []) ++ w)) s (f.other refl) (mark_front 33 (61 ∷ []) w m.NotEqual refl refl refl (plain 33 (lit< tt) refl) refl refl refl)
mark_stands m.StrictEqual w n kind s = at_least (spelling m.StrictEqual ++ w) n 3 kind (front_by 61 ((61 ∷ 61 ∷ []) ++ w)) s (f.other refl) (mark_front 61 (61 ∷ 61 ∷ []) w m.StrictEqual refl refl refl (plain 61 (lit< tt) refl) refl refl refl)
mark_stands m.StrictNotEqual w n kind s = at_least (spelling m.StrictNotEqual ++ w) n 3 kind (front_by 33 ((61 ∷ 61 ∷ []) ++ w)) s (f.other refl) (mark_front 33 (61 ∷ 61 ∷ []) w m.StrictNotEqual refl refl refl (plain 33 (lit< tt) refl) refl refl refl)
mark_stands m.Plus w n kind s = one_at_least (spelling m.Plus ++ w) n kind s
mark_stands m.Minus w n kind s = one_at_least (spelling m.Minus ++ w) n kind s
mark_stands m.Times w n kind s = one_at_least (spelling m.Times ++ w) n kind s
mark_stands m.Slash w n kind s = one_at_least (spelling m.Slash ++ w) n kind s
mark_stands m.Percent w n kind s = one_at_least (spelling m.Percent ++ w) n kind s
mark_stands m.PlusPlus w n kind s = at_least (spelling m.PlusPlus ++ w) n 2 kind (front_by 43 ((43 ∷ []) ++ w)) s (f.other refl) (mark_front 43 (43 ∷ []) w m.PlusPlus refl refl refl (plain 43 (lit< tt) refl) refl refl refl)
mark_stands m.MinusMinus w n kind s = at_least (spelling m.MinusMinus ++ w) n 2 kind (front_by 45 ((45 ∷ []) ++ w)) s (f.other refl) (mark_front 45 (45 ∷ []) w m.MinusMinus refl refl refl (plain 45 (lit< tt) refl) refl refl refl)
mark_stands m.ShiftLeft w n kind s = at_least (spelling m.ShiftLeft ++ w) n 2 kind (front_by 60 ((60 ∷ []) ++ w)) s (f.other refl) (mark_front 60 (60 ∷ []) w m.ShiftLeft refl refl refl (plain 60 (lit< tt) refl) refl refl refl)
mark_stands m.ShiftRight w n kind s = at_least (spelling m.ShiftRight ++ w) n 2 kind (front_by 62 ((62 ∷ []) ++ w)) s (f.other refl) (mark_front 62 (62 ∷ []) w m.ShiftRight refl refl refl (plain 62 (lit< tt) refl) refl refl refl)
mark_stands m.ShiftRightUnsigned w n kind s = at_least (spelling m.ShiftRightUnsigned ++ w) n 3 kind (front_by 62 ((62 ∷ 62 ∷ []) ++ w)) s (f.other refl) (mark_front 62 (62 ∷ 62 ∷ []) w m.ShiftRightUnsigned refl refl refl (plain 62 (lit< tt) refl) refl refl refl)
mark_stands m.BitAnd w n kind s = one_at_least (spelling m.BitAnd ++ w) n kind s
mark_stands m.BitOr w n kind s = one_at_least (spelling m.BitOr ++ w) n kind s
mark_stands m.BitXor w n kind s = one_at_least (spelling m.BitXor ++ w) n kind s
mark_stands m.Not w n kind s = one_at_least (spelling m.Not ++ w) n kind s
mark_stands m.BitNot w n kind s = one_at_least (spelling m.BitNot ++ w) n kind s
mark_stands m.And w n kind s = at_least (spelling m.And ++ w) n 2 kind (front_by 38 ((38 ∷ []) ++ w)) s (f.other refl) (mark_front 38 (38 ∷ []) w m.And refl refl refl (plain 38 (lit< tt) refl) refl refl refl)
mark_stands m.Or w n kind s = at_least (spelling m.Or ++ w) n 2 kind (front_by 124 ((124 ∷ []) ++ w)) s (f.other refl) (mark_front 124 (124 ∷ []) w m.Or refl refl refl (plain 124 (lit< tt) refl) refl refl refl)
mark_stands m.Question w n kind s = one_at_least (spelling m.Question ++ w) n kind s
mark_stands m.Colon w n kind s = one_at_least (spelling m.Colon ++ w) n kind s
mark_stands m.Assign w n kind s = one_at_least (spelling m.Assign ++ w) n kind s
mark_stands m.PlusAssign w n kind s = at_least (spelling m.PlusAssign ++ w) n 2 kind (front_by 43 ((61 ∷ []) ++ w)) s (f.other refl) (mark_front 43 (61 ∷ []) w m.PlusAssign refl refl refl (plain 43 (lit< tt) refl) refl refl refl)
mark_stands m.MinusAssign w n kind s = at_least (spelling m.MinusAssign ++ w) n 2 kind (front_by 45 ((61 ∷ []) ++ w)) s (f.other refl) (mark_front 45 (61 ∷ []) w m.MinusAssign refl refl refl (plain 45 (lit< tt) refl) refl refl refl)
mark_stands m.TimesAssign w n kind s = at_least (spelling m.TimesAssign ++ w) n 2 kind (front_by 42 ((61 ∷ []) ++ w)) s (f.other refl) (mark_front 42 (61 ∷ []) w m.TimesAssign refl refl refl (plain 42 (lit< tt) refl) refl refl refl)
mark_stands m.SlashAssign w n kind s = at_least (spelling m.SlashAssign ++ w) n 2 kind (front_by 47 (61 ∷ w)) s (f.other refl) (mark_at_least m.SlashAssign w)
mark_stands m.PercentAssign w n kind s = at_least (spelling m.PercentAssign ++ w) n 2 kind (front_by 37 ((61 ∷ []) ++ w)) s (f.other refl) (mark_front 37 (61 ∷ []) w m.PercentAssign refl refl refl (plain 37 (lit< tt) refl) refl refl refl)
mark_stands m.ShiftLeftAssign w n kind s = at_least (spelling m.ShiftLeftAssign ++ w) n 3 kind (front_by 60 ((60 ∷ 61 ∷ []) ++ w)) s (f.other refl) (mark_front 60 (60 ∷ 61 ∷ []) w m.ShiftLeftAssign refl refl refl (plain 60 (lit< tt) refl) refl refl refl)
mark_stands m.ShiftRightAssign w n kind s = at_least (spelling m.ShiftRightAssign ++ w) n 3 kind (front_by 62 ((62 ∷ 61 ∷ []) ++ w)) s (f.other refl) (mark_front 62 (62 ∷ 61 ∷ []) w m.ShiftRightAssign refl refl refl (plain 62 (lit< tt) refl) refl refl refl)
mark_stands m.ShiftRightUnsignedAssign w n kind s = at_least (spelling m.ShiftRightUnsignedAssign ++ w) n 4 kind (front_by 62 ((62 ∷ 62 ∷ 61 ∷ []) ++ w)) s (f.other refl) (mark_front 62 (62 ∷ 62 ∷ 61 ∷ []) w m.ShiftRightUnsignedAssign refl refl refl (plain 62 (lit< tt) refl) refl refl refl)
mark_stands m.BitAndAssign w n kind s = at_least (spelling m.BitAndAssign ++ w) n 2 kind (front_by 38 ((61 ∷ []) ++ w)) s (f.other refl) (mark_front 38 (61 ∷ []) w m.BitAndAssign refl refl refl (plain 38 (lit< tt) refl) refl refl refl)
mark_stands m.BitOrAssign w n kind s = at_least (spelling m.BitOrAssign ++ w) n 2 kind (front_by 124 ((61 ∷ []) ++ w)) s (f.other refl) (mark_front 124 (61 ∷ []) w m.BitOrAssign refl refl refl (plain 124 (lit< tt) refl) refl refl refl)
mark_stands m.BitXorAssign w n kind s = at_least (spelling m.BitXorAssign ++ w) n 2 kind (front_by 94 ((61 ∷ []) ++ w)) s (f.other refl) (mark_front 94 (61 ∷ []) w m.BitXorAssign refl refl refl (plain 94 (lit< tt) refl) refl refl refl)

-- ---- numbers

tested_least : (k n value : ℕ) (fault : Option LexKind) → k ≤ n → AtLeast k (f.tested_number n value fault)
tested_least k n value (Some kind) le = tt
tested_least k n value None le = front_case (AtLeast k) (nat_lt value (2 ^ 53)) _ _ (λ _. le) (λ _. tt)

pub digit_front : (c : ℕ) (cs : List ℕ) → is_digit c ≡ true → front_by c cs ≡ f.number (c ∷ cs)
digit_front c cs h = rw (digit_blank c h, digit_slash c h, digit_name c h, h) refl

pub not_hex : (c : ℕ) (cs : List ℕ) → (c == 48) ≡ false → f.is_hex_number (c ∷ cs) ≡ false
not_hex c [] h = refl
not_hex c (x ∷ []) h = refl
not_hex c (x ∷ d ∷ cs) h = rw h refl

decimal_least : (c : ℕ) (cs w : List ℕ) → (c == 48) ≡ false → is_digit c ≡ true → list_all is_digit cs ≡ true → AtLeast (suc (length cs)) (front_by c (cs ++ w))
decimal_least c cs w z d h =
    subst (AtLeast (suc (length cs))) (sym (digit_front c (cs ++ w) d))
    (rw (not_hex c (cs ++ w) z)
    (tested_least (suc (length cs)) (f.decimal_length (c ∷ cs ++ w)) (number_of 10 (take (f.decimal_length (c ∷ cs ++ w)) (c ∷ cs ++ w))) (f.after_number false (drop (f.decimal_length (c ∷ cs ++ w)) (c ∷ cs ++ w))) bound))
  where
    bound : suc (length cs) ≤ f.decimal_length (c ∷ cs ++ w)
    bound = rw z (run_bound is_digit (c ∷ cs) w (all_and is_digit c cs d h))

hex_least : (x c : ℕ) (cs w : List ℕ) → ((x == 120) || (x == 88)) ≡ true → is_hex_digit c ≡ true → list_all is_hex_digit cs ≡ true → AtLeast (suc (suc (suc (length cs)))) (front_by 48 (x ∷ c ∷ cs ++ w))
hex_least x c cs w e d h =
    subst (AtLeast (suc (suc (suc (length cs))))) (sym (digit_front 48 (x ∷ c ∷ cs ++ w) refl))
    (rw hex (tested_least (suc (suc (suc (length cs)))) (2 + run is_hex_digit (c ∷ cs ++ w)) (number_of 16 (take (run is_hex_digit (c ∷ cs ++ w)) (c ∷ cs ++ w))) (f.after_number true (drop (run is_hex_digit (c ∷ cs ++ w)) (c ∷ cs ++ w))) bound))
  where
    hex : f.is_hex_number (48 ∷ x ∷ c ∷ cs ++ w) ≡ true
    hex = rw (e, d) refl

    bound : suc (suc (suc (length cs))) ≤ 2 + run is_hex_digit (c ∷ cs ++ w)
    bound = let r = run_bound is_hex_digit (c ∷ cs) w (all_and is_hex_digit c cs d h) in omega arith

-- ---- names

pub name_front : (c : ℕ) (cs : List ℕ) → begins_name c ≡ true → front_by c cs ≡ f.name (c ∷ cs)
name_front c cs h = rw (name_blank c h, name_not c 47 h (plain 47 (lit< tt) refl), h) refl

name_least : (c : ℕ) (cs w : List ℕ) → begins_name c ≡ true → list_all continues_name cs ≡ true → AtLeast (suc (length cs)) (front_by c (cs ++ w))
name_least c cs w b h =
    subst (AtLeast (suc (length cs))) (sym (name_front c (cs ++ w) b))
    (run_bound continues_name (c ∷ cs) w (all_and continues_name c cs (Rattle.js_lexer.proofs.Within.continues_first c b) h))

-- ---- the law

string_least : (c : ℕ) (cs w : List ℕ) (n : ℕ) (units : List ℕ) → drop n (cs ++ w) ≡ c ∷ w → AtLeast (n + 2) (string_end c n units (drop n (cs ++ w)))
string_least c cs w n units e = subst (λ ds. AtLeast (n + 2) (string_end c n units ds)) (sym e) (rw (same c) (omega arith))
  where
    same : (x : ℕ) → (x == x) ≡ true
    same x = grind (arith, nat_tests)

longest : (v w : List ℕ) (n : ℕ) (kind other : Option TokenKind) → StandsAt (v ++ w) (Next n kind) → IsPiece v other → length v ≤ n
longest v w n kind other s (p.blank {c = c} b) = one_at_least (c ∷ w) n kind s
longest v w n kind other s (p.line_comment {cs = cs} h) =
    at_least (47 ∷ 47 ∷ cs ++ w) n (length (47 ∷ 47 ∷ cs)) kind (front_by 47 (47 ∷ cs ++ w)) s (f.other refl) (let r = run_bound in_line cs w h in omega arith)
longest v w n kind other s (p.long_comment {cs = cs} h) =
    at_least (47 ∷ 42 ∷ cs ++ w) n (length (47 ∷ 42 ∷ cs)) kind (front_by 47 (42 ∷ cs ++ w)) s (f.other refl)
    (subst (λ o. AtLeast (suc (suc (length cs))) (f.long_comment o)) (sym (comment_append cs w (length cs) h)) (omega arith))
longest v w n kind other s (p.name {c = c} {cs = cs} b h) =
    at_least (c ∷ cs ++ w) n (suc (length cs)) kind (front_by c (cs ++ w)) s (f.other (name_quote c b)) (name_least c cs w b h)
longest v w n kind other s p.zero = one_at_least (48 ∷ w) n kind s
longest v w n kind other s (p.decimal {c = c} {cs = cs} z d h) =
    at_least (c ∷ cs ++ w) n (suc (length cs)) kind (front_by c (cs ++ w)) s (f.other (digit_quote c d)) (decimal_least c cs w z d h)
longest v w n kind other s (p.hexadecimal {x = x} {c = c} {cs = cs} e d h) =
    at_least (48 ∷ x ∷ c ∷ cs ++ w) n (suc (suc (suc (length cs)))) kind (front_by 48 (x ∷ c ∷ cs ++ w)) s (f.other refl) (hex_least x c cs w e d h)
longest v w n kind other s (p.string {c = c} {cs = cs} k units q inside closed) =
    let size = length_dropped k cs c closed in
    let far : drop k (cs ++ w) ≡ c ∷ w = drop_append k cs w (omega arith) ∙ ap (λ ds. ds ++ w) closed in
    let least = at_least (c ∷ cs ++ w) n (k + 2) kind (string_end c k units (drop k (cs ++ w))) s (f.string k units q (inside_append c cs w k units q inside closed)) (string_least c cs w k units far) in
    omega arith
longest v w n kind other s (p.mark x) = mark_stands x w n kind s

pub longest_piece : (text v w : List ℕ) (n : ℕ) (kind other : Option TokenKind) → StandsAt text (Next n kind) → text ≡ v ++ w → IsPiece v other → length v ≤ n
longest_piece text v w n kind other s e piece = longest v w n kind other (subst (λ t. StandsAt t (Next n kind)) e s) piece
