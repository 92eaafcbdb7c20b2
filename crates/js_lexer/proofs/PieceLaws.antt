-- What stands at a place, and is no fault, is a piece.
use Rattle.std.proofs.Common.{◌≡◌, ℕ, zero, suc, ◌+◌, ◌^◌, ◌≤◌, Bool, true, false, ◌||◌, ◌&&◌, ◌==◌, nat_lt, not, List, [], ◌∷◌, length, take, drop, Option, Some, None, IfSome, cond, refl, ap, sym, ◌∙◌, subst, arith}
use Rattle.std.specs.List.{list_all}
use Rattle.std.specs.Option.{option_map}
use Rattle.std.proofs.lemmas.Bool.Decides.{nat_tests}
use Rattle.dl_text.specs.Utf16.{utf16}
use Rattle.dl_text.specs.Place.{is_line_terminator}
use Rattle.js_lexer.specs.Characters.{continues_name, begins_name, is_digit, is_hex_digit, first_is, run, begins, in_line, number_of}
use Rattle.js_lexer.specs.Marks.{spelling, marks, front_mark}
use Rattle.js_lexer.specs.Fronts as f
use Rattle.js_lexer.specs.Fronts.{StandsAt, IsInside, string_part, string_end, front_by, is_quote, is_blank, name_kind}
use Rattle.js_lexer.specs.Pieces as p
use Rattle.js_lexer.specs.Pieces.{IsPiece}
use Rattle.js_lexer.specs.declared.mark.Mark.{Mark}
use Rattle.js_lexer.specs.declared.front.Front.{Front}
use Rattle.js_lexer.specs.declared.front.Front.TheVariants.{Next, Bad}
use Rattle.js_lexer.specs.declared.token.LexKind.{LexKind}
use Rattle.js_lexer.specs.declared.token.TokenKind.{TokenKind}
use Rattle.js_lexer.specs.declared.token.TokenKind.TheVariants as t
use Rattle.js_lexer.proofs.Strings.{drop_drop}
use Rattle.js_lexer.proofs.Within.{front_case, continues_first, comment_end_le, find_passes, IsPart, part_within}
use Rattle.js_lexer.proofs.Longest.{all_and, quote_stops}

abbrev PieceAt : List ℕ → Front → Type 0
PieceAt text (Next n kind) = IsPiece (take n text) kind
PieceAt text (Bad kind n) = Unit {0}

pub same_number : (c d : ℕ) → (c == d) ≡ true → c ≡ d
same_number c d h = grind (arith, nat_tests)

pub left : (a b : Bool) → (a && b) ≡ true → a ≡ true
left true b e = refl
left false b e = absurd (cc)

pub right : (a b : Bool) → (a && b) ≡ true → b ≡ true
right true b e = e
right false b e = absurd (cc)

-- ---- runs

pub run_all : (p : ℕ → Bool) (cs : List ℕ) → list_all p (take (run p cs) cs) ≡ true
run_all p [] = refl
run_all p (c ∷ cs) = at (p c) refl (run_all p cs)
  where
    at : (b : Bool) → p c ≡ b → list_all p (take (run p cs) cs) ≡ true → list_all p (take (cond b (suc (run p cs)) 0) (c ∷ cs)) ≡ true
    at true e h = all_and p c (take (run p cs) cs) e h
    at false e h = refl

pub run_suc : (p : ℕ → Bool) (c : ℕ) (cs : List ℕ) → p c ≡ true → run p (c ∷ cs) ≡ suc (run p cs)
run_suc p c cs e = rw e refl

pub two_more : (n : ℕ) → 2 + n ≡ suc (suc n)
two_more n = omega arith

pub more_two : (n : ℕ) → n + 2 ≡ suc (suc n)
more_two n = omega arith

-- ---- comments

line_piece : (c d : ℕ) (cs : List ℕ) → c ≡ 47 → d ≡ 47 → PieceAt (c ∷ d ∷ cs) (f.line_comment cs)
line_piece c d cs e h =
    let r = run in_line cs in
    subst (λ m. IsPiece (take m (c ∷ d ∷ cs)) None) (sym (two_more r))
    (subst (λ x. IsPiece (x ∷ d ∷ take r cs) None) (sym e) (subst (λ y. IsPiece (47 ∷ y ∷ take r cs) None) (sym h) (p.line_comment (run_all in_line cs))))

comment_two : (cs : List ℕ) (k : ℕ) → f.comment_end cs ≡ Some k → 2 ≤ k
comment_two [] k e = absurd (cc)
comment_two (c ∷ cs) k e = at (f.closes_comment (c ∷ cs)) (f.comment_end cs) refl e (comment_two cs)
  where
    at : (b : Bool) (o : Option ℕ) → f.comment_end cs ≡ o → cond b (Some 2) (option_map suc o) ≡ Some k → ((j : ℕ) → f.comment_end cs ≡ Some j → 2 ≤ j) → 2 ≤ k
    at true o h e rec = let same : 2 ≡ k = cc in omega arith
    at false None h e rec = absurd (cc)
    at false (Some j) h e rec = let low = rec j h in let same : suc j ≡ k = cc in omega arith

comment_take : (cs : List ℕ) (k : ℕ) → f.comment_end cs ≡ Some k → f.comment_end (take k cs) ≡ Some k
comment_take [] k e = absurd (cc)
comment_take (c ∷ []) k e = last (c == 42) e
  where
    last : (b : Bool) → cond (b && false) (Some 2) None ≡ Some k → f.comment_end (take k (c ∷ [])) ≡ Some k
    last true e = absurd (cc)
    last false e = absurd (cc)
comment_take (c ∷ d ∷ cs) k e = at ((c == 42) && (d == 47)) refl (f.comment_end (d ∷ cs)) refl e (comment_take (d ∷ cs))
  where
    further : (j : ℕ) → ((c == 42) && (d == 47)) ≡ false → 2 ≤ j → f.comment_end (take j (d ∷ cs)) ≡ Some j → f.comment_end (take (suc j) (c ∷ d ∷ cs)) ≡ Some (suc j)
    further zero b le h = absurd (omega arith)
    further (suc i) b le h = rw b (ap (option_map suc) h)

    at : (b : Bool) → ((c == 42) && (d == 47)) ≡ b → (o : Option ℕ) → f.comment_end (d ∷ cs) ≡ o → cond b (Some 2) (option_map suc o) ≡ Some k
        → ((j : ℕ) → f.comment_end (d ∷ cs) ≡ Some j → f.comment_end (take j (d ∷ cs)) ≡ Some j) → f.comment_end (take k (c ∷ d ∷ cs)) ≡ Some k
    at true b o h e rec = let same : 2 ≡ k = cc in subst (λ n. f.comment_end (take n (c ∷ d ∷ cs)) ≡ Some n) same (rw b refl)
    at false b None h e rec = absurd (cc)
    at false b (Some j) h e rec =
        let same : suc j ≡ k = cc in
        subst (λ n. f.comment_end (take n (c ∷ d ∷ cs)) ≡ Some n) same (further j b (comment_two (d ∷ cs) j h) (rec j h))

pub length_taken : (n : ℕ) (cs : List ℕ) → n ≤ length cs → length (take n cs) ≡ n
length_taken zero cs le = refl
length_taken (suc n) [] le = absurd (omega arith)
length_taken (suc n) (c ∷ cs) le = ap suc (length_taken n cs (omega arith))

long_piece : (c d : ℕ) (cs : List ℕ) → c ≡ 47 → d ≡ 42 → PieceAt (c ∷ d ∷ cs) (f.long_comment (f.comment_end cs))
long_piece c d cs e h = at (f.comment_end cs) refl
  where
    within : (k : ℕ) → f.comment_end cs ≡ Some k → k ≤ length cs
    within k same = let P : Option ℕ → Type 0 = λ o. IfSome o (λ n. n ≤ length cs) in subst P same (comment_end_le cs)

    at : (o : Option ℕ) → f.comment_end cs ≡ o → PieceAt (c ∷ d ∷ cs) (f.long_comment o)
    at None same = tt
    at (Some k) same =
        subst (λ m. IsPiece (take m (c ∷ d ∷ cs)) None) (sym (two_more k))
        (subst (λ x. IsPiece (x ∷ d ∷ take k cs) None) (sym e)
        (subst (λ y. IsPiece (47 ∷ y ∷ take k cs) None) (sym h)
        (p.long_comment (comment_take cs k same ∙ ap Some (sym (length_taken k cs (within k same)))))))

-- ---- marks

pub begins_take : (xs cs : List ℕ) → begins xs cs ≡ true → take (length xs) cs ≡ xs
begins_take [] cs e = refl
begins_take (x ∷ xs) [] e = absurd (cc)
begins_take (x ∷ xs) (c ∷ cs) e =
    let head = same_number x c (left (x == c) (begins xs cs) e) in
    let tail = begins_take xs cs (right (x == c) (begins xs cs) e) in cc

mark_piece : (cs : List ℕ) → PieceAt cs (f.mark cs)
mark_piece cs = at (front_mark cs) refl
  where
    at : (o : Option Mark) → front_mark cs ≡ o → PieceAt cs (f.mark_or_fault o)
    at None e = tt
    at (Some m) e =
        subst (λ u. IsPiece u (Some (t.Mark m))) (sym (begins_take (spelling m) cs (find_passes (λ x. begins (spelling x) cs) marks m e))) (p.mark m)

-- ---- numbers

tested_piece : (cs : List ℕ) (n value : ℕ) (fault : Option LexKind) → IsPiece (take n cs) (Some (t.Number value)) → PieceAt cs (f.tested_number n value fault)
tested_piece cs n value (Some kind) h = tt
tested_piece cs n value None h = front_case (PieceAt cs) (nat_lt value (2 ^ 53)) (Next n (Some (t.Number value))) (Bad Rattle.js_lexer.specs.declared.token.LexKind.TheVariants.WideNumber 0) (λ _. h) (λ _. tt)

hex_piece : (cs : List ℕ) → f.is_hex_number cs ≡ true → PieceAt cs (f.hex_number (drop 2 cs))
hex_piece [] e = absurd (cc)
hex_piece (a ∷ []) e = absurd (cc)
hex_piece (a ∷ b ∷ []) e = absurd (cc)
hex_piece (a ∷ b ∷ d ∷ cs) e =
    let n = run is_hex_digit (d ∷ cs) in
    let rest = right (a == 48) (((b == 120) || (b == 88)) && is_hex_digit d) e in
    let zero_first = same_number a 48 (left (a == 48) (((b == 120) || (b == 88)) && is_hex_digit d) e) in
    let x = left ((b == 120) || (b == 88)) (is_hex_digit d) rest in
    let digit = right ((b == 120) || (b == 88)) (is_hex_digit d) rest in
    let r = run is_hex_digit cs in
    let at_r : IsPiece (take (suc (suc (suc r))) (a ∷ b ∷ d ∷ cs)) (Some (t.Number (number_of 16 (take (suc r) (d ∷ cs))))) =
    subst (λ y. IsPiece (y ∷ b ∷ d ∷ take r cs) (Some (t.Number (number_of 16 (d ∷ take r cs))))) (sym zero_first) (p.hexadecimal x digit (run_all is_hex_digit cs)) in
    let at_n : IsPiece (take (suc (suc n)) (a ∷ b ∷ d ∷ cs)) (Some (t.Number (number_of 16 (take n (d ∷ cs))))) =
    subst (λ m. IsPiece (take (suc (suc m)) (a ∷ b ∷ d ∷ cs)) (Some (t.Number (number_of 16 (take m (d ∷ cs)))))) (sym (run_suc is_hex_digit d cs digit)) at_r in
    tested_piece (a ∷ b ∷ d ∷ cs) (2 + n) (number_of 16 (take n (d ∷ cs))) (f.after_number true (drop n (d ∷ cs)))
    (subst (λ m. IsPiece (take m (a ∷ b ∷ d ∷ cs)) (Some (t.Number (number_of 16 (take n (d ∷ cs)))))) (sym (two_more n)) at_n)

decimal_piece : (c : ℕ) (cs : List ℕ) → is_digit c ≡ true → PieceAt (c ∷ cs) (f.decimal_number (c ∷ cs))
decimal_piece c cs d =
    let n = f.decimal_length (c ∷ cs) in
    tested_piece (c ∷ cs) n (number_of 10 (take n (c ∷ cs))) (f.after_number false (drop n (c ∷ cs))) (at (c == 48) refl)
  where
    at : (b : Bool) → (c == 48) ≡ b → IsPiece (take (cond b 1 (run is_digit (c ∷ cs))) (c ∷ cs)) (Some (t.Number (number_of 10 (take (cond b 1 (run is_digit (c ∷ cs))) (c ∷ cs)))))
    at true e = subst (λ x. IsPiece (x ∷ []) (Some (t.Number (number_of 10 (x ∷ []))))) (sym (same_number c 48 e)) p.zero
    at false e =
        subst (λ m. IsPiece (take m (c ∷ cs)) (Some (t.Number (number_of 10 (take m (c ∷ cs)))))) (sym (run_suc is_digit c cs d)) (p.decimal e d (run_all is_digit cs))

-- ---- names

name_piece : (c : ℕ) (cs : List ℕ) → begins_name c ≡ true → PieceAt (c ∷ cs) (f.name (c ∷ cs))
name_piece c cs b =
    subst (λ m. IsPiece (take m (c ∷ cs)) (Some (name_kind (utf16 (take m (c ∷ cs)))))) (sym (run_suc continues_name c cs (continues_first c b))) (p.name b (run_all continues_name cs))

-- ---- strings

-- a part of a string is the same in a front of the text that it lies in
abbrev TakesSame : ℕ → Option (ℕ × ℕ) → Option (ℕ × ℕ) → Type 0
TakesSame m None after = Unit {0}
TakesSame m (Some part) after = part.1 ≤ m → after ≡ Some part

takes_case : (m : ℕ) (b : Bool) (x y x' y' : Option (ℕ × ℕ)) → TakesSame m x x' → TakesSame m y y' → TakesSame m (cond b x y) (cond b x' y')
takes_case m true x y x' y' h k = h
takes_case m false x y x' y' h k = k

takes_none : (m : ℕ) (b : Bool) (x y after : Option (ℕ × ℕ)) → TakesSame m x after → TakesSame m y after → TakesSame m (cond b x y) after
takes_none m true x y after h k = h
takes_none m false x y after h k = k

takes_self : (m : ℕ) (x : Option (ℕ × ℕ)) → TakesSame m x x
takes_self m None = tt
takes_self m (Some part) = λ _. refl

two_takes : (cs : List ℕ) (m : ℕ) → TakesSame (suc (suc m)) (f.two_digits cs) (f.two_digits (take m cs))
two_takes [] m = tt
two_takes (a ∷ []) m = tt
two_takes (a ∷ b ∷ cs) zero = takes_none 2 (is_hex_digit a && is_hex_digit b) _ _ None (λ le. absurd (omega arith)) tt
two_takes (a ∷ b ∷ cs) (suc zero) = takes_none 3 (is_hex_digit a && is_hex_digit b) _ _ None (λ le. absurd (omega arith)) tt
two_takes (a ∷ b ∷ cs) (suc (suc m)) = takes_self (suc (suc (suc (suc m)))) (f.two_digits (a ∷ b ∷ cs))

four_takes : (cs : List ℕ) (m : ℕ) → TakesSame (suc (suc m)) (f.four_digits cs) (f.four_digits (take m cs))
four_takes [] m = tt
four_takes (a ∷ []) m = tt
four_takes (a ∷ b ∷ []) m = tt
four_takes (a ∷ b ∷ c ∷ []) m = tt
four_takes (a ∷ b ∷ c ∷ d ∷ cs) zero = takes_none 2 (is_hex_digit a && (is_hex_digit b && (is_hex_digit c && is_hex_digit d))) _ _ None (λ le. absurd (omega arith)) tt
four_takes (a ∷ b ∷ c ∷ d ∷ cs) (suc zero) = takes_none 3 (is_hex_digit a && (is_hex_digit b && (is_hex_digit c && is_hex_digit d))) _ _ None (λ le. absurd (omega arith)) tt
four_takes (a ∷ b ∷ c ∷ d ∷ cs) (suc (suc zero)) = takes_none 4 (is_hex_digit a && (is_hex_digit b && (is_hex_digit c && is_hex_digit d))) _ _ None (λ le. absurd (omega arith)) tt
four_takes (a ∷ b ∷ c ∷ d ∷ cs) (suc (suc (suc zero))) = takes_none 5 (is_hex_digit a && (is_hex_digit b && (is_hex_digit c && is_hex_digit d))) _ _ None (λ le. absurd (omega arith)) tt
four_takes (a ∷ b ∷ c ∷ d ∷ cs) (suc (suc (suc (suc m)))) = takes_self (suc (suc (suc (suc (suc (suc m)))))) (f.four_digits (a ∷ b ∷ c ∷ d ∷ cs))

null_takes : (b : Bool) (cs : List ℕ) (m : ℕ) → TakesSame (suc (suc m)) (cond (b && not (first_is is_digit cs)) (Some (0, 2)) None) (cond (b && not (first_is is_digit (take m cs))) (Some (0, 2)) None)
null_takes false cs m = tt
null_takes true [] zero = λ _. refl
null_takes true [] (suc m) = λ _. refl
null_takes true (c ∷ cs) zero = at (is_digit c)
  where
    at : (b : Bool) → TakesSame 2 (cond (not b) (Some (0, 2)) None) (Some (0, 2))
    at true = tt
    at false = λ _. refl
null_takes true (c ∷ cs) (suc m) = takes_self (suc (suc (suc m))) (cond (not (is_digit c)) (Some (0, 2)) None)

-- an escape takes two characters at least
two_short : (cs : List ℕ) → TakesSame 1 (f.two_digits cs) None
two_short [] = tt
two_short (a ∷ []) = tt
two_short (a ∷ b ∷ cs) = takes_none 1 (is_hex_digit a && is_hex_digit b) _ _ None (λ le. absurd (omega arith)) tt

four_short : (cs : List ℕ) → TakesSame 1 (f.four_digits cs) None
four_short [] = tt
four_short (a ∷ []) = tt
four_short (a ∷ b ∷ []) = tt
four_short (a ∷ b ∷ c ∷ []) = tt
four_short (a ∷ b ∷ c ∷ d ∷ cs) = takes_none 1 (is_hex_digit a && (is_hex_digit b && (is_hex_digit c && is_hex_digit d))) _ _ None (λ le. absurd (omega arith)) tt

escape_short : (c : ℕ) (cs : List ℕ) → TakesSame 1 (f.escape (c ∷ cs)) None
escape_short c cs =
    takes_none 1 (c == 120) _ _ None (two_short cs)
    (takes_none 1 (c == 117) _ _ None (four_short cs)
    (takes_none 1 (is_digit c) _ _ None (takes_none 1 ((c == 48) && not (first_is is_digit cs)) _ _ None (λ le. absurd (omega arith)) tt)
    (takes_none 1 (is_line_terminator c) _ _ None tt (λ le. absurd (omega arith)))))

escape_takes : (cs : List ℕ) (m : ℕ) → TakesSame (suc m) (f.escape cs) (f.escape (take m cs))
escape_takes [] m = tt
escape_takes (c ∷ cs) zero = escape_short c cs
escape_takes (c ∷ cs) (suc m) =
    takes_case (suc (suc m)) (c == 120) _ _ _ _ (two_takes cs m)
    (takes_case (suc (suc m)) (c == 117) _ _ _ _ (four_takes cs m)
    (takes_case (suc (suc m)) (is_digit c) _ _ _ _ (null_takes (c == 48) cs m) (takes_self (suc (suc m)) (cond (is_line_terminator c) None (Some (f.escaped c, 2))))))

nothing_takes : (cs : List ℕ) (o : Option (ℕ × ℕ)) → IsPart cs o → TakesSame 0 o None
nothing_takes cs None h = tt
nothing_takes cs (Some part) h = λ le. absurd (omega (arith, h.0, le))

part_takes : (quote : ℕ) (cs : List ℕ) (m : ℕ) → TakesSame m (string_part quote cs) (string_part quote (take m cs))
part_takes quote [] m = tt
part_takes quote (c ∷ cs) zero = nothing_takes (c ∷ cs) (string_part quote (c ∷ cs)) (part_within quote (c ∷ cs))
part_takes quote (c ∷ cs) (suc m) =
    takes_case (suc m) (c == 92) _ _ _ _ (escape_takes cs m) (takes_self (suc m) (cond ((c == quote) || is_line_terminator c) None (Some (c, 1))))

part_take : (quote : ℕ) (cs : List ℕ) (m value len : ℕ) → string_part quote cs ≡ Some (value, len) → len ≤ m → string_part quote (take m cs) ≡ Some (value, len)
part_take quote cs m value len e le = (subst (λ o. TakesSame m o (string_part quote (take m cs))) e (part_takes quote cs m)) le

drop_take : (i k : ℕ) (cs : List ℕ) → drop i (take (suc (i + k)) cs) ≡ take (suc k) (drop i cs)
drop_take zero k cs = ap (λ m. take m cs) (zero_more k)
  where
    zero_more : (k : ℕ) → suc (0 + k) ≡ suc k
    zero_more k = omega arith
drop_take (suc i) k [] = refl
drop_take (suc i) k (c ∷ cs) = ap (λ m. drop i (take m cs)) (shift i k) ∙ drop_take i k cs
  where
    shift : (i k : ℕ) → suc i + k ≡ suc (i + k)
    shift i k = omega arith

drop_take_one : (n : ℕ) (cs : List ℕ) (q : ℕ) (rest : List ℕ) → drop n cs ≡ q ∷ rest → drop n (take (suc n) cs) ≡ q ∷ []
drop_take_one zero cs q rest e = ap (take 1) e
drop_take_one (suc n) [] q rest e = absurd (cc)
drop_take_one (suc n) (c ∷ cs) q rest e = drop_take_one n cs q rest e

-- the inside of a string is the same in the text up to the quote that closes it
inside_take : (quote : ℕ) (cs : List ℕ) (n : ℕ) (units rest : List ℕ) → is_quote quote ≡ true → IsInside quote cs n units → drop n cs ≡ quote ∷ rest → IsInside quote (take (suc n) cs) n units
inside_take quote cs n units rest q (f.none e) closed = f.none (ap (string_part quote) (ap (take 1) closed) ∙ quote_stops quote [] q)
inside_take quote cs n units rest q (f.more value len k us e inside) closed =
    f.more value len k us (part_take quote cs (suc (len + k)) value len e (omega arith))
    (subst (λ ds. IsInside quote ds k us) (sym (drop_take len k cs)) (inside_take quote (drop len cs) k us rest q inside (drop_drop cs len k ∙ closed)))

string_piece : (quote : ℕ) (cs : List ℕ) (n : ℕ) (units rest : List ℕ) → is_quote quote ≡ true → IsInside quote cs n units → drop n cs ≡ rest → PieceAt (quote ∷ cs) (string_end quote n units rest)
string_piece quote cs n units [] q inside e = tt
string_piece quote cs n units (c ∷ rest) q inside e =
    let P = PieceAt (quote ∷ cs) in
    front_case P (c == quote) _ _ (λ same. closed same)
    (λ _. front_case P ((c == 92) && not (f.is_line_end rest)) _ _ (λ _. tt) (λ _. tt))
  where
    closed : (c == quote) ≡ true → IsPiece (take (n + 2) (quote ∷ cs)) (Some (t.Str units))
    closed same =
        let there : drop n cs ≡ quote ∷ rest = e ∙ ap (λ x. x ∷ rest) (same_number c quote same) in
        subst (λ m. IsPiece (take m (quote ∷ cs)) (Some (t.Str units))) (sym (more_two n)) (p.string n units q (inside_take quote cs n units rest q inside there) (drop_take_one n cs quote rest there))

-- ---- any place

slash_piece : (c : ℕ) (cs : List ℕ) → c ≡ 47 → PieceAt (c ∷ cs) (f.slash (c ∷ cs) cs)
slash_piece c [] e = mark_piece (c ∷ [])
slash_piece c (d ∷ cs) e =
    let P = PieceAt (c ∷ d ∷ cs) in
    front_case P (d == 47) _ _ (λ h. line_piece c d cs e (same_number d 47 h))
    (λ _. front_case P (d == 42) _ _ (λ h. long_piece c d cs e (same_number d 42 h)) (λ _. mark_piece (c ∷ d ∷ cs)))

by_piece : (c : ℕ) (cs : List ℕ) → PieceAt (c ∷ cs) (front_by c cs)
by_piece c cs =
    let P = PieceAt (c ∷ cs) in
    front_case P (is_blank c) _ _ (λ e. p.blank e)
    (λ _. front_case P (c == 47) _ _ (λ e. slash_piece c cs (same_number c 47 e))
    (λ _. front_case P (begins_name c) _ _ (λ e. name_piece c cs e)
    (λ _. front_case P (is_digit c) _ _ (λ e. front_case P (f.is_hex_number (c ∷ cs)) _ _ (λ h. hex_piece (c ∷ cs) h) (λ _. decimal_piece c cs e))
    (λ _. front_case P ((c == 46) && first_is is_digit cs) _ _ (λ _. tt)
    (λ _. front_case P (c == 92) _ _ (λ _. tt) (λ _. mark_piece (c ∷ cs)))))))

at_piece : (text : List ℕ) (front : Front) → StandsAt text front → PieceAt text front
at_piece text front (f.string {c = c} {cs = cs} n units q inside) = string_piece c cs n units (drop n cs) q inside refl
at_piece text front (f.other {c = c} {cs = cs} unquoted) = by_piece c cs

pub a_piece_stands : (text : List ℕ) (n : ℕ) (kind : Option TokenKind) → StandsAt text (Next n kind) → IsPiece (take n text) kind
a_piece_stands text n kind s = at_piece text (Next n kind) s
