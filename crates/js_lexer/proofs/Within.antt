-- Pieces lie within the text, and are not empty.
use Rattle.std.proofs.Common.{◌≡◌, ℕ, suc, ◌+◌, ◌^◌, ◌≤◌, ◌<◌, Bool, true, false, ◌||◌, ◌&&◌, ◌==◌, nat_lt, not, List, [], ◌∷◌, length, take, drop, Option, Some, None, IfSome, cond, refl, ap, subst, arith, lit<, length-drop}
use Rattle.std.specs.List.{find}
use Rattle.std.specs.Option.{option_map}
use Rattle.unicode_ident.specs.Ident.{is_xid_start, is_xid_continue}
use Rattle.unicode_ident.proofs.IdentLemmas.{is_xid_start-is_xid_continue}
use Rattle.dl_text.specs.Place.{is_line_terminator}
use Rattle.js_lexer.specs.Characters.{begins_name, continues_name, is_digit, is_hex_digit, is_at, first_is, run, begins, in_line, number_of}
use Rattle.js_lexer.specs.Marks.{spelling, marks, front_mark}
use Rattle.js_lexer.specs.Fronts as f
use Rattle.js_lexer.specs.Fronts.{StandsAt, IsInside, string_part, string_end, front_by}
use Rattle.js_lexer.specs.declared.mark.Mark.{Mark}
use Rattle.js_lexer.specs.declared.mark.Mark.TheVariants as m
use Rattle.js_lexer.specs.declared.front.Front.{Front}
use Rattle.js_lexer.specs.declared.front.Front.TheVariants.{Next, Bad}
use Rattle.js_lexer.specs.declared.token.LexKind.{LexKind}

-- a piece is not empty, and it or what stands before the place of a fault lies within the text
abbrev pub IsWithin : List ℕ → Front → Type 0
IsWithin cs (Next n kind) = (0 < n) × (n ≤ length cs)
IsWithin cs (Bad kind n) = n ≤ length cs

pub front_case : (P : Front → Type 0) (b : Bool) (x y : Front) → (b ≡ true → P x) → (b ≡ false → P y) → P (cond b x y)
front_case P true x y yes' no' = yes' refl
front_case P false x y yes' no' = no' refl

-- a part of a string: not empty, and within the text
abbrev pub IsPart : List ℕ → Option (ℕ × ℕ) → Type 0
IsPart cs None = Unit {0}
IsPart cs (Some part) = (0 < part.1) × (part.1 ≤ length cs)

part_case : (cs : List ℕ) (b : Bool) (x y : Option (ℕ × ℕ)) → IsPart cs x → IsPart cs y → IsPart cs (cond b x y)
part_case cs true x y h k = h
part_case cs false x y h k = k

two_digits : (c d : ℕ) (cs : List ℕ) → IsPart (c ∷ d ∷ cs) (f.two_digits cs)
two_digits c d [] = tt
two_digits c d (x ∷ []) = tt
two_digits c d (x ∷ y ∷ cs) = part_case (c ∷ d ∷ x ∷ y ∷ cs) (is_hex_digit x && is_hex_digit y) _ _ (omega arith, omega arith) tt

four_digits : (c d : ℕ) (cs : List ℕ) → IsPart (c ∷ d ∷ cs) (f.four_digits cs)
four_digits c d [] = tt
four_digits c d (x ∷ []) = tt
four_digits c d (x ∷ y ∷ []) = tt
four_digits c d (x ∷ y ∷ z ∷ []) = tt
four_digits c d (x ∷ y ∷ z ∷ w ∷ cs) = part_case (c ∷ d ∷ x ∷ y ∷ z ∷ w ∷ cs) (is_hex_digit x && (is_hex_digit y && (is_hex_digit z && is_hex_digit w))) _ _ (omega arith, omega arith) tt

escape : (c : ℕ) (cs : List ℕ) → IsPart (c ∷ cs) (f.escape cs)
escape c [] = tt
escape c (d ∷ cs) =
    part_case (c ∷ d ∷ cs) (d == 120) _ _ (two_digits c d cs)
    (part_case (c ∷ d ∷ cs) (d == 117) _ _ (four_digits c d cs)
    (part_case (c ∷ d ∷ cs) (is_digit d) _ _ (part_case (c ∷ d ∷ cs) ((d == 48) && not (first_is is_digit cs)) _ _ (omega arith, omega arith) tt)
    (part_case (c ∷ d ∷ cs) (is_line_terminator d) _ _ tt (omega arith, omega arith))))

pub part_within : (quote : ℕ) (cs : List ℕ) → IsPart cs (string_part quote cs)
part_within quote [] = tt
part_within quote (c ∷ cs) =
    part_case (c ∷ cs) (c == 92) _ _ (escape c cs) (part_case (c ∷ cs) ((c == quote) || is_line_terminator c) _ _ tt (omega arith, omega arith))

pub part_bounds : (quote : ℕ) (cs : List ℕ) (value len : ℕ) → string_part quote cs ≡ Some (value, len) → (0 < len) × (len ≤ length cs)
part_bounds quote cs value len e = subst (IsPart cs) e (part_within quote cs)

pub inside_within : (quote : ℕ) (cs : List ℕ) (n : ℕ) (units : List ℕ) → IsInside quote cs n units → n ≤ length cs
inside_within quote cs n units (f.none e) = omega arith
inside_within quote cs n units (f.more value len m us e rest) =
    let b = part_bounds quote cs value len e in let r = inside_within quote (drop len cs) m us rest in omega (arith, length-drop len cs)

end_within : (quote n : ℕ) (units cs rest : List ℕ) → n ≤ length cs → rest ≡ drop n cs → IsWithin (quote ∷ cs) (string_end quote n units rest)
end_within quote n units cs [] le e = omega arith
end_within quote n units cs (c ∷ rest) le e =
    let l : suc (length rest) ≡ length (drop n cs) = ap length e in
    front_case (IsWithin (quote ∷ cs)) (c == quote) _ _ (λ _. (omega arith, omega (arith, length-drop n cs)))
    (λ _. front_case (IsWithin (quote ∷ cs)) ((c == 92) && not (f.is_line_end rest)) _ _ (λ _. omega (arith, length-drop n cs)) (λ _. omega arith))

pub run_le : (p : ℕ → Bool) (cs : List ℕ) → run p cs ≤ length cs
run_le p [] = omega arith
run_le p (c ∷ cs) = bound (p c) (run_le p cs)
  where
    bound : (b : Bool) → run p cs ≤ length cs → cond b (suc (run p cs)) 0 ≤ suc (length cs)
    bound true h = omega arith
    bound false h = omega arith

run_first : (p : ℕ → Bool) (c : ℕ) (cs : List ℕ) → p c ≡ true → 0 < run p (c ∷ cs)
run_first p c cs e = rw e (omega arith)

line_comment : (c d : ℕ) (cs : List ℕ) → IsWithin (c ∷ d ∷ cs) (f.line_comment cs)
line_comment c d cs = let h = run_le in_line cs in (omega arith, omega arith)

pub comment_end_le : (cs : List ℕ) → IfSome (f.comment_end cs) (λ n. n ≤ length cs)
comment_end_le [] = tt
comment_end_le (c ∷ cs) = closed cs (f.comment_end cs) (comment_end_le cs)
  where
    on : (ds : List ℕ) (o : Option ℕ) → IfSome o (λ n. n ≤ length ds) → IfSome (option_map suc o) (λ n. n ≤ suc (length ds))
    on ds None h = tt
    on ds (Some n) h = omega arith

    closed : (ds : List ℕ) (o : Option ℕ) → IfSome o (λ n. n ≤ length ds) → IfSome (cond ((c == 42) && is_at 47 ds) (Some 2) (option_map suc o)) (λ n. n ≤ suc (length ds))
    closed [] o h = elim (c == 42) as (λ b. IfSome (cond (b && false) (Some 2) (option_map suc o)) (λ n. n ≤ 1)) [ true ↦ on [] o h | false ↦ on [] o h ]
    closed (d ∷ ds) o h = elim ((c == 42) && (d == 47)) as (λ b. IfSome (cond b (Some 2) (option_map suc o)) (λ n. n ≤ suc (suc (length ds)))) [ true ↦ omega arith | false ↦ on (d ∷ ds) o h ]

long_comment : (c d : ℕ) (cs : List ℕ) → IsWithin (c ∷ d ∷ cs) (f.long_comment (f.comment_end cs))
long_comment c d cs = at (f.comment_end cs) (comment_end_le cs)
  where
    at : (o : Option ℕ) → IfSome o (λ n. n ≤ length cs) → IsWithin (c ∷ d ∷ cs) (f.long_comment o)
    at None h = omega arith
    at (Some n) h = (omega arith, omega arith)

wider : (a b x y : Bool) → (x ≡ true → y ≡ true) → (a || (b || x)) ≡ true → (a || (b || y)) ≡ true
wider true b x y f h = refl
wider false true x y f h = refl
wider false false x y f h = f h

pub continues_first : (c : ℕ) → begins_name c ≡ true → continues_name c ≡ true
continues_first c h = wider (c == 36) (c == 95) (is_xid_start c) (is_xid_continue c) (is_xid_start-is_xid_continue c) h

tested : (cs : List ℕ) (n value : ℕ) (fault : Option LexKind) → 0 < n → n ≤ length cs → IsWithin cs (f.tested_number n value fault)
tested cs n value (Some kind) low high = omega arith
tested cs n value None low high = front_case (IsWithin cs) (nat_lt value (2 ^ 53)) _ _ (λ _. (low, high)) (λ _. omega arith)

hex : (cs : List ℕ) → f.is_hex_number cs ≡ true → IsWithin cs (f.hex_number (drop 2 cs))
hex [] e = absurd (cc)
hex (a ∷ []) e = absurd (cc)
hex (a ∷ b ∷ []) e = absurd (cc)
hex (a ∷ b ∷ c ∷ cs) e = let h = run_le is_hex_digit (c ∷ cs) in tested (a ∷ b ∷ c ∷ cs) (2 + run is_hex_digit (c ∷ cs)) (number_of 16 (take (run is_hex_digit (c ∷ cs)) (c ∷ cs))) (f.after_number true (drop (run is_hex_digit (c ∷ cs)) (c ∷ cs))) (omega arith) (omega arith)

decimal : (c : ℕ) (cs : List ℕ) → is_digit c ≡ true → IsWithin (c ∷ cs) (f.decimal_number (c ∷ cs))
decimal c cs e = tested (c ∷ cs) (f.decimal_length (c ∷ cs)) (number_of 10 (take (f.decimal_length (c ∷ cs)) (c ∷ cs))) (f.after_number false (drop (f.decimal_length (c ∷ cs)) (c ∷ cs))) (low (c == 48)) (high (c == 48))
  where
    low : (b : Bool) → 0 < cond b 1 (run is_digit (c ∷ cs))
    low true = omega arith
    low false = run_first is_digit c cs e

    high : (b : Bool) → cond b 1 (run is_digit (c ∷ cs)) ≤ length (c ∷ cs)
    high true = omega arith
    high false = run_le is_digit (c ∷ cs)

pub mark_length : (mark : Mark) → 0 < length (spelling mark)
mark_length m.OpenBrace = lit< tt
mark_length m.CloseBrace = lit< tt
mark_length m.OpenParenthesis = lit< tt
mark_length m.CloseParenthesis = lit< tt
mark_length m.OpenBracket = lit< tt
mark_length m.CloseBracket = lit< tt
mark_length m.Dot = lit< tt
mark_length m.Semicolon = lit< tt
mark_length m.Comma = lit< tt
mark_length m.Less = lit< tt
mark_length m.Greater = lit< tt
mark_length m.LessEqual = lit< tt
mark_length m.GreaterEqual = lit< tt
mark_length m.Equal = lit< tt
mark_length m.NotEqual = lit< tt
mark_length m.StrictEqual = lit< tt
mark_length m.StrictNotEqual = lit< tt
mark_length m.Plus = lit< tt
mark_length m.Minus = lit< tt
mark_length m.Times = lit< tt
mark_length m.Slash = lit< tt
mark_length m.Percent = lit< tt
mark_length m.PlusPlus = lit< tt
mark_length m.MinusMinus = lit< tt
mark_length m.ShiftLeft = lit< tt
mark_length m.ShiftRight = lit< tt
mark_length m.ShiftRightUnsigned = lit< tt
mark_length m.BitAnd = lit< tt
mark_length m.BitOr = lit< tt
mark_length m.BitXor = lit< tt
mark_length m.Not = lit< tt
mark_length m.BitNot = lit< tt
mark_length m.And = lit< tt
mark_length m.Or = lit< tt
mark_length m.Question = lit< tt
mark_length m.Colon = lit< tt
mark_length m.Assign = lit< tt
mark_length m.PlusAssign = lit< tt
mark_length m.MinusAssign = lit< tt
mark_length m.TimesAssign = lit< tt
mark_length m.SlashAssign = lit< tt
mark_length m.PercentAssign = lit< tt
mark_length m.ShiftLeftAssign = lit< tt
mark_length m.ShiftRightAssign = lit< tt
mark_length m.ShiftRightUnsignedAssign = lit< tt
mark_length m.BitAndAssign = lit< tt
mark_length m.BitOrAssign = lit< tt
mark_length m.BitXorAssign = lit< tt

pub find_passes : {X : Type 0} (test : X → Bool) (xs : List X) (x : X) → find test xs ≡ Some x → test x ≡ true
find_passes {X} test [] x e = absurd (cc)
find_passes {X} test (y ∷ xs) x e = at (test y) refl (find_passes test xs x) e
  where
    at : (b : Bool) → test y ≡ b → (find test xs ≡ Some x → test x ≡ true) → cond b (Some y) (find test xs) ≡ Some x → test x ≡ true
    at true t h e = let same : y ≡ x = cc in subst (λ z. test z ≡ true) same t
    at false t h e = h e

pub begins_length : (xs cs : List ℕ) → begins xs cs ≡ true → length xs ≤ length cs
begins_length [] cs e = omega arith
begins_length (x ∷ xs) [] e = absurd (cc)
begins_length (x ∷ xs) (c ∷ cs) e = let h = begins_length xs cs (both (x == c) (begins xs cs) e) in omega arith
  where
    both : (a b : Bool) → (a && b) ≡ true → b ≡ true
    both true b e = e
    both false b e = absurd (cc)

mark : (cs : List ℕ) → IsWithin cs (f.mark cs)
mark cs = at (front_mark cs) refl
  where
    at : (o : Option Mark) → front_mark cs ≡ o → IsWithin cs (f.mark_or_fault o)
    at None e = omega arith
    at (Some m) e = (mark_length m, begins_length (spelling m) cs (find_passes (λ x. begins (spelling x) cs) marks m e))

slash : (c : ℕ) (cs : List ℕ) → IsWithin (c ∷ cs) (f.slash (c ∷ cs) cs)
slash c [] = mark (c ∷ [])
slash c (d ∷ cs) =
    let P = IsWithin (c ∷ d ∷ cs) in
    front_case P (d == 47) _ _ (λ _. line_comment c d cs) (λ _. front_case P (d == 42) _ _ (λ _. long_comment c d cs) (λ _. mark (c ∷ d ∷ cs)))

by_within : (c : ℕ) (cs : List ℕ) → IsWithin (c ∷ cs) (front_by c cs)
by_within c cs =
    let P = IsWithin (c ∷ cs) in
    front_case P (f.is_blank c) _ _ (λ _. (omega arith, omega arith))
    (λ _. front_case P (c == 47) _ _ (λ _. slash c cs)
    (λ _. front_case P (begins_name c) _ _ (λ e. (run_first continues_name c cs (continues_first c e), run_le continues_name (c ∷ cs)))
    (λ _. front_case P (is_digit c) _ _ (λ e. front_case P (f.is_hex_number (c ∷ cs)) _ _ (λ h. hex (c ∷ cs) h) (λ _. decimal c cs e))
    (λ _. front_case P ((c == 46) && first_is is_digit cs) _ _ (λ _. omega arith)
    (λ _. front_case P (c == 92) _ _ (λ _. omega arith) (λ _. mark (c ∷ cs)))))))

pub stands_within : (cs : List ℕ) (front : Front) → StandsAt cs front → IsWithin cs front
stands_within cs front (f.string {c = c} {cs = ds} n units quoted inside) = end_within c n units ds (drop n ds) (inside_within c ds n units inside) refl
stands_within cs front (f.other {c = c} {cs = ds} unquoted) = by_within c ds
