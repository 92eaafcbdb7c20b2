-- How the digits of a number are read from the left.
use Rattle.std.proofs.Common.{◌≡◌, ℕ, zero, suc, ◌+◌, ◌*◌, ◌-◌, ◌≤◌, ◌<◌, ◌&&◌, ◌==◌, Bool, true, false, not, List, [], ◌∷◌, drop, get_or, length, nat_le, Some, None, refl, ap, sym, ◌∙◌, arith}
use Rattle.std.specs.Prelude.{fold}
use Rattle.std.proofs.lemmas.List.{at_drop_more, at_drop_all}
use Rattle.std.proofs.lemmas.Bool.Decides.{nat_tests}
use Rattle.std.specs.Char.{digit_value}
use Rattle.std.specs.List.{list_all}
use Rattle.js_lexer.specs.Characters.{first_is, is_digit}
use Rattle.js_tree.specs.Numbering.{is_function_number}
use Rattle.js_parser.specs.Names.{digit_of}

-- no digit is left, or the first one of all is above 0
abbrev pub starts : ℕ → List ℕ → Bool
starts zero digits = not (first_is (λ c. nat_le c 48) digits)
starts (suc n) digits = true

abbrev pub with_digits : ℕ → List ℕ → ℕ
with_digits = fold (λ n c. 10 * n + digit_value c)

-- behind digits of this number, the digits that are left go on with the number of a function
abbrev pub goes_on : ℕ → List ℕ → Bool
goes_on n digits =
    list_all is_digit digits && (starts n digits && is_function_number (with_digits n digits))

pub record IsDigit (c v : ℕ) : Type 0 where
  pub digit : is_digit c ≡ true
  pub value : digit_value c ≡ v
  pub first : 0 < v → nat_le c 48 ≡ false
  pub last : v ≡ 0 → nat_le c 48 ≡ true
  pub small : v ≤ 9

value_at : (c : ℕ) → 48 ≤ c → c ≤ 57 → digit_value c ≡ c - 48
value_at c least most = grind (arith, nat_tests)

within : (c : ℕ) → is_digit c ≡ true → (48 ≤ c) × (c ≤ 57)
within c h = (grind (arith, nat_tests), grind (arith, nat_tests))

-- what a digit is
pub is_a_digit : (c v : ℕ) → Some v ≡ digit_of c → IsDigit c v
is_a_digit c v h =
    elim (is_digit c) as (λ b. is_digit c ≡ b → IsDigit c v) [
      | true ↦ λ e. let w = within c e in let f : v ≡ c - 48 = cc in record {
        digit = e;
        value = value_at c w.0 w.1 ∙ sym f;
        first = λ l. grind (arith, nat_tests);
        last = λ l. grind (arith, nat_tests);
        small = omega arith;
      }
      | false ↦ λ e. absurd (cc)
    ] refl

pub is_no_digit : (c : ℕ) → None ≡ digit_of c → is_digit c ≡ false
is_no_digit c h =
    elim (is_digit c) as (λ b. is_digit c ≡ b → is_digit c ≡ false) [
      | true ↦ λ e. absurd (cc)
      | false ↦ λ e. e
    ] refl

grows : (n : ℕ) (cs : List ℕ) → n ≤ with_digits n cs
grows n [] = omega arith
grows n (c ∷ cs) = omega (arith, grows (10 * n + digit_value c) cs)

too_great : (n : ℕ) → 65535 < n → is_function_number n ≡ false
too_great n h = grind (arith, nat_tests)

never : (a b : Bool) → (a && (b && false)) ≡ false
never true true = refl
never true false = refl
never false b = refl

-- the first digit of those left
over : (n c v m : ℕ) (cs : List ℕ) → IsDigit c v → m ≡ 10 * n + v → 65535 < m → goes_on n (c ∷ cs) ≡ false
over n c v m cs d e h =
    ap (λ b. list_all is_digit (c ∷ cs) && (starts n (c ∷ cs) && b))
    (too_great (with_digits n (c ∷ cs)) (omega (arith, d, grows (10 * n + digit_value c) cs)))
    ∙ never (list_all is_digit (c ∷ cs)) (starts n (c ∷ cs))

at_zero : (n c v m : ℕ) (cs : List ℕ) → IsDigit c v → m ≡ 10 * n + v → m ≡ 0 → goes_on n (c ∷ cs) ≡ false
at_zero zero c v m cs d e h = let f = d.last (omega arith) in rw f (grind arith)
at_zero (suc n) c v m cs d e h = absurd (omega arith)

starts_above : (n c v m : ℕ) (cs : List ℕ) → IsDigit c v → m ≡ 10 * n + v → 0 < m → starts n (c ∷ cs) ≡ true
starts_above zero c v m cs d e h = ap not (d.first (omega arith))
starts_above (suc n) c v m cs d e h = refl

started : (m : ℕ) (cs : List ℕ) → 0 < m → starts m cs ≡ true
started zero cs h = absurd (omega arith)
started (suc m) cs h = refl

further : (n c v m : ℕ) (cs : List ℕ) → IsDigit c v → m ≡ 10 * n + v → 0 < m → goes_on n (c ∷ cs) ≡ goes_on m cs
further n c v m cs d e h =
    let sum : 10 * n + digit_value c ≡ m = omega (arith, d) in
    ap
    (λ k. (is_digit c && list_all is_digit cs)
    && (starts n (c ∷ cs) && is_function_number (with_digits k cs)))
    sum
    ∙ ap
    (λ b. (b && list_all is_digit cs)
    && (starts n (c ∷ cs) && is_function_number (with_digits m cs)))
    d.digit
    ∙ ap (λ b. list_all is_digit cs && (b && is_function_number (with_digits m cs)))
    (starts_above n c v m cs d e h ∙ sym (started m cs h))

no_digit : (n c : ℕ) (cs : List ℕ) → is_digit c ≡ false → goes_on n (c ∷ cs) ≡ false
no_digit n c cs h = rw h refl

-- at a place in the digits
pub stops : (n i : ℕ) (cs : List ℕ) → i < length cs → is_digit (get_or cs i 0) ≡ false → goes_on n (drop i cs) ≡ false
stops n i cs l h =
    at_drop_more (goes_on n) cs i 0 l ∙ no_digit n (get_or cs i 0) (drop (i + 1) cs) h

pub is_over : (n v m i : ℕ) (cs : List ℕ) → i < length cs → IsDigit (get_or cs i 0) v → m ≡ 10 * n + v → 65535 < m → goes_on n (drop i cs) ≡ false
is_over n v m i cs l d e h =
    at_drop_more (goes_on n) cs i 0 l ∙ over n (get_or cs i 0) v m (drop (i + 1) cs) d e h

pub is_at_zero : (n v m i : ℕ) (cs : List ℕ) → i < length cs → IsDigit (get_or cs i 0) v → m ≡ 10 * n + v → m ≡ 0 → goes_on n (drop i cs) ≡ false
is_at_zero n v m i cs l d e h =
    at_drop_more (goes_on n) cs i 0 l ∙ at_zero n (get_or cs i 0) v m (drop (i + 1) cs) d e h

pub goes_further : (n v m i : ℕ) (cs : List ℕ) → i < length cs → IsDigit (get_or cs i 0) v → m ≡ 10 * n + v → 0 < m → goes_on n (drop i cs) ≡ goes_on m (drop (i + 1) cs)
goes_further n v m i cs l d e h =
    at_drop_more (goes_on n) cs i 0 l ∙ further n (get_or cs i 0) v m (drop (i + 1) cs) d e h

at_end : (n : ℕ) → n ≤ 65535 → goes_on n [] ≡ not (n == 0)
at_end zero l = refl
at_end (suc n) l = grind (arith, nat_tests)

pub goes_to_the_end : (n i : ℕ) (cs : List ℕ) → length cs ≤ i → n ≤ 65535 → goes_on n (drop i cs) ≡ not (n == 0)
goes_to_the_end n i cs l h = at_drop_all (goes_on n) cs i l ∙ at_end n h
