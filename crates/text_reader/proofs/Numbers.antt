-- A number that is read is the one whose decimal digits stand there.
use Rattle.std.proofs.Common.{◌≡◌, ℕ, zero, suc, ◌+◌, ◌-◌, ◌*◌, ◌^◌, ◌≤◌, ◌<◌, Bool, true, false, cond, List, [], ◌∷◌, ◌++◌, Option, Some, None, refl, ap, sym, ◌∙◌, arith, rules, length, drop, get_or}
use Rattle.std.specs.List.{AllPass, list_all}
use Rattle.std.specs.Fmt.{decimal}
use Rattle.std.proofs.lemmas.Bool.Decides.{nat_tests}
use Rattle.std.proofs.lemmas.Str.Parse.{IsNumeralModel, numerals_by_fold}
use Rattle.std.proofs.lemmas.Fmt.{digits_decimal, digits_value-decimal, decimal_nonempty, first_decimal, decimal_digit, decimal-digits_value}
use Rattle.std.proofs.lemmas.List.Sums.{AllPass-from_list_all, list_all-from_AllPass}
use Rattle.std.proofs.lemmas.List.{at_drop_more}
use Rattle.text_reader.specs.Reader.{skip, run, is_digit, value_after, is_numeral, number_of, numbered}
use Rattle.text_reader.specs.Reader as reader
use Rattle.text_reader.proofs.Bytes.{then_parts, same_parts, first_differs, run_sound, run_again, run_to_end}

-- a text that goes on with no digit
pub record EndsNumber (r : List ℕ) : Type 0 where
  pub first : ℕ
  pub others : List ℕ
  pub is : r ≡ first ∷ others
  pub no_digit : is_digit first ≡ false

pub value_after-le : (n : ℕ) (ds : List ℕ) → n ≤ value_after n ds
value_after-le n [] = omega arith
value_after-le n (d ∷ ds) = let e = value_after-le (10 * n + (d - 48)) ds in omega arith

own : IsNumeralModel (λ ds. list_all is_digit ds ≡ true) (value_after 0)
own = numerals_by_fold _ (search (rules, nat_tests)) value_after (search rules)

numeral_true : (ds : List ℕ) → 0 < length ds → 48 < get_or ds 0 0 → value_after 0 ds < 2 ^ 32 → is_numeral ds ≡ true
numeral_true [] l f h = absurd (omega arith)
numeral_true (d ∷ ds) l f h = search (rules, nat_tests)

numeral_is : (d : ℕ) (ds : List ℕ) → is_numeral (d ∷ ds) ≡ true → (d ≡ 48 → length ds ≡ 0) × (value_after 0 (d ∷ ds) < 2 ^ 32)
numeral_is d ds h = (λ e. grind (arith, nat_tests), grind (arith, nat_tests))

number_head : (ds : List ℕ) (k : ℕ) (v : Bool) → v ≡ is_numeral ds → cond v (Some (value_after 0 ds)) None ≡ Some k → (is_numeral ds ≡ true) × (value_after 0 ds ≡ k)
number_head ds k true w e = (sym w, cc)
number_head ds k false w e = cc

number_digits : (ds : List ℕ) → AllPass is_digit ds → is_numeral ds ≡ true → (value_after 0 ds < 2 ^ 32) × (decimal (value_after 0 ds) ≡ ds)
number_digits [] a h = cc
number_digits (d ∷ ds) a h =
    let p = list_all-from_AllPass is_digit (d ∷ ds) a in
    let q = numeral_is d ds h in
    (q.1, decimal-digits_value own (d ∷ ds) p (omega arith) (λ e. ap (λ n. suc n) (q.0 e)) (omega arith))

pub number_of_sound : (ds : List ℕ) (k : ℕ) → AllPass is_digit ds → number_of ds ≡ Some k → (k < 2 ^ 32) × (decimal k ≡ ds)
unfolding number_of
number_of_sound ds k a e =
    let h = number_head ds k (is_numeral ds) refl e in
    let w = number_digits ds a h.0 in
    rw (← h.1) w

numeral_again : (k : ℕ) → k < 2 ^ 32 → value_after 0 (decimal k) ≡ k → is_numeral (decimal k) ≡ true
numeral_again zero h e = rw (decimal_digit 0 (omega arith)) refl
numeral_again (suc k) h e =
    let below : suc k < 2 ^ 64 = omega arith in
    numeral_true (decimal (suc k)) (decimal_nonempty (suc k) below) (first_decimal (suc k) (omega arith) below) (omega arith)

pub number_of_again : (k : ℕ) → k < 2 ^ 32 → number_of (decimal k) ≡ Some k
unfolding number_of
number_of_again k h =
    let below : k < 2 ^ 64 = omega arith in
    let value = digits_value-decimal own k below in
    let t = numeral_again k h value in
    rw t (ap (λ n. Some n) value)

numbered_is : (o : Option ℕ) (bs rest : List ℕ) (k : ℕ) → numbered o bs ≡ Some (k, rest) → (o ≡ Some k) × (bs ≡ rest)
numbered_is (Some n) bs rest k e = let p = same_parts n k bs rest e in (ap (λ x. Some x) p.0, p.1)
numbered_is None bs rest k e = (cc, cc)

pub decimal_sound : (bs rest : List ℕ) (k : ℕ) → reader.decimal bs ≡ Some (k, rest) → (k < 2 ^ 32) × (decimal k ++ rest ≡ bs)
unfolding reader.decimal
decimal_sound bs rest k e =
    let p = then_parts (run is_digit bs) (λ ds. numbered (number_of ds)) (k, rest) e in
    let front = run_sound is_digit bs p.0.0 p.0.1 p.1 in
    let h = numbered_is (number_of p.0.0) p.0.1 rest k p.2 in
    let w = number_of_sound p.0.0 k front.0 h.0 in
    (w.0, cc)

decimal_passes : (k : ℕ) → k < 2 ^ 32 → AllPass is_digit (decimal k)
decimal_passes k h = let below : k < 2 ^ 64 = omega arith in AllPass-from_list_all is_digit (decimal k) (digits_decimal own k below)

not_first : (c : ℕ) (ds r : List ℕ) → is_digit c ≡ false → 0 < length ds → AllPass is_digit ds → skip (c ∷ []) (ds ++ r) ≡ None
not_first c [] r e l a = absurd (omega arith)
not_first c (d ∷ ds) r e l a =
    let digit : is_digit d ≡ true = a 0 0 (omega arith) in
    first_differs c d [] (ds ++ r) (grind (arith, nat_tests))

-- a number begins with no other byte than a digit
pub decimal_not : (c k : ℕ) (r : List ℕ) → is_digit c ≡ false → k < 2 ^ 32 → skip (c ∷ []) (decimal k ++ r) ≡ None
decimal_not c k r e h = let below : k < 2 ^ 64 = omega arith in not_first c (decimal k) r e (decimal_nonempty k below) (decimal_passes k h)

pub decimal_before : (k : ℕ) (c : ℕ) (r : List ℕ) → k < 2 ^ 32 → is_digit c ≡ false → reader.decimal (decimal k ++ (c ∷ r)) ≡ Some (k, c ∷ r)
unfolding reader.decimal
decimal_before k c r h e =
    rw (run_again is_digit (decimal k) c r (decimal_passes k h) e, number_of_again k h)

pub decimal_again : (k : ℕ) (r : List ℕ) → k < 2 ^ 32 → EndsNumber r → reader.decimal (decimal k ++ r) ≡ Some (k, r)
decimal_again k r h e = rw e.is (decimal_before k e.first e.others h e.no_digit)

pub decimal_at_end : (k : ℕ) → k < 2 ^ 32 → reader.decimal (decimal k) ≡ Some (k, [])
unfolding reader.decimal
decimal_at_end k h = rw (run_to_end is_digit (decimal k) (decimal_passes k h), number_of_again k h)

-- ---- a loop over digits

-- a number that is too great stays so, whatever digits follow
pub too_great : (ds : List ℕ) (n : ℕ) (rest : List ℕ) → 2 ^ 32 ≤ n → value_after n rest ≡ value_after 0 ds → number_of ds ≡ None
unfolding number_of
too_great [] n rest h e = refl
too_great (d ∷ ds) n rest h e =
    let more = value_after-le n rest in
    let t : is_numeral (d ∷ ds) ≡ false = grind (arith, nat_tests) in
    rw t

-- the same after one more digit
pub next_too_great : (ds : List ℕ) (n i : ℕ) → i < length ds → value_after n (drop i ds) ≡ value_after 0 ds → 2 ^ 32 ≤ 10 * n + (get_or ds i 0 - 48) → number_of ds ≡ None
next_too_great ds n i l e h = too_great ds (10 * n + (get_or ds i 0 - 48)) (drop (i + 1) ds) h (sym (at_drop_more (value_after n) ds i 0 l) ∙ e)

pub zero_first : (ds : List ℕ) → get_or ds 0 0 ≡ 48 → 1 < length ds → number_of ds ≡ None
unfolding number_of
zero_first [] h l = refl
zero_first (d ∷ ds) h l = let t : is_numeral (d ∷ ds) ≡ false = grind (arith, nat_tests) in rw t

pub none_there : (ds : List ℕ) → length ds < 1 → number_of ds ≡ None
unfolding number_of
none_there [] h = refl
none_there (d ∷ ds) h = absurd (omega arith)

pub all_read : (ds rest : List ℕ) (n : ℕ) → 1 ≤ length ds → (get_or ds 0 0 ≡ 48 → length ds ≤ 1) → n < 2 ^ 32 → length rest ≡ 0 → value_after n rest ≡ value_after 0 ds → number_of ds ≡ Some n
unfolding number_of
all_read [] rest n l f h none e = absurd (omega arith)
all_read (d ∷ ds) [] n l f h none e = let t : is_numeral (d ∷ ds) ≡ true = grind (arith, nat_tests) in rw t (ap (λ x. Some x) (sym e))
all_read (d ∷ ds) (c ∷ cs) n l f h none e = absurd (omega arith)
