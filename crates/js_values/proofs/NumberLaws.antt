-- Laws of sums, quotients and remainders, and of integers of 32 bits.
use Rattle.std.proofs.Common.{◌≡◌, ℕ, suc, ◌-◌, ◌/◌, ◌%◌, ◌^◌, ◌<◌, ◌⊎◌, inl, inr, Bool, true, false, cond, Ok, Err, refl, sym, ap, ◌∙◌, arith}
use Rattle.std.proofs.Common.{ℤ, pos, negsuc, ◌+ℤ◌, ◌*ℤ◌, neg_ℤ, ◌≤ℤ◌}
use Rattle.std.specs.Prelude.{int_div, int_rem, unsigned_abs}
use Rattle.std.proofs.Math.IntN.{+ℤ_comm, *ℤ_comm}
use Rattle.std.proofs.lemmas.Bool.{cases_lt}
use Rattle.std.proofs.lemmas.Bool.Decides.{nat_tests}
use Rattle.std.proofs.lemmas.Int.{ints, quot-rem, rem_below}
use Rattle.js_values.specs.declared.number.Num.TheVariants.{NaN, Whole}
use Rattle.js_values.specs.declared.reason.Reason.TheVariants.{Infinite, Fraction}
use Rattle.js_values.specs.Numbers.{whole_or_stop, is_zero}
use Rattle.js_values.specs.Integers.{modulo_32_bits, signed_32_bits, uint32_of}
use Rattle.js_values.specs.Laws.{SumsCommute, ProductsCommute, QuotientsAreExact, RemaindersAreLeft}
use Rattle.js_values.specs.Laws.{IntegersAgree, IntegersAreModular, IntegersFit}

pub sums_commute : SumsCommute
sums_commute NaN NaN = refl
sums_commute NaN (Whole b) = refl
sums_commute (Whole a) NaN = refl
sums_commute (Whole a) (Whole b) = ap whole_or_stop (+ℤ_comm a b)

pub products_commute : ProductsCommute
products_commute NaN NaN = refl
products_commute NaN (Whole b) = refl
products_commute (Whole a) NaN = refl
products_commute (Whole a) (Whole b) = ap whole_or_stop (*ℤ_comm a b)

-- ---- quotients and remainders

zero_is : (z : ℤ) → is_zero z ≡ true → z ≡ pos 0
zero_is z h = grind (arith, ints)

zero_is_not : (z : ℤ) → 0 < unsigned_abs z → is_zero z ≡ false
zero_is_not z h = grind (arith, ints)

plus_zero : (z r : ℤ) → r ≡ pos 0 → z +ℤ r ≡ z
plus_zero z r h = omega (arith, ints)

exact : (a b q : ℤ) (by_zero of_zero no_rest : Bool) → no_rest ≡ is_zero (int_rem a b)
    → cond by_zero (cond of_zero (Ok NaN) (Err Infinite)) (cond no_rest (Ok (Whole (int_div a b))) (Err Fraction)) ≡ Ok (Whole q)
    → q *ℤ b ≡ a
exact a b q true true no_rest z e = cc
exact a b q true false no_rest z e = cc
exact a b q false of_zero false z e = cc
exact a b q false of_zero true z e =
    let quotient : int_div a b ≡ q = cc in
    ap (λ x. x *ℤ b) (sym quotient)
    ∙ sym (plus_zero (int_div a b *ℤ b) (int_rem a b) (zero_is (int_rem a b) (sym z)))
    ∙ quot-rem a b

pub quotients_are_exact : QuotientsAreExact
quotients_are_exact a b q e = exact a b q (is_zero b) (is_zero a) (is_zero (int_rem a b)) refl e

not_above : (n : ℕ) → neg_ℤ (pos n) ≤ℤ pos 0
not_above n = omega (arith, ints)

sign_of_rest : (a b : ℤ)
    → ((pos 0 ≤ℤ a) × (pos 0 ≤ℤ int_rem a b)) ⊎ ((a ≤ℤ pos 0) × (int_rem a b ≤ℤ pos 0))
sign_of_rest (pos a) b = inl (omega (arith, ints), omega (arith, ints))
sign_of_rest (negsuc a) b = inr (omega (arith, ints), not_above (suc a % unsigned_abs b))

pub remainders_are_left : RemaindersAreLeft
remainders_are_left a b h = (
  int_rem a b,
  ap (λ v. cond v NaN (Whole (int_rem a b))) (zero_is_not b h),
  record {
    multiple = (int_div a b, sym (ap (λ x. x +ℤ int_rem a b) (*ℤ_comm b (int_div a b)) ∙ quot-rem a b));
    smaller = rem_below a b h;
    sign = sign_of_rest a b;
  },
)

-- ---- integers of 32 bits

agree : (n : ℕ) → (pos n ≡ signed_32_bits n) ⊎ (pos n ≡ signed_32_bits n +ℤ pos (2 ^ 32))
agree n = elim (cases_lt n (2 ^ 31)) [
  | inl h ↦ inl (grind (arith, nat_tests))
  | inr h ↦ inr (grind (arith, nat_tests, ints))
]

pub integers_agree : IntegersAgree
integers_agree a = agree (uint32_of a)

modular : (z : ℤ) → (q : ℤ) × (z ≡ q *ℤ pos (2 ^ 32) +ℤ pos (modulo_32_bits z))
modular (pos a) = (pos (a / 2 ^ 32), omega (arith, ints))
modular (negsuc a) = (negsuc (a / 2 ^ 32), omega (arith, ints))

pub integers_are_modular : IntegersAreModular
integers_are_modular z = modular z

below : (z : ℤ) → modulo_32_bits z < 2 ^ 32
below (pos a) = omega arith
below (negsuc a) = omega arith

fits : (n : ℕ) → n < 2 ^ 32
    → (n < 2 ^ 32) × (neg_ℤ (pos (2 ^ 31)) ≤ℤ signed_32_bits n) × (signed_32_bits n ≤ℤ pos (2 ^ 31 - 1))
fits n h = elim (cases_lt n (2 ^ 31)) [
  | inl s ↦ (h, grind (arith, nat_tests, ints), grind (arith, nat_tests, ints))
  | inr s ↦ (h, grind (arith, nat_tests, ints), grind (arith, nat_tests, ints))
]

pub integers_fit : IntegersFit
integers_fit NaN = fits 0 (omega arith)
integers_fit (Whole z) = fits (modulo_32_bits z) (below z)
