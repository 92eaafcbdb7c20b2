-- Numbers that are cut off at 2^53, from where on all are too large.
use Rattle.std.proofs.Common.{◌≡◌, ℕ, ◌+◌, ◌*◌, ◌^◌, ◌<◌, ◌≤◌, List, take, get_or, length, min, zero, suc, refl, inl, inr, ℤ, unsigned_abs, Err, ap, sym, ◌∙◌, arith, pos, neg_ℤ}
use Rattle.std.proofs.lemmas.Bool.{cases_lt}
use Rattle.std.proofs.lemmas.Bool.Decides.{nat_tests}
use Rattle.std.proofs.lemmas.Int.Digits.{digits_value_more}
use Rattle.std.specs.Char.{digit_value}
use Rattle.std.specs.Str.Parse.{digits_value}
use Rattle.js_values.specs.declared.reason.Reason.TheVariants.{TooLarge}
use Rattle.js_values.specs.Numbers.{whole_or_stop}

capped_step : (limit radix n d : ℕ) → 1 ≤ radix → min limit (min limit n * radix + d) ≡ min limit (n * radix + d)
capped_step limit radix n d one = grind arith

pub capped_more : (radix value i : ℕ) (ds : List ℕ) → 1 ≤ radix → i < length ds
    → value ≡ min (2 ^ 53) (digits_value radix (take i ds))
    → min (2 ^ 53) (value * radix + digit_value (get_or ds i 0)) ≡ min (2 ^ 53) (digits_value radix (take (i + 1) ds))
capped_more radix value i ds one lt e =
    ap (λ v. min (2 ^ 53) (v * radix + digit_value (get_or ds i 0))) e
    ∙ capped_step (2 ^ 53) radix (digits_value radix (take i ds)) (digit_value (get_or ds i 0)) one
    ∙ ap (min (2 ^ 53)) (sym (digits_value_more radix ds i lt))

too_large : (z : ℤ) → 2 ^ 53 ≤ unsigned_abs z → whole_or_stop z ≡ Err TooLarge
too_large z h = grind (arith, nat_tests)

size_of_negative : (n : ℕ) → unsigned_abs (neg_ℤ (pos n)) ≡ n
size_of_negative zero = refl
size_of_negative (suc n) = refl

pub whole_capped : (n : ℕ) → whole_or_stop (pos (min (2 ^ 53) n)) ≡ whole_or_stop (pos n)
whole_capped n = elim (cases_lt n (2 ^ 53)) [
  | inl h ↦ ap (λ m. whole_or_stop (pos m)) (omega arith)
  | inr h ↦ too_large (pos (min (2 ^ 53) n)) (omega arith) ∙ sym (too_large (pos n) h)
]

pub negative_capped : (n : ℕ) → whole_or_stop (neg_ℤ (pos (min (2 ^ 53) n))) ≡ whole_or_stop (neg_ℤ (pos n))
negative_capped n = elim (cases_lt n (2 ^ 53)) [
  | inl h ↦ ap (λ m. whole_or_stop (neg_ℤ (pos m))) (omega arith)
  | inr h ↦
      too_large (neg_ℤ (pos (min (2 ^ 53) n))) (rw (size_of_negative (min (2 ^ 53) n)) (omega arith))
      ∙ sym (too_large (neg_ℤ (pos n)) (rw (size_of_negative n) h))
]

pub ruleset capped_texts = (whole_capped, negative_capped)
