-- How many digits a number has in decimal.
use Rattle.std.proofs.Common.{◌≡◌, ℕ, ◌+◌, ◌/◌, ◌<◌, ◌≤◌, length, ap, sym, ◌∙◌, arith, length-append}
use Rattle.std.specs.Fmt.{decimal}
use Rattle.std.proofs.lemmas.Fmt.{decimal_digit, decimal_step}

one-digit : (n : ℕ) → n < 10 → length (decimal n) ≡ 1
one-digit n h = ap length (decimal_digit n h)

one-more : (n k : ℕ) → 10 ≤ n → n < 65536 → length (decimal (n / 10)) ≡ k → length (decimal n) ≡ k + 1
one-more n k low high e = ap length (decimal_step n low (omega arith)) ∙ (length-append (decimal (n / 10)) _ ∙ ap (λ l. l + 1) e)

two-digits : (n : ℕ) → 10 ≤ n → n < 100 → length (decimal n) ≡ 2
two-digits n low high = one-more n 1 low (omega arith) (one-digit (n / 10) (omega arith))

three-digits : (n : ℕ) → 100 ≤ n → n < 1000 → length (decimal n) ≡ 3
three-digits n low high = one-more n 2 (omega arith) (omega arith) (two-digits (n / 10) (omega arith) (omega arith))

four-digits : (n : ℕ) → 1000 ≤ n → n < 10000 → length (decimal n) ≡ 4
four-digits n low high = one-more n 3 (omega arith) (omega arith) (three-digits (n / 10) (omega arith) (omega arith))

five-digits : (n : ℕ) → 10000 ≤ n → n < 65536 → length (decimal n) ≡ 5
five-digits n low high = one-more n 4 (omega arith) (omega arith) (four-digits (n / 10) (omega arith) (omega arith))

module _ (n : ℕ) where
  pub have-one : n < 10 → 1 ≡ length (decimal n)
  have-one h = sym (one-digit n h)

  pub have-two : 10 ≤ n → n < 100 → 2 ≡ length (decimal n)
  have-two low high = sym (two-digits n low high)

  pub have-three : 100 ≤ n → n < 1000 → 3 ≡ length (decimal n)
  have-three low high = sym (three-digits n low high)

  pub have-four : 1000 ≤ n → n < 10000 → 4 ≡ length (decimal n)
  have-four low high = sym (four-digits n low high)

  pub have-five : 10000 ≤ n → n < 65536 → 5 ≡ length (decimal n)
  have-five low high = sym (five-digits n low high)
