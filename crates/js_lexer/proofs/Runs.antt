-- Laws of runs of characters.
use Rattle.std.proofs.Common.{◌≡◌, ℕ, zero, suc, ◌<◌, ◌==◌, Bool, true, false, List, [], ◌∷◌, take, get_or, cond, refl, sym, arith}
use Rattle.std.proofs.lemmas.Bool.Decides.{nat_tests}
use Rattle.std.specs.Char.{digit_value}
use Rattle.js_lexer.specs.Characters.{run, is_digit, is_hex_digit}
use Rattle.js_lexer.specs.Fronts.{decimal_length}

run_step : (p : ℕ → Bool) (c : ℕ) (cs : List ℕ) (b : Bool) → b ≡ p c → ((i : ℕ) → i < run p cs → p (get_or (take (run p cs) cs) i 0) ≡ true)
    → (i : ℕ) → i < cond b (suc (run p cs)) 0 → p (get_or (take (cond b (suc (run p cs)) 0) (c ∷ cs)) i 0) ≡ true
run_step p c cs true e h zero lt = sym e
run_step p c cs true e h (suc i) lt = h i (omega arith)
run_step p c cs false e h i lt = absurd (omega arith)

-- each character of a run passes
pub run_passes : (p : ℕ → Bool) (cs : List ℕ) (i : ℕ) → i < run p cs → p (get_or (take (run p cs) cs) i 0) ≡ true
run_passes p [] i lt = absurd (omega arith)
run_passes p (c ∷ cs) i lt = run_step p c cs (p c) refl (run_passes p cs) i lt

pub hex_digits_pass : (cs : List ℕ) (i : ℕ) → i < run is_hex_digit cs → digit_value (get_or (take (run is_hex_digit cs) cs) i 0) < 16
hex_digits_pass cs i lt = let h = run_passes is_hex_digit cs i lt in grind (arith, nat_tests)

decimal_step : (c : ℕ) (cs : List ℕ) (b : Bool) → (c == 48) ≡ b → (i : ℕ) → i < cond b 1 (run is_digit (c ∷ cs)) → digit_value (get_or (take (cond b 1 (run is_digit (c ∷ cs))) (c ∷ cs)) i 0) < 10
decimal_step c cs true e zero lt = grind (arith, nat_tests)
decimal_step c cs true e (suc i) lt = absurd (omega arith)
decimal_step c cs false e i lt = let h = run_passes is_digit (c ∷ cs) i lt in grind (arith, nat_tests)

pub decimal_digits_pass : (cs : List ℕ) (i : ℕ) → i < decimal_length cs → digit_value (get_or (take (decimal_length cs) cs) i 0) < 10
decimal_digits_pass [] i lt = absurd (omega arith)
decimal_digits_pass (c ∷ cs) i lt = decimal_step c cs (c == 48) refl i lt
