-- Laws of the value of digits.
use Rattle.std.proofs.Common.{◌≡◌, ℕ, ◌+◌, ◌*◌, ◌^◌, ◌<◌, ◌≤◌, List, take, get_or, length, min, ap, sym, ◌∙◌, arith}
use Rattle.std.proofs.lemmas.List.Sums.{fold_more}
use Rattle.std.specs.Char.{digit_value}
use Rattle.js_lexer.specs.Characters.{number_of}

capped_step : (limit base n d : ℕ) → 1 ≤ base → min limit (base * min limit n + d) ≡ min limit (base * n + d)
capped_step limit base n d one = grind arith

pub capped_more : (base value i : ℕ) (cs : List ℕ) → 1 ≤ base → i < length cs → value ≡ min (2 ^ 53) (number_of base (take i cs))
    → min (2 ^ 53) (base * value + digit_value (get_or cs i 0)) ≡ min (2 ^ 53) (number_of base (take (i + 1) cs))
capped_more base value i cs one lt e =
    ap (λ v. min (2 ^ 53) (base * v + digit_value (get_or cs i 0))) e
    ∙ capped_step (2 ^ 53) base (number_of base (take i cs)) (digit_value (get_or cs i 0)) one
    ∙ ap (min (2 ^ 53)) (sym (fold_more (λ n c. base * n + digit_value c) 0 cs i 0 lt))
