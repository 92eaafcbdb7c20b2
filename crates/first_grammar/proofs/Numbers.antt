-- A function number that is read is the one whose decimal digits stand there.
use Rattle.std.proofs.Common.{◌≡◌, ℕ, Bool, true, false, cond, List, ◌∷◌, ◌++◌, Some, refl, sym, subst, arith, rules}
use Rattle.std.specs.Fmt.{decimal}
use Rattle.std.proofs.lemmas.Bool.Decides.{nat_tests}
use Rattle.text_reader.specs.Reader as reader
use Rattle.text_reader.proofs.Bytes.{then_parts, same_parts}
use Rattle.text_reader.proofs.Numbers.{decimal_before, decimal_sound}
use Rattle.first_grammar.specs.First.{IsFunctionNumber}
use Rattle.js_tree.specs.Numbering.{is_function_number}
use Rattle.first_grammar.specs.FirstReader.{number}

number_is : (k : ℕ) → is_function_number k ≡ true → IsFunctionNumber k
number_is k h = search (rules, nat_tests)

number_true : (k : ℕ) → IsFunctionNumber k → is_function_number k ≡ true
number_true k h = search (rules, nat_tests)

in_range : (n k : ℕ) (mid rest : List ℕ) (v : Bool) → v ≡ is_function_number n → cond {A = reader.Reader ℕ} v (reader.pure n) reader.refuse mid ≡ Some (k, rest) → (is_function_number n ≡ true) × (n ≡ k) × (mid ≡ rest)
in_range n k mid rest true w e = let p = same_parts n k mid rest e in (sym w, p.0, p.1)
in_range n k mid rest false w e = cc

pub number_sound : (bs rest : List ℕ) (k : ℕ) → number bs ≡ Some (k, rest) → IsFunctionNumber k × (decimal k ++ rest ≡ bs)
unfolding number
number_sound bs rest k e =
    let p = then_parts (reader.decimal bs) (λ n. cond (is_function_number n) (reader.pure n) reader.refuse) (k, rest) e in
    let h = in_range p.0.0 k p.0.1 rest (is_function_number p.0.0) refl p.2 in
    let w = decimal_sound bs p.0.1 p.0.0 p.1 in
    let i = number_is p.0.0 h.0 in
    (subst IsFunctionNumber h.1 i, cc)

pub number_again : (k : ℕ) (c : ℕ) (r : List ℕ) → IsFunctionNumber k → reader.is_digit c ≡ false → number (decimal k ++ (c ∷ r)) ≡ Some (k, c ∷ r)
unfolding number
number_again k c r h e = rw (decimal_before k c r (omega arith) e, number_true k h)
