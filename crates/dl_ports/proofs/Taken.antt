-- What is left of an input after some of it was taken.
use Rattle.std.proofs.Common.{◌≡◌, ℕ, ◌+◌, List, ◌++◌, take, drop, sym, ap, ◌∙◌}
use Rattle.std.proofs.lemmas.List.{drop-drop, take-append-drop}

pub taken_front : (input room rest : List ℕ) (at n : ℕ) → rest ≡ drop at input → take n room ≡ take n rest → drop at input ≡ take n room ++ drop (at + n) input
taken_front input room rest at n is_rest filled =
    let front : take n room ≡ take n (drop at input) = filled ∙ ap (take n) is_rest in
    rw (front, ← drop-drop n at input) (sym (take-append-drop n (drop at input)))
