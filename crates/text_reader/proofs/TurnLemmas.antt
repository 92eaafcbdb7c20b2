-- The turns of a loop over a list.
use Rattle.std.proofs.Common.{◌≡◌, ℕ, suc, ◌+◌, ◌-◌, ◌≤◌, ◌<◌, List, [], ◌∷◌, ◌++◌, None, ap, arith}
use Rattle.std.specs.Prelude.{Option}
use Rattle.text_reader.specs.Reader.{Reader, and_then, or_end, many}

module _ {A : Type 0} (next : Reader (Option A)) (n at : ℕ) (found : List A) (bs : List ℕ) where
  -- a turn that is left reads an item or the end
  pub many_turn : at < n
      → many next (n - at) found bs ≡ and_then (next bs) (or_end (λ x. many next (n - (at + 1)) (found ++ x ∷ [])) found)
  unfolding many
  many_turn below =
      let turn : n - at ≡ suc (n - (at + 1)) = omega arith in
      ap (λ m. many next m found bs) turn

  -- where no turn is left, nothing is read
  pub many_done : n ≤ at → many next (n - at) found bs ≡ None
  unfolding many
  many_done done =
      let none : n - at ≡ 0 = omega arith in
      ap (λ m. many next m found bs) none
