-- The links of a door.
use Rattle.std.specs.Prelude.{◌≡◌, ℕ, List, [], ◌∷◌, ◌++◌, Option, Some, IfSome}
use Rattle.std.specs.Option.{option_map}
use Rattle.dl_ports.specs.Told.{WhereTold}

-- what a link was when it was handed back
pub record Ended : Type 0 where
  pub left : Option (List ℕ)
  pub written : Option (List ℕ)
  pub faults : ℕ

-- a link as it is, by its meanings
abbrev pub ended : {L : Type 0} → (L → Option (List ℕ)) → (L → Option (List ℕ)) → (L → ℕ)
    → L → Ended
ended left_of written_of faults_of link = record {
  left = left_of link;
  written = written_of link;
  faults = faults_of link;
}

-- the links handed back, with one more
abbrev pub and_link : Option (List Ended) → Ended → Option (List Ended)
and_link closed link = option_map (λ links. links ++ link ∷ []) closed

-- a link that has this left came first, and the others are still to come
abbrev pub TakesFirst : Option (List ℕ) → List (List ℕ) → List (List ℕ) → Type 0
TakesFirst left old new = (first : List ℕ) × (left ≡ Some first) × (old ≡ first ∷ new)

-- the same, where the door tells its links
abbrev pub Arrives : Option (List ℕ) → Option (List (List ℕ)) → Option (List (List ℕ)) → Type 0
Arrives left old new = WhereTold (TakesFirst left) old new

-- where told, no link was to come, and none is
pub record NoneLeft (old new : Option (List (List ℕ))) : Type 0 where
  pub none : IfSome old (λ inputs. inputs ≡ [])
  pub same : new ≡ old
