-- What a sink has taken, and what a source still has.
use Rattle.std.specs.Prelude.{◌≡◌, ◌⊎◌, ◌<◌, ℕ, List, [], ◌++◌, length, take, Option}
use Rattle.std.specs.Option.{option_map}

-- what was written, with more behind it
abbrev pub and_more : Option (List ℕ) → List ℕ → Option (List ℕ)
and_more written more = option_map (λ bytes. bytes ++ more) written

-- what a source has left, with these bytes in front of it
abbrev pub and_front : List ℕ → Option (List ℕ) → Option (List ℕ)
and_front front left = option_map (λ bytes. front ++ bytes) left

-- a front of the bytes was written, which is shorter than they are unless they are none
abbrev pub WritesPart : Option (List ℕ) → List ℕ → Option (List ℕ) → Type 0
WritesPart before bytes now =
    (n : ℕ) × ((n < length bytes) ⊎ (bytes ≡ [])) × (now ≡ and_more before (take n bytes))
