-- The files of a store.
use Rattle.std.specs.Prelude.{◌≡◌, ◌≢◌, ℕ, List, [], ◌∷◌, ◌++◌, Option, None, Some, Vec}
use Rattle.std.specs.Option.{option_map}
use Rattle.std.specs.declared.alloc.Global.{Global}

-- the bytes of the file of a name, if there is such a file; a name is its bytes
abbrev pub Files : Type 0
Files = List ℕ → Option (List ℕ)

-- the bytes of a file that was read
abbrev pub bytes_of : Option (Vec ℕ Global) → Option (List ℕ)
bytes_of file = option_map (λ v. v.items) file

-- the names asked, with one more
abbrev pub and_name : Option (List (List ℕ)) → List ℕ → Option (List (List ℕ))
and_name asked name = option_map (λ names. names ++ name ∷ []) asked

-- every file is as before, but for the one of this name
abbrev pub SameBut : List ℕ → Files → Files → Type 0
SameBut name old new = (other : List ℕ) → other ≢ name → new other ≡ old other

-- the file of this name has these bytes, and every other is as before
pub record Writes (name bytes : List ℕ) (old new : Files) : Type 0 where
  pub written : new name ≡ Some bytes
  pub others : SameBut name old new

-- the file of one name stands at another, in place of what stood there; all others are as before
pub record Renames (from to : List ℕ) (old new : Files) : Type 0 where
  pub moved : new to ≡ old from
  pub gone : from ≢ to → new from ≡ None
  pub others : (other : List ℕ) → other ≢ from → other ≢ to → new other ≡ old other
