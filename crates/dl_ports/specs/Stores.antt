-- What contracts see of a store, and what calls over it leave.
use Rattle.std.specs.Prelude.{◌≡◌, ℕ, List, ◌++◌, Option, Some, take}
use Rattle.std.specs.Option.{option_map}
use Rattle.dl_ports.specs.Counts.{CountsFault}
use Rattle.dl_ports.specs.Files.{Files}

-- the meanings of a store, which a clause names S.Store under a bound S: Store
abbrev pub StoreMeaning : Type 0 → Type 0
StoreMeaning S = record {
  faults : S → ℕ;
  left : S → Option (List ℕ);
  written : S → Option (List ℕ);
  files : S → Option Files;
  asked : S → Option (List (List ℕ));
  write_faults : S → ℕ;
}

-- the store tells its files, and they are these
abbrev pub Tells : {S : Type 0} → StoreMeaning S → S → Files → Type 0
Tells store s files = store.files s ≡ Some files

-- the names that a store was asked for, in order, where told
abbrev pub AskedNames : Type 0
AskedNames = Option (List (List ℕ))

-- the same, with more behind them
abbrev pub and_names : AskedNames → List (List ℕ) → AskedNames
and_names asked names = option_map (λ before. before ++ names) asked

-- a front of these names was asked
abbrev pub AsksFront : AskedNames → AskedNames → List (List ℕ) → Type 0
AsksFront before now names = (n : ℕ) × (now ≡ and_names before (take n names))

-- what a call that only reads leaves of a store: its files, its count of failed writes, and its
-- count of faults but where it tells a read fault
pub record OnlyReads {S : Type 0} (store : StoreMeaning S) (old new : S) (told : Type 0)
    : Type 0 where
  pub same_files : store.files new ≡ store.files old
  pub same_write_faults : store.write_faults new ≡ store.write_faults old
  pub faults : CountsFault told (store.faults old) (store.faults new)
