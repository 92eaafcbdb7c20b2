-- What a change of a map from names to bytes does to the files in it.
use Rattle.std.proofs.Common.{◌≡◌, ◌≢◌, ℕ, List, true, false, cond, Option, None, Some, Vec, String, string_bytes, refl, sym, ap, ◌∙◌, subst, IsSome}
use Rattle.std.specs.Option.{option_map}
use Rattle.std.specs.declared.alloc.Global.{Global}
use Rattle.std.specs.BTreeMap.{BTreeMap, UpdatesBy, get_by_text}
use Rattle.std.specs.Cmp.Lexicographic.{slice_cmp}
use Rattle.std.specs.Ordering.{nat_cmp}
use Rattle.std.specs.String.{string_cmp}
use Rattle.std.specs.Str.{bytes_eq}
use Rattle.std.proofs.lemmas.Map.Text.{btree_map_updates_text}
use Rattle.std.proofs.lemmas.Slice.Eq.{bytes_eq-Decides}
use Rattle.std.proofs.lemmas.Bool.{false_from_ne_true}
use Rattle.dl_ports.specs.Files.{Files, SameBut, Writes, Renames}
use Rattle.dl_ports.specs.Memory.{files_in}

abbrev pub Contents : Type 0
Contents = BTreeMap (String Global) (Vec ℕ Global)

-- the file of a name is this, and the others are as before
pub record Changes (name : List ℕ) (file : Option (Vec ℕ Global)) (m n : Contents) : Type 0 where
  pub at : files_in n name ≡ option_map (λ v. v.items) file
  pub others : SameBut name (files_in m) (files_in n)

pub changes : (name : List ℕ) (file : Option (Vec ℕ Global)) (m n : Contents) → UpdatesBy string_cmp (λ k. slice_cmp nat_cmp name (string_bytes k)) m n file → Changes name file m n
changes name file m n updates =
    let same : bytes_eq name name ≡ true = (bytes_eq-Decides name name).1 refl in
    let at : get_by_text n name ≡ file = btree_map_updates_text name m n file updates name ∙ ap (λ b. cond b file (get_by_text m name)) same in
    record {
      at = ap (λ f. option_map (λ v. v.items) f) at;
      others = λ other differs.
          let apart : bytes_eq name other ≡ false = false_from_ne_true _ (λ e. differs (sym ((bytes_eq-Decides name other).0 e))) in
          let kept : get_by_text n other ≡ get_by_text m other = btree_map_updates_text name m n file updates other ∙ ap (λ b. cond b file (get_by_text m other)) apart in
          ap (λ f. option_map (λ v. v.items) f) kept;
    }

-- the same at a key that was inserted
pub inserts : (name : List ℕ) (key : String Global) (file : Vec ℕ Global) (m n : Contents) → string_bytes key ≡ name → UpdatesBy string_cmp (string_cmp key) m n (Some file) → Changes name (Some file) m n
inserts name key file m n named updates =
    let P : List ℕ → Type 0 = λ bs. Changes bs (Some file) m n in
    subst P named (changes (string_bytes key) (Some file) m n updates)

pub still_there : (from to : List ℕ) (m1 m2 : Contents) (m : Contents) (empty : Vec ℕ Global) → from ≢ to → Changes to (Some empty) m m1 → Changes from None m1 m2 → IsSome (files_in m2 to)
still_there from to m1 m2 m empty differ made gone =
    let there : files_in m2 to ≡ Some empty.items = gone.others to (λ e. differ (sym e)) ∙ made.at in
    rw there refl

pub was_there : (from to : List ℕ) (m m1 : Contents) (empty : Vec ℕ Global) → from ≢ to → IsSome (files_in m from) → Changes to (Some empty) m m1 → get_by_text m1 from ≡ None → ⊥
was_there from to m m1 empty differ there made none =
    let absent : files_in m from ≡ None = sym (made.others from differ) ∙ ap (λ f. option_map (λ v. v.items) f) none in
    let no = rw absent at there in cc

pub renames : (from to : List ℕ) (m m1 m2 m3 : Contents) (empty file : Vec ℕ Global) → from ≢ to → Changes to (Some empty) m m1 → get_by_text m1 from ≡ Some file → Changes from None m1 m2 → Writes to file.items (files_in m2) (files_in m3) → Renames from to (files_in m) (files_in m3)
renames from to m m1 m2 m3 empty file differ made found gone written = record {
  moved = written.written ∙ sym (ap (λ f. option_map (λ v. v.items) f) found) ∙ made.others from differ;
  gone = λ _. written.others from differ ∙ gone.at;
  others = λ other not_from not_to. written.others other not_to ∙ gone.others other not_from ∙ made.others other not_to;
}

pub renames_itself : (name to : List ℕ) (files : Files) → name ≡ to → Renames name to files files
renames_itself name to files same = record {
  moved = ap files (sym same);
  gone = λ differ. absurd (differ same);
  others = λ other _ _. refl;
}
