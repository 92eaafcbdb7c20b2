-- The numbers of a manifest differ, so no entry has the number of a plain function.
use Rattle.std.proofs.Common.{◌≡◌, ℕ, zero, suc, false, cond, List, [], ◌∷◌, ◌++◌, Some, None, refl, ap, ◌∙◌, subst}
use Rattle.std.specs.Prelude.{nat_eq, ◌||◌, slice_get}
use Rattle.std.specs.List.{AllByRecursion, IsDistinct, list_any, flat_map}
use Rattle.play.specs.declared.manifest.ClusterLine.{ClusterLine}
use Rattle.play.specs.declared.manifest.Manifest.{Manifest}
use Rattle.play.specs.Manifest.{IsManifest}
use Rattle.play.specs.Site.{line_of}
use Rattle.play.proofs.TableLemmas.{none_some, some_one}

Apart : ℕ → List ℕ → Type 0
Apart n ys = AllByRecursion (λ y. nat_eq n y ≡ false) ys

behind : (n : ℕ) (xs ys : List ℕ) → Apart n (xs ++ ys) → Apart n ys
unfolding Apart
behind n [] ys h = h
behind n (x ∷ xs) ys h = behind n xs ys h.1

before : (n : ℕ) (xs ys : List ℕ) → Apart n (xs ++ ys) → list_any (nat_eq n) xs ≡ false
unfolding Apart
before n [] ys h = refl
before n (x ∷ xs) ys h = ap (λ b. b || list_any (nat_eq n) xs) h.0 ∙ before n xs ys h.1

apart : (xs ys : List ℕ) (i n : ℕ) → IsDistinct nat_eq (xs ++ ys) → slice_get xs i ≡ Some n → Apart n ys
unfolding Apart IsDistinct
apart [] ys i n d h = absurd (none_some h)
apart (x ∷ xs) ys zero n d h = subst (λ n. Apart n ys) (some_one h) (behind x xs ys d.0)
apart (x ∷ xs) ys (suc i) n d h = apart xs ys i n d.1 h

unlisted : (n : ℕ) (cs : List ClusterLine) → Apart n (flat_map (λ c. c.entries) cs) → line_of cs n ≡ None
unlisted n [] h = refl
unlisted n (c ∷ cs) h =
    ap (λ b. cond b (Some c) (line_of cs n)) (before n c.entries (flat_map (λ c. c.entries) cs) h)
    ∙ unlisted n cs (behind n c.entries (flat_map (λ c. c.entries) cs) h)

pub not_listed : (m : Manifest) (i n : ℕ) → IsManifest m → slice_get m.plain i ≡ Some n → line_of m.clusters n ≡ None
not_listed m i n h at = unlisted n m.clusters (apart m.plain (flat_map (λ c. c.entries) m.clusters) i n h.distinct at)
