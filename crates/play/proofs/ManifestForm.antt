-- The tests of the form tell what is of the form.
use Rattle.std.proofs.Common.{◌≡◌, ◌≢◌, ℕ, ◌^◌, ◌≤◌, ◌<◌, Bool, true, false, not, ◌&&◌, nat_eq, nat_le, nat_lt, List, [], ◌∷◌, refl, arith, rules, length, Decides}
use Rattle.std.specs.Prelude.{All}
use Rattle.std.specs.List.{AllByRecursion, IsDistinct, flat_map, list_all}
use Rattle.std.specs.List.Sorted.{IsPermutation, IsSorted, IsStrictlySortedBy}
use Rattle.std.specs.Ordering.{nat_cmp}
use Rattle.std.specs.declared.cmp.Ordering.TheVariants.{Less}
use Rattle.std.proofs.lemmas.Bool.Decides.{nat_tests, same_from_decides, Decides-and, Decides-like, Decides-ltb, Decides-by_and}
use Rattle.std.proofs.lemmas.List.Elements.{All-nil, All-append, All-head, All-tail, All-weaker, recursion_from_All}
use Rattle.std.proofs.lemmas.List.Sorted.{IsPermutation-sym, All-permutation, IsNonDecreasingBy-from_sort}
use Rattle.std.proofs.lemmas.Map.Keys.{IsDistinct-IsPermutation, IsStrictlyIncreasing-from_distinct, sorted_from_strictly_increasing, sorted_head, sorted_tail}
use Rattle.first_grammar.specs.First.{IsFunctionNumber}
use Rattle.play.specs.declared.manifest.ClusterLine.{ClusterLine}
use Rattle.play.specs.declared.manifest.Manifest.{Manifest}
use Rattle.play.specs.Manifest.{most_script_bytes, most_cluster_bytes, Rises, IsClusterLine, IsManifest, cluster_numbers, all_numbers}
use Rattle.js_tree.specs.Numbering.{is_function_number}
use Rattle.play.specs.ManifestReader.{rises, are_entries, is_cluster_line, is_distinct, has_lines_of_form, is_manifest}

-- ---- numbers

and_parts : (a b : Bool) → (a && b) ≡ true → (a ≡ true) × (b ≡ true)
and_parts true b e = (refl, e)
and_parts false b e = cc

and_true : (a b : Bool) → a ≡ true → b ≡ true → (a && b) ≡ true
and_true a b p q = rw (p, q)

rises_decides : (before : ℕ) (ns : List ℕ) → Decides (rises before ns) (Rises before ns)
rises_decides before [] = (λ _. tt, λ _. refl)
rises_decides before (n ∷ ns) = Decides-and (nat_lt before n) (rises n ns) (Decides-ltb before n) (rises_decides n ns)

function_decides : (k : ℕ) → Decides (is_function_number k) (IsFunctionNumber k)
function_decides k = (λ e. search (rules, nat_tests), λ h. search (rules, nat_tests))

functions_decide : (ks : List ℕ) → Decides (list_all is_function_number ks) (All IsFunctionNumber ks)
functions_decide ks = Decides-by_and is_function_number IsFunctionNumber (list_all is_function_number) function_decides refl (λ _ _. refl) ks

at_most_is : (a b : ℕ) → nat_le a b ≡ true → a ≤ b
at_most_is a b e = search (rules, nat_tests)

at_most_true : (a b : ℕ) → a ≤ b → nat_le a b ≡ true
at_most_true a b h = search (rules, nat_tests)

-- ---- lines

some_is : (ks : List ℕ) → nat_lt 0 (length ks) ≡ true → ks ≢ []
some_is [] e = λ _. cc
some_is (k ∷ ks) e = λ w. cc

some_true : (ks : List ℕ) → ks ≢ [] → nat_lt 0 (length ks) ≡ true
some_true [] h = absurd (h refl)
some_true (k ∷ ks) h = grind (arith, nat_tests)

line_is : (c : ClusterLine) → is_cluster_line c ≡ true → IsClusterLine c
line_is c e =
    let p = and_parts (nat_le c.bytes most_cluster_bytes) (are_entries c.entries) e in
    let q = and_parts (nat_lt 0 (length c.entries)) (rises 0 c.entries && list_all is_function_number c.entries) p.1 in
    let r = and_parts (rises 0 c.entries) (list_all is_function_number c.entries) q.1 in
    record {
      bytes = at_most_is c.bytes most_cluster_bytes p.0;
      some = some_is c.entries q.0;
      rise = (rises_decides 0 c.entries).0 r.0;
      numbers = (functions_decide c.entries).0 r.1;
    }

line_true : (c : ClusterLine) → IsClusterLine c → is_cluster_line c ≡ true
line_true c h =
    and_true (nat_le c.bytes most_cluster_bytes) (are_entries c.entries) (at_most_true c.bytes most_cluster_bytes h.bytes)
    (and_true (nat_lt 0 (length c.entries)) (rises 0 c.entries && list_all is_function_number c.entries) (some_true c.entries h.some)
    (and_true (rises 0 c.entries) (list_all is_function_number c.entries) ((rises_decides 0 c.entries).1 h.rise) ((functions_decide c.entries).1 h.numbers)))

lines_decide : (cs : List ClusterLine) → Decides (list_all is_cluster_line cs) (All IsClusterLine cs)
lines_decide cs = Decides-by_and is_cluster_line IsClusterLine (list_all is_cluster_line) (λ c. (line_is c, line_true c)) refl (λ _ _. refl) cs

-- ---- no number twice

not_decides : (b : Bool) → Decides (not b) (b ≡ false)
not_decides true = (λ e. cc, λ e. cc)
not_decides false = (λ _. refl, λ _. refl)

others_decide : (n : ℕ) (ks : List ℕ) → Decides (list_all (λ k. not (nat_eq n k)) ks) (AllByRecursion (λ k. nat_eq n k ≡ false) ks)
others_decide n [] = (λ _. tt, λ _. refl)
others_decide n (k ∷ ks) = Decides-and (not (nat_eq n k)) (list_all (λ k. not (nat_eq n k)) ks) (not_decides (nat_eq n k)) (others_decide n ks)

distinct_decides : (ns : List ℕ) → Decides (is_distinct ns) (IsDistinct nat_eq ns)
unfolding IsDistinct
distinct_decides [] = (λ _. tt, λ _. refl)
distinct_decides (n ∷ ns) = Decides-and (list_all (λ k. not (nat_eq n k)) ns) (is_distinct ns) (others_decide n ns) (distinct_decides ns)

above : (a before : ℕ) (ns : List ℕ) → a ≤ before → Rises before ns → AllByRecursion (λ k. nat_eq a k ≡ false) ns
above a before [] l h = tt
above a before (n ∷ ns) l h =
    let less : a < n = omega (arith, h.0) in
    (search (rules, nat_tests), above a n ns (omega arith) h.1)

distinct_from_rises : (before : ℕ) (ns : List ℕ) → Rises before ns → IsDistinct nat_eq ns
unfolding IsDistinct
distinct_from_rises before [] h = tt
distinct_from_rises before (n ∷ ns) h = (above n n ns (omega arith) h.1, distinct_from_rises n ns h.1)

less_is : (a b : ℕ) → nat_cmp a b ≡ Less → a < b
less_is a b e = grind (arith, nat_tests)

less_from : (a b : ℕ) → a < b → nat_cmp a b ≡ Less
less_from a b h = grind (arith, nat_tests)

rises_from_sorted : (before : ℕ) (ns : List ℕ) → AllByRecursion (λ k. nat_cmp before k ≡ Less) ns → IsStrictlySortedBy nat_cmp ns → Rises before ns
rises_from_sorted before [] a h = tt
rises_from_sorted before (n ∷ ns) a h = (less_is before n a.0, rises_from_sorted n ns (sorted_head nat_cmp n ns h) (sorted_tail nat_cmp n ns h))

rises_from_distinct : (ns : List ℕ) → All IsFunctionNumber ns → IsSorted nat_cmp ns → IsDistinct nat_eq ns → Rises 0 ns
rises_from_distinct ns a s d =
    let positive = All-weaker IsFunctionNumber (λ k. nat_cmp 0 k ≡ Less) (λ k h. less_from 0 k h.0) ns a in
    let up = IsStrictlyIncreasing-from_distinct ns (IsNonDecreasingBy-from_sort (λ x. x) ns s) d in
    rises_from_sorted 0 ns (recursion_from_All (λ k. nat_cmp 0 k ≡ Less) ns positive) (sorted_from_strictly_increasing ns up)

flips : (a b : ℕ) → nat_eq a b ≡ nat_eq b a
flips a b = grind (arith, nat_tests)

-- numbers that are put in order rise where none of them stood twice
pub sorted_rises : (ns sorted : List ℕ) → All IsFunctionNumber ns → IsPermutation ns sorted → IsSorted nat_cmp sorted → rises 0 sorted ≡ is_distinct ns
sorted_rises ns sorted a p s =
    let there : Rises 0 sorted → IsDistinct nat_eq ns = λ h. IsDistinct-IsPermutation nat_eq flips sorted ns (IsPermutation-sym ns sorted p) (distinct_from_rises 0 sorted h) in
    let back : IsDistinct nat_eq ns → Rises 0 sorted = λ h. rises_from_distinct sorted (All-permutation IsFunctionNumber ns sorted p a) s (IsDistinct-IsPermutation nat_eq flips ns sorted p h) in
    same_from_decides (rises 0 sorted) (is_distinct ns) (Decides-like (rises 0 sorted) there back (rises_decides 0 sorted)) (distinct_decides ns)

-- ---- the manifest

numbers_of_clusters : (cs : List ClusterLine) → All IsClusterLine cs → All IsFunctionNumber (flat_map (λ c. c.entries) cs)
numbers_of_clusters [] a = All-nil IsFunctionNumber
numbers_of_clusters (c ∷ cs) a =
    let line = All-head IsClusterLine c cs a in
    All-append IsFunctionNumber c.entries (flat_map (λ c. c.entries) cs) line.numbers (numbers_of_clusters cs (All-tail IsClusterLine c cs a))

pub record HasLines (m : Manifest) : Type 0 where
  pub bytes : m.script_bytes ≤ most_script_bytes
  pub numbers : All IsFunctionNumber m.plain
  pub clusters : All IsClusterLine m.clusters
  pub rise : Rises 0 (cluster_numbers m.clusters)

lines_are : (m : Manifest) → has_lines_of_form m ≡ true → HasLines m
unfolding has_lines_of_form
lines_are m e =
    let ordered = rises 0 (cluster_numbers m.clusters) in
    let p = and_parts (nat_le m.script_bytes most_script_bytes) (list_all is_function_number m.plain && (list_all is_cluster_line m.clusters && ordered)) e in
    let q = and_parts (list_all is_function_number m.plain) (list_all is_cluster_line m.clusters && ordered) p.1 in
    let r = and_parts (list_all is_cluster_line m.clusters) ordered q.1 in
    record {
      bytes = at_most_is m.script_bytes most_script_bytes p.0;
      numbers = (functions_decide m.plain).0 q.0;
      clusters = (lines_decide m.clusters).0 r.0;
      rise = (rises_decides 0 (cluster_numbers m.clusters)).0 r.1;
    }

pub all_function_numbers : (m : Manifest) → has_lines_of_form m ≡ true → All IsFunctionNumber (all_numbers m)
all_function_numbers m e =
    let h = lines_are m e in
    All-append IsFunctionNumber m.plain (flat_map (λ c. c.entries) m.clusters) h.numbers (numbers_of_clusters m.clusters h.clusters)

pub manifest_is : (m : Manifest) → is_manifest m ≡ true → All (λ c. c < 2 ^ 32) (cluster_numbers m.clusters) → IsManifest m
unfolding is_manifest
manifest_is m e range =
    let p = and_parts (has_lines_of_form m) (is_distinct (all_numbers m)) e in
    let h = lines_are m p.0 in
    record {
      bytes = h.bytes;
      numbers = h.numbers;
      clusters = h.clusters;
      rise = h.rise;
      in_range = range;
      distinct = (distinct_decides (all_numbers m)).0 p.1;
    }

pub manifest_true : (m : Manifest) → IsManifest m → is_manifest m ≡ true
unfolding is_manifest has_lines_of_form
manifest_true m h =
    let ordered = rises 0 (cluster_numbers m.clusters) in
    let lines : (list_all is_cluster_line m.clusters && ordered) ≡ true = and_true (list_all is_cluster_line m.clusters) ordered ((lines_decide m.clusters).1 h.clusters) ((rises_decides 0 (cluster_numbers m.clusters)).1 h.rise) in
    let numbered = and_true (list_all is_function_number m.plain) (list_all is_cluster_line m.clusters && ordered) ((functions_decide m.plain).1 h.numbers) lines in
    and_true (has_lines_of_form m) (is_distinct (all_numbers m))
    (and_true (nat_le m.script_bytes most_script_bytes) (list_all is_function_number m.plain && (list_all is_cluster_line m.clusters && ordered)) (at_most_true m.script_bytes most_script_bytes h.bytes) numbered)
    ((distinct_decides (all_numbers m)).1 h.distinct)
