-- A table with the entries of one more cluster.
use Rattle.std.proofs.Common.{◌≡◌, ℕ, zero, suc, ◌+◌, ◌<◌, Bool, true, false, cond, List, [], ◌∷◌, ◌++◌, length, map, Option, Some, None, get_or, refl, sym, ap, ◌∙◌, subst, arith}
use Rattle.std.specs.Prelude.{nat_eq, ◌||◌, ◌&&◌, slice_get, slice_set, All}
use Rattle.std.specs.Str.{bytes_eq}
use Rattle.std.specs.List.{list_any, flat_map, IsDistinct, AllByRecursion}
use Rattle.std.proofs.lemmas.Bool.{eqb-true, eqb-false}
use Rattle.std.proofs.Math.ListN.{length-set}
use Rattle.dl_ports.specs.Files.{Files}
use Rattle.first_grammar.specs.declared.script.FirstEntry.{FirstEntry}
use Rattle.first_grammar.specs.FirstReader.{read_cluster}
use Rattle.play.specs.declared.manifest.ClusterLine.{ClusterLine}
use Rattle.play.specs.declared.manifest.Manifest.{Manifest}
use Rattle.play.specs.declared.table.Table.{Table}
use Rattle.play.specs.declared.table.Entry.{Entry}
use Rattle.play.specs.declared.machine.Machine.{Machine}
use Rattle.play.specs.Manifest.{Rises, IsManifest, IsClusterLine}
use Rattle.play.specs.Site.{line_of, Refused, Accepted, listed_as, cluster_of_bytes, cluster_file, cluster_name, late_function, entry_among, entry_in, entry_by, entries}
use Rattle.play.specs.Tables.{loaded_entry}
use Rattle.play.specs.Machine.{entry_func, IsSound, NeedsNext, with_entries}
use Rattle.play.specs.Answers.{missing, OneMore, SiteAgrees}
use Rattle.play.proofs.LeftLemmas.{same_number, other_number}
use Rattle.play.proofs.ListLemmas.{any_at}
use Rattle.play.proofs.TableLemmas.{none_some, some_one, within_got}
use Rattle.play.proofs.LetterLemmas.{set_here, set_other}

-- ---- what an accepted file holds

same_bytes : (xs ys : List ℕ) → bytes_eq xs ys ≡ true → xs ≡ ys
same_bytes [] [] e = refl
same_bytes [] (y ∷ ys) e = cc
same_bytes (x ∷ xs) [] e = cc
same_bytes (x ∷ xs) (y ∷ ys) e = by (nat_eq x y) refl e (same_bytes xs ys)
  where
    by : (b : Bool) → nat_eq x y ≡ b → b && bytes_eq xs ys ≡ true → (bytes_eq xs ys ≡ true → xs ≡ ys) → x ∷ xs ≡ y ∷ ys
    by true q r f = ap (λ z. z ∷ xs) (eqb-true x y q) ∙ ap (λ l. y ∷ l) (f r)
    by false q r f = cc

pub accepted_numbers : (line : ClusterLine) (bytes : List ℕ) (read : List FirstEntry) → cluster_of_bytes line (Some bytes) ≡ Accepted read → map (λ e. e.number) read ≡ line.entries
accepted_numbers line bytes read h = of_length (nat_eq (length bytes) line.bytes) h
  where
    of_same : (es : List FirstEntry) (b : Bool) → bytes_eq (map (λ e. e.number) es) line.entries ≡ b → cond b (Accepted es) Refused ≡ Accepted read → map (λ e. e.number) read ≡ line.entries
    of_same es true q e = let s : es ≡ read = cc in ap (map (λ e. e.number)) (sym s) ∙ same_bytes (map (λ e. e.number) es) line.entries q
    of_same es false q e = cc

    of_entries : (o : Option (List FirstEntry)) → listed_as line o ≡ Accepted read → map (λ e. e.number) read ≡ line.entries
    of_entries None e = cc
    of_entries (Some es) e = of_same es (bytes_eq (map (λ e. e.number) es) line.entries) refl e

    of_length : (b : Bool) → cond b (listed_as line (read_cluster bytes)) Refused ≡ Accepted read → map (λ e. e.number) read ≡ line.entries
    of_length true e = of_entries (read_cluster bytes) e
    of_length false e = cc

pub loaded_numbers : (read : List FirstEntry) → map (λ e. e.number) (map loaded_entry read) ≡ map (λ e. e.number) read
loaded_numbers [] = refl
loaded_numbers (e ∷ es) = ap (λ l. e.number ∷ l) (loaded_numbers es)

pub numbers_of_loaded : (line : ClusterLine) (bytes : List ℕ) (read : List FirstEntry) (es : List Entry) → cluster_of_bytes line (Some bytes) ≡ Accepted read → es ≡ map loaded_entry read → map (λ e. e.number) es ≡ line.entries
numbers_of_loaded line bytes read es h e = ap (map (λ e. e.number)) e ∙ (loaded_numbers read ∙ accepted_numbers line bytes read h)

-- ---- the table

fewer : (ls : List (Option (List Entry))) (i : ℕ) (es : List Entry) → slice_get ls i ≡ Some None → missing (slice_set ls i (Some es)) < missing ls
fewer [] i es h = absurd (none_some h)
fewer (None ∷ ls) zero es h = omega arith
fewer (Some x ∷ ls) zero es h = cc
fewer (None ∷ ls) (suc i) es h = let l = fewer ls i es h in omega (arith, l)
fewer (Some x ∷ ls) (suc i) es h = fewer ls i es h

pub one_more : (t new : Table) (m : Machine) (place : ℕ) (es : List Entry) → IsSound t → (needs : NeedsNext t m place) → map (λ e. e.number) es ≡ needs.line.entries → new ≡ with_entries t place es → OneMore t new
one_more t new m place es sound needs numbers is = subst (OneMore t) (sym is) (record {
  manifest = refl;
  sound = record {
    all_loaded = length-set t.loaded place (Some es) ∙ sound.all_loaded;
    names = sound.names;
    bodies = sound.bodies;
    loaded = λ i line xs at here. loaded i line xs at here (nat_eq i place) refl;
    form = sound.form;
  };
  fewer = fewer t.loaded place es needs.absent;
})
  where
    loaded : (i : ℕ) (line : ClusterLine) (xs : List Entry) → slice_get t.manifest.clusters i ≡ Some line → slice_get (slice_set t.loaded place (Some es)) i ≡ Some (Some xs) → (b : Bool) → nat_eq i place ≡ b → map (λ e. e.number) xs ≡ line.entries
    loaded i line xs at here true q =
        let same = eqb-true i place q in
        let e : es ≡ xs = some_one (set_here t.loaded place (Some es) (Some xs) (ap (slice_get (slice_set t.loaded place (Some es))) (sym same) ∙ here)) in
        let l : needs.line ≡ line = some_one (sym needs.line_at ∙ (ap (slice_get t.manifest.clusters) (sym same) ∙ at)) in
        ap (map (λ e. e.number)) (sym e) ∙ (numbers ∙ ap (λ (x : ClusterLine). x.entries) l)
    loaded i line xs at here false q = sound.loaded i line xs at (sym (set_other t.loaded place i (Some es) (eqb-false i place q)) ∙ here)

-- ---- the entries of the files

Apart : ℕ → List ℕ → Type 0
Apart n ys = AllByRecursion (λ y. nat_eq n y ≡ false) ys

is_apart : (n : ℕ) (ys : List ℕ) (j y : ℕ) → Apart n ys → slice_get ys j ≡ Some y → nat_eq n y ≡ false
unfolding Apart
is_apart n [] j y h at = absurd (none_some at)
is_apart n (z ∷ zs) zero y h at = ap (nat_eq n) (sym (some_one at)) ∙ h.0
is_apart n (z ∷ zs) (suc j) y h at = is_apart n zs j y h.1 at

flipped : (a b : ℕ) → nat_eq a b ≡ false → nat_eq b a ≡ false
flipped a b h = by (nat_eq b a) refl
  where
    by : (t : Bool) → nat_eq b a ≡ t → t ≡ false
    by false e = refl
    by true e = absurd (eqb-false a b h (sym (eqb-true b a e)))

got_behind : (xs ys : List ℕ) (j y : ℕ) → slice_get ys j ≡ Some y → slice_get (xs ++ ys) (length xs + j) ≡ Some y
got_behind [] ys j y h = subst (λ k. slice_get ys k ≡ Some y) (let e : j ≡ 0 + j = omega arith in e) h
got_behind (x ∷ xs) ys j y h = subst (λ k. slice_get (x ∷ (xs ++ ys)) k ≡ Some y) (let e : suc (length xs + j) ≡ suc (length xs) + j = omega arith in e) (got_behind xs ys j y h)

got_front : (xs ys : List ℕ) (j y : ℕ) → slice_get xs j ≡ Some y → slice_get (xs ++ ys) j ≡ Some y
got_front [] ys j y h = absurd (none_some h)
got_front (x ∷ xs) ys zero y h = h
got_front (x ∷ xs) ys (suc j) y h = got_front xs ys j y h

-- a number behind the first list is not in it
not_in_front : (xs ys : List ℕ) (j y : ℕ) → IsDistinct nat_eq (xs ++ ys) → slice_get ys j ≡ Some y → list_any (nat_eq y) xs ≡ false
unfolding IsDistinct Apart
not_in_front [] ys j y d h = refl
not_in_front (x ∷ xs) ys j y d h =
    ap (λ b. b || list_any (nat_eq y) xs) (flipped x y (is_apart x (xs ++ ys) (length xs + j) y d.0 (got_behind xs ys j y h)))
    ∙ not_in_front xs ys j y d.1 h

rest_distinct : (xs ys : List ℕ) → IsDistinct nat_eq (xs ++ ys) → IsDistinct nat_eq ys
unfolding IsDistinct
rest_distinct [] ys d = d
rest_distinct (x ∷ xs) ys d = rest_distinct xs ys d.1

all_entries : List ClusterLine → List ℕ
all_entries cs = flat_map (λ c. c.entries) cs

among_all : (cs : List ClusterLine) (i : ℕ) (c : ClusterLine) (j n : ℕ) → slice_get cs i ≡ Some c → slice_get c.entries j ≡ Some n → (k : ℕ) × (slice_get (all_entries cs) k ≡ Some n)
unfolding all_entries
among_all [] i c j n h at = absurd (none_some h)
among_all (d ∷ ds) zero c j n h at = (j, got_front d.entries (all_entries ds) j n (ap (λ (x : ClusterLine). slice_get x.entries j) (some_one h) ∙ at))
among_all (d ∷ ds) (suc i) c j n h at = let r = among_all ds i c j n h at in (length d.entries + r.0, got_behind d.entries (all_entries ds) r.0 n r.1)

listed_in : (cs : List ClusterLine) (i : ℕ) (c : ClusterLine) (j n : ℕ) → IsDistinct nat_eq (all_entries cs) → slice_get cs i ≡ Some c → slice_get c.entries j ≡ Some n → line_of cs n ≡ Some c
unfolding all_entries
listed_in [] i c j n d h at = absurd (none_some h)
listed_in (x ∷ xs) zero c j n d h at =
    ap (λ b. cond b (Some x) (line_of xs n)) (any_at x.entries j n (ap (λ (y : ClusterLine). slice_get y.entries j) (some_one h) ∙ at)) ∙ h
listed_in (x ∷ xs) (suc i) c j n d h at =
    let r = among_all xs i c j n h at in
    ap (λ b. cond b (Some x) (line_of xs n)) (not_in_front x.entries (all_entries xs) r.0 n d r.1)
    ∙ listed_in xs i c j n (rest_distinct x.entries (all_entries xs) d) h at

listed_line : (m : Manifest) (i : ℕ) (c : ClusterLine) (j n : ℕ) → IsManifest m → slice_get m.clusters i ≡ Some c → slice_get c.entries j ≡ Some n → line_of m.clusters n ≡ Some c
unfolding all_entries
listed_line m i c j n form h at = listed_in m.clusters i c j n (rest_distinct m.plain (all_entries m.clusters) form.distinct) h at

rises_above : (before : ℕ) (xs : List ℕ) (j x : ℕ) → Rises before xs → slice_get xs j ≡ Some x → before < x
rises_above before [] j x r h = absurd (none_some h)
rises_above before (y ∷ ys) zero x r h = let e = some_one h in omega (arith, r.0, e)
rises_above before (y ∷ ys) (suc j) x r h = let l = rises_above y ys j x r.1 h in omega (arith, r.0, l)

number_at : (es : List FirstEntry) (j : ℕ) (e : FirstEntry) → slice_get es j ≡ Some e → slice_get (map (λ e. e.number) es) j ≡ Some e.number
number_at [] j e h = absurd (none_some h)
number_at (x ∷ xs) zero e h = ap (λ (e : FirstEntry). Some e.number) (some_one h)
number_at (x ∷ xs) (suc j) e h = number_at xs j e h

found_among : (before : ℕ) (es : List FirstEntry) (j : ℕ) (e : FirstEntry) → Rises before (map (λ e. e.number) es) → slice_get es j ≡ Some e → entry_among es e.number ≡ Some (late_function e.number e)
found_among before [] j e r h = absurd (none_some h)
found_among before (x ∷ xs) zero e r h =
    ap (λ (y : FirstEntry). cond (nat_eq y.number e.number) (Some (late_function e.number y)) (entry_among xs e.number)) (some_one h)
    ∙ ap (λ b. cond b (Some (late_function e.number e)) (entry_among xs e.number)) (same_number e.number)
found_among before (x ∷ xs) (suc j) e r h =
    ap (λ b. cond b (Some (late_function e.number x)) (entry_among xs e.number)) (other_number x.number e.number (rises_above x.number (map (λ e. e.number) xs) j e.number r.1 (number_at xs j e h)))
    ∙ found_among x.number xs j e r.1 h

unloaded_at : (read : List FirstEntry) (j : ℕ) (e : Entry) → slice_get (map loaded_entry read) j ≡ Some e → (f : FirstEntry) × (slice_get read j ≡ Some f) × (loaded_entry f ≡ e)
unloaded_at [] j e h = absurd (none_some h)
unloaded_at (x ∷ xs) zero e h = (x, refl, some_one h)
unloaded_at (x ∷ xs) (suc j) e h = unloaded_at xs j e h

line_is : (cs : List ClusterLine) (i : ℕ) (c : ClusterLine) → All IsClusterLine cs → slice_get cs i ≡ Some c → IsClusterLine c
line_is cs i c a h = subst IsClusterLine (got_or cs i c h) (a i c (within_got cs i c h))
  where
    got_or : (cs : List ClusterLine) (i : ℕ) (c : ClusterLine) → slice_get cs i ≡ Some c → get_or cs i c ≡ c
    got_or [] i c h = absurd (none_some h)
    got_or (x ∷ xs) zero c h = some_one h
    got_or (x ∷ xs) (suc i) c h = got_or xs i c h

-- the entries of an accepted file are those of its line
fetched_numbers : (files : Files) (folder : List ℕ) (line : ClusterLine) (read : List FirstEntry) → cluster_file files folder line ≡ Accepted read → map (λ e. e.number) read ≡ line.entries
fetched_numbers files folder line read h = by (files (cluster_name folder line.cluster)) h
  where
    by : (o : Option (List ℕ)) → cluster_of_bytes line o ≡ Accepted read → map (λ e. e.number) read ≡ line.entries
    by None e = cc
    by (Some bytes) e = accepted_numbers line bytes read e

pub agrees_more : (files : Files) (folder : List ℕ) (t new : Table) (place : ℕ) (line : ClusterLine) (es : List Entry) (read : List FirstEntry) → IsSound t → slice_get t.manifest.clusters place ≡ Some line → cluster_file files folder line ≡ Accepted read → es ≡ map loaded_entry read → new ≡ with_entries t place es
    → SiteAgrees files folder t → SiteAgrees files folder new
agrees_more files folder t new place line es read sound line_at accepted es_are is old = subst (SiteAgrees files folder) (sym is) (record { here = λ i xs j e here at. by i xs j e here at (nat_eq i place) refl })
  where
    of_read : (f : FirstEntry) (j : ℕ) → slice_get read j ≡ Some f → entries files folder t.manifest f.number ≡ Some (entry_func (loaded_entry f))
    of_read f j at =
        let numbers = fetched_numbers files folder line read accepted in
        let rises = (line_is t.manifest.clusters place line sound.form.clusters line_at).rise in
        ap (λ o. entry_by files folder o f.number) (listed_line t.manifest place line j f.number sound.form line_at (ap (λ l. slice_get l j) (sym numbers) ∙ number_at read j f at))
        ∙ (ap (λ c. entry_in c f.number) accepted
        ∙ found_among 0 read j f (subst (Rises 0) (sym numbers) rises) at)

    by : (i : ℕ) (xs : List Entry) (j : ℕ) (e : Entry) → slice_get (slice_set t.loaded place (Some es)) i ≡ Some (Some xs) → slice_get xs j ≡ Some e → (b : Bool) → nat_eq i place ≡ b → entries files folder t.manifest e.number ≡ Some (entry_func e)
    by i xs j e here at true q =
        let same = eqb-true i place q in
        let xs_are : es ≡ xs = some_one (set_here t.loaded place (Some es) (Some xs) (ap (slice_get (slice_set t.loaded place (Some es))) (sym same) ∙ here)) in
        let f = unloaded_at read j e (ap (λ l. slice_get l j) (sym es_are ∙ xs_are) ∙ at) in
        subst (λ e. entries files folder t.manifest e.number ≡ Some (entry_func e)) f.2 (of_read f.0 j f.1)
    by i xs j e here at false q = old.here i xs j e (sym (set_other t.loaded place i (Some es) (eqb-false i place q)) ∙ here) at
