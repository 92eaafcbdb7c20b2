-- The readers of a manifest's parts give what their texts are of.
use Rattle.std.proofs.Common.{◌≡◌, ℕ, ◌+◌, ◌^◌, ◌<◌, ◌≤◌, List, [], ◌∷◌, ◌++◌, Some, None, refl, ap, sym, ◌∙◌, subst, append_assoc, arith, length, inl, inr}
use Rattle.std.specs.Prelude.{◌⊎◌, All, codes}
use Rattle.std.specs.List.{flat_map}
use Rattle.std.specs.Fmt.{decimal}
use Rattle.std.proofs.lemmas.List.Elements.{All-nil, All-cons, All-head, All-tail}
use Rattle.play.specs.declared.manifest.ClusterLine.{ClusterLine}
use Rattle.text_reader.specs.Reader.{Reader, ◌>>=◌, ◌>>◌, pure, skip, list_after}
use Rattle.text_reader.proofs.Numbers.{EndsNumber, decimal_sound, decimal_again, decimal_not}
use Rattle.text_reader.proofs.Joined.{carried, skipped, skips, mapped, maps}
use Rattle.text_reader.proofs.Bytes.{then_parts, chosen_parts, skip_sound, skip_again}
use Rattle.play.specs.Manifest.{more_numbers, numbers_text, entry_line, cluster_lines}
use Rattle.text_reader.specs.Reader as reader
use Rattle.play.specs.ManifestReader.{next_number, some_numbers, numbers, entry, entries, cluster, clusters}
use Rattle.text_reader.proofs.ListLemmas.{Anything, Reads, lines_sound, more_lines, lines_again}

-- a number that fits its type
abbrev pub Fits : ℕ → Type 0
Fits k = k < 2 ^ 32

number_reads : Reads Fits decimal EndsNumber reader.decimal
number_reads = record { sound = decimal_sound; again = decimal_again }

-- ---- numbers

more_is : (ns : List ℕ) → more_numbers ns ≡ flat_map (λ n. codes "," ++ decimal n) ns
more_is [] = refl
more_is (n ∷ ns) = ap (λ v. 44 ∷ (decimal n ++ v)) (more_is ns)

comma : (r : List ℕ) → EndsNumber (codes "," ++ r)
comma r = record { first = 44; others = r; is = refl; no_digit = refl }

comma_some : 1 ≤ length (codes ",")
comma_some = omega arith

after_sound : (found bs ys rest : List ℕ) → list_after found next_number bs ≡ Some (ys, rest) → (ns : List ℕ) × (ys ≡ found ++ ns) × All Fits ns × (more_numbers ns ++ rest ≡ bs)
after_sound found bs ys rest e =
    let w = more_lines Fits decimal EndsNumber reader.decimal number_reads (codes ",") comma comma_some found bs ys rest e in
    (w.0, w.1, w.2, ap (λ v. v ++ rest) (more_is w.0) ∙ w.3)

after_again : (found ns rest : List ℕ) → All Fits ns → skip (codes ",") rest ≡ None → EndsNumber rest → list_after found next_number (more_numbers ns ++ rest) ≡ Some (found ++ ns, rest)
after_again found ns rest a e h =
    rw (more_is ns) (lines_again Fits decimal EndsNumber reader.decimal number_reads (codes ",") comma comma_some ns found rest a e h)

ends_more : (ns rest : List ℕ) → EndsNumber rest → EndsNumber (more_numbers ns ++ rest)
ends_more [] rest h = h
ends_more (n ∷ ns) rest h = comma ((decimal n ++ more_numbers ns) ++ rest)

abbrev AreNumbers : List ℕ → List ℕ → List ℕ → Type 0
AreNumbers bs ns rest = All Fits ns × (numbers_text ns ++ rest ≡ bs)

some_sound : (bs ns rest : List ℕ) → some_numbers bs ≡ Some (ns, rest) → AreNumbers bs ns rest
some_sound bs ns rest e =
    let p = then_parts (reader.decimal bs) (λ first. list_after (first ∷ []) next_number) (ns, rest) e in
    let n = decimal_sound bs p.0.1 p.0.0 p.1 in
    let w = after_sound (p.0.0 ∷ []) p.0.1 ns rest p.2 in
    let joined : (decimal p.0.0 ++ more_numbers w.0) ++ rest ≡ bs = append_assoc (decimal p.0.0) (more_numbers w.0) rest ∙ ap (λ v. decimal p.0.0 ++ v) w.3 ∙ n.1 in
    let P : List ℕ → Type 0 = λ v. AreNumbers bs v rest in
    subst P (sym w.1) (All-cons Fits p.0.0 w.0 n.0 w.2, joined)

numbers_by : (bs ns rest : List ℕ) → ((r : List ℕ) × (skip (codes "-") bs ≡ Some (tt, r)) × (pure {A = List ℕ} [] r ≡ Some (ns, rest))) ⊎ ((skip (codes "-") bs ≡ None) × (some_numbers bs ≡ Some (ns, rest))) → AreNumbers bs ns rest
numbers_by bs ns rest (inl h) = carried (AreNumbers bs) [] ns h.0 rest h.2 (All-nil Fits, skip_sound (codes "-") bs h.0 h.1)
numbers_by bs ns rest (inr h) = some_sound bs ns rest h.1

pub numbers_sound : (bs ns rest : List ℕ) → numbers bs ≡ Some (ns, rest) → All Fits ns × (numbers_text ns ++ rest ≡ bs)
unfolding numbers
numbers_sound bs ns rest e = numbers_by bs ns rest (chosen_parts (skip (codes "-") bs) (pure []) (some_numbers bs) (ns, rest) e)

pub numbers_again : (ns rest : List ℕ) → All Fits ns → skip (codes ",") rest ≡ None → EndsNumber rest → numbers (numbers_text ns ++ rest) ≡ Some (ns, rest)
unfolding numbers
numbers_again [] rest a e h = rw (skip_again (codes "-") rest)
numbers_again (n ∷ ns) rest a e h =
    let here = All-head Fits n ns a in
    let more = more_numbers ns ++ rest in
    let read = decimal_again n more here (ends_more ns rest h) in
    rw (append_assoc (decimal n) (more_numbers ns) rest, decimal_not 45 n more refl here, read) (after_again (n ∷ []) ns rest (All-tail Fits n ns a) e h)

-- ---- entries

abbrev entry_text : ℕ → List ℕ
entry_text k = decimal k ++ codes " -\n"

entry_sound : (bs rest : List ℕ) (k : ℕ) → entry bs ≡ Some (k, rest) → Fits k × (entry_text k ++ rest ≡ bs)
unfolding entry
entry_sound bs rest k e =
    let h = skipped reader.decimal (codes " -\n") pure bs (k, rest) e in
    let n = decimal_sound bs (codes " -\n" ++ h.1) h.0 h.2 in
    carried (λ k rest. Fits k × (entry_text k ++ rest ≡ bs)) h.0 k h.1 rest h.3 (n.0, append_assoc (decimal h.0) (codes " -\n") h.1 ∙ n.1)

space : (r : List ℕ) → EndsNumber (32 ∷ r)
space r = record { first = 32; others = r; is = refl; no_digit = refl }

line_feed : (r : List ℕ) → EndsNumber (10 ∷ r)
line_feed r = record { first = 10; others = r; is = refl; no_digit = refl }

entry_again : (k : ℕ) (rest : List ℕ) → Fits k → Anything rest → entry (entry_text k ++ rest) ≡ Some (k, rest)
unfolding entry
entry_again k rest h u =
    let read = decimal_again k (codes " -\n" ++ rest) h (space (45 ∷ 10 ∷ rest)) in
    rw (append_assoc (decimal k) (codes " -\n") rest) (skips reader.decimal (codes " -\n") pure (decimal k ++ (codes " -\n" ++ rest)) rest k read)

entry_reads : Reads Fits entry_text Anything entry
entry_reads = record { sound = entry_sound; again = entry_again }

entry_word : 1 ≤ length (codes "entry ")
entry_word = omega arith

entries_sound : (bs ks rest : List ℕ) → entries bs ≡ Some (ks, rest) → All Fits ks × (flat_map entry_line ks ++ rest ≡ bs)
unfolding entries
entries_sound bs ks rest e = lines_sound Fits entry_text Anything entry entry_reads (codes "entry ") (λ _. tt) entry_word bs ks rest e

-- a text that does not go on with an entry's line
abbrev NoEntry : List ℕ → Type 0
NoEntry r = skip (codes "entry ") r ≡ None

entries_again : (ks rest : List ℕ) → All Fits ks → NoEntry rest → entries (flat_map entry_line ks ++ rest) ≡ Some (ks, rest)
unfolding entries
entries_again ks rest a e = lines_again Fits entry_text Anything entry entry_reads (codes "entry ") (λ _. tt) entry_word ks [] rest a e tt

-- ---- clusters

pub record FitsLine (c : ClusterLine) : Type 0 where
  pub cluster : Fits c.cluster
  pub bytes : Fits c.bytes
  pub entries : All Fits c.entries

abbrev cluster_text : ClusterLine → List ℕ
cluster_text c = decimal c.cluster ++ (32 ∷ (decimal c.bytes ++ (10 ∷ flat_map entry_line c.entries)))

abbrev line_of : ℕ → ℕ → List ℕ → ClusterLine
line_of n bytes ks = record { cluster = n; bytes = bytes; entries = ks }

abbrev after_bytes : ℕ → ℕ → Reader ClusterLine
after_bytes n bytes = entries >>= (λ ks. pure (line_of n bytes ks))

abbrev after_number : ℕ → Reader ClusterLine
after_number n = reader.decimal >>= (λ bytes. skip (codes "\n") >> after_bytes n bytes)

cluster_sound : (bs rest : List ℕ) (c : ClusterLine) → cluster bs ≡ Some (c, rest) → FitsLine c × (cluster_text c ++ rest ≡ bs)
unfolding cluster
cluster_sound bs rest c e =
    let g = skipped reader.decimal (codes " ") after_number bs (c, rest) e in
    let h = skipped reader.decimal (codes "\n") (after_bytes g.0) g.1 (c, rest) g.3 in
    let w = mapped entries (line_of g.0 h.0) h.1 rest c h.3 in
    let n = decimal_sound bs (codes " " ++ g.1) g.0 g.2 in
    let b = decimal_sound g.1 (codes "\n" ++ h.1) h.0 h.2 in
    let ks = entries_sound h.1 w.0 rest w.1 in
    let lines = flat_map entry_line w.0 in
    let joined : (decimal g.0 ++ (32 ∷ (decimal h.0 ++ (10 ∷ lines)))) ++ rest ≡ bs =
    rw (append_assoc (decimal g.0) (32 ∷ (decimal h.0 ++ (10 ∷ lines))) rest, append_assoc (decimal h.0) (10 ∷ lines) rest, ks.1, b.1) n.1 in
    let P : ClusterLine → Type 0 = λ c. FitsLine c × (cluster_text c ++ rest ≡ bs) in
    subst P {x = line_of g.0 h.0 w.0} w.2 (record { cluster = n.0; bytes = b.0; entries = ks.0 }, joined)

cluster_again : (c : ClusterLine) (rest : List ℕ) → FitsLine c → NoEntry rest → cluster (cluster_text c ++ rest) ≡ Some (c, rest)
unfolding cluster
cluster_again c rest h e =
    let lines = flat_map entry_line c.entries in
    let tail = decimal c.bytes ++ (10 ∷ (lines ++ rest)) in
    let n = decimal_again c.cluster (32 ∷ tail) h.cluster (space tail) in
    let b = decimal_again c.bytes (10 ∷ (lines ++ rest)) h.bytes (line_feed (lines ++ rest)) in
    rw (append_assoc (decimal c.cluster) (32 ∷ (decimal c.bytes ++ (10 ∷ lines))) rest, append_assoc (decimal c.bytes) (10 ∷ lines) rest)
    (skips reader.decimal (codes " ") after_number (decimal c.cluster ++ (32 ∷ tail)) tail c.cluster n
    ∙ skips reader.decimal (codes "\n") (after_bytes c.cluster) tail (lines ++ rest) c.bytes b
    ∙ maps entries (line_of c.cluster c.bytes) (lines ++ rest) rest c.entries (entries_again c.entries rest h.entries e))

cluster_reads : Reads FitsLine cluster_text NoEntry cluster
cluster_reads = record { sound = cluster_sound; again = cluster_again }

no_entry : (r : List ℕ) → NoEntry (codes "cluster " ++ r)
unfolding skip
no_entry r = refl

cluster_word : 1 ≤ length (codes "cluster ")
cluster_word = omega arith

pub clusters_sound : (bs : List ℕ) (cs : List ClusterLine) (rest : List ℕ) → clusters bs ≡ Some (cs, rest) → All FitsLine cs × (flat_map cluster_lines cs ++ rest ≡ bs)
unfolding clusters
clusters_sound bs cs rest e = lines_sound FitsLine cluster_text NoEntry cluster cluster_reads (codes "cluster ") no_entry cluster_word bs cs rest e

pub clusters_again : (cs : List ClusterLine) (rest : List ℕ) → All FitsLine cs → skip (codes "cluster ") rest ≡ None → NoEntry rest → clusters (flat_map cluster_lines cs ++ rest) ≡ Some (cs, rest)
unfolding clusters
clusters_again cs rest a e h = lines_again FitsLine cluster_text NoEntry cluster cluster_reads (codes "cluster ") no_entry cluster_word cs [] rest a e h
