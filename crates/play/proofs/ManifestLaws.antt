-- The manifest that is read from a text is the one whose text it is.
use Rattle.std.proofs.Common.{◌≡◌, ℕ, ◌^◌, ◌<◌, Bool, true, false, cond, List, [], ◌∷◌, ◌++◌, Option, Some, None, Result, Ok, Err, refl, ap, sym, ◌∙◌, subst, arith}
use Rattle.std.specs.Prelude.{All, IfOk, codes}
use Rattle.std.specs.List.{flat_map}
use Rattle.std.specs.Fmt.{decimal}
use Rattle.std.proofs.lemmas.List.Elements.{All-nil, All-cons, All-head, All-tail, All-weaker, All-map}
use Rattle.first_grammar.specs.First.{IsFunctionNumber}
use Rattle.play.specs.declared.manifest.ClusterLine.{ClusterLine}
use Rattle.play.specs.declared.manifest.Manifest.{Manifest}
use Rattle.text_reader.specs.Reader.{Found, Reader, ◌>>=◌, ◌>>◌, pure, skip, ended}
use Rattle.text_reader.specs.Gives.{IfRead, IsRead}
use Rattle.text_reader.proofs.Numbers.{EndsNumber, decimal_sound, decimal_again}
use Rattle.text_reader.proofs.Joined.{skipped, skips, begins, begins_again}
use Rattle.text_reader.proofs.Bytes.{then_parts, same_parts}
use Rattle.play.specs.Manifest.{numbers_text, cluster_lines, manifest_text, cluster_numbers, IsClusterLine, IsManifest, IsManifestOf}
use Rattle.text_reader.specs.Reader as reader
use Rattle.play.specs.ManifestReader.{numbers, clusters, manifest, is_manifest, of_form, read_manifest}
use Rattle.play.proofs.ManifestLines.{Fits, FitsLine, numbers_sound, numbers_again, clusters_sound, clusters_again}
use Rattle.play.proofs.ManifestForm.{manifest_is, manifest_true}

-- ---- the parts of the text

abbrev head : List ℕ
head = codes "doloto site 1\nform 1\nscript 1 "

abbrev manifest_of : ℕ → List ℕ → List ClusterLine → Manifest
manifest_of bytes plain cs = record { script_bytes = bytes; plain = plain; clusters = cs }

abbrev at_end : Manifest → Reader Manifest
at_end m = ended >> pure m

abbrev after_plain : ℕ → List ℕ → Reader Manifest
after_plain bytes plain = clusters >>= (λ cs. skip (codes "end\n") >> at_end (manifest_of bytes plain cs))

abbrev after_bytes : ℕ → Reader Manifest
after_bytes bytes = numbers >>= (λ plain. skip (codes "\n") >> after_plain bytes plain)

abbrev after_head : Reader Manifest
after_head = reader.decimal >>= (λ bytes. skip (codes " ") >> after_bytes bytes)

ended_is : (bs rest : List ℕ) (u : Unit {0}) → ended bs ≡ Some (u, rest) → (bs ≡ []) × (rest ≡ [])
unfolding ended
ended_is [] rest u e = (refl, sym (same_parts tt u [] rest e).1)
ended_is (b ∷ bs) rest u e = cc

end_parts : (m n : Manifest) (bs rest : List ℕ) → at_end m bs ≡ Some (n, rest) → (bs ≡ []) × (m ≡ n)
end_parts m n bs rest e =
    let p = then_parts (ended bs) (λ _. pure m) (n, rest) e in
    ((ended_is bs p.0.1 p.0.0 p.1).0, (same_parts m n p.0.1 rest p.2).0)

end_again : (m : Manifest) → at_end m [] ≡ Some (m, [])
unfolding ended
end_again m = refl

-- ---- the text of what is read

abbrev IsTextOf : Manifest → List ℕ → Type 0
IsTextOf m bs = All FitsLine m.clusters × (manifest_text m ≡ bs)

lines_sound : (bs : List ℕ) (m : Manifest) (rest : List ℕ) → manifest bs ≡ Some (m, rest) → IsTextOf m bs
unfolding manifest
lines_sound bs m rest e =
    let s = begins head after_head bs (m, rest) e in
    let f = skipped reader.decimal (codes " ") after_bytes s.0 (m, rest) s.2 in
    let g = skipped numbers (codes "\n") (after_plain f.0) f.1 (m, rest) f.3 in
    let h = skipped clusters (codes "end\n") (λ cs. at_end (manifest_of f.0 g.0 cs)) g.1 (m, rest) g.3 in
    let last = end_parts (manifest_of f.0 g.0 h.0) m h.1 rest h.3 in
    let b = decimal_sound s.0 (codes " " ++ f.1) f.0 f.2 in
    let p = numbers_sound f.1 g.0 (codes "\n" ++ g.1) g.2 in
    let c = clusters_sound g.1 h.0 (codes "end\n" ++ h.1) h.2 in
    let lines : flat_map cluster_lines h.0 ++ codes "end\n" ≡ g.1 = ap (λ v. flat_map cluster_lines h.0 ++ (codes "end\n" ++ v)) (sym last.0) ∙ c.1 in
    let joined : manifest_text (manifest_of f.0 g.0 h.0) ≡ bs = rw (lines, p.1, b.1) s.1 in
    let P : Manifest → Type 0 = λ m. IsTextOf m bs in
    subst P {x = manifest_of f.0 g.0 h.0} last.1 (c.0, joined)

lines_again : (m : Manifest) → Fits m.script_bytes → All Fits m.plain → All FitsLine m.clusters → manifest (manifest_text m) ≡ Some (m, [])
unfolding manifest skip
lines_again m fits plain lines =
    let cs = flat_map cluster_lines m.clusters ++ codes "end\n" in
    let ps = numbers_text m.plain ++ (10 ∷ cs) in
    let feed : EndsNumber (10 ∷ cs) = record { first = 10; others = cs; is = refl; no_digit = refl } in
    let space : EndsNumber (32 ∷ ps) = record { first = 32; others = ps; is = refl; no_digit = refl } in
    begins_again head after_head (decimal m.script_bytes ++ (32 ∷ ps))
    ∙ skips reader.decimal (codes " ") after_bytes (decimal m.script_bytes ++ (32 ∷ ps)) ps m.script_bytes (decimal_again m.script_bytes (32 ∷ ps) fits space)
    ∙ skips numbers (codes "\n") (after_plain m.script_bytes) ps cs m.plain (numbers_again m.plain (10 ∷ cs) plain refl feed)
    ∙ skips clusters (codes "end\n") (λ cs. at_end (manifest_of m.script_bytes m.plain cs)) cs [] m.clusters (clusters_again m.clusters (codes "end\n") lines refl refl)
    ∙ end_again m

-- ---- the form

in_range : (cs : List ClusterLine) → All FitsLine cs → All (λ c. c < 2 ^ 32) (cluster_numbers cs)
in_range cs a = All-map (λ c. c < 2 ^ 32) (λ c. c.cluster) cs (All-weaker FitsLine (λ c. c.cluster < 2 ^ 32) (λ c h. h.cluster) cs a)

number_fits : (k : ℕ) → IsFunctionNumber k → Fits k
number_fits k h = omega (arith, h.1)

line_fits : (c : ClusterLine) → IsClusterLine c → c.cluster < 2 ^ 32 → FitsLine c
line_fits c h r = record { cluster = r; bytes = omega (arith, h.bytes); entries = All-weaker IsFunctionNumber Fits number_fits c.entries h.numbers }

lines_fit : (cs : List ClusterLine) → All IsClusterLine cs → All (λ c. c < 2 ^ 32) (cluster_numbers cs) → All FitsLine cs
lines_fit [] a r = All-nil FitsLine
lines_fit (c ∷ cs) a r =
    let one = line_fits c (All-head IsClusterLine c cs a) (All-head (λ c. c < 2 ^ 32) c.cluster (cluster_numbers cs) r) in
    All-cons FitsLine c cs one (lines_fit cs (All-tail IsClusterLine c cs a) (All-tail (λ c. c < 2 ^ 32) c.cluster (cluster_numbers cs) r))

form_by : (found : Manifest) (m : Manifest) (v : Bool) → v ≡ is_manifest found → cond {A = Option Manifest} v (Some found) None ≡ Some m → (is_manifest found ≡ true) × (found ≡ m)
form_by found m true w e = (sym w, cc)
form_by found m false w e = cc

form_parts : (o : Found Manifest) (m : Manifest) → of_form o ≡ Some m → (p : Manifest × List ℕ) × (o ≡ Some p) × (is_manifest p.0 ≡ true) × (p.0 ≡ m)
form_parts (Some p) m e = let w = form_by p.0 m (is_manifest p.0) refl e in (p, refl, w.0, w.1)
form_parts None m e = cc

-- what is read is a manifest, and its text is what it was read from
pub read_manifest_sound : (bytes : List ℕ) (m : Manifest) → read_manifest bytes ≡ Some m → IsManifest m × (manifest_text m ≡ bytes)
unfolding read_manifest
read_manifest_sound bytes m e =
    let p = form_parts (manifest bytes) m e in
    let t = lines_sound bytes p.0.0 p.0.1 p.1 in
    let P : Manifest → Type 0 = λ m. IsManifest m × (manifest_text m ≡ bytes) in
    subst P p.3 (manifest_is p.0.0 p.2 (in_range p.0.0.clusters t.0), t.1)

-- each manifest is read from its text
pub read_manifest_complete : (m : Manifest) → IsManifest m → read_manifest (manifest_text m) ≡ Some m
unfolding read_manifest
read_manifest_complete m h =
    let read = lines_again m (omega (arith, h.bytes)) (All-weaker IsFunctionNumber Fits number_fits m.plain h.numbers) (lines_fit m.clusters h.clusters h.in_range) in
    rw (read, manifest_true m h)

-- ---- what the function that reads ensures

pub sound_of : {E : Type 0} (r : Result (Option Manifest) E) (bytes : List ℕ) → IfOk r (λ o. o ≡ read_manifest bytes) → IfRead r (IsManifestOf bytes)
sound_of (Ok (Some m)) bytes e = read_manifest_sound bytes m (sym e)
sound_of (Ok None) bytes e = tt
sound_of (Err x) bytes e = tt

pub complete_of : {E : Type 0} (r : Result (Option Manifest) E) (bytes : List ℕ) → IfOk r (λ o. o ≡ read_manifest bytes) → (m : Manifest) → IsManifestOf bytes m → IsRead r m
complete_of (Ok o) bytes e m h = e ∙ ap read_manifest (sym h.1) ∙ read_manifest_complete m h.0
complete_of (Err x) bytes e m h = tt
