-- What `read_script` and `read_cluster` read is of the grammar and has the text, and each text of the grammar is read.
use Rattle.std.proofs.Common.{◌≡◌, ℕ, ◌+◌, ◌≤◌, List, [], ◌∷◌, ◌++◌, Option, Some, None, refl, ap, sym, ◌∙◌, subst, append_assoc, arith, length, length-append}
use Rattle.std.specs.Prelude.{All, codes}
use Rattle.std.specs.List.{flat_map}
use Rattle.std.specs.Fmt.{decimal}
use Rattle.std.proofs.lemmas.List.{append-nil}
use Rattle.first_grammar.specs.declared.script.FirstStatement.{FirstStatement}
use Rattle.first_grammar.specs.declared.script.FirstItem.{FirstItem}
use Rattle.first_grammar.specs.declared.script.FirstScript.{FirstScript}
use Rattle.first_grammar.specs.declared.script.FirstEntry.{FirstEntry}
use Rattle.text_reader.specs.Reader.{Found, Reader, pure, ◌>>=◌, ◌>>◌, skip, ended, whole}
use Rattle.text_reader.proofs.Joined.{carried, skipped, skips}
use Rattle.text_reader.proofs.Bytes.{then_parts, same_parts, ended_is, ended_again, not_ended}
use Rattle.first_grammar.specs.First.{IsItem, IsEntry, statement_text, script_text, entry_text, cluster_text}
use Rattle.first_grammar.specs.FirstReader.{number, statements, items, script, entry, entries, read_script, read_cluster}
use Rattle.first_grammar.proofs.Numbers.{number_sound, number_again}
use Rattle.text_reader.proofs.ListLemmas.{Reads, Anything, up_to_sound, up_to_last, up_to_again}
use Rattle.first_grammar.proofs.Grammar.{closed_text, statements_reads}
use Rattle.first_grammar.proofs.Scripts.{items_reads}

ended_sound : (bs r : List ℕ) → ended bs ≡ Some (tt, r) → [] ++ r ≡ bs
ended_sound bs r e = let p = ended_is bs r tt e in p.1 ∙ sym p.0

-- ---- scripts

abbrev script_of : List FirstItem → FirstScript
script_of is = record { items = is }

script_sound : (bs rest : List ℕ) (s : FirstScript) → script bs ≡ Some (s, rest) → All IsItem s.items × (script_text s ≡ bs)
unfolding script
script_sound bs rest s e =
    let p = then_parts (items bs) (λ is. ended >> pure (script_of is)) (s, rest) e in
    let q = then_parts (ended p.0.1) (λ _. pure (script_of p.0.0)) (s, rest) p.2 in
    let last = ended_is p.0.1 q.0.1 tt q.1 in
    let w = items_reads.sound bs p.0.1 p.0.0 p.1 in
    let text : script_text (script_of p.0.0) ≡ bs = sym (append-nil (script_text (script_of p.0.0))) ∙ ap (λ v. script_text (script_of p.0.0) ++ v) (sym last.0) ∙ w.1 in
    let same = same_parts (script_of p.0.0) s q.0.1 rest q.2 in
    subst (λ s. All IsItem s.items × (script_text s ≡ bs)) same.0 (w.0, text)

script_again : (s : FirstScript) → All IsItem s.items → script (script_text s) ≡ Some (s, [])
unfolding script
script_again s a =
    let read : items (script_text s) ≡ Some (s.items, []) = ap items (sym (append-nil (script_text s))) ∙ items_reads.again s.items [] a tt in
    rw (read, ended_again)

abbrev paired : {A : Type 0} → List ℕ → Option A → Found A
paired r (Some x) = Some (x, r)
paired r None = None

whole_parts : {A : Type 0} (o : Found A) (x : A) → whole o ≡ Some x → (r : List ℕ) × (o ≡ Some (x, r))
whole_parts (Some p) x e = (p.1, ap (paired p.1) e)
whole_parts None x e = cc

pub read_script_sound : (bs : List ℕ) (s : FirstScript) → read_script bs ≡ Some s → All IsItem s.items × (script_text s ≡ bs)
unfolding read_script
read_script_sound bs s e = let h = whole_parts (script bs) s e in script_sound bs h.0 s h.1

pub read_script_text : (s : FirstScript) → All IsItem s.items → read_script (script_text s) ≡ Some s
unfolding read_script
read_script_text s a = ap whole (script_again s a)

-- a script with this text is the one that is read
pub read_script_again : (bs : List ℕ) (s : FirstScript) → All IsItem s.items → script_text s ≡ bs → read_script bs ≡ Some s
read_script_again bs s a e = ap read_script (sym e) ∙ read_script_text s a

-- ---- cluster files

abbrev entry_of : ℕ → List FirstStatement → FirstEntry
entry_of k ss = record { number = k; body = ss }

abbrev after_body : ℕ → List FirstStatement → Reader FirstEntry
after_body k ss = pure (entry_of k ss)

abbrev after_number : ℕ → Reader FirstEntry
after_number k = statements >>= (λ ss. skip (codes ")\n") >> after_body k ss)

entry_parts : (d a ss m r : List ℕ) → (d ++ (a ++ (ss ++ (125 ∷ m)))) ++ r ≡ d ++ (a ++ ((ss ++ 125 ∷ []) ++ (m ++ r)))
entry_parts d a ss m r =
    let one = append_assoc d (a ++ (ss ++ (125 ∷ m))) r in
    let two = append_assoc a (ss ++ (125 ∷ m)) r in
    let three = append_assoc ss (125 ∷ m) r in
    let four = append_assoc ss (125 ∷ []) (m ++ r) in
    one ∙ ap (λ v. d ++ v) (two ∙ ap (λ v. a ++ v) (three ∙ sym four))

entry_sound : (bs rest : List ℕ) (x : FirstEntry) → entry bs ≡ Some (x, rest) → IsEntry x × (entry_text x ++ rest ≡ bs)
unfolding entry
entry_sound bs rest x e =
    let h = skipped number (codes " (function(){") after_number bs (x, rest) e in
    let m = skipped statements (codes ")\n") (after_body h.0) h.1 (x, rest) h.3 in
    let n = number_sound bs (codes " (function(){" ++ h.1) h.0 h.2 in
    let w = statements_reads.sound h.1 (codes ")\n" ++ m.1) m.0 m.2 in
    let text : entry_text (entry_of h.0 m.0) ++ m.1 ≡ bs = entry_parts (decimal h.0) (codes " (function(){") (flat_map statement_text m.0) (codes ")\n") m.1 ∙ ap (λ v. decimal h.0 ++ (codes " (function(){" ++ v)) w.1 ∙ n.1 in
    carried (λ x rest. IsEntry x × (entry_text x ++ rest ≡ bs)) (entry_of h.0 m.0) x m.1 rest m.3 ((n.0, w.0), text)

entry_again : (x : FirstEntry) (rest : List ℕ) → IsEntry x → entry (entry_text x ++ rest) ≡ Some (x, rest)
unfolding entry
entry_again x rest h =
    let mid = closed_text x.body ++ (codes ")\n" ++ rest) in
    let bs = decimal x.number ++ (codes " (function(){" ++ mid) in
    ap entry (entry_parts (decimal x.number) (codes " (function(){") (flat_map statement_text x.body) (codes ")\n") rest)
    ∙ skips number (codes " (function(){") after_number bs mid x.number (number_again x.number 32 (codes "(function(){" ++ mid) h.0 refl)
    ∙ skips statements (codes ")\n") (after_body x.number) mid rest x.body (statements_reads.again x.body (codes ")\n" ++ rest) h.1 tt)

entry_reads : Reads IsEntry entry_text Anything entry
entry_reads = record { sound = entry_sound; again = λ x rest h _. entry_again x rest h }

entry_some : (x : FirstEntry) → 1 ≤ length (entry_text x)
entry_some x = omega (arith, length-append (decimal x.number) (codes " (function(){" ++ (flat_map statement_text x.body ++ codes "})\n")))

entry_not_ended : (x : FirstEntry) (r : List ℕ) → IsEntry x → ended (entry_text x ++ r) ≡ None
entry_not_ended x r h = not_ended (entry_text x ++ r) (omega (arith, entry_some x, length-append (entry_text x) r))

entries_sound : (bs rest : List ℕ) (xs : List FirstEntry) → entries bs ≡ Some (xs, rest) → All IsEntry xs × (cluster_text xs ++ rest ≡ bs)
unfolding entries
entries_sound bs rest xs e = up_to_sound IsEntry entry_text entry entry_reads ended [] ended_sound entry_not_ended entry_some bs xs rest e

entries_end : (bs r : List ℕ) (xs : List FirstEntry) → entries bs ≡ Some (xs, r) → r ≡ []
unfolding entries
entries_end bs r xs e =
    let stopped = up_to_last IsEntry entry_text entry entry_reads ended [] ended_sound entry_not_ended entry_some bs xs r e in
    (ended_is r r tt stopped).1

entries_again : (xs : List FirstEntry) → All IsEntry xs → entries (cluster_text xs) ≡ Some (xs, [])
unfolding entries
entries_again xs a =
    let list = up_to_again IsEntry entry_text entry entry_reads ended [] ended_sound entry_not_ended entry_some xs [] a ended_again in
    ap entries (sym (append-nil (cluster_text xs))) ∙ list

pub read_cluster_sound : (bs : List ℕ) (xs : List FirstEntry) → read_cluster bs ≡ Some xs → All IsEntry xs × (cluster_text xs ≡ bs)
unfolding read_cluster
read_cluster_sound bs xs e =
    let h = whole_parts (entries bs) xs e in
    let w = entries_sound bs h.0 xs h.1 in
    let none = entries_end bs h.0 xs h.1 in
    (w.0, sym (append-nil (cluster_text xs)) ∙ ap (λ v. cluster_text xs ++ v) (sym none) ∙ w.1)

pub read_cluster_text : (xs : List FirstEntry) → All IsEntry xs → read_cluster (cluster_text xs) ≡ Some xs
unfolding read_cluster
read_cluster_text xs a = ap whole (entries_again xs a)

-- entries with this text are those that are read
pub read_cluster_again : (bs : List ℕ) (xs : List FirstEntry) → All IsEntry xs → cluster_text xs ≡ bs → read_cluster bs ≡ Some xs
read_cluster_again bs xs a e = ap read_cluster (sym e) ∙ read_cluster_text xs a
