-- What is still to come of an answer, mark by mark.
use Rattle.std.proofs.Common.{◌≡◌, ℕ, zero, suc, ◌-◌, ◌<◌, List, [], ◌∷◌, ◌++◌, map, take, filter, Option, Some, None, Bool, true, false, cond, refl, sym, ap, ◌∙◌, arith, append_assoc, eq-eqb}
use Rattle.std.specs.Prelude.{nat_eq, slice_get, count_by}
use Rattle.std.specs.Option.{option_map}
use Rattle.std.proofs.lemmas.Bool.{eqb-true}
use Rattle.js_tree.specs.Tree.{Name}
use Rattle.play.specs.declared.manifest.ClusterLine.{ClusterLine}
use Rattle.play.specs.declared.table.Table.{Table}
use Rattle.play.specs.declared.table.Entry.{Entry}
use Rattle.play.specs.declared.outcome.End.TheVariants as end
use Rattle.play.specs.Value.{Shown, Outcome}
use Rattle.play.specs.Run.{State, Called, Uncaught, Idle, Entered, Needed, Trace, Say, End}
use Rattle.play.specs.Site.{line_of, ClusterFile}
use Rattle.play.specs.Manifest.{Rises, cluster_numbers}
use Rattle.play.specs.Loader
use Rattle.play.specs.Report.{Line, CallLine, UncaughtLine, IdleLine, AskLine, HereLine, line_text, lines_text, ended_text, out_of_steps_text}
use Rattle.play.specs.Loader.{status_of, to_ask, is_absent, is_asked}
use Rattle.play.specs.Walk.{Ended, RanOut, Broke, walk, end_of, request, requested}
use Rattle.play.specs.Played.{Answered, Gives, Walked, Reports, LacksFile, RefusesFile, with_line, reads, cluster_of, cluster_names, cluster_number}
use Rattle.play.specs.Machine.{status, statuses, loader_of, answer_after, left_for}
use Rattle.play.proofs.StepLemmas.{RanOutAt}

-- a line of the report
pub answer_line : (folder report : List ℕ) (line : Line) (e : Walked) → answer_after folder report (with_line line e) ≡ answer_after folder (report ++ line_text line) e
answer_line folder report line (Reports lines (Ended n)) =
    ap (λ text. Gives text end.Ended) (ap (λ more. report ++ more) (append_assoc (line_text line) (lines_text lines) (ended_text n)) ∙ sym (append_assoc report (line_text line) (lines_text lines ++ ended_text n)))
answer_line folder report line (Reports lines (RanOut n)) =
    ap (λ text. Gives text end.OutOfSteps) (ap (λ more. report ++ more) (append_assoc (line_text line) (lines_text lines) (out_of_steps_text n)) ∙ sym (append_assoc report (line_text line) (lines_text lines ++ out_of_steps_text n)))
answer_line folder report line (Reports lines Broke) = refl
answer_line folder report line (LacksFile c) = refl
answer_line folder report line (RefusesFile c) = refl

-- each number is above the one before the first
pub above : (before : ℕ) (xs : List ℕ) (i x : ℕ) → Rises before xs → slice_get xs i ≡ Some x → before < x
above before [] i x r h = absurd (none_some h)
  where
    none_some : {x : ℕ} → None ≡ Some x → ⊥
    none_some e = cc
above before (n ∷ ns) zero x r h = let e : n ≡ x = cc in omega (arith, r.0, e)
above before (n ∷ ns) (suc i) x r h = let l = above n ns i x r.1 h in omega (arith, r.0, l)

pub same_number : (n : ℕ) → nat_eq n n ≡ true
same_number n = eq-eqb n n refl

pub other_number : (n m : ℕ) → n < m → nat_eq n m ≡ false
other_number n m h = by (nat_eq n m) refl
  where
    by : (b : Bool) → nat_eq n m ≡ b → b ≡ false
    by false e = refl
    by true e = let q = eqb-true n m e in absurd (omega (arith, q, h))

pub mapped_at : (cs : List ClusterLine) (i : ℕ) (c : ClusterLine) → slice_get cs i ≡ Some c → slice_get (cluster_numbers cs) i ≡ Some c.cluster
mapped_at [] i c h = absurd (none_some h)
  where
    none_some : {x : ClusterLine} → None ≡ Some x → ⊥
    none_some e = cc
mapped_at (d ∷ ds) zero c h = let e : d ≡ c = cc in ap (λ c. Some c.cluster) e
mapped_at (d ∷ ds) (suc i) c h = mapped_at ds i c h

-- where the window is none, nothing is asked for in the background
pub asks_none : (tb : Loader.Statuses) → to_ask 0 tb ≡ []
asks_none tb = ap (λ n. take n (map (λ p. p.0) (filter (λ p. is_absent p.1) tb))) none
  where
    none : 0 - count_by (λ p. is_asked p.1) tb ≡ 0
    none = omega arith

-- the status of a cluster by its place
pub status_at : (before : ℕ) (cs : List ClusterLine) (ls : List (Option (List Entry))) (i : ℕ) (c : ClusterLine) (o : Option (List Entry)) → Rises before (cluster_numbers cs) → slice_get cs i ≡ Some c → slice_get ls i ≡ Some o
    → status_of (statuses cs ls) c.cluster ≡ status o
status_at before [] ls i c o r h q = absurd (none_some h)
  where
    none_some : {x : ClusterLine} → None ≡ Some x → ⊥
    none_some e = cc
status_at before (d ∷ ds) [] i c o r h q = absurd (none_some q)
  where
    none_some : {x : Option (List Entry)} → None ≡ Some x → ⊥
    none_some e = cc
status_at before (d ∷ ds) (l ∷ ls) zero c o r h q =
    let e : d ≡ c = cc in
    let f : l ≡ o = cc in
    ap (λ b. cond b (status l) (status_of (statuses ds ls) c.cluster)) (ap (λ (x : ClusterLine). nat_eq x.cluster c.cluster) e ∙ same_number c.cluster) ∙ ap status f
status_at before (d ∷ ds) (l ∷ ls) (suc i) c o r h q =
    ap (λ b. cond b (status l) (status_of (statuses ds ls) c.cluster)) (other_number d.cluster c.cluster (above d.cluster (cluster_numbers ds) i c.cluster r.1 (mapped_at ds i c h)))
    ∙ status_at d.cluster ds ls i c o r.1 h q

module _ (folder : List ℕ) (file : ℕ → ClusterFile) (t : Table) (report : List ℕ) where
  pub left_called : (name : Name) (args : List Shown) (i : ℕ) (rest : Trace) → left_for folder file t report (Say (Called name args) i rest) ≡ left_for folder file t (report ++ line_text (CallLine name args)) rest
  left_called name args i rest =
      ap (λ a. record { answer = a; asked = cluster_names folder file (walk (cluster_of t.manifest) (loader_of t) rest) })
      (answer_line folder report (CallLine name args) (reads file (walk (cluster_of t.manifest) (loader_of t) rest) (end_of rest)))

  -- what is left after a request
  after_request : Trace → Loader.Moved → Answered
  after_request rest m = record {
    answer = answer_after folder report (reads file (m.lines ++ walk (cluster_of t.manifest) m.loader rest) (end_of rest));
    asked = cluster_names folder file (m.lines ++ walk (cluster_of t.manifest) m.loader rest);
  }

  -- no entry has the number
  pub left_plain : (k b i : ℕ) (rest : Trace) → line_of t.manifest.clusters k ≡ None → left_for folder file t report (Say (Entered k b) i rest) ≡ left_for folder file t report rest
  unfolding after_request
  left_plain k b i rest h = ap (λ o. after_request rest (request (loader_of t) (option_map cluster_number o))) h

  here_is : (rest : Trace) (k : ℕ) (c : ClusterLine) → line_of t.manifest.clusters k ≡ Some c → status_of (statuses t.manifest.clusters t.loaded) c.cluster ≡ Loader.Here
      → after_request rest (request (loader_of t) (cluster_of t.manifest k)) ≡ left_for folder file t report rest
  unfolding after_request
  here_is rest k c h q =
      ap (λ o. after_request rest (request (loader_of t) (option_map cluster_number o))) h
      ∙ ap (λ st. after_request rest (requested (loader_of t) c.cluster st)) q

  -- the cluster of the entry is here
  pub left_here : (k b i : ℕ) (rest : Trace) (c : ClusterLine) → line_of t.manifest.clusters k ≡ Some c → status_of (statuses t.manifest.clusters t.loaded) c.cluster ≡ Loader.Here
      → left_for folder file t report (Say (Entered k b) i rest) ≡ left_for folder file t report rest
  unfolding after_request
  left_here k b i rest c h q = here_is rest k c h q

  pub left_needed : (k i : ℕ) (rest : Trace) (c : ClusterLine) → line_of t.manifest.clusters k ≡ Some c → status_of (statuses t.manifest.clusters t.loaded) c.cluster ≡ Loader.Here
      → left_for folder file t report (Say (Needed k) i rest) ≡ left_for folder file t report rest
  unfolding after_request
  left_needed k i rest c h q = here_is rest k c h q

  -- the run is out of steps
  pub left_out : (trace : Trace) (n : ℕ) → RanOutAt trace n → left_for folder file t report trace ≡ record { answer = Gives (report ++ out_of_steps_text n) end.OutOfSteps; asked = [] }
  left_out trace n r = ap (left_for folder file t report) r.is ∙ ap (λ n. record { answer = Gives (report ++ out_of_steps_text n) end.OutOfSteps; asked = [] }) r.steps_are

  -- the scripts are over
  pub left_idle : (b i : ℕ) (o : Outcome) (s : State) → left_for folder file t report (Say (Idle b) i (End o s)) ≡ record { answer = Gives ((report ++ line_text IdleLine) ++ ended_text s.steps) end.Ended; asked = [] }
  left_idle b i o s =
      ap (λ cs. record { answer = answer_after folder report (reads file (IdleLine ∷ (map AskLine cs ++ [])) (Ended s.steps)); asked = cluster_names folder file (map AskLine cs ++ []) }) (asks_none (statuses t.manifest.clusters t.loaded))
      ∙ ap (λ text. record { answer = Gives text end.Ended; asked = [] }) (sym (append_assoc report (line_text IdleLine) (ended_text s.steps)))

  -- an exception left the script, which is over
  pub left_uncaught : (v : Shown) (i b j : ℕ) (o : Outcome) (s : State) → left_for folder file t report (Say (Uncaught v) i (Say (Idle b) j (End o s)))
      ≡ left_for folder file t (report ++ line_text (UncaughtLine v)) (Say (Idle b) j (End o s))
  left_uncaught v i b j o s =
      ap (λ a. record { answer = a; asked = cluster_names folder file (walk (cluster_of t.manifest) (loader_of t) (Say (Idle b) j (End o s))) })
      (answer_line folder report (UncaughtLine v) (reads file (walk (cluster_of t.manifest) (loader_of t) (Say (Idle b) j (End o s))) (Ended s.steps)))
