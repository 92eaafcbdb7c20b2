-- A cluster that is needed comes: what is still to come of the answer before and after.
use Rattle.std.proofs.Common.{◌≡◌, ℕ, zero, suc, Bool, true, false, cond, List, [], ◌∷◌, ◌++◌, length, Option, Some, None, refl, sym, ap, ◌∙◌}
use Rattle.std.specs.Prelude.{nat_eq, slice_get, slice_set}
use Rattle.std.specs.Option.{option_map}
use Rattle.dl_ports.specs.Files.{Files}
use Rattle.first_grammar.specs.declared.script.FirstEntry.{FirstEntry}
use Rattle.play.specs.declared.manifest.ClusterLine.{ClusterLine}
use Rattle.play.specs.declared.table.Table.{Table}
use Rattle.play.specs.declared.table.Entry.{Entry}
use Rattle.play.specs.declared.outcome.FirstFile.TheVariants as first
use Rattle.play.specs.Run.{Entered, Trace, Say}
use Rattle.play.specs.Site.{line_of, ClusterFile, Absent, Refused, Accepted, cluster_name, cluster_file}
use Rattle.play.specs.Manifest.{Rises, cluster_numbers}
use Rattle.play.specs.Loader
use Rattle.play.specs.Report.{Line, WaitLine, AskLine, HereLine, line_text}
use Rattle.play.specs.Loader.{Moved, status_of, with_status}
use Rattle.play.specs.Walk
use Rattle.play.specs.Walk.{RunEnd, Ended, RanOut, Broke, walk, end_of, request, requested}
use Rattle.play.specs.Played
use Rattle.play.specs.Played.{Answered, Lacks, Refuses, reads, cluster_of, cluster_names, cluster_number, file_by, file_of}
use Rattle.play.specs.Machine.{status, statuses, loader_of, answer_after, arrived_report, left_for, with_entries, IsSound}
use Rattle.play.proofs.LeftLemmas.{answer_line, above, same_number, other_number, mapped_at, status_at, left_here}
use Rattle.play.proofs.TableLemmas.{none_some, some_one}

-- ---- the table of statuses

set_status : (before : ℕ) (cs : List ClusterLine) (ls : List (Option (List Entry))) (i : ℕ) (c : ClusterLine) (o : Option (List Entry)) (es : List Entry) → Rises before (cluster_numbers cs) → slice_get cs i ≡ Some c → slice_get ls i ≡ Some o
    → statuses cs (slice_set ls i (Some es)) ≡ with_status (statuses cs ls) c.cluster Loader.Here
set_status before [] ls i c o es r h q = absurd (none_some h)
set_status before (d ∷ ds) [] i c o es r h q = absurd (none_some q)
set_status before (d ∷ ds) (l ∷ ls) zero c o es r h q =
    sym (ap (λ b. cond b ((d.cluster, Loader.Here) ∷ statuses ds ls) ((d.cluster, status l) ∷ with_status (statuses ds ls) c.cluster Loader.Here))
    (ap (λ (x : ClusterLine). nat_eq x.cluster c.cluster) (some_one h) ∙ same_number c.cluster))
set_status before (d ∷ ds) (l ∷ ls) (suc i) c o es r h q =
    ap (λ tb. (d.cluster, status l) ∷ tb) (set_status d.cluster ds ls i c o es r.1 h q)
    ∙ sym (ap (λ b. cond b ((d.cluster, Loader.Here) ∷ statuses ds ls) ((d.cluster, status l) ∷ with_status (statuses ds ls) c.cluster Loader.Here))
    (other_number d.cluster c.cluster (above d.cluster (cluster_numbers ds) i c.cluster r.1 (mapped_at ds i c h))))

set_again : (tb : Loader.Statuses) (c : ℕ) (a b : Loader.Status) → with_status (with_status tb c a) c b ≡ with_status tb c b
set_again [] c a b = refl
set_again (p ∷ ps) c a b = by (nat_eq p.0 c) refl (set_again ps c a b)
  where
    by : (t : Bool) → nat_eq p.0 c ≡ t → with_status (with_status ps c a) c b ≡ with_status ps c b → with_status (cond (nat_eq p.0 c) ((p.0, a) ∷ ps) (p ∷ with_status ps c a)) c b ≡ cond (nat_eq p.0 c) ((p.0, b) ∷ ps) (p ∷ with_status ps c b)
    by true e h =
        ap (λ t. with_status (cond t ((p.0, a) ∷ ps) (p ∷ with_status ps c a)) c b) e
        ∙ (ap (λ t. cond t ((p.0, b) ∷ ps) ((p.0, a) ∷ with_status ps c b)) e ∙ sym (ap (λ t. cond t ((p.0, b) ∷ ps) (p ∷ with_status ps c b)) e))
    by false e h =
        ap (λ t. with_status (cond t ((p.0, a) ∷ ps) (p ∷ with_status ps c a)) c b) e
        ∙ (ap (λ t. cond t ((p.0, b) ∷ with_status ps c a) (p ∷ with_status (with_status ps c a) c b)) e
        ∙ (ap (λ tb. p ∷ tb) h ∙ sym (ap (λ t. cond t ((p.0, b) ∷ ps) (p ∷ with_status ps c b)) e)))

asked_at : (before : ℕ) (cs : List ClusterLine) (ls : List (Option (List Entry))) (i : ℕ) (c : ClusterLine) (o : Option (List Entry)) (new : Loader.Status) → Rises before (cluster_numbers cs) → slice_get cs i ≡ Some c → slice_get ls i ≡ Some o
    → status_of (with_status (statuses cs ls) c.cluster new) c.cluster ≡ new
asked_at before [] ls i c o new r h q = absurd (none_some h)
asked_at before (d ∷ ds) [] i c o new r h q = absurd (none_some q)
asked_at before (d ∷ ds) (l ∷ ls) zero c o new r h q =
    ap (λ b. status_of (cond b ((d.cluster, new) ∷ statuses ds ls) ((d.cluster, status l) ∷ with_status (statuses ds ls) c.cluster new)) c.cluster) same
    ∙ ap (λ b. cond b new (status_of (statuses ds ls) c.cluster)) same
  where
    same : nat_eq d.cluster c.cluster ≡ true
    same = ap (λ (x : ClusterLine). nat_eq x.cluster c.cluster) (some_one h) ∙ same_number c.cluster
asked_at before (d ∷ ds) (l ∷ ls) (suc i) c o new r h q =
    ap (λ b. status_of (cond b ((d.cluster, new) ∷ statuses ds ls) ((d.cluster, status l) ∷ with_status (statuses ds ls) c.cluster new)) c.cluster) other
    ∙ (ap (λ b. cond b (status l) (status_of (with_status (statuses ds ls) c.cluster new) c.cluster)) other ∙ asked_at d.cluster ds ls i c o new r.1 h q)
  where
    other : nat_eq d.cluster c.cluster ≡ false
    other = other_number d.cluster c.cluster (above d.cluster (cluster_numbers ds) i c.cluster r.1 (mapped_at ds i c h))

-- the file of a cluster by its place
file_at : (files : Files) (folder : List ℕ) (before : ℕ) (cs : List ClusterLine) (i : ℕ) (c : ClusterLine) → Rises before (cluster_numbers cs) → slice_get cs i ≡ Some c → file_by files folder cs c.cluster ≡ cluster_file files folder c
file_at files folder before [] i c r h = absurd (none_some h)
file_at files folder before (d ∷ ds) zero c r h =
    ap (λ b. cond b (cluster_file files folder d) (file_by files folder ds c.cluster)) (ap (λ (x : ClusterLine). nat_eq x.cluster c.cluster) (some_one h) ∙ same_number c.cluster)
    ∙ ap (cluster_file files folder) (some_one h)
file_at files folder before (d ∷ ds) (suc i) c r h =
    ap (λ b. cond b (cluster_file files folder d) (file_by files folder ds c.cluster)) (other_number d.cluster c.cluster (above d.cluster (cluster_numbers ds) i c.cluster r.1 (mapped_at ds i c h)))
    ∙ file_at files folder d.cluster ds i c r.1 h

pub file_is : (files : Files) (folder : List ℕ) (t : Table) (place : ℕ) (c : ClusterLine) → IsSound t → slice_get t.manifest.clusters place ≡ Some c → file_of files folder t.manifest c.cluster ≡ cluster_file files folder c
file_is files folder t place c sound h = file_at files folder 0 t.manifest.clusters place c sound.form.rise h

-- ---- the request

abbrev pub arrival_lines : ℕ → List Line
arrival_lines c = WaitLine c ∷ AskLine c ∷ HereLine c ∷ []

module _ (t : Table) (place : ℕ) (c : ClusterLine) (es : List Entry) (sound : IsSound t) (line_at : slice_get t.manifest.clusters place ≡ Some c) (absent : slice_get t.loaded place ≡ Some None) where
  tb : Loader.Statuses
  tb = statuses t.manifest.clusters t.loaded

  request_is : request (loader_of t) (Some c.cluster) ≡ record { loader = loader_of (with_entries t place es); lines = arrival_lines c.cluster }
  unfolding tb
  request_is =
      ap (requested (loader_of t) c.cluster) was_absent
      ∙ (ap (λ st. Walk.arrives (Loader.fills 0 (Loader.needed (loader_of t) c.cluster st)) c.cluster) was_absent
      ∙ (ap (λ st. Walk.after_need asked (Loader.fills 0 (Loader.arrived asked.loader c.cluster st))) (asked_at 0 t.manifest.clusters t.loaded place c None Loader.Asked sound.form.rise line_at absent)
      ∙ (ap (λ w. record { loader = record { table = with_status (with_status tb c.cluster Loader.Asked) c.cluster Loader.Here; waited = cond w None (Some c.cluster); background = false }; lines = arrival_lines c.cluster }) (same_number c.cluster)
      ∙ ap (λ table. record { loader = record { table = table; waited = None; background = false }; lines = arrival_lines c.cluster })
      (set_again tb c.cluster Loader.Asked Loader.Here ∙ sym (set_status 0 t.manifest.clusters t.loaded place c None es sound.form.rise line_at absent)))))
    where
      was_absent : status_of (statuses t.manifest.clusters t.loaded) c.cluster ≡ Loader.Absent
      was_absent = status_at 0 t.manifest.clusters t.loaded place c None sound.form.rise line_at absent

      asked : Moved
      asked = record { loader = record { table = with_status tb c.cluster Loader.Asked; waited = Some c.cluster; background = false }; lines = WaitLine c.cluster ∷ AskLine c.cluster ∷ [] }

  -- what is left where the next mark is the entry of the stub
  module _ (folder : List ℕ) (file : ℕ → ClusterFile) (report : List ℕ) (k b i : ℕ) (rest : Trace) (listed : line_of t.manifest.clusters k ≡ Some c) where
    after : Moved → Answered
    after m = record {
      answer = answer_after folder report (reads file (m.lines ++ walk (cluster_of t.manifest) m.loader rest) (end_of rest));
      asked = cluster_names folder file (m.lines ++ walk (cluster_of t.manifest) m.loader rest);
    }

    comes : ClusterFile → Answered
    comes f = record {
      answer = answer_after folder report (Played.with_line (WaitLine c.cluster) (Played.with_line (AskLine c.cluster) (Played.comes c.cluster f (reads file (walk (cluster_of t.manifest) (loader_of (with_entries t place es)) rest) (end_of rest)))));
      asked = Played.names_after folder c.cluster f (cluster_names folder file (walk (cluster_of t.manifest) (loader_of (with_entries t place es)) rest));
    }

    needed_is : left_for folder file t report (Say (Entered k b) i rest) ≡ comes (file c.cluster)
    unfolding after comes
    needed_is = ap (λ o. after (request (loader_of t) (option_map cluster_number o))) listed ∙ ap after request_is

    pub left_absent : file c.cluster ≡ Absent → left_for folder file t report (Say (Entered k b) i rest) ≡ record { answer = Lacks (cluster_name folder c.cluster); asked = cluster_name folder c.cluster ∷ [] }
    unfolding comes
    left_absent h = needed_is ∙ ap comes h

    pub left_refused : file c.cluster ≡ Refused → left_for folder file t report (Say (Entered k b) i rest) ≡ record { answer = Refuses (first.Cluster c.cluster); asked = cluster_name folder c.cluster ∷ [] }
    unfolding comes
    left_refused h = needed_is ∙ ap comes h

    pub left_arrived : (fes : List FirstEntry) → file c.cluster ≡ Accepted fes → length t.loaded ≡ length t.manifest.clusters
        → left_for folder file t report (Say (Entered k b) i rest) ≡ Played.after_name (cluster_name folder c.cluster) (left_for folder file (with_entries t place es) (arrived_report report c.cluster) (Say (Entered k b) i rest))
    unfolding comes
    left_arrived fes h all =
        needed_is
        ∙ (ap comes h
        ∙ (ap (λ a. record { answer = a; asked = cluster_name folder c.cluster ∷ cluster_names folder file (walk (cluster_of t.manifest) (loader_of (with_entries t place es)) rest) })
        (answer_line folder report (WaitLine c.cluster) (Played.with_line (AskLine c.cluster) (Played.with_line (HereLine c.cluster) ending))
        ∙ (answer_line folder (report ++ line_text (WaitLine c.cluster)) (AskLine c.cluster) (Played.with_line (HereLine c.cluster) ending)
        ∙ answer_line folder ((report ++ line_text (WaitLine c.cluster)) ++ line_text (AskLine c.cluster)) (HereLine c.cluster) ending))
        ∙ ap (Played.after_name (cluster_name folder c.cluster)) (sym (left_here folder file (with_entries t place es) (arrived_report report c.cluster) k b i rest c listed here))))
      where
        ending : Played.Walked
        ending = reads file (walk (cluster_of t.manifest) (loader_of (with_entries t place es)) rest) (end_of rest)

        here : status_of (statuses t.manifest.clusters (slice_set t.loaded place (Some es))) c.cluster ≡ Loader.Here
        here =
            ap (λ table. status_of table c.cluster) (set_status 0 t.manifest.clusters t.loaded place c None es sound.form.rise line_at absent)
            ∙ asked_at 0 t.manifest.clusters t.loaded place c None Loader.Here sound.form.rise line_at absent
