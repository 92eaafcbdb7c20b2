-- What the load of a cluster leaves of the answer.
use Rattle.std.proofs.Common.{◌≡◌, ℕ, List, [], ◌∷◌, Option, Some, None, refl, sym, ap, ◌∙◌, subst, ◌⊎◌, inl, inr}
use Rattle.std.proofs.lemmas.List.{append-nil}
use Rattle.dl_ports.specs.Files.{Files, and_name}
use Rattle.js_tree.specs.Tree.{Func}
use Rattle.play.specs.declared.table.Table.{Table}
use Rattle.play.specs.declared.table.Entry.{Entry}
use Rattle.play.specs.declared.machine.Machine.{Machine}
use Rattle.play.specs.declared.outcome.FirstError.{FirstError}
use Rattle.play.specs.declared.outcome.FirstError.TheVariants.{ReadFault, Missing, First, OutOfMemory}
use Rattle.play.specs.Run.{Entered, Say}
use Rattle.play.specs.Site.{ClusterFile, Absent, Refused, Accepted, cluster_name, cluster_file, entries}
use Rattle.play.specs.Played.{Answered, Lacks, Refuses, after_name, file_of}
use Rattle.play.specs.Machine.{arrived_report, left_for, with_entries, IsSound, NeedsNext}
use Rattle.dl_ports.specs.Stores.{AskedNames, and_names, AsksFront}
use Rattle.play.specs.Answers.{ErrorMeets, Fetches, FetchFails, Loads, site_left}
use Rattle.play.proofs.ArrivalLemmas.{file_is, left_absent, left_refused, left_arrived}
use Rattle.play.proofs.EntryLemmas.{agrees_more}

pub front_none : (asked : AskedNames) (names : List (List ℕ)) → AsksFront asked asked names
front_none None names = (0, refl)
front_none (Some before) names = (0, ap Some (sym (append-nil before)))

pub one_name : (asked : AskedNames) (name : List ℕ) → and_name asked name ≡ and_names asked (name ∷ [])
one_name None name = refl
one_name (Some before) name = refl

pub front_one : (asked now : AskedNames) (name : List ℕ) (names : List (List ℕ)) → now ≡ and_name asked name → AsksFront asked now (name ∷ names)
front_one asked now name names h = (1, h ∙ one_name asked name)

pub front_either : (asked now : AskedNames) (name : List ℕ) (names : List (List ℕ)) → (now ≡ asked) ⊎ (now ≡ and_name asked name) → AsksFront asked now (name ∷ names)
front_either asked now name names (inl e) = subst (λ z. AsksFront asked z (name ∷ names)) (sym e) (front_none asked (name ∷ names))
front_either asked now name names (inr e) = front_one asked now name names e

module _ (files : Files) (folder : List ℕ) (t : Table) (m : Machine) (place : ℕ) (sound : IsSound t) (needs : NeedsNext t m place) where
  fun : ℕ → Option Func
  fun = entries files folder t.manifest

  file : ℕ → ClusterFile
  file = file_of files folder t.manifest

  was : site_left files folder t m ≡ left_for folder file t m.report (Say (Entered needs.number (needs.enters fun).0) (needs.enters fun).1 (needs.enters fun).2)
  unfolding fun file
  was = ap (left_for folder file t m.report) (needs.enters fun).3

  the_file : file needs.line.cluster ≡ cluster_file files folder needs.line
  unfolding file
  the_file = file_is files folder t place needs.line sound needs.line_at

  name : List ℕ
  name = cluster_name folder needs.line.cluster

  -- whatever comes, the name of the file is asked first
  asks_first : (es : List Entry) (c : ClusterFile) → cluster_file files folder needs.line ≡ c → (names : List (List ℕ)) × ((site_left files folder t m).asked ≡ name ∷ names)
  unfolding name file fun
  asks_first es Absent h = ([], ap (λ (r : Answered). r.asked) (was ∙ left_absent t place needs.line es sound needs.line_at needs.absent folder file m.report needs.number (needs.enters fun).0 (needs.enters fun).1 (needs.enters fun).2 needs.listed (the_file ∙ h)))
  asks_first es Refused h = ([], ap (λ (r : Answered). r.asked) (was ∙ left_refused t place needs.line es sound needs.line_at needs.absent folder file m.report needs.number (needs.enters fun).0 (needs.enters fun).1 (needs.enters fun).2 needs.listed (the_file ∙ h)))
  asks_first es (Accepted read) h = (_, ap (λ (r : Answered). r.asked) (was ∙ left_arrived t place needs.line es sound needs.line_at needs.absent folder file m.report needs.number (needs.enters fun).0 (needs.enters fun).1 (needs.enters fun).2 needs.listed read (the_file ∙ h) sound.all_loaded))

  pub memory_front : (before now : AskedNames) → (now ≡ before) ⊎ (now ≡ and_name before (cluster_name folder needs.line.cluster)) → AsksFront before now (site_left files folder t m).asked
  unfolding name
  memory_front before now h =
      let a = asks_first [] (cluster_file files folder needs.line) refl in
      subst (AsksFront before now) (sym a.1) (front_either before now (cluster_name folder needs.line.cluster) a.0 h)

  pub fails : (before now : AskedNames) (e : FirstError) → FetchFails files folder needs.line before now e → ErrorMeets (site_left files folder t m) before now e
  unfolding fun file name
  fails before now ReadFault h =
      let a = asks_first [] (cluster_file files folder needs.line) refl in
      subst (AsksFront before now) (sym a.1) (front_one before now (cluster_name folder needs.line.cluster) a.0 h)
  fails before now (Missing missing) h =
      let r = was ∙ left_absent t place needs.line [] sound needs.line_at needs.absent folder file m.report needs.number (needs.enters fun).0 (needs.enters fun).1 (needs.enters fun).2 needs.listed (the_file ∙ h.1) in
      (ap (λ (r : Answered). r.answer) r ∙ ap Lacks (sym h.0), h.2 ∙ (one_name before (cluster_name folder needs.line.cluster) ∙ ap (λ (r : Answered). and_names before r.asked) (sym r)))
  fails before now (First refused) h =
      let r = was ∙ left_refused t place needs.line [] sound needs.line_at needs.absent folder file m.report needs.number (needs.enters fun).0 (needs.enters fun).1 (needs.enters fun).2 needs.listed (the_file ∙ h.1) in
      (ap (λ (r : Answered). r.answer) r ∙ ap Refuses (sym h.0), h.2 ∙ (one_name before (cluster_name folder needs.line.cluster) ∙ ap (λ (r : Answered). and_names before r.asked) (sym r)))
  fails before now OutOfMemory h = memory_front before now h

  pub loads : (new : Table) (moved : Machine) (es : List Entry) (before now : AskedNames) → new ≡ with_entries t place es → moved ≡ record m { report = arrived_report m.report needs.line.cluster } → Fetches files folder needs.line es before now → Loads files folder t new m moved before now
  unfolding fun file name
  loads new moved es before now new_is moved_is f = record {
    name = cluster_name folder needs.line.cluster;
    left =
        was
        ∙ (left_arrived t place needs.line es sound needs.line_at needs.absent folder file m.report needs.number (needs.enters fun).0 (needs.enters fun).1 (needs.enters fun).2 needs.listed f.read (the_file ∙ f.accepted) sound.all_loaded
        ∙ (ap (λ trace. after_name (cluster_name folder needs.line.cluster) (left_for folder file (with_entries t place es) (arrived_report m.report needs.line.cluster) trace)) (sym (needs.enters fun).3)
        ∙ (ap (λ x. after_name (cluster_name folder needs.line.cluster) (site_left files folder (with_entries t place es) x)) (sym moved_is)
        ∙ ap (λ x. after_name (cluster_name folder needs.line.cluster) (site_left files folder x moved)) (sym new_is))));
    asked_is = f.asked_is ∙ one_name before (cluster_name folder needs.line.cluster);
    agrees = agrees_more files folder t new place needs.line es f.read sound needs.line_at f.accepted f.entries_are new_is;
  }
