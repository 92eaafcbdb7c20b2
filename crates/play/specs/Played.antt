-- What is played for given files: the walk over the written run's marks, up to the first cluster that comes and is not there or not
-- accepted; and the answer for the page, with what was read before.
use Rattle.std.specs.Prelude.{ℕ, List, [], ◌∷◌, ◌++◌, Option, Some, None, Bool, ◌||◌, ◌==◌, if◌then◌else◌, codes}
use Rattle.std.specs.Option.{option_map}
use Rattle.std.specs.Str.{bytes_eq}
use Rattle.dl_ports.specs.Files.{Files}
use Rattle.first_grammar.specs.declared.script.FirstItem.{FirstItem}
use Rattle.play.specs.declared.manifest.ClusterLine.{ClusterLine}
use Rattle.play.specs.declared.manifest.Manifest.{Manifest}
use Rattle.play.specs.declared.outcome.End.{End}
use Rattle.play.specs.declared.outcome.End.TheVariants as end
use Rattle.play.specs.declared.outcome.FirstFile.{FirstFile}
use Rattle.play.specs.declared.outcome.FirstFile.TheVariants as first
use Rattle.play.specs.ManifestReader.{read_manifest}
use Rattle.play.specs.Run.{Trace}
use Rattle.play.specs.Page.{written}
use Rattle.play.specs.Site.{manifest_name, script_name, cluster_name, line_of, site_tree, read_script_file, ClusterFile, Absent, Refused, Accepted, cluster_file, entries}
use Rattle.play.specs.Report.{Line, HereLine, lines_text, ended_text, out_of_steps_text}
use Rattle.play.specs.Loader.{fresh}
use Rattle.play.specs.Walk.{RunEnd, Ended, RanOut, Broke, walk, end_of}
use Rattle.play.specs.Manifest.{cluster_numbers}

-- ---- the lines and the end

pub data Walked : Type 0 where
  Reports : (lines : List Line) → (end : RunEnd) → Walked
  LacksFile : (c : ℕ) → Walked
  RefusesFile : (c : ℕ) → Walked

abbrev pub with_line : Line → Walked → Walked
with_line line (Reports lines e) = Reports (line ∷ lines) e
with_line line (LacksFile c) = LacksFile c
with_line line (RefusesFile c) = RefusesFile c

-- a cluster comes
abbrev pub comes : ℕ → ClusterFile → Walked → Walked
comes c Absent rest = LacksFile c
comes c Refused rest = RefusesFile c
comes c (Accepted es) rest = with_line (HereLine c) rest

abbrev pub after_line : (ℕ → ClusterFile) → Line → Walked → Walked
after_line file (HereLine c) rest = comes c (file c) rest
after_line file line rest = with_line line rest

-- the lines of a walk, up to the first cluster that comes and is not accepted
abbrev pub reads : (ℕ → ClusterFile) → List Line → RunEnd → Walked
reads file [] e = Reports [] e
reads file (line ∷ lines) e = after_line file line (reads file lines e)

-- the names of the files of the clusters that came, in order, the one that ends the run included
abbrev pub names_after : List ℕ → ℕ → ClusterFile → List (List ℕ) → List (List ℕ)
names_after folder c Absent rest = cluster_name folder c ∷ []
names_after folder c Refused rest = cluster_name folder c ∷ []
names_after folder c (Accepted es) rest = cluster_name folder c ∷ rest

abbrev pub with_name : List ℕ → (ℕ → ClusterFile) → Line → List (List ℕ) → List (List ℕ)
with_name folder file (HereLine c) rest = names_after folder c (file c) rest
with_name folder file line rest = rest

abbrev pub cluster_names : List ℕ → (ℕ → ClusterFile) → List Line → List (List ℕ)
cluster_names folder file [] = []
cluster_names folder file (line ∷ lines) = with_name folder file line (cluster_names folder file lines)

-- ---- a site

abbrev pub cluster_number : ClusterLine → ℕ
cluster_number c = c.cluster

-- the cluster of an entry's number
abbrev pub cluster_of : Manifest → ℕ → Option ℕ
cluster_of m k = option_map cluster_number (line_of m.clusters k)

abbrev pub file_by : Files → List ℕ → List ClusterLine → ℕ → ClusterFile
file_by files folder [] c = Absent
file_by files folder (l ∷ ls) c = if l.cluster == c then cluster_file files folder l else file_by files folder ls c

-- the file of a cluster
abbrev pub file_of : Files → List ℕ → Manifest → ℕ → ClusterFile
file_of files folder m c = file_by files folder m.clusters c

-- the written run of the site
abbrev pub site_run : Files → List ℕ → Manifest → List FirstItem → ℕ → Trace
site_run files folder m items n = written (entries files folder m) (site_tree m.plain items) n

abbrev pub site_lines : Manifest → Trace → List Line
site_lines m t = walk (cluster_of m) (fresh (cluster_numbers m.clusters)) t

-- what is played for a run of the site
abbrev pub site_played : Files → List ℕ → Manifest → Trace → Walked
site_played files folder m t = reads (file_of files folder m) (site_lines m t) (end_of t)

abbrev pub site_names : Files → List ℕ → Manifest → Trace → List (List ℕ)
site_names files folder m t = cluster_names folder (file_of files folder m) (site_lines m t)

-- ---- the answer

-- what a call answers, want of memory and faults aside. Broken is what no accepted site gives
pub data Answer : Type 0 where
  Gives : (report : List ℕ) → (e : End) → Answer
  Lacks : (name : List ℕ) → Answer
  Refuses : (file : FirstFile) → Answer
  Broken : Answer

abbrev pub report : List Line → RunEnd → Answer
report lines (Ended steps) = Gives (lines_text lines ++ ended_text steps) end.Ended
report lines (RanOut steps) = Gives (lines_text lines ++ out_of_steps_text steps) end.OutOfSteps
report lines Broke = Broken

abbrev pub answer_of : List ℕ → Walked → Answer
answer_of folder (Reports lines e) = report lines e
answer_of folder (LacksFile c) = Lacks (cluster_name folder c)
answer_of folder (RefusesFile c) = Refuses (first.Cluster c)

-- the answer, and the names asked of the store in order
pub record Answered : Type 0 where
  pub answer : Answer
  pub asked : List (List ℕ)

abbrev pub for_script : Files → List ℕ → ℕ → Manifest → Option (List FirstItem) → Answered
for_script files folder n m None = record { answer = Refuses first.Script; asked = [] }
for_script files folder n m (Some items) = record {
  answer = answer_of folder (site_played files folder m (site_run files folder m items n));
  asked = site_names files folder m (site_run files folder m items n);
}

abbrev pub after_name : List ℕ → Answered → Answered
after_name name r = record { answer = r.answer; asked = name ∷ r.asked }

abbrev pub for_script_file : Files → List ℕ → ℕ → Manifest → Option (List ℕ) → Answered
for_script_file files folder n m None = record { answer = Lacks (script_name folder); asked = [] }
for_script_file files folder n m (Some bytes) = for_script files folder n m (read_script_file m bytes)

abbrev pub for_manifest : Files → List ℕ → ℕ → Option Manifest → Answered
for_manifest files folder n None = record { answer = Refuses first.Manifest; asked = [] }
for_manifest files folder n (Some m) = after_name (script_name folder) (for_script_file files folder n m (files (script_name folder)))

abbrev pub for_manifest_file : Files → List ℕ → ℕ → Option (List ℕ) → Answered
for_manifest_file files folder n None = record { answer = Lacks (manifest_name folder); asked = [] }
for_manifest_file files folder n (Some bytes) = for_manifest files folder n (read_manifest bytes)

abbrev pub for_folder : Files → List ℕ → ℕ → Answered
for_folder files folder n = after_name (manifest_name folder) (for_manifest_file files folder n (files (manifest_name folder)))

-- the page of the first grammar, with or without a line feed
abbrev pub page_text : List ℕ
page_text = codes "{\"host\":[\"out\"]}"

abbrev pub is_page : List ℕ → Bool
is_page page = bytes_eq page page_text || bytes_eq page (page_text ++ 10 ∷ [])

-- what play answers for the page's bytes, the files and the steps that are allowed
abbrev pub played : Files → List ℕ → List ℕ → ℕ → Answered
played files folder page n =
    if is_page page then for_folder files folder n else (record { answer = Refuses first.Page; asked = [] })

abbrev pub for_page_file : Files → List ℕ → List ℕ → ℕ → Option (List ℕ) → Answered
for_page_file files folder name n None = record { answer = Lacks name; asked = [] }
for_page_file files folder name n (Some page) = played files folder page n

-- the same for the page of this name
abbrev pub played_page : Files → List ℕ → List ℕ → ℕ → Answered
played_page files folder name n = after_name name (for_page_file files folder name n (files name))
