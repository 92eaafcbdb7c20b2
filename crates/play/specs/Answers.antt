-- How the answer of a call meets what is played, and which names it asked of the store.
use Rattle.std.specs.Prelude.{◌≡◌, ◌⊎◌, ◌<◌, ℕ, suc, List, [], ◌∷◌, ◌++◌, map, take, Option, None, Some, Result, MatchResult}
use Rattle.std.specs.Option.{option_map}
use Rattle.play.specs.declared.outcome.Outcome.{Outcome}
use Rattle.play.specs.declared.outcome.FirstError.{FirstError}
use Rattle.play.specs.declared.outcome.FirstError.TheVariants.{ReadFault, Missing, First, OutOfMemory}
use Rattle.dl_ports.specs.Files.{Files, and_name}
use Rattle.dl_ports.specs.Stores.{AskedNames, and_names, AsksFront}
use Rattle.dl_ports.specs.declared.port.PortError.{PortError}
use Rattle.dl_ports.specs.declared.port.PortError.TheVariants as port
use Rattle.play.specs.declared.outcome.FirstFile.TheVariants as file
use Rattle.first_grammar.specs.declared.script.FirstEntry.{FirstEntry}
use Rattle.play.specs.declared.manifest.ClusterLine.{ClusterLine}
use Rattle.play.specs.Tables.{loaded_entry}
use Rattle.play.specs.declared.table.Entry.{Entry}
use Rattle.play.specs.declared.table.Table.{Table}
use Rattle.play.specs.declared.machine.Machine.{Machine}
use Rattle.play.specs.Site.{Absent, Refused, Accepted, cluster_name, cluster_file, entries}
use Rattle.play.specs.Played.{Gives, Lacks, Refuses, Answered, after_name, file_of}
use Rattle.play.specs.Machine.{IsSound, Agrees, left_of}

-- a refusal has its cause, and after it all the names were asked; after a fault or want of memory a front of them
abbrev pub ErrorMeets : Answered → AskedNames → AskedNames → FirstError → Type 0
ErrorMeets r before now ReadFault = AsksFront before now r.asked
ErrorMeets r before now (Missing name) = (r.answer ≡ Lacks name) × (now ≡ and_names before r.asked)
ErrorMeets r before now (First file) = (r.answer ≡ Refuses file) × (now ≡ and_names before r.asked)
ErrorMeets r before now OutOfMemory = AsksFront before now r.asked

abbrev pub OutcomeMeets : Answered → AskedNames → AskedNames → Outcome → Type 0
OutcomeMeets r before now o = (r.answer ≡ Gives o.report o.end) × (now ≡ and_names before r.asked)

-- the result is what is to be answered, and the names asked are those
abbrev pub Meets : Answered → AskedNames → AskedNames → Result Outcome FirstError → Type 0
Meets r before now result = MatchResult result (OutcomeMeets r before now) (ErrorMeets r before now)

-- the error of a store that refused a call
abbrev pub error_of : PortError → FirstError
error_of port.Failed = ReadFault
error_of port.OutOfMemory = OutOfMemory

-- the file of this name has these bytes, and its name was asked
abbrev pub Finds : Files → List ℕ → AskedNames → AskedNames → List ℕ → Type 0
Finds files name before now bytes = (files name ≡ Some bytes) × (now ≡ and_name before name)

-- why a file that is needed is not read
abbrev pub NeedFails : Files → List ℕ → AskedNames → AskedNames → FirstError → Type 0
NeedFails files name before now ReadFault = now ≡ and_name before name
NeedFails files name before now (Missing missing) = (missing ≡ name) × (files name ≡ None) × (now ≡ and_name before name)
NeedFails files name before now (First file) = ⊥
NeedFails files name before now OutOfMemory = (now ≡ before) ⊎ (now ≡ and_name before name)

-- what is still to come for a machine of a site whose files are these
abbrev pub site_left : Files → List ℕ → Table → Machine → Answered
site_left files folder t m = left_of (entries files folder t.manifest) folder (file_of files folder t.manifest) t m

-- the entries that are here are those of the files
abbrev pub SiteAgrees : Files → List ℕ → Table → Type 0
SiteAgrees files folder t = Agrees (entries files folder t.manifest) t

-- a cluster came: its file was asked, and the rest of the answer stays
pub record Loads (files : Files) (folder : List ℕ) (old new : Table) (before now : Machine) (asked asked_now : AskedNames) : Type 0 where
  pub name : List ℕ
  pub left : site_left files folder old before ≡ after_name name (site_left files folder new now)
  pub asked_is : asked_now ≡ and_names asked (name ∷ [])
  pub agrees : SiteAgrees files folder old → SiteAgrees files folder new

-- how many clusters are not here
abbrev pub missing : List (Option (List Entry)) → ℕ
missing [] = 0
missing (None ∷ ls) = suc (missing ls)
missing (Some es ∷ ls) = missing ls

-- the table keeps its manifest and has one cluster more
pub record OneMore (old new : Table) : Type 0 where
  pub manifest : new.manifest ≡ old.manifest
  pub sound : IsSound new
  pub fewer : missing new.loaded < missing old.loaded

-- the entries of a cluster's file, which was asked
pub record Fetches (files : Files) (folder : List ℕ) (line : ClusterLine) (es : List Entry) (before now : AskedNames) : Type 0 where
  pub read : List FirstEntry
  pub accepted : cluster_file files folder line ≡ Accepted read
  pub entries_are : es ≡ map loaded_entry read
  pub asked_is : now ≡ and_name before (cluster_name folder line.cluster)

-- why a cluster's file gives no entries
abbrev pub FetchFails : Files → List ℕ → ClusterLine → AskedNames → AskedNames → FirstError → Type 0
FetchFails files folder line before now ReadFault = now ≡ and_name before (cluster_name folder line.cluster)
FetchFails files folder line before now (Missing name) = (name ≡ cluster_name folder line.cluster) × (cluster_file files folder line ≡ Absent) × (now ≡ and_name before (cluster_name folder line.cluster))
FetchFails files folder line before now (First refused) = (refused ≡ file.Cluster line.cluster) × (cluster_file files folder line ≡ Refused) × (now ≡ and_name before (cluster_name folder line.cluster))
FetchFails files folder line before now OutOfMemory = (now ≡ before) ⊎ (now ≡ and_name before (cluster_name folder line.cluster))

-- some of the names were asked, and what is still to come is the rest of the answer
pub record Ahead (files : Files) (folder : List ℕ) (whole : Answered) (before now : AskedNames) (t : Table) (m : Machine) : Type 0 where
  pub names : List (List ℕ)
  pub asked_is : now ≡ and_names before names
  pub answer_is : (site_left files folder t m).answer ≡ whole.answer
  pub rest_is : names ++ (site_left files folder t m).asked ≡ whole.asked
  pub agrees : SiteAgrees files folder t
