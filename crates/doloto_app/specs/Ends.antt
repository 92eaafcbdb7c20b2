-- How a command ends, over what it is to answer.
use Rattle.std.specs.Prelude.{◌≡◌, ◌⊎◌, ℕ, Bool, true, false, List, Option, ◌∷◌, ◌++◌, codes}
use Rattle.std.specs.Str.{is_utf8}
use Rattle.std.specs.Fmt.{decimal}
use Rattle.dl_ports.specs.Counts.{Rose}
use Rattle.dl_ports.specs.Streams.{and_more, WritesPart}
use Rattle.play.specs.declared.outcome.End.{End}
use Rattle.play.specs.declared.outcome.End.TheVariants as end
use Rattle.play.specs.declared.outcome.Outcome.{Outcome}
use Rattle.play.specs.declared.outcome.FirstFile.{FirstFile}
use Rattle.play.specs.declared.outcome.FirstFile.TheVariants as first
use Rattle.play.specs.declared.outcome.FirstError.{FirstError}
use Rattle.play.specs.declared.outcome.FirstError.TheVariants as error
use Rattle.js_tree.specs.Tree as tree
use Rattle.play.specs.declared.manifest.Manifest.{Manifest}
use Rattle.play.specs.Headline.{ShowsOriginal}
use Rattle.play.specs.Laziness.{ShowsLoads}
use Rattle.play.specs.Played.{Answered, Gives, Lacks, Refuses}
use Rattle.dl_ports.specs.Stores.{AskedNames, and_names, AsksFront}
use Rattle.doloto_app.specs.declared.status.Status.{Status}
use Rattle.doloto_app.specs.declared.status.Status.TheVariants.{Ended, Words, Refused, OutOfSteps, ReadFault, WriteFault, OutOfMemory, Missing}
use Rattle.doloto_app.specs.declared.status.Refusal.TheVariants.{First, Script}
use Rattle.source_files.specs.FaultTexts.{fault_text}
use Rattle.doloto_app.specs.declared.words.WordFault.TheVariants as word

-- the numbers of the program's ends
abbrev pub number_of : Status → ℕ
number_of Ended = 0
number_of (Words fault) = 1
number_of (Refused refusal) = 2
number_of OutOfSteps = 3
number_of ReadFault = 6
number_of WriteFault = 7
number_of OutOfMemory = 8
number_of (Missing name) = 10

-- the texts that tell them
abbrev pub file_text : FirstFile → List ℕ
file_text first.Page = codes "page"
file_text first.Manifest = codes "site.txt"
file_text first.Script = codes "s1.js"
file_text (first.Cluster c) = 99 ∷ (decimal c ++ codes ".txt")

abbrev pub missing_text : List ℕ → Bool → List ℕ
missing_text name true = codes "missing: " ++ name
missing_text name false = codes "missing"

abbrev pub text_of : Status → List ℕ
text_of Ended = codes "ended"
text_of (Words word.First) = codes "words: First"
text_of (Refused (First file)) = codes "form " ++ file_text file
text_of (Refused (Script number fault)) =
    codes "script " ++ (decimal number ++ (codes ": " ++ fault_text fault))
text_of OutOfSteps = codes "out of steps"
text_of ReadFault = codes "read fault"
text_of WriteFault = codes "write fault"
text_of OutOfMemory = codes "out of memory"
text_of (Missing name) = missing_text name (is_utf8 name)

-- what a sink has taken, where told
abbrev pub Taken : Type 0
Taken = Option (List ℕ)

-- the whole report was written, and its end is this one
pub record Reported (r : Answered) (asked asked_now : AskedNames) (taken taken_now : Taken)
    (e : End) : Type 0 where
  pub report : List ℕ
  pub answer_is : r.answer ≡ Gives report e
  pub asked_is : asked_now ≡ and_names asked r.asked
  pub written : taken_now ≡ and_more taken report

-- a front of the report was written
pub record Broken (r : Answered) (asked asked_now : AskedNames) (taken taken_now : Taken)
    : Type 0 where
  pub report : List ℕ
  pub e : End
  pub answer_is : r.answer ≡ Gives report e
  pub asked_is : asked_now ≡ and_names asked r.asked
  pub written : WritesPart taken report taken_now

-- nothing was written, and all the names of the answer were asked
abbrev pub PutsNothing : Answered → AskedNames → AskedNames → Taken → Taken → Type 0
PutsNothing r asked asked_now taken taken_now =
    (asked_now ≡ and_names asked r.asked) × (taken_now ≡ taken)

-- nothing was written, and a front of the names was asked
abbrev pub Stopped : Answered → AskedNames → AskedNames → Taken → Taken → Type 0
Stopped r asked asked_now taken taken_now =
    AsksFront asked asked_now r.asked × (taken_now ≡ taken)

-- a status has its cause in what is to be answered, and says what was asked and written
abbrev pub Ends : Answered → AskedNames → AskedNames → Taken → Taken → Status → Type 0
Ends r asked asked_now taken taken_now Ended =
    Reported r asked asked_now taken taken_now end.Ended
Ends r asked asked_now taken taken_now (Words fault) = ⊥
Ends r asked asked_now taken taken_now (Refused (First file)) =
    (r.answer ≡ Refuses file) × PutsNothing r asked asked_now taken taken_now
Ends r asked asked_now taken taken_now (Refused (Script number fault)) = ⊥
Ends r asked asked_now taken taken_now OutOfSteps =
    Reported r asked asked_now taken taken_now end.OutOfSteps
Ends r asked asked_now taken taken_now ReadFault = Stopped r asked asked_now taken taken_now
Ends r asked asked_now taken taken_now WriteFault = Broken r asked asked_now taken taken_now
Ends r asked asked_now taken taken_now OutOfMemory =
    Stopped r asked asked_now taken taken_now ⊎ Broken r asked asked_now taken taken_now
Ends r asked asked_now taken taken_now (Missing name) =
    (r.answer ≡ Lacks name) × PutsNothing r asked asked_now taken taken_now

-- the report of an outcome was written: the whole of it, with the status of its end, or a front
abbrev pub Puts : Outcome → Taken → Taken → Status → Type 0
Puts o taken taken_now Ended = (o.end ≡ end.Ended) × (taken_now ≡ and_more taken o.report)
Puts o taken taken_now OutOfSteps =
    (o.end ≡ end.OutOfSteps) × (taken_now ≡ and_more taken o.report)
Puts o taken taken_now WriteFault = WritesPart taken o.report taken_now
Puts o taken taken_now OutOfMemory = WritesPart taken o.report taken_now
Puts o taken taken_now (Words fault) = ⊥
Puts o taken taken_now (Refused refusal) = ⊥
Puts o taken taken_now ReadFault = ⊥
Puts o taken taken_now (Missing name) = ⊥

-- the status where there is no report
abbrev pub status_of : FirstError → Status
status_of error.ReadFault = ReadFault
status_of (error.Missing name) = Missing name
status_of (error.First file) = Refused (First file)
status_of error.OutOfMemory = OutOfMemory

-- after a refusal, a missing file or a fault of the store nothing was put, whether or not the store
-- tells its files
abbrev pub MayPut : Status → Taken → Taken → Type 0
MayPut (Words fault) taken taken_now = taken_now ≡ taken
MayPut (Refused refusal) taken taken_now = taken_now ≡ taken
MayPut ReadFault taken taken_now = taken_now ≡ taken
MayPut (Missing name) taken taken_now = taken_now ≡ taken
MayPut _ taken taken_now = Unit {0}

-- the status of a report's end
abbrev pub status_of_end : End → Status
status_of_end end.Ended = Ended
status_of_end end.OutOfSteps = OutOfSteps

-- a report was written of which this holds
pub record Writes (taken taken_now : Taken) (Is : List ℕ → Type 0) : Type 0 where
  pub report : List ℕ
  pub written : taken_now ≡ and_more taken report
  pub shows : Is report

-- the headline: the report that was written shows the calls of this script's original run under n
-- steps
abbrev pub WritesOriginal : Taken → Taken → tree.Script → ℕ → Status → Type 0
WritesOriginal taken taken_now script n Ended =
    Writes taken taken_now (λ report. ShowsOriginal report end.Ended script n)
WritesOriginal taken taken_now script n OutOfSteps =
    Writes taken taken_now (λ report. ShowsOriginal report end.OutOfSteps script n)
WritesOriginal taken taken_now script n _ = Unit {0}

-- laziness: its lines are those of the original's marks, as clusters come
abbrev pub WritesLoads : Taken → Taken → Manifest → tree.Script → ℕ → Status → Type 0
WritesLoads taken taken_now m script n Ended =
    Writes taken taken_now (λ report. ShowsLoads m report end.Ended script n)
WritesLoads taken taken_now m script n OutOfSteps =
    Writes taken taken_now (λ report. ShowsLoads m report end.OutOfSteps script n)
WritesLoads taken taken_now m script n _ = Unit {0}

-- a count that did not rise
abbrev pub NoFault : ℕ → ℕ → Type 0
NoFault before now = Rose before now → ⊥
