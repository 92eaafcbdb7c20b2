-- How `format` ends, over the files of the store.
use Rattle.std.specs.Prelude.{◌≡◌, ◌⊎◌, ℕ, List, None}
use Rattle.dl_ports.specs.Files.{Files, and_name}
use Rattle.dl_ports.specs.Streams.{and_more, WritesPart}
use Rattle.dl_ports.specs.Stores.{AskedNames}
use Rattle.js_printer.specs.PrintedText.{script_bytes}
use Rattle.js_tree.specs.Tree as tree
use Rattle.source_files.specs.declared.fault.SourceError.{SourceError}
use Rattle.source_files.specs.declared.fault.SourceError.TheVariants as error
use Rattle.source_files.specs.Reading.{OfFile}
use Rattle.source_files.specs.Sources.{IsSource, IsRefused, whole_room}
use Rattle.doloto_app.specs.declared.status.Status.{Status}
use Rattle.doloto_app.specs.declared.status.Status.TheVariants.{Ended, Words, Refused, OutOfSteps, ReadFault, WriteFault, OutOfMemory, Missing}
use Rattle.doloto_app.specs.declared.status.Refusal.TheVariants.{First, Script}
use Rattle.doloto_app.specs.Ends.{Taken}

-- the file of this name is a source script with this tree
abbrev pub HasScript : Files → List ℕ → tree.Script → Type 0
HasScript files name script = OfFile files name (λ bytes. IsSource whole_room bytes script)

-- the printed script was written
pub record Formatted (files : Files) (name : List ℕ) (asked asked_now : AskedNames)
    (taken taken_now : Taken) : Type 0 where
  pub script : tree.Script
  pub source : HasScript files name script
  pub asked_is : asked_now ≡ and_name asked name
  pub written : taken_now ≡ and_more taken (script_bytes script)

-- a front of it was written
pub record PartlyFormatted (files : Files) (name : List ℕ) (asked asked_now : AskedNames)
    (taken taken_now : Taken) : Type 0 where
  pub script : tree.Script
  pub source : HasScript files name script
  pub asked_is : asked_now ≡ and_name asked name
  pub written : WritesPart taken (script_bytes script) taken_now

-- nothing was written, and the name was asked
abbrev pub AsksAlone : List ℕ → AskedNames → AskedNames → Taken → Taken → Type 0
AsksAlone name asked asked_now taken taken_now =
    (asked_now ≡ and_name asked name) × (taken_now ≡ taken)

-- a status has its cause in the file, and says what was asked and written
abbrev pub FormatEnds
    : Files → List ℕ → AskedNames → AskedNames → Taken → Taken → Status → Type 0
FormatEnds files name asked asked_now taken taken_now Ended =
    Formatted files name asked asked_now taken taken_now
FormatEnds files name asked asked_now taken taken_now (Words fault) = ⊥
FormatEnds files name asked asked_now taken taken_now (Refused (First file)) = ⊥
FormatEnds files name asked asked_now taken taken_now (Refused (Script number fault)) =
    (number ≡ 1) × (OfFile files name (λ bytes. IsRefused whole_room bytes fault)
    × AsksAlone name asked asked_now taken taken_now)
FormatEnds files name asked asked_now taken taken_now OutOfSteps = ⊥
FormatEnds files name asked asked_now taken taken_now ReadFault =
    AsksAlone name asked asked_now taken taken_now
FormatEnds files name asked asked_now taken taken_now WriteFault =
    PartlyFormatted files name asked asked_now taken taken_now
FormatEnds files name asked asked_now taken taken_now OutOfMemory =
    (((asked_now ≡ asked) ⊎ (asked_now ≡ and_name asked name)) × (taken_now ≡ taken))
    ⊎ PartlyFormatted files name asked asked_now taken taken_now
FormatEnds files name asked asked_now taken taken_now (Missing missing) =
    (missing ≡ name) × ((files name ≡ None) × AsksAlone name asked asked_now taken taken_now)

-- a script was written: the whole of it, or a front
abbrev pub PutsScript : tree.Script → Taken → Taken → Status → Type 0
PutsScript script taken taken_now Ended = taken_now ≡ and_more taken (script_bytes script)
PutsScript script taken taken_now WriteFault = WritesPart taken (script_bytes script) taken_now
PutsScript script taken taken_now OutOfMemory =
    (taken_now ≡ taken) ⊎ WritesPart taken (script_bytes script) taken_now
PutsScript script taken taken_now (Words fault) = ⊥
PutsScript script taken taken_now (Refused refusal) = ⊥
PutsScript script taken taken_now OutOfSteps = ⊥
PutsScript script taken taken_now ReadFault = ⊥
PutsScript script taken taken_now (Missing name) = ⊥

-- the status of a script that was not read, but for want of memory
abbrev pub IsStatusOf : List ℕ → SourceError → Status → Type 0
IsStatusOf name error.ReadFault status = status ≡ ReadFault
IsStatusOf name (error.Refused fault) status = status ≡ Refused (Script 1 fault)
IsStatusOf name error.OutOfMemory status = status ≡ OutOfMemory
IsStatusOf name error.Missing status = (status ≡ Missing name) ⊎ (status ≡ OutOfMemory)
