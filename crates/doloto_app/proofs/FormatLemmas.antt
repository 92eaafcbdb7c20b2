-- How `format` ends: from what is read and what is written to the status.
use Rattle.std.proofs.Common.{◌≡◌, ◌⊎◌, inl, inr, ℕ, List, Option, Some, None, Ok, Err, refl, sym, ap, ◌∙◌, subst}
use Rattle.dl_ports.specs.Counts.{CountsFault}
use Rattle.dl_ports.specs.Files.{Files}
use Rattle.dl_ports.specs.Stores.{AskedNames}
use Rattle.js_tree.specs.Tree as tree
use Rattle.js_tree.specs.Plain as plain
use Rattle.js_tree.specs.declared.tree.Script.{Script as AScript}
use Rattle.source_files.specs.declared.fault.ScriptFault.{ScriptFault}
use Rattle.source_files.specs.declared.fault.SourceError.{SourceError}
use Rattle.source_files.specs.declared.fault.SourceError.TheVariants as error
use Rattle.source_files.specs.Reading.{FileGives, FileGivesNone, OfFile}
use Rattle.source_files.specs.Sources.{IsSource, IsRefused, whole_room}
use Rattle.source_files.proofs.Sources.{not_refused}
use Rattle.doloto_app.specs.declared.status.Status.{Status}
use Rattle.doloto_app.specs.declared.status.Status.TheVariants.{Ended, Words, Refused, OutOfSteps, ReadFault, WriteFault, OutOfMemory, Missing}
use Rattle.doloto_app.specs.declared.status.Refusal.TheVariants.{First, Script}
use Rattle.doloto_app.specs.Ends.{Taken, NoFault}
use Rattle.doloto_app.specs.Formats.{FormatEnds, HasScript, IsStatusOf, PutsScript}

module _ (files : Files) (name : List ℕ) (asked asked_now : AskedNames) (taken : Taken) where
  -- a script was read, and printed
  pub format_written : (taken_now : Taken) (script : AScript) (status : Status) → FileGives files name whole_room asked asked_now (Ok script)
      → PutsScript (plain.script script) taken taken_now status → FormatEnds files name asked asked_now taken taken_now status
  format_written taken_now script Ended g p = record { script = plain.script script; source = g.0; asked_is = g.1; written = p }
  format_written taken_now script (Words fault) g p = p
  format_written taken_now script (Refused refusal) g p = absurd p
  format_written taken_now script OutOfSteps g p = p
  format_written taken_now script ReadFault g p = absurd p
  format_written taken_now script WriteFault g p = record { script = plain.script script; source = g.0; asked_is = g.1; written = p }
  format_written taken_now script OutOfMemory g (inl p) = inl (inr g.1, p)
  format_written taken_now script OutOfMemory g (inr p) = inr (record { script = plain.script script; source = g.0; asked_is = g.1; written = p })
  format_written taken_now script (Missing missing) g p = absurd p

  abbrev Ends : Status → Type 0
  Ends status = FormatEnds files name asked asked_now taken taken status

  -- no script was read
  pub format_refused : (e : SourceError) (status : Status) → FileGivesNone files name whole_room asked asked_now e → IsStatusOf name e status → Ends status
  format_refused error.ReadFault status g s = subst Ends (sym s) (g, refl)
  format_refused (error.Refused fault) status g s = subst Ends (sym s) (refl, (g.0, (g.1, refl)))
  format_refused error.OutOfMemory status g s = subst Ends (sym s) (inl (g, refl))
  format_refused error.Missing status g (inl s) = subst Ends (sym s) (refl, (g.0, (g.1, refl)))
  format_refused error.Missing status g (inr s) = subst Ends (sym s) (inl (inr g.1, refl))

-- a source script is printed whole, or memory was wanting
same-bytes : {o : Option (List ℕ)} {a b : List ℕ} → o ≡ Some a → o ≡ Some b → a ≡ b
same-bytes h k = let e = sym h ∙ k in cc

not-there : {o : Option (List ℕ)} {a : List ℕ} → o ≡ Some a → o ≡ None → ⊥
not-there h k = let e = sym h ∙ k in cc

both : (files : Files) (name : List ℕ) (script : tree.Script) (fault : ScriptFault) → HasScript files name script → OfFile files name (λ bytes. IsRefused whole_room bytes fault) → ⊥
both files name script fault h r =
    not_refused whole_room r.bytes script fault (subst (λ bytes. IsSource whole_room bytes script) (same-bytes h.found r.found) h.is) r.is

is-whole : (files : Files) (name : List ℕ) (script : tree.Script) (asked asked_now : AskedNames) (taken taken_now : Taken) (status : Status) → HasScript files name script
    → FormatEnds files name asked asked_now taken taken_now status → (status ≡ ReadFault → ⊥) → (status ≡ WriteFault → ⊥) → (status ≡ Ended) ⊎ (status ≡ OutOfMemory)
is-whole files name script asked asked_now taken taken_now Ended h e r w = inl refl
is-whole files name script asked asked_now taken taken_now (Words fault) h e r w = absurd e
is-whole files name script asked asked_now taken taken_now (Refused (First file)) h e r w = absurd e
is-whole files name script asked asked_now taken taken_now (Refused (Script number fault)) h e r w = absurd (both files name script fault h e.1.0)
is-whole files name script asked asked_now taken taken_now OutOfSteps h e r w = absurd e
is-whole files name script asked asked_now taken taken_now ReadFault h e r w = absurd (r refl)
is-whole files name script asked asked_now taken taken_now WriteFault h e r w = absurd (w refl)
is-whole files name script asked asked_now taken taken_now OutOfMemory h e r w = inr refl
is-whole files name script asked asked_now taken taken_now (Missing missing) h e r w = absurd (not-there h.found e.1.0)

-- where a fault is told exactly where its count rose, and neither count rose
pub formats_whole : (files : Files) (name : List ℕ) (script : tree.Script) (asked asked_now : AskedNames) (taken taken_now : Taken) (status : Status) → HasScript files name script
    → FormatEnds files name asked asked_now taken taken_now status
    → (reads reads_now writes writes_now : ℕ) → CountsFault (status ≡ ReadFault) reads reads_now → CountsFault (status ≡ WriteFault) writes writes_now
    → NoFault reads reads_now → NoFault writes writes_now → (status ≡ Ended) ⊎ (status ≡ OutOfMemory)
formats_whole files name script asked asked_now taken taken_now status h e reads reads_now writes writes_now read write no_read no_write =
    is-whole files name script asked asked_now taken taken_now status h e (λ s. no_read (read.rose s)) (λ s. no_write (write.rose s))
