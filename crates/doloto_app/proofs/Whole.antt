-- How a command ends: from what play answers and what is written to the status.
use Rattle.std.proofs.Common.{◌≡◌, ◌⊎◌, inl, inr, ℕ, List, [], Option, Some, None, refl, sym, ap, ◌∙◌, subst}
use Rattle.play.specs.declared.outcome.End.{End}
use Rattle.play.specs.declared.outcome.End.TheVariants as end
use Rattle.dl_ports.specs.Counts.{CountsFault}
use Rattle.dl_ports.specs.Files.{Files}
use Rattle.js_tree.specs.Tree as tree
use Rattle.play.specs.Played.{Answer, Answered, Gives}
use Rattle.play.specs.Answers.{ErrorMeets, OutcomeMeets}
use Rattle.play.specs.declared.manifest.Manifest.{Manifest}
use Rattle.play.specs.declared.outcome.Outcome.{Outcome}
use Rattle.play.specs.declared.outcome.FirstError.{FirstError}
use Rattle.play.specs.declared.outcome.FirstError.TheVariants as error
use Rattle.play.specs.Headline.{PutsBackTo, ShowsOriginal}
use Rattle.play.specs.Laziness.{ShowsLoads}
use Rattle.dl_ports.specs.Stores.{AskedNames}
use Rattle.doloto_app.specs.declared.status.Status.{Status}
use Rattle.doloto_app.specs.declared.status.Status.TheVariants.{Ended, Words, Refused, OutOfSteps, ReadFault, WriteFault, OutOfMemory, Missing}
use Rattle.doloto_app.specs.declared.status.Refusal.TheVariants.{First, Script}
use Rattle.doloto_app.specs.Ends.{Taken, Ends, NoFault, Puts, WritesOriginal, WritesLoads, status_of, status_of_end}
use Rattle.doloto_app.specs.Words.{Command, Format, Play}

same_end : {a : Answer} {r q : List ℕ} {d e : End} → a ≡ Gives r d → a ≡ Gives q e → status_of_end d ≡ status_of_end e
same_end h k = let s = sym h ∙ k in cc

pub is_complete : (r : Answered) (asked asked_now : AskedNames) (taken taken_now : Taken) (result : Status) (report : List ℕ) (e : End) → Ends r asked asked_now taken taken_now result → r.answer ≡ Gives report e
    → (result ≡ ReadFault → ⊥) → (result ≡ WriteFault → ⊥) → (result ≡ status_of_end e) ⊎ (result ≡ OutOfMemory)
is_complete r asked asked_now taken taken_now Ended report e h a f w = inl (same_end h.answer_is a)
is_complete r asked asked_now taken taken_now (Words fault) report e h a f w = absurd h
is_complete r asked asked_now taken taken_now (Refused (First file)) report e h a f w = let s = sym h.0 ∙ a in cc
is_complete r asked asked_now taken taken_now (Refused (Script number fault)) report e h a f w = absurd h
is_complete r asked asked_now taken taken_now OutOfSteps report e h a f w = inl (same_end h.answer_is a)
is_complete r asked asked_now taken taken_now ReadFault report e h a f w = absurd (f refl)
is_complete r asked asked_now taken taken_now WriteFault report e h a f w = absurd (w refl)
is_complete r asked asked_now taken taken_now OutOfMemory report e h a f w = inr refl
is_complete r asked asked_now taken taken_now (Missing name) report e h a f w = let s = sym h.0 ∙ a in cc

-- what is written of an outcome is its answer's end, shows the original, and its loads
module _ (o : Outcome) (taken taken_now : Taken) where
  pub puts_end : (r : Answered) (asked asked_now : AskedNames) (result : Status) → OutcomeMeets r asked asked_now o → Puts o taken taken_now result → Ends r asked asked_now taken taken_now result
  puts_end r asked asked_now Ended m p = record { report = o.report; answer_is = m.0 ∙ ap (Gives o.report) p.0; asked_is = m.1; written = p.1 }
  puts_end r asked asked_now (Words fault) m p = p
  puts_end r asked asked_now (Refused refusal) m p = absurd p
  puts_end r asked asked_now OutOfSteps m p = record { report = o.report; answer_is = m.0 ∙ ap (Gives o.report) p.0; asked_is = m.1; written = p.1 }
  puts_end r asked asked_now ReadFault m p = absurd p
  puts_end r asked asked_now WriteFault m p = record { report = o.report; e = o.end; answer_is = m.0; asked_is = m.1; written = p }
  puts_end r asked asked_now OutOfMemory m p = inr (record { report = o.report; e = o.end; answer_is = m.0; asked_is = m.1; written = p })
  puts_end r asked asked_now (Missing name) m p = absurd p

  pub puts_original : (n : ℕ) (script : tree.Script) (result : Status) → ShowsOriginal o.report o.end script n → Puts o taken taken_now result → WritesOriginal taken taken_now script n result
  puts_original n script Ended h p = record { report = o.report; written = p.1; shows = subst (λ e. ShowsOriginal o.report e script n) p.0 h }
  puts_original n script (Words fault) h p = tt
  puts_original n script (Refused refusal) h p = tt
  puts_original n script OutOfSteps h p = record { report = o.report; written = p.1; shows = subst (λ e. ShowsOriginal o.report e script n) p.0 h }
  puts_original n script ReadFault h p = tt
  puts_original n script WriteFault h p = tt
  puts_original n script OutOfMemory h p = tt
  puts_original n script (Missing missing) h p = tt

  pub puts_loads : (n : ℕ) (m : Manifest) (script : tree.Script) (result : Status) → ShowsLoads m o.report o.end script n → Puts o taken taken_now result → WritesLoads taken taken_now m script n result
  puts_loads n m script Ended h p = record { report = o.report; written = p.1; shows = subst (λ e. ShowsLoads m o.report e script n) p.0 h }
  puts_loads n m script (Words fault) h p = tt
  puts_loads n m script (Refused refusal) h p = tt
  puts_loads n m script OutOfSteps h p = record { report = o.report; written = p.1; shows = subst (λ e. ShowsLoads m o.report e script n) p.0 h }
  puts_loads n m script ReadFault h p = tt
  puts_loads n m script WriteFault h p = tt
  puts_loads n m script OutOfMemory h p = tt
  puts_loads n m script (Missing missing) h p = tt

-- what an error without a report ends as
module _ (r : Answered) (asked asked_now : AskedNames) (taken : Taken) where
  pub fails_end : (e : FirstError) → ErrorMeets r asked asked_now e → Ends r asked asked_now taken taken (status_of e)
  fails_end error.ReadFault m = (m, refl)
  fails_end (error.Missing name) m = (m.0, (m.1, refl))
  fails_end (error.First file) m = (m.0, (m.1, refl))
  fails_end error.OutOfMemory m = inl (m, refl)

-- words say one command
pub same_paths : (o : Option Command) (a b c d : List ℕ) → o ≡ Some (Play a b) → o ≡ Some (Play c d) → (a ≡ c) × (b ≡ d)
same_paths o a b c d h k = let e = sym h ∙ k in (cc, cc)

pub same_path : (o : Option Command) (a b : List ℕ) → o ≡ Some (Format a) → o ≡ Some (Format b) → a ≡ b
same_path o a b h k = let e = sym h ∙ k in cc

pub not_both : (o : Option Command) (a b c : List ℕ) → o ≡ Some (Format a) → o ≡ Some (Play b c) → ⊥
not_both o a b c h k = let e = sym h ∙ k in cc

-- where a fault is told exactly where its count rose, and neither count rose, the answer is given or memory was wanting
pub completes : (r : Answered) (asked asked_now : AskedNames) (taken taken_now : Taken) (result : Status) (report : List ℕ) (e : End) → Ends r asked asked_now taken taken_now result → r.answer ≡ Gives report e
    → (reads reads_now writes writes_now : ℕ) → CountsFault (result ≡ ReadFault) reads reads_now → CountsFault (result ≡ WriteFault) writes writes_now
    → NoFault reads reads_now → NoFault writes writes_now → (result ≡ status_of_end e) ⊎ (result ≡ OutOfMemory)
completes r asked asked_now taken taken_now result report e ends gives reads reads_now writes writes_now read write no_read no_write =
    is_complete r asked asked_now taken taken_now result report e ends gives (λ h. no_read (read.rose h)) (λ h. no_write (write.rose h))
