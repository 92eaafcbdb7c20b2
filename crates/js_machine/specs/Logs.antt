-- What is read of a run: its marks, its end, what the host sees of it, and the two logs.
use Rattle.std.specs.Prelude.{ℕ, nat_eq, Bool, if◌then◌else◌, List, [], ◌∷◌, map}
use Rattle.std.specs.List.{list_any}
use Rattle.js_values.specs.declared.reason.Reason.{Reason}
use Rattle.js_machine.specs.State.{State}
use Rattle.js_machine.specs.Run.{Mark, Call, Uncaught, Idle, Event, Entry, Need, Used, Trace, Say}
use Rattle.js_machine.specs.Run as run

-- the marks, each with the steps taken when it was made
abbrev pub timed_marks : Trace → List (Mark × ℕ)
timed_marks (Say mark steps rest) = (mark, steps) ∷ timed_marks rest
timed_marks (run.End o s) = []
timed_marks (run.OutOfSteps s) = []
timed_marks (run.Stopped reason s) = []
timed_marks (run.NoEntry s) = []

abbrev pub marks_of : Trace → List Mark
marks_of t = map (λ m. m.0) (timed_marks t)

-- ---- the end

pub data Ending : Type 0 where
  Ended : Ending
  OutOfSteps : Ending
  Stopped : (reason : Reason) → Ending
  NoEntry : Ending

abbrev pub ending_of : Trace → Ending
ending_of (Say mark steps rest) = ending_of rest
ending_of (run.End o s) = Ended
ending_of (run.OutOfSteps s) = OutOfSteps
ending_of (run.Stopped reason s) = Stopped reason
ending_of (run.NoEntry s) = NoEntry

-- the state at the end
abbrev pub last_state : Trace → State
last_state (Say mark steps rest) = last_state rest
last_state (run.End o s) = s
last_state (run.OutOfSteps s) = s
last_state (run.Stopped reason s) = s
last_state (run.NoEntry s) = s

abbrev pub steps_of : Trace → ℕ
steps_of t = (last_state t).steps

abbrev pub beats_of : Trace → ℕ
beats_of t = (last_state t).beats

-- ---- what the host sees: its calls and what was not caught

abbrev pub seen : List Mark → List Mark
seen [] = []
seen (Call name args ∷ ms) = Call name args ∷ seen ms
seen (Uncaught v ∷ ms) = Uncaught v ∷ seen ms
seen (Idle beat ∷ ms) = seen ms
seen (Event number ∷ ms) = seen ms
seen (Entry number beat ∷ ms) = seen ms
seen (Need number ∷ ms) = seen ms
seen (Used number beat ∷ ms) = seen ms

-- the marks but for those of entries that are needed
abbrev pub without_needs : List Mark → List Mark
without_needs [] = []
without_needs (Call name args ∷ ms) = Call name args ∷ without_needs ms
without_needs (Uncaught v ∷ ms) = Uncaught v ∷ without_needs ms
without_needs (Idle beat ∷ ms) = Idle beat ∷ without_needs ms
without_needs (Event number ∷ ms) = Event number ∷ without_needs ms
without_needs (Entry number beat ∷ ms) = Entry number beat ∷ without_needs ms
without_needs (Need number ∷ ms) = without_needs ms
without_needs (Used number beat ∷ ms) = Used number beat ∷ without_needs ms

-- ---- logs: numbers with beats

abbrev pub Log : Type 0
Log = List (ℕ × ℕ)

-- the numbers and beats of entries, and those that `$dl_use` told
abbrev pub entries_in : List Mark → Log
entries_in [] = []
entries_in (Entry number beat ∷ ms) = (number, beat) ∷ entries_in ms
entries_in (m ∷ ms) = entries_in ms

abbrev pub uses_in : List Mark → Log
uses_in [] = []
uses_in (Used number beat ∷ ms) = (number, beat) ∷ uses_in ms
uses_in (m ∷ ms) = uses_in ms

abbrev pub has_number : Log → ℕ → Bool
has_number log number = list_any (λ l. nat_eq l.0 number) log

-- the first of each number, in order
abbrev pub first_of_each : Log → Log → Log
first_of_each before [] = []
first_of_each before (l ∷ ls) =
    if has_number before l.0 then first_of_each before ls else l ∷ first_of_each (l ∷ before) ls

-- for each function that was entered, its first beat, in order of first entry
abbrev pub log_of : List Mark → Log
log_of marks = first_of_each [] (entries_in marks)

-- for each number that was told, the first beat told with it, in order of first telling
abbrev pub uses_of : List Mark → Log
uses_of marks = first_of_each [] (uses_in marks)
