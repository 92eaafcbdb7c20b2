-- The walk over the marks of a run, without a schedule: the lines of the report but the last. Every needed cluster arrives at once, and the window is 0.
use Rattle.std.specs.Prelude.{ℕ, List, [], ◌∷◌, ◌++◌, Option, Some, None}
use Rattle.play.specs.Run.{Mark, Called, Uncaught, Idle, Entered, Needed, Trace, Say, End, OutOfSteps, IsStuck}
use Rattle.play.specs.Loader
use Rattle.play.specs.Report.{Line, CallLine, UncaughtLine, IdleLine}
use Rattle.play.specs.Loader.{Loader as State, Moved, stays, Status, Need, Arrive, status_of, step}

abbrev pub after_need : Moved → Moved → Moved
after_need needed arrived = record { loader = arrived.loader; lines = needed.lines ++ arrived.lines }

abbrev pub arrives : Moved → ℕ → Moved
arrives needed c = after_need needed (step 0 needed.loader (Arrive c))

-- the line of Idle stands before what the event does
abbrev pub idles : Moved → Moved
idles m = record { loader = m.loader; lines = IdleLine ∷ m.lines }

-- where the cluster is not here, it is needed and arrives
abbrev pub requested : State → ℕ → Status → Moved
requested l c Loader.Here = stays l
requested l c Loader.Asked = arrives (step 0 l (Need c)) c
requested l c Loader.Absent = arrives (step 0 l (Need c)) c

abbrev pub request : State → Option ℕ → Moved
request l None = stays l
request l (Some c) = requested l c (status_of l.table c)

-- what a mark does, where cluster tells of a number the cluster of its entry
abbrev pub moved_by : (ℕ → Option ℕ) → State → Mark → Moved
moved_by cluster l (Called name args) = record { loader = l; lines = CallLine name args ∷ [] }
moved_by cluster l (Uncaught v) = record { loader = l; lines = UncaughtLine v ∷ [] }
moved_by cluster l (Idle b) = idles (step 0 l Loader.Idle)
moved_by cluster l (Entered k b) = request l (cluster k)
moved_by cluster l (Needed k) = request l (cluster k)

abbrev pub walk : (ℕ → Option ℕ) → State → Trace → List Line
walk cluster l (Say mark steps rest) = (moved_by cluster l mark).lines ++ walk cluster (moved_by cluster l mark).loader rest
walk cluster l (End o s) = []
walk cluster l (OutOfSteps s) = []
walk cluster l (IsStuck s) = []

-- how a run ends, with the steps taken
pub data RunEnd : Type 0 where
  Ended : (steps : ℕ) → RunEnd
  RanOut : (steps : ℕ) → RunEnd
  Broke : RunEnd

abbrev pub end_of : Trace → RunEnd
end_of (Say mark steps rest) = end_of rest
end_of (End o s) = Ended s.steps
end_of (OutOfSteps s) = RanOut s.steps
end_of (IsStuck s) = Broke
