-- States of the loader, and runs as a loader sees them.
use Rattle.std.specs.Prelude.{ℕ, suc, List, [], ◌∷◌, Bool, true, false, Some, None, Option, cond, nat_eq}
use Rattle.play.specs.Value.{Undefined, Normal}
use Rattle.play.specs.Report.{Line}
use Rattle.play.specs.Run.{Mark, Trace, Say, End}
use Rattle.play.specs.Loader.{Status, Absent, Asked, Here, Statuses, Loader, Moved, moves}
use Rattle.play.specs.Page.{start}

-- clusters 1 to 3 with these statuses
abbrev pub table : Status → Status → Status → Statuses
table one two three = (1, one) ∷ (2, two) ∷ (3, three) ∷ []

-- one cluster of each status
abbrev pub each : Statuses
each = table Absent Asked Here

abbrev pub loader : Statuses → Option ℕ → Bool → Loader
loader statuses waited background =
    record { table = statuses; waited = waited; background = background }

-- one cluster of each status, without the background
abbrev pub idle_not : Option ℕ → Loader
idle_not waited = loader each waited false

-- two absent clusters round one that was asked
abbrev pub round : Bool → Loader
round background = loader (table Absent Asked Absent) None background

-- after an event without the background
abbrev pub after : Statuses → Option ℕ → List Line → Moved
after statuses waited lines = moves statuses waited false lines

-- and with it
abbrev pub later : Statuses → Option ℕ → List Line → Moved
later statuses waited lines = moves statuses waited true lines

-- function 1 is in no cluster, functions 2 and 3 are in cluster 1, function 4 is in cluster 2
abbrev pub cluster : ℕ → Option ℕ
cluster k = cond (nat_eq k 1) None (cond (nat_eq k 4) (Some 2) (Some 1))

-- a run of these marks, each made one step after the one before
abbrev pub run_from : ℕ → List Mark → Trace
run_from i [] = End (Normal Undefined) start
run_from i (m ∷ ms) = Say m i (run_from (suc i) ms)

abbrev pub run_of : List Mark → Trace
run_of ms = run_from 1 ms
