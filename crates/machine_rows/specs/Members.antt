-- Calls of properties, for the rows on ES3 11.2.3.
use Rattle.std.specs.Prelude.{List, [], ◌∷◌, Option, Some}
use Rattle.js_values.specs.declared.value.Value.{Value}
use Rattle.object_heap.specs.Names.{Name}
use Rattle.object_heap.specs.Start.{heap_at_start}
use Rattle.js_machine.specs.Asks.{Outcome}
use Rattle.js_machine.specs.Members.{member_called}
use Rattle.machine_rows.specs.Alone.{outcome_of, run_in}
use Rattle.machine_rows.specs.Samples.{text, whole, yes}
use Rattle.machine_rows.specs.Writing.{a}

-- the arguments 1, 2 and 3 above the base "a", and another value below
abbrev pub three_above : List Value
three_above = whole 3 ∷ whole 2 ∷ whole 1 ∷ text a ∷ yes ∷ []

-- the outcome of a call, from the objects of the start
abbrev pub called : Name → Value → List Value → Option Outcome
called name base arguments =
    outcome_of (run_in heap_at_start (member_called (Some name) base arguments))
