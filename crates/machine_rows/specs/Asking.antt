-- What the rows on host calls and on entries are asked in: a world, and what it has seen.
use Rattle.std.specs.Prelude.{ℕ, List, [], ◌∷◌}
use Rattle.js_values.specs.declared.value.Value.{Value}
use Rattle.object_heap.specs.Names.{Name}
use Rattle.js_machine.specs.declared.hosts.HostCall.{HostCall}
use Rattle.js_machine.specs.Given.{Asked, Called}
use Rattle.js_machine.specs.Halts.{in_call}
use Rattle.js_machine.specs.Page.{bare_state}
use Rattle.js_machine.specs.Rest.{Outside}
use Rattle.js_machine.specs.Run.{Trace, OutOfSteps, World}
use Rattle.machine_rows.specs.Alone.{more_objects}
use Rattle.machine_rows.specs.Nodes.{declared}
use Rattle.machine_rows.specs.Samples.{text, whole}
use Rattle.machine_rows.specs.Writing.{a, b, x}

-- `a` is answered with 1, and then with 2, and `b` with "x"; entry 7 is there
abbrev pub world : World
world = record {
  replies = (a, whole 1 ∷ whole 2 ∷ []) ∷ (b, text x ∷ []) ∷ (a, whole 9 ∷ []) ∷ [];
  entries = (7, declared) ∷ [];
}

abbrev pub seen : List Name → List ℕ → Outside
seen called passed = record { world = world; called = called; passed = passed }

abbrev pub fresh : Outside
fresh = seen [] []

-- calls without arguments, with what they are answered
abbrev pub answered : Name → Value → Asked
answered name v = Called name [] v

-- a run without marks
abbrev pub silence : Trace
silence = OutOfSteps bare_state

-- the host calls of two objects, of which one stands twice
abbrev pub host_calls : List HostCall
host_calls =
    record { object = 66; name = b } ∷ record { object = 65; name = a }
    ∷ record { object = 65; name = x } ∷ []

-- the call of a function with the global object as `this`, with so many steps
abbrev pub call_of : ℕ → List Value → ℕ → Trace
call_of f arguments n =
    in_call (record { 0 = f }) arguments n [] [] more_objects [] 0 0 fresh
