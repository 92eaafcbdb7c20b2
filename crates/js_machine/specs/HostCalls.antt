-- The host calls of a page: their objects at the start, and their names by their objects.
use Rattle.std.specs.Prelude.{◌≡◌, ℕ, nat_eq, true, if◌then◌else◌}
use Rattle.std.specs.Prelude.{List, [], ◌∷◌, ◌++◌, length}
use Rattle.std.specs.Prelude.{Option, Some, None}
use Rattle.object_heap.specs.declared.built_in.BuiltIn.{BuiltIn}
use Rattle.object_heap.specs.declared.built_in.BuiltIn.TheVariants as built
use Rattle.object_heap.specs.declared.object.Class.{Class}
use Rattle.object_heap.specs.declared.object.Class.TheVariants as class
use Rattle.object_heap.specs.BuiltIns.{number_of, which}
use Rattle.object_heap.specs.Changes.{defined, hidden_only}
use Rattle.object_heap.specs.Names.{Name}
use Rattle.object_heap.specs.Invariant.{holds_value}
use Rattle.object_heap.specs.Objects.{Heap, Property, class_of, properties_of}
use Rattle.js_machine.specs.declared.hosts.HostCall.{HostCall}
use Rattle.js_machine.specs.Page.{bare_state, host_function}
use Rattle.js_machine.specs.State.{Body, State, object_value}

-- ---- at the start (`with_host_call`)

abbrev pub heap_with_host : Name → Heap → Heap
heap_with_host name heap = defined (number_of built.Host) name (object_value (length heap))
    hidden_only (heap ++ host_function ∷ [])

abbrev pub state_with : Heap → List (ℕ × Body) → State
state_with heap bodies = record bare_state { heap = heap; bodies = bodies }

-- no property of `host` shares its value with a formal, so that each can be defined again
abbrev pub AllHold : List Property → Type 0
AllHold [] = Unit {0}
AllHold (p ∷ ps) = (holds_value p.slot ≡ true) × AllHold ps

abbrev pub HostHolds : Heap → Type 0
HostHolds heap = AllHold (properties_of heap (number_of built.Host))

-- ---- the name of the host call that an object is

abbrev pub host_name : List HostCall → ℕ → Option Name
host_name [] o = None
host_name (call ∷ calls) o =
    if nat_eq call.object o then Some call.name else host_name calls o

-- the functions among them are the objects of class Function (`callee_by`)
abbrev pub host_call_by : Option Class → Option BuiltIn → List HostCall → ℕ → Option Name
host_call_by (Some class.Function) None hosts o = host_name hosts o
host_call_by (Some class.Function) (Some b) hosts o = None
host_call_by _ b hosts o = None

abbrev pub host_call_in : Heap → List HostCall → ℕ → Option Name
host_call_in heap hosts o = host_call_by (class_of heap o) (which o) hosts o
