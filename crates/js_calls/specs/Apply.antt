-- The list of arguments that `apply` passes on (ES3 15.3.4.3).
use Rattle.std.specs.Prelude.{ℕ, zero, suc, List, [], ◌∷◌, Option, Some, None}
use Rattle.js_values.specs.declared.value.Value.{Value}
use Rattle.js_values.specs.declared.value.Value.TheVariants as value
use Rattle.object_heap.specs.declared.object.Class.{Class}
use Rattle.object_heap.specs.declared.object.Class.TheVariants as class
use Rattle.object_heap.specs.Get.{get}
use Rattle.object_heap.specs.Names.{decimal}
use Rattle.object_heap.specs.Objects.{Slot, Holds, Shares, Heap, class_of}
use Rattle.scope_arena.specs.Scopes.{Scopes, value_at}

-- ---- [[Get]], where an index of `arguments` may share its value with a formal

abbrev pub value_in : Scopes → Option Slot → Value
value_in scopes None = value.Undefined
value_in scopes (Some (Holds v)) = v
value_in scopes (Some (Shares scope place)) = value_at scopes scope place

-- the values of so many indices, from one on
abbrev pub values_from : Heap → Scopes → ℕ → ℕ → ℕ → List Value
values_from heap scopes o k zero = []
values_from heap scopes o k (suc count) =
    value_in scopes (get heap o (decimal k)) ∷ values_from heap scopes o (suc k) count

-- ---- the list, of so many values; None for a TypeError

-- an array and `arguments` alone can be the list
abbrev pub list_by : Option Class → Heap → Scopes → ℕ → ℕ → Option (List Value)
list_by (Some class.Array) heap scopes o count = Some (values_from heap scopes o 0 count)
list_by (Some class.Arguments) heap scopes o count = Some (values_from heap scopes o 0 count)
list_by class heap scopes o count = None

-- where it is undefined or null there are none
abbrev pub applied : Heap → Scopes → Value → ℕ → Option (List Value)
applied heap scopes value.Undefined count = Some []
applied heap scopes value.Null count = Some []
applied heap scopes (value.Object o) count = list_by (class_of heap o.0) heap scopes o.0 count
applied heap scopes v count = None
