-- The object that `new` makes of a function of a script (ES3 11.2.2, 13.2.2).
use Rattle.std.specs.Prelude.{ℕ, Option, Some, None}
use Rattle.js_values.specs.declared.value.Value.{Value}
use Rattle.js_values.specs.declared.value.Value.TheVariants as value
use Rattle.object_heap.specs.declared.built_in.BuiltIn.TheVariants as built
use Rattle.object_heap.specs.declared.object.Class.TheVariants as class
use Rattle.object_heap.specs.BuiltIns.{number_of}
use Rattle.object_heap.specs.Changes.{made}
use Rattle.object_heap.specs.Get.{get}
use Rattle.object_heap.specs.Names.{prototype_name}
use Rattle.object_heap.specs.Objects.{Slot, Holds, Shares, Heap}

-- steps 3 to 5: the function's `prototype` where that is an object, and otherwise Object.prototype
abbrev pub prototype_for : Value → ℕ
prototype_for (value.Object o) = o.0
prototype_for v = number_of built.ObjectPrototype

-- a function has its `prototype` itself, and shares it with no scope
abbrev pub prototype_in : Option Slot → ℕ
prototype_in None = prototype_for value.Undefined
prototype_in (Some (Holds v)) = prototype_for v
prototype_in (Some (Shares scope place)) = prototype_for value.Undefined

-- steps 1 to 5: the new object comes last
abbrev pub constructed : ℕ → Heap → Heap
constructed f heap = made class.Plain (Some (prototype_in (get heap f prototype_name))) heap

-- steps 7 and 8: what the function gives, where that is an object, and otherwise the new object
abbrev pub result_of : Value → Value → Value
result_of new (value.Object o) = value.Object o
result_of new v = new
