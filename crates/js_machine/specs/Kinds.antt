-- What clauses ask of the kind of a value.
use Rattle.std.specs.Prelude.{Bool, true, false}
use Rattle.object_heap.specs.declared.object.Class.{Class}
use Rattle.object_heap.specs.declared.object.Class.TheVariants as class
use Rattle.js_machine.specs.Asks.{Kind, NotObject, NotFunction, ScriptFunction, NativeFunction}
use Rattle.js_machine.specs.Asks.{HostFunction}

-- whether it has [[Call]] and [[HasInstance]], as functions alone have
abbrev pub is_function : Kind → Bool
is_function NotObject = false
is_function (NotFunction class) = false
is_function ScriptFunction = true
is_function (NativeFunction b) = true
is_function HostFunction = true

-- [[Class]]
abbrev pub class_by : Kind → Class
class_by NotObject = class.Plain
class_by (NotFunction class) = class
class_by ScriptFunction = class.Function
class_by (NativeFunction b) = class.Function
class_by HostFunction = class.Function
