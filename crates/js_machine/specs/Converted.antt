-- Which conversions of objects enter a function (ES3 8.6.2.6). Any other throws a TypeError.
use Rattle.std.specs.Prelude.{ℕ, Bool, true, false, if◌then◌else◌, List}
use Rattle.js_values.specs.declared.value.Value.{Value}
use Rattle.js_values.specs.declared.value.Value.TheVariants as value
use Rattle.object_heap.specs.Names.{Name}
use Rattle.object_heap.specs.Objects.{Heap}
use Rattle.js_tree.specs.declared.tree.BinaryOp.{BinaryOp}
use Rattle.js_tree.specs.declared.tree.BinaryOp.TheVariants as op
use Rattle.js_machine.specs.declared.hosts.HostCall.{HostCall}
use Rattle.js_machine.specs.Conversions.{Hint, HintNumber, HintString}
use Rattle.js_machine.specs.Conversions.{to_string_name, value_of_name}
use Rattle.js_machine.specs.Globals.{is_callable}
use Rattle.js_machine.specs.Members.{property_of}
use Rattle.js_machine.specs.Operated.{is_object}

-- by the values of the two methods: the second is looked at where the first is no object
abbrev pub enters_by : Heap → List HostCall → Value → Value → Bool
enters_by heap hosts (value.Object f) second = is_callable heap hosts (value.Object f)
enters_by heap hosts _ second = is_callable heap hosts second

-- by their names
abbrev pub enters_one_of : Heap → List HostCall → Name → Name → ℕ → Bool
enters_one_of heap hosts first second o =
    enters_by heap hosts (property_of heap o first) (property_of heap o second)

abbrev pub enters : Heap → List HostCall → Hint → ℕ → Bool
enters heap hosts HintString o = enters_one_of heap hosts to_string_name value_of_name o
enters heap hosts HintNumber o = enters_one_of heap hosts value_of_name to_string_name o

-- what is no object is not converted
abbrev pub enters_value : Heap → List HostCall → Hint → Value → Bool
enters_value heap hosts hint (value.Object o) = enters heap hosts hint o.0
enters_value heap hosts hint _ = false

-- ---- operators

-- the first of two that is an object, and the second where none is
abbrev pub first_object : Value → Value → Value
first_object v w = if is_object v then v else w

-- the operand that is converted first (11.8.1 to 11.8.4 say so of the orders)
abbrev pub converted_first : BinaryOp → Value → Value → Value
converted_first op.Multiply v w = first_object v w
converted_first op.Divide v w = first_object v w
converted_first op.Remainder v w = first_object v w
converted_first op.Add v w = first_object v w
converted_first op.Subtract v w = first_object v w
converted_first op.ShiftLeft v w = first_object v w
converted_first op.ShiftRight v w = first_object v w
converted_first op.ShiftRightUnsigned v w = first_object v w
converted_first op.Less v w = first_object v w
converted_first op.Greater v w = first_object w v
converted_first op.LessEqual v w = first_object w v
converted_first op.GreaterEqual v w = first_object v w
converted_first op.InstanceOf v w = v
converted_first op.In v w = v
converted_first op.Equal v w = first_object v w
converted_first op.NotEqual v w = first_object v w
converted_first op.Same v w = v
converted_first op.NotSame v w = v
converted_first op.BitAnd v w = first_object v w
converted_first op.BitXor v w = first_object v w
converted_first op.BitOr v w = first_object v w

-- whether an operator that does not give its result at once enters a function. For `instanceof` and
-- `in`, which are not built here, that is not told.
abbrev pub enters_operated : Heap → List HostCall → BinaryOp → Value → Value → Bool
enters_operated heap hosts op.InstanceOf v w = true
enters_operated heap hosts op.In v w = true
enters_operated heap hosts o v w = enters_value heap hosts HintNumber (converted_first o v w)
