-- The natives' programs as programs of the machine (ES3 15).
use Rattle.std.specs.Prelude.{List, Option, Some, None}
use Rattle.js_values.specs.declared.value.Value.{Value}
use Rattle.js_values.specs.declared.value.Value.TheVariants as value
use Rattle.object_heap.specs.declared.built_in.BuiltIn.{BuiltIn}
use Rattle.object_heap.specs.declared.built_in.BuiltIn.TheVariants as built
use Rattle.object_heap.specs.Changes.{new_object}
use Rattle.js_natives.specs.declared.answer.Answer.{Answer}
use Rattle.js_natives.specs.declared.answer.Answer.TheVariants as answer
use Rattle.js_natives.specs.declared.answer.ErrorKind.{ErrorKind}
use Rattle.js_natives.specs.declared.answer.ErrorKind.TheVariants as error
use Rattle.js_natives.specs.declared.native.Native.{Native}
use Rattle.js_natives.specs.Natives.{calls_of, program_of}
use Rattle.js_natives.specs.Program as native
use Rattle.js_machine.specs.Asks.{Program, Tick, Stop, Listen, Make, KindOf, Own, Behind, Delete}
use Rattle.js_machine.specs.State.{object_value}
use Rattle.js_machine.specs.Kinds.{class_by}
use Rattle.js_machine.specs.Frames.{gives}
use Rattle.js_machine.specs.References.{get, put, throws, throws_type_error}
use Rattle.js_machine.specs.Conversions.{to_text, to_number}

abbrev pub error_prototype : ErrorKind → BuiltIn
error_prototype error.TypeError = built.TypeErrorPrototype
error_prototype error.ReferenceError = built.ReferenceErrorPrototype
error_prototype error.RangeError = built.RangeErrorPrototype

abbrev pub answered : Answer → Program
answered (answer.Value v) = gives v
answered (answer.Throw kind) = throws (error_prototype kind)
answered (answer.Stop reason) = Stop reason

abbrev pub embed : native.Program → Program
embed (native.Done a) = answered a
embed (native.Step p) = Tick (embed p)
embed (native.Text v k) = to_text v (λ text. embed (k text))
embed (native.Number v k) = to_number v (λ n. embed (k n))
embed (native.Get o name k) = get o name (λ v. embed (k v))
embed (native.Put o name v p) = put o name v (embed p)
embed (native.Listen event f p) = Listen event f (embed p)
embed (native.Make class prototype k) =
    Make (new_object class (Some prototype)) (λ o. embed (k o))
embed (native.ClassOf o k) = KindOf (object_value o) (λ kind. embed (k (class_by kind)))
embed (native.Own o name k) = Own o name (λ attributes. embed (k attributes))
embed (native.Behind o target k) = Behind o target (λ b. embed (k b))
embed (native.Write o name v p) = put o name v (embed p)
embed (native.Delete o name p) = Delete o name (λ b. embed p)

-- ---- under `new`: a native that constructs is entered with a step; another one is a TypeError

abbrev pub constructed_by : Option Native → List Value → Program
constructed_by None args = throws_type_error
constructed_by (Some n) args = Tick (embed (program_of n value.Undefined args))

abbrev pub construct_native : BuiltIn → List Value → Program
construct_native b args = constructed_by (calls_of b).constructed args
