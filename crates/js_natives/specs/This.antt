-- What a native takes as its `this`. An undefined or null one is the global object. A boolean, a
-- number or a text would have to be put into an object, unless the native is of the prototype of its
-- own kind, or of String.prototype: the run stops.
use Rattle.std.specs.Prelude.{ℕ, Bool}
use Rattle.js_values.specs.declared.number.Num.{Num}
use Rattle.js_values.specs.declared.reason.Reason.TheVariants.{Wrapper}
use Rattle.js_values.specs.declared.value.Value.{Value}
use Rattle.js_values.specs.declared.value.Value.TheVariants as value
use Rattle.object_heap.specs.declared.built_in.BuiltIn.TheVariants as built
use Rattle.object_heap.specs.BuiltIns.{number_of}
use Rattle.object_heap.specs.Names.{Name}
use Rattle.js_natives.specs.declared.answer.ErrorKind.TheVariants.{TypeError}
use Rattle.js_natives.specs.Asks.{Asks, pure, stop, throw, the_object}

abbrev pub global : ℕ
global = number_of built.Global

-- the object that `this` is
abbrev pub this_object : Value → Asks ℕ
this_object value.Undefined = pure global
this_object value.Null = pure global
this_object (value.Bool b) = stop Wrapper
this_object (value.Num n) = stop Wrapper
this_object (value.Str s) = stop Wrapper
this_object (value.Object o) = pure o.0

-- the boolean that it is, in Boolean.prototype (15.6.4.2, 15.6.4.3); the global object is none
abbrev pub this_truth : Value → Asks Bool
this_truth value.Undefined = throw TypeError
this_truth value.Null = throw TypeError
this_truth (value.Bool b) = pure b
this_truth (value.Num n) = stop Wrapper
this_truth (value.Str s) = stop Wrapper
this_truth (value.Object o) = throw TypeError

-- the number that it is, in Number.prototype (15.7.4.2, 15.7.4.4)
abbrev pub this_number : Value → Asks Num
this_number value.Undefined = throw TypeError
this_number value.Null = throw TypeError
this_number (value.Bool b) = stop Wrapper
this_number (value.Num n) = pure n
this_number (value.Str s) = stop Wrapper
this_number (value.Object o) = throw TypeError

-- the text that it is, in `toString` and `valueOf` of String.prototype (15.5.4.2, 15.5.4.3)
abbrev pub this_text : Value → Asks Name
this_text (value.Str s) = pure s
this_text v = throw TypeError

-- what is made a text, in the other natives of String.prototype
abbrev pub this_value : Value → Value
this_value value.Undefined = the_object global
this_value value.Null = the_object global
this_value v = v
