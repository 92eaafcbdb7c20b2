-- Object and Object.prototype, and `toString` of Function.prototype.
use Rattle.std.proofs.Common.{ℕ, arith}
use Rattle.js_values.specs.declared.reason.Reason.TheVariants as reason
use Rattle.js_values.specs.declared.value.Value.{Value}
use Rattle.object_heap.specs.declared.built_in.BuiltIn.TheVariants as built
use Rattle.object_heap.specs.declared.object.Class.{Class}
use Rattle.object_heap.specs.declared.object.Class.TheVariants as class
use Rattle.object_heap.specs.BuiltIns.{number_of}
use Rattle.object_heap.specs.Names.{Name, is_reserved}
use Rattle.js_natives.specs.Asks.{pure, stop}
use Rattle.js_natives.specs.Convert.{text_at}
use Rattle.js_natives.specs.Objects.{new_object, object_of, object, object_to_string, object_value_of, unreserved, has_own_property, is_prototype_of_value, is_prototype_of, property_is_enumerable, text_of_class, function_to_string}
use Rattle.js_natives.specs.Program.{Program, Done}
use Rattle.js_machine.specs.Reachable as fits
use Rattle.js_machine.specs.Reachable.{Counts, IsInReach, ValueFits}
use Rattle.js_machine.proofs.fitting.Growth.{started, is_there, later_value}
use Rattle.js_machine.proofs.fitting.natives.Family as asks
use Rattle.js_machine.proofs.fitting.natives.Family.{NativeFits, chosen}
use Rattle.js_machine.proofs.fitting.natives.Convert.{Row, this_object_fits, argument_fits}

new_object_fits : {w : Counts} → NativeFits w (new_object Done)
new_object_fits = asks.make (started (number_of built.ObjectPrototype) (omega arith)) (λ v g o p. asks.done (asks.value (fits.object p)))

object_of_fits : {w : Counts} {a : Value} → ValueFits w a → NativeFits w (object_of a Done)
object_of_fits fits.undefined = new_object_fits
object_of_fits fits.null = new_object_fits
object_of_fits fits.bool = asks.done asks.stop
object_of_fits fits.num = asks.done asks.stop
object_of_fits fits.str = asks.done asks.stop
object_of_fits (fits.object o) = asks.done (asks.value (fits.object o))

pub object_fits : Row object
object_fits w this args t vs = object_of_fits (argument_fits vs 0)

pub object_to_string_fits : Row object_to_string
object_to_string_fits w this args t vs = this_object_fits t (λ v g o p. asks.class_of p (λ u f c. asks.done (asks.value fits.str)))

pub object_value_of_fits : Row object_value_of
object_value_of_fits w this args t vs = this_object_fits t (λ v g o p. asks.done (asks.value (fits.object p)))

unreserved_fits : (name : Name) (k : Name → Program) {w : Counts} → NativeFits w (k name) → NativeFits w (unreserved name k)
unreserved_fits name k h = chosen (is_reserved name) (stop reason.ReservedName) (pure name) (asks.done asks.stop) h

pub has_own_property_fits : Row has_own_property
has_own_property_fits w this args t vs =
    this_object_fits t (λ v g o p. unreserved_fits (text_at args 0) _ (asks.own (is_there p) (λ u f a. asks.done (asks.value fits.bool))))

is_prototype_of_value_fits : {w : Counts} {o : ℕ} {a : Value} → IsInReach w o → ValueFits w a → NativeFits w (is_prototype_of_value o a Done)
is_prototype_of_value_fits o (fits.object p) = asks.behind (is_there p) (is_there o) (λ v g b. asks.done (asks.value fits.bool))
is_prototype_of_value_fits o fits.undefined = asks.done (asks.value fits.bool)
is_prototype_of_value_fits o fits.null = asks.done (asks.value fits.bool)
is_prototype_of_value_fits o fits.bool = asks.done (asks.value fits.bool)
is_prototype_of_value_fits o fits.num = asks.done (asks.value fits.bool)
is_prototype_of_value_fits o fits.str = asks.done (asks.value fits.bool)

pub is_prototype_of_fits : Row is_prototype_of
is_prototype_of_fits w this args t vs = this_object_fits t (λ v g o p. is_prototype_of_value_fits p (later_value g (argument_fits vs 0)))

pub property_is_enumerable_fits : Row property_is_enumerable
property_is_enumerable_fits w this args t vs =
    this_object_fits t (λ v g o p. unreserved_fits (text_at args 0) _ (asks.own (is_there p) (λ u f a. asks.done (asks.value fits.bool))))

text_of_class_fits : (c : Class) {w : Counts} → NativeFits w (text_of_class c Done)
text_of_class_fits class.Function = asks.done asks.stop
text_of_class_fits class.Plain = asks.done asks.throw
text_of_class_fits class.Array = asks.done asks.throw
text_of_class_fits class.Arguments = asks.done asks.throw
text_of_class_fits class.Error = asks.done asks.throw
text_of_class_fits class.Math = asks.done asks.throw

pub function_to_string_fits : Row function_to_string
function_to_string_fits w this args t vs = this_object_fits t (λ v g o p. asks.class_of p (λ u f c. text_of_class_fits c))
