-- The functions of the global object, and `on` of `host`.
use Rattle.std.proofs.Common.{ℕ, ◌&&◌, ◌==◌, Bool, [], ◌∷◌}
use Rattle.std.specs.Prelude.{nat_le, ℤ, pos, negsuc, Result, Ok, Err}
use Rattle.std.specs.Str.Parse.{digits_value}
use Rattle.js_values.specs.declared.number.Num.{Num}
use Rattle.js_values.specs.declared.number.Num.TheVariants.{NaN}
use Rattle.js_values.specs.declared.reason.Reason.{Reason}
use Rattle.js_values.specs.declared.value.Value.{Value}
use Rattle.js_values.specs.Integers.{int32_of}
use Rattle.js_values.specs.NumberTexts.{behind, is_blank, is_negative, without_sign, behind_prefix}
use Rattle.js_values.specs.Numbers.{whole_or_stop}
use Rattle.object_heap.specs.declared.object.Class.{Class}
use Rattle.object_heap.specs.declared.object.Class.TheVariants as class
use Rattle.object_heap.specs.Names.{Name}
use Rattle.js_natives.specs.Asks.{number_answer}
use Rattle.js_natives.specs.Convert.{text_at, number_at}
use Rattle.js_natives.specs.Globals.{digits_in, signed_value, number_or_stop, number_of_digits, digits_number, has_prefix, perhaps_hexadecimal, by_radix, parse_int, listening, listening_by, on}
use Rattle.js_natives.specs.Program.{Done}
use Rattle.js_machine.specs.Reachable as fits
use Rattle.js_machine.specs.Reachable.{Counts, IsInReach, ValueFits}
use Rattle.js_machine.proofs.fitting.Growth.{later_reach}
use Rattle.js_machine.proofs.fitting.natives.Family as asks
use Rattle.js_machine.proofs.fitting.natives.Family.{NativeFits, chosen}
use Rattle.js_machine.proofs.fitting.natives.Convert.{Row, argument_fits}

-- ---- parseInt

number_or_stop_fits : (r : Result Num Reason) {w : Counts} → NativeFits w (number_or_stop r Done)
number_or_stop_fits (Ok n) = asks.done (asks.value fits.num)
number_or_stop_fits (Err reason) = asks.done asks.stop

number_of_digits_fits : (negative : Bool) (radix : ℕ) (s : Name) {w : Counts} → NativeFits w (number_of_digits negative radix s Done)
number_of_digits_fits negative radix [] = asks.done (asks.value fits.num)
number_of_digits_fits negative radix (c ∷ cs) = number_or_stop_fits (whole_or_stop (signed_value negative (digits_value radix (c ∷ cs))))

digits_number_fits : (negative : Bool) (radix : ℕ) (s : Name) {w : Counts} → NativeFits w (digits_number negative radix s Done)
digits_number_fits negative radix s = number_of_digits_fits negative radix (digits_in radix s)

perhaps_hexadecimal_fits : (negative : Bool) (radix : ℕ) (s : Name) {w : Counts} → NativeFits w (perhaps_hexadecimal negative radix s Done)
perhaps_hexadecimal_fits negative radix s =
    chosen (has_prefix s) (digits_number negative 16 (behind_prefix s)) (digits_number negative radix s) (digits_number_fits negative 16 (behind_prefix s)) (digits_number_fits negative radix s)

by_radix_fits : (negative : Bool) (radix : ℤ) (s : Name) {w : Counts} → NativeFits w (by_radix negative radix s Done)
by_radix_fits negative (negsuc radix) s = asks.done (asks.value fits.num)
by_radix_fits negative (pos radix) s =
    chosen (radix == 0) _ _ (perhaps_hexadecimal_fits negative 10 s)
    (chosen (radix == 16) _ _ (perhaps_hexadecimal_fits negative 16 s)
    (chosen (nat_le 2 radix && nat_le radix 36) (digits_number negative radix s) (number_answer NaN) (digits_number_fits negative radix s) (asks.done (asks.value fits.num))))

pub parse_int_fits : Row parse_int
parse_int_fits w this args t vs = by_radix_fits (is_negative (behind is_blank (text_at args 0))) (int32_of (number_at args 1)) (without_sign (behind is_blank (text_at args 0)))

-- ---- on

listening_fits : (c : Class) (event : Name) {w : Counts} {o : ℕ} → IsInReach w o → NativeFits w (listening c event o Done)
listening_fits class.Function event o = asks.listen o (asks.done (asks.value fits.undefined))
listening_fits class.Plain event o = asks.done asks.throw
listening_fits class.Array event o = asks.done asks.throw
listening_fits class.Arguments event o = asks.done asks.throw
listening_fits class.Error event o = asks.done asks.throw
listening_fits class.Math event o = asks.done asks.throw

listening_by_fits : (event : Name) {w : Counts} {a : Value} → ValueFits w a → NativeFits w (listening_by a event Done)
listening_by_fits event (fits.object o) = asks.class_of o (λ v g c. listening_fits c event (later_reach g o))
listening_by_fits event fits.undefined = asks.done asks.throw
listening_by_fits event fits.null = asks.done asks.throw
listening_by_fits event fits.bool = asks.done asks.throw
listening_by_fits event fits.num = asks.done asks.throw
listening_by_fits event fits.str = asks.done asks.throw

pub on_fits : Row on
on_fits w this args t vs = listening_by_fits (text_at args 0) (argument_fits vs 1)
