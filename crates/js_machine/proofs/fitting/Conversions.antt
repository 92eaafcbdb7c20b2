-- Conversions.
use Rattle.std.proofs.Common.{ℕ, ◌^◌, List, length}
use Rattle.std.specs.Prelude.{nat_le, Option, Some, None, Result, Ok, Err}
use Rattle.js_values.specs.declared.number.Num.{Num}
use Rattle.js_values.specs.declared.number.Num.TheVariants as number
use Rattle.js_values.specs.declared.reason.Reason.{Reason}
use Rattle.js_values.specs.declared.reason.Reason.TheVariants as reason
use Rattle.js_values.specs.declared.value.Value.{Value}
use Rattle.js_values.specs.Values as values
use Rattle.object_heap.specs.Names.{Name, is_reserved}
use Rattle.js_machine.specs.Asks.{Program}
use Rattle.js_machine.specs.Conversions.{or_stop, text_or_stop, Hint, HintString, HintNumber, on_primitive, by_result, by_method, to_string_name, value_of_name, default_value, to_primitive, primitive_number, to_number, primitive_text, to_text, to_object, to_name}
use Rattle.js_machine.specs.Reachable as fits
use Rattle.js_machine.specs.Reachable.{Counts, IsInReach, ValueFits}
use Rattle.js_machine.proofs.fitting.Growth.{stays, grows_on, is_there, later_reach}
use Rattle.js_machine.proofs.fitting.Family as asks
use Rattle.js_machine.proofs.fitting.Family.{ProgramFits, OnValues, OnAll, later_program}
use Rattle.js_machine.proofs.fitting.Frames.{if_fits, on_value_fits}
use Rattle.js_machine.proofs.fitting.References.{type_error_fits, get_fits}

-- ---- stops

pub or_stop_fits : {A : Type 0} (r : Result A Reason) {w : Counts} {k : A → Program} → ((a : A) → ProgramFits w (k a)) → ProgramFits w (or_stop r k)
or_stop_fits (Ok a) h = h a
or_stop_fits (Err cause) h = asks.stop

pub text_or_stop_fits : (text : List ℕ) (k : List ℕ → Program) {w : Counts} → ProgramFits w (k text) → ProgramFits w (text_or_stop text k)
text_or_stop_fits text k h = if_fits (nat_le (length text) (2 ^ 26)) h asks.stop

-- ---- 8.6.2.6 [[DefaultValue]]

on_primitive_fits : {w : Counts} {k : Value → Program} {next : Program} {a : Value} → OnValues w k → ProgramFits w next → ValueFits w a → ProgramFits w (on_primitive k next a)
on_primitive_fits h next (fits.object p) = next
on_primitive_fits {w = w} h next fits.undefined = h w (stays w) _ fits.undefined
on_primitive_fits {w = w} h next fits.null = h w (stays w) _ fits.null
on_primitive_fits {w = w} h next fits.bool = h w (stays w) _ fits.bool
on_primitive_fits {w = w} h next fits.num = h w (stays w) _ fits.num
on_primitive_fits {w = w} h next fits.str = h w (stays w) _ fits.str

by_result_fits : {w : Counts} {o : ℕ} {k : Value → Program} {next : Program} {method : Value} → IsInReach w o → OnValues w k → ProgramFits w next → ValueFits w method → ProgramFits w (by_result o k next method)
by_result_fits o h next (fits.object p) =
    asks.enter (fits.object p) (fits.object o) fits.empty (on_value_fits (λ v g a q. on_primitive_fits (λ u f. h u (grows_on g f)) (later_program next g) q))
by_result_fits o h next fits.undefined = next
by_result_fits o h next fits.null = next
by_result_fits o h next fits.bool = next
by_result_fits o h next fits.num = next
by_result_fits o h next fits.str = next

by_method_fits : (name : Name) {w : Counts} {o : ℕ} {k : Value → Program} {next : Program} → IsInReach w o → OnValues w k → ProgramFits w next → ProgramFits w (by_method name o k next)
by_method_fits name o h next = get_fits name (is_there o) (λ v g method p. by_result_fits (later_reach g o) (λ u f. h u (grows_on g f)) (later_program next g) p)

default_value_fits : (hint : Hint) {w : Counts} {o : ℕ} {k : Value → Program} → IsInReach w o → OnValues w k → ProgramFits w (default_value hint o k)
default_value_fits HintString o h = by_method_fits to_string_name o h (by_method_fits value_of_name o h type_error_fits)
default_value_fits HintNumber o h = by_method_fits value_of_name o h (by_method_fits to_string_name o h type_error_fits)

-- ---- 9.1 ToPrimitive

pub to_primitive_fits : (hint : Hint) {w : Counts} {a : Value} {k : Value → Program} → ValueFits w a → OnValues w k → ProgramFits w (to_primitive hint a k)
to_primitive_fits hint (fits.object o) h = default_value_fits hint o h
to_primitive_fits hint {w = w} fits.undefined h = h w (stays w) _ fits.undefined
to_primitive_fits hint {w = w} fits.null h = h w (stays w) _ fits.null
to_primitive_fits hint {w = w} fits.bool h = h w (stays w) _ fits.bool
to_primitive_fits hint {w = w} fits.num h = h w (stays w) _ fits.num
to_primitive_fits hint {w = w} fits.str h = h w (stays w) _ fits.str

-- ---- 9.3 ToNumber, 9.8 ToString

primitive_number_fits : (n : Option (Result Num Reason)) {w : Counts} {k : Num → Program} → ((a : Num) → ProgramFits w (k a)) → ProgramFits w (primitive_number n k)
primitive_number_fits (Some n) h = or_stop_fits n h
primitive_number_fits None h = h number.NaN

pub to_number_fits : {w : Counts} {a : Value} {k : Num → Program} → ValueFits w a → OnAll Num w k → ProgramFits w (to_number a k)
to_number_fits a h = to_primitive_fits HintNumber a (λ v g primitive p. primitive_number_fits (values.number_of primitive) (h v g))

pub to_text_fits : {w : Counts} {a : Value} {k : List ℕ → Program} → ValueFits w a → OnAll (List ℕ) w k → ProgramFits w (to_text a k)
to_text_fits a h = to_primitive_fits HintString a (λ v g primitive p. h v g (primitive_text (values.text_of primitive)))

-- ---- 9.9 ToObject

pub to_object_fits : {w : Counts} {a : Value} {p : Program} → ValueFits w a → ProgramFits w p → ProgramFits w (to_object a p)
to_object_fits fits.undefined p = type_error_fits
to_object_fits fits.null p = type_error_fits
to_object_fits fits.bool p = p
to_object_fits fits.num p = p
to_object_fits fits.str p = p
to_object_fits (fits.object o) p = p

-- ---- computed names

pub to_name_fits : {w : Counts} {a : Value} {k : Name → Program} → ValueFits w a → OnAll Name w k → ProgramFits w (to_name a k)
to_name_fits a h = to_text_fits a (λ v g name. if_fits (is_reserved name) (asks.stop {reason = reason.ReservedName}) (h v g name))
