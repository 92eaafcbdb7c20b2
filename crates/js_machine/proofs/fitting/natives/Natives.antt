-- Every native.
use Rattle.std.proofs.Common.{List, arith}
use Rattle.js_values.specs.declared.value.Value.{Value}
use Rattle.object_heap.specs.declared.built_in.BuiltIn.TheVariants as built
use Rattle.js_natives.specs.declared.answer.Answer.{Answer}
use Rattle.js_natives.specs.declared.native.Native.{Native}
use Rattle.js_natives.specs.declared.native.Native.TheVariants as native
use Rattle.js_natives.specs.Asks.{Asks, ended}
use Rattle.js_natives.specs.Convert.{Takes}
use Rattle.js_natives.specs.MathNatives.{greater_of, less_of}
use Rattle.js_natives.specs.Natives.{Plan, Converts, Goes, Enters, plan_of, planned, program_of}
use Rattle.js_machine.specs.Reachable as fits
use Rattle.js_machine.specs.Reachable.{Each, Counts, ValueFits}
use Rattle.js_machine.proofs.fitting.Growth.{later_value, later_values}
use Rattle.js_machine.proofs.fitting.natives.Family as asks
use Rattle.js_machine.proofs.fitting.natives.Family.{NativeFits}
use Rattle.js_machine.proofs.fitting.natives.Convert.{Row, this_converted_fits, arguments_converted_fit}
use Rattle.js_machine.proofs.fitting.natives.Objects.{object_fits, object_to_string_fits, object_value_of_fits, has_own_property_fits, is_prototype_of_fits, property_is_enumerable_fits, function_to_string_fits}
use Rattle.js_machine.proofs.fitting.natives.Arrays.{array_fits, concat_fits, join_fits, array_to_string_fits, pop_fits, push_fits}
use Rattle.js_machine.proofs.fitting.natives.Moves.{reverse_fits, shift_fits, slice_fits, splice_fits, unshift_fits}
use Rattle.js_machine.proofs.fitting.natives.Strings.{string_fits, from_char_code_fits, string_value_fits, string_concat_fits, split_fits}
use Rattle.js_machine.proofs.fitting.natives.Numbers.{number_function_fits, number_to_string_fits, number_value_of_fits, boolean_to_string_fits, boolean_value_of_fits, chosen_of_fits}
use Rattle.js_machine.proofs.fitting.natives.Errors.{error_fits, error_to_string_fits}
use Rattle.js_machine.proofs.fitting.natives.Globals.{parse_int_fits, on_fits}

data PlanFits : Plan → Type 0 where
  converts : {takes : Takes} {row : Value → List Value → Asks Answer} → Row row → PlanFits (Converts takes row)
  goes : {program : Value → List Value → Asks Answer} → Row program → PlanFits (Goes program)
  enters : PlanFits Enters

plan_fits : (n : Native) → PlanFits (plan_of n)
plan_fits native.Object = converts object_fits
plan_fits native.Array = converts array_fits
plan_fits native.String = converts string_fits
plan_fits native.NewString = converts (λ w this args t vs. asks.done asks.stop)
plan_fits native.Number = converts number_function_fits
plan_fits native.NewNumber = converts (λ w this args t vs. asks.done asks.stop)
plan_fits native.Boolean = converts (λ w this args t vs. asks.done (asks.value fits.bool))
plan_fits native.NewBoolean = converts (λ w this args t vs. asks.done asks.stop)
plan_fits native.Error = converts (error_fits built.ErrorPrototype (omega arith))
plan_fits native.TypeError = converts (error_fits built.TypeErrorPrototype (omega arith))
plan_fits native.ReferenceError = converts (error_fits built.ReferenceErrorPrototype (omega arith))
plan_fits native.RangeError = converts (error_fits built.RangeErrorPrototype (omega arith))
plan_fits native.ParseInt = converts parse_int_fits
plan_fits native.IsNan = converts (λ w this args t vs. asks.done (asks.value fits.bool))
plan_fits native.ObjectToString = converts object_to_string_fits
plan_fits native.ObjectValueOf = converts object_value_of_fits
plan_fits native.HasOwnProperty = converts has_own_property_fits
plan_fits native.IsPrototypeOf = converts is_prototype_of_fits
plan_fits native.PropertyIsEnumerable = converts property_is_enumerable_fits
plan_fits native.FunctionToString = converts function_to_string_fits
plan_fits native.Apply = enters
plan_fits native.Call = enters
plan_fits native.ArrayToString = goes array_to_string_fits
plan_fits native.ArrayConcat = goes concat_fits
plan_fits native.Join = goes join_fits
plan_fits native.Pop = goes pop_fits
plan_fits native.Push = goes push_fits
plan_fits native.Reverse = goes reverse_fits
plan_fits native.Shift = goes shift_fits
plan_fits native.ArraySlice = goes slice_fits
plan_fits native.Splice = goes splice_fits
plan_fits native.Unshift = goes unshift_fits
plan_fits native.FromCharCode = converts from_char_code_fits
plan_fits native.StringToString = converts string_value_fits
plan_fits native.StringValueOf = converts string_value_fits
plan_fits native.CharAt = converts (λ w this args t vs. asks.done (asks.value fits.str))
plan_fits native.CharCodeAt = converts (λ w this args t vs. asks.done (asks.value fits.num))
plan_fits native.StringConcat = converts string_concat_fits
plan_fits native.IndexOf = converts (λ w this args t vs. asks.done (asks.value fits.num))
plan_fits native.LastIndexOf = converts (λ w this args t vs. asks.done (asks.value fits.num))
plan_fits native.StringSlice = converts (λ w this args t vs. asks.done (asks.value fits.str))
plan_fits native.Split = goes split_fits
plan_fits native.Substring = converts (λ w this args t vs. asks.done (asks.value fits.str))
plan_fits native.NumberToString = converts number_to_string_fits
plan_fits native.NumberValueOf = converts number_value_of_fits
plan_fits native.BooleanToString = converts boolean_to_string_fits
plan_fits native.BooleanValueOf = converts boolean_value_of_fits
plan_fits native.ErrorToString = goes error_to_string_fits
plan_fits native.Abs = converts (λ w this args t vs. asks.done (asks.value fits.num))
plan_fits native.Max = converts (λ w this args t vs. chosen_of_fits greater_of args)
plan_fits native.Min = converts (λ w this args t vs. chosen_of_fits less_of args)
plan_fits native.Floor = converts (λ w this args t vs. asks.done (asks.value fits.num))
plan_fits native.Ceil = converts (λ w this args t vs. asks.done (asks.value fits.num))
plan_fits native.Round = converts (λ w this args t vs. asks.done (asks.value fits.num))
plan_fits native.On = converts on_fits

planned_fits : {p : Plan} → PlanFits p → {w : Counts} (this : Value) (args : List Value) → ValueFits w this → Each (ValueFits w) args → NativeFits w (ended (planned p this args))
planned_fits (converts {takes = takes} row) this args t vs =
    this_converted_fits takes.this t (λ v g a p. arguments_converted_fit takes.arguments takes.others args (later_values g vs) (λ u f bs q. row u a bs (later_value f p) q))
planned_fits (goes program) {w = w} this args t vs = program w this args t vs
planned_fits enters this args t vs = asks.done (asks.value fits.undefined)

pub native_fits : (n : Native) {w : Counts} {this : Value} {args : List Value} → ValueFits w this → Each (ValueFits w) args → NativeFits w (program_of n this args)
native_fits n {this = this} {args = args} t vs = planned_fits (plan_fits n) this args t vs
