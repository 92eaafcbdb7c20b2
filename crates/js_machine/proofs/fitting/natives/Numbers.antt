-- Number and Boolean, with their prototypes, and Math.
use Rattle.std.proofs.Common.{List, [], ◌∷◌, ◌&&◌}
use Rattle.std.specs.Prelude.{nat_le, ℤ, pos, negsuc}
use Rattle.js_values.specs.declared.number.Num.{Num}
use Rattle.js_values.specs.declared.value.Value.{Value}
use Rattle.js_values.specs.Numerals.{number_text}
use Rattle.js_natives.specs.declared.answer.ErrorKind.TheVariants.{RangeError}
use Rattle.js_natives.specs.Asks.{throw, text_answer}
use Rattle.js_natives.specs.Convert.{argument}
use Rattle.js_natives.specs.MathNatives.{chosen_of}
use Rattle.js_natives.specs.Numbers.{number_function, text_in_radix, radix_of, number_to_string, number_value_of, boolean_to_string, boolean_value_of}
use Rattle.js_natives.specs.Program.{Done}
use Rattle.js_machine.specs.Reachable as fits
use Rattle.js_machine.specs.Reachable.{Each, Counts, ValueFits}
use Rattle.js_machine.proofs.fitting.natives.Family as asks
use Rattle.js_machine.proofs.fitting.natives.Family.{NativeFits, chosen}
use Rattle.js_machine.proofs.fitting.natives.Convert.{Row, this_truth_fits, this_number_fits}

pub number_function_fits : Row number_function
number_function_fits w this [] t vs = asks.done (asks.value fits.num)
number_function_fits w this (a ∷ rest) t vs = asks.done (asks.value fits.num)

text_in_radix_fits : (radix : ℤ) (n : Num) {w : Counts} → NativeFits w (text_in_radix radix n Done)
text_in_radix_fits (pos radix) n = chosen (nat_le 2 radix && nat_le radix 36) (text_answer (number_text radix n)) (throw RangeError) (asks.done (asks.value fits.str)) (asks.done asks.throw)
text_in_radix_fits (negsuc radix) n = asks.done asks.throw

pub number_to_string_fits : Row number_to_string
number_to_string_fits w this args t vs = this_number_fits t (λ v g n. text_in_radix_fits (radix_of (argument args 0)) n)

pub number_value_of_fits : Row number_value_of
number_value_of_fits w this args t vs = this_number_fits t (λ v g n. asks.done (asks.value fits.num))

pub boolean_to_string_fits : Row boolean_to_string
boolean_to_string_fits w this args t vs = this_truth_fits t (λ v g b. asks.done (asks.value fits.str))

pub boolean_value_of_fits : Row boolean_value_of
boolean_value_of_fits w this args t vs = this_truth_fits t (λ v g b. asks.done (asks.value fits.bool))

pub chosen_of_fits : (choose : Num → Num → Num) (args : List Value) {w : Counts} → NativeFits w (chosen_of choose args Done)
chosen_of_fits choose [] = asks.done asks.stop
chosen_of_fits choose (a ∷ rest) = asks.done (asks.value fits.num)
