-- String and String.prototype.
use Rattle.std.proofs.Common.{List, [], ◌∷◌, ◌++◌}
use Rattle.std.specs.Prelude.{map, take}
use Rattle.std.specs.List.{flat_map}
use Rattle.js_values.specs.declared.value.Value.TheVariants as value
use Rattle.object_heap.specs.Names.{Name}
use Rattle.js_natives.specs.Convert as convert
use Rattle.js_natives.specs.Convert.{text_in, number_in, uint16_of}
use Rattle.js_natives.specs.Program.{Done}
use Rattle.js_natives.specs.Strings.{string, from_char_code, string_value, string_concat, array_of_texts, limit_of, split_text, split}
use Rattle.js_machine.specs.Reachable as fits
use Rattle.js_machine.specs.Reachable.{Each, Counts, ValueFits}
use Rattle.js_machine.proofs.fitting.Growth.{grows_on, later_value}
use Rattle.js_machine.proofs.fitting.natives.Family as asks
use Rattle.js_machine.proofs.fitting.natives.Family.{NativeFits}
use Rattle.js_machine.proofs.fitting.natives.Convert.{Row, text_ended, this_text_fits, this_converted_fits, argument_converted_fits, argument_fits}
use Rattle.js_machine.proofs.fitting.natives.Arrays.{new_array_fits, with_elements_fits}

pub string_fits : Row string
string_fits w this [] t vs = asks.done (asks.value fits.str)
string_fits w this (a ∷ rest) t vs = asks.done (asks.value fits.str)

pub from_char_code_fits : Row from_char_code
from_char_code_fits w this args t vs = text_ended (map (λ v. uint16_of (number_in v)) args)

pub string_value_fits : Row string_value
string_value_fits w this args t vs = this_text_fits t (λ v g s. asks.done (asks.value fits.str))

pub string_concat_fits : Row string_concat
string_concat_fits w this args t vs = text_ended (text_in this ++ flat_map text_in args)

texts_fit : (ss : List Name) {w : Counts} → Each (ValueFits w) (map value.Str ss)
texts_fit [] = fits.empty
texts_fit (s ∷ ss) = fits.more fits.str (texts_fit ss)

array_of_texts_fits : (ss : List Name) {w : Counts} → NativeFits w (array_of_texts ss Done)
array_of_texts_fits ss = new_array_fits (λ v g o p. with_elements_fits 0 (texts_fit ss) p (asks.done (asks.value (fits.object p))))

pub split_fits : Row split
split_fits w this args t vs =
    this_converted_fits convert.MadeText t (λ v g s p. argument_converted_fits convert.ToNumberIfAny (later_value g (argument_fits vs 1)) (λ u f limit q.
    argument_converted_fits convert.ToTextIfAny (later_value (grows_on g f) (argument_fits vs 0)) (λ r e separator m.
    array_of_texts_fits (take (limit_of limit) (split_text (text_in s) separator)))))
