-- `this` and arguments of natives.
use Rattle.std.proofs.Common.{ℕ, Bool, List, [], ◌∷◌, length}
use Rattle.std.specs.Prelude.{nat_le, Option, unwrap_or, drop}
use Rattle.js_values.specs.declared.number.Num.{Num}
use Rattle.js_values.specs.declared.reason.Reason.TheVariants.{LongText}
use Rattle.js_values.specs.declared.value.Value.{Value}
use Rattle.js_values.specs.declared.value.Value.TheVariants as value
use Rattle.object_heap.specs.Names.{Name}
use Rattle.js_natives.specs.declared.answer.Answer.{Answer}
use Rattle.js_natives.specs.Asks.{Asks, longest_text, made_text, pure, stop, the_object, text_answer}
use Rattle.js_natives.specs.Convert as convert
use Rattle.js_natives.specs.Convert.{This, Kind, this_converted, made_text_of, made_number_of, argument_converted, arguments_converted, argument}
use Rattle.js_natives.specs.Program.{Program, Done}
use Rattle.js_natives.specs.This.{global, this_object, this_truth, this_number, this_text, this_value}
use Rattle.js_machine.specs.Reachable as fits
use Rattle.js_machine.specs.Reachable.{Each, IfAny, Counts, IsInReach, ValueFits}
use Rattle.js_machine.proofs.fitting.Lists.{each_got}
use Rattle.js_machine.proofs.fitting.Growth.{stays, grows_on, later_value, later_values}
use Rattle.js_machine.proofs.fitting.References.{global_in_reach}
use Rattle.js_machine.proofs.fitting.natives.Family as asks
use Rattle.js_machine.proofs.fitting.natives.Family.{NativeFits, OnValues, OnLists, OnObjects, OnAll, chosen}

-- ---- answers and texts

pub made_text_fits : (s : Name) (k : Name → Program) {w : Counts} → NativeFits w (k s) → NativeFits w (made_text s k)
made_text_fits s k h = chosen (nat_le (length s) longest_text) (pure s) (stop LongText) h (asks.done asks.stop)

pub text_ended : (s : Name) {w : Counts} → NativeFits w (made_text s (λ s. text_answer s Done))
text_ended s = made_text_fits s (λ s. text_answer s Done) (asks.done (asks.value fits.str))

-- ---- `this`

pub this_object_fits : {w : Counts} {this : Value} {k : ℕ → Program} → ValueFits w this → OnObjects w k → NativeFits w (this_object this k)
this_object_fits {w = w} fits.undefined h = h w (stays w) global global_in_reach
this_object_fits {w = w} fits.null h = h w (stays w) global global_in_reach
this_object_fits fits.bool h = asks.done asks.stop
this_object_fits fits.num h = asks.done asks.stop
this_object_fits fits.str h = asks.done asks.stop
this_object_fits {w = w} (fits.object o) h = h w (stays w) _ o

pub this_truth_fits : {w : Counts} {this : Value} {k : Bool → Program} → ValueFits w this → OnAll Bool w k → NativeFits w (this_truth this k)
this_truth_fits fits.undefined h = asks.done asks.throw
this_truth_fits fits.null h = asks.done asks.throw
this_truth_fits {w = w} (fits.bool {b = b}) h = h w (stays w) b
this_truth_fits fits.num h = asks.done asks.stop
this_truth_fits fits.str h = asks.done asks.stop
this_truth_fits (fits.object o) h = asks.done asks.throw

pub this_number_fits : {w : Counts} {this : Value} {k : Num → Program} → ValueFits w this → OnAll Num w k → NativeFits w (this_number this k)
this_number_fits fits.undefined h = asks.done asks.throw
this_number_fits fits.null h = asks.done asks.throw
this_number_fits fits.bool h = asks.done asks.stop
this_number_fits {w = w} (fits.num {n = n}) h = h w (stays w) n
this_number_fits fits.str h = asks.done asks.stop
this_number_fits (fits.object o) h = asks.done asks.throw

pub this_text_fits : {w : Counts} {this : Value} {k : Name → Program} → ValueFits w this → OnAll Name w k → NativeFits w (this_text this k)
this_text_fits fits.undefined h = asks.done asks.throw
this_text_fits fits.null h = asks.done asks.throw
this_text_fits fits.bool h = asks.done asks.throw
this_text_fits fits.num h = asks.done asks.throw
this_text_fits {w = w} (fits.str {text = s}) h = h w (stays w) s
this_text_fits (fits.object o) h = asks.done asks.throw

this_value_fits : {w : Counts} {this : Value} → ValueFits w this → ValueFits w (this_value this)
this_value_fits fits.undefined = fits.object global_in_reach
this_value_fits fits.null = fits.object global_in_reach
this_value_fits fits.bool = fits.bool
this_value_fits fits.num = fits.num
this_value_fits fits.str = fits.str
this_value_fits (fits.object o) = fits.object o

pub this_converted_fits : (t : This) {w : Counts} {this : Value} {k : Value → Program} → ValueFits w this → OnValues w k → NativeFits w (this_converted t this k)
this_converted_fits convert.Unseen {w = w} this h = h w (stays w) _ this
this_converted_fits convert.AnObject this h = this_object_fits this (λ v g o p. h v g (the_object o) (fits.object p))
this_converted_fits convert.ATruth this h = this_truth_fits this (λ v g b. h v g (value.Bool b) fits.bool)
this_converted_fits convert.ANumber this h = this_number_fits this (λ v g n. h v g (value.Num n) fits.num)
this_converted_fits convert.AText this h = this_text_fits this (λ v g s. h v g (value.Str s) fits.str)
this_converted_fits convert.MadeText this h = asks.text (this_value_fits this) (λ v g s. h v g (value.Str s) fits.str)

-- ---- arguments

made_text_of_fits : {w : Counts} {a : Value} {k : Value → Program} → ValueFits w a → OnValues w k → NativeFits w (made_text_of a k)
made_text_of_fits a h = asks.text a (λ v g s. h v g (value.Str s) fits.str)

made_number_of_fits : {w : Counts} {a : Value} {k : Value → Program} → ValueFits w a → OnValues w k → NativeFits w (made_number_of a k)
made_number_of_fits a h = asks.number a (λ v g n. h v g (value.Num n) fits.num)

pub argument_converted_fits : (kind : Kind) {w : Counts} {a : Value} {k : Value → Program} → ValueFits w a → OnValues w k → NativeFits w (argument_converted kind a k)
argument_converted_fits convert.Kept {w = w} a h = h w (stays w) _ a
argument_converted_fits convert.ToText a h = made_text_of_fits a h
argument_converted_fits convert.ToNumber a h = made_number_of_fits a h
argument_converted_fits convert.ToTextIfAny {w = w} fits.undefined h = h w (stays w) _ fits.undefined
argument_converted_fits convert.ToTextIfAny fits.null h = made_text_of_fits fits.null h
argument_converted_fits convert.ToTextIfAny fits.bool h = made_text_of_fits fits.bool h
argument_converted_fits convert.ToTextIfAny fits.num h = made_text_of_fits fits.num h
argument_converted_fits convert.ToTextIfAny fits.str h = made_text_of_fits fits.str h
argument_converted_fits convert.ToTextIfAny (fits.object o) h = made_text_of_fits (fits.object o) h
argument_converted_fits convert.ToNumberIfAny {w = w} fits.undefined h = h w (stays w) _ fits.undefined
argument_converted_fits convert.ToNumberIfAny fits.null h = made_number_of_fits fits.null h
argument_converted_fits convert.ToNumberIfAny fits.bool h = made_number_of_fits fits.bool h
argument_converted_fits convert.ToNumberIfAny fits.num h = made_number_of_fits fits.num h
argument_converted_fits convert.ToNumberIfAny fits.str h = made_number_of_fits fits.str h
argument_converted_fits convert.ToNumberIfAny (fits.object o) h = made_number_of_fits (fits.object o) h

-- those that are left are converted in a later world
pub arguments_converted_fit : (kinds : List Kind) (others : Kind) (vs : List Value) {w : Counts} {k : List Value → Program} → Each (ValueFits w) vs → OnLists w k → NativeFits w (arguments_converted kinds others vs k)
arguments_converted_fit kinds others [] {w = w} vs h = h w (stays w) [] fits.empty
arguments_converted_fit [] others (a ∷ rest) (fits.more p ps) h =
    argument_converted_fits others p (λ v g b q. arguments_converted_fit [] others rest (later_values g ps) (λ u f bs qs. h u (grows_on g f) (b ∷ bs) (fits.more (later_value f q) qs)))
arguments_converted_fit (kind ∷ kinds) others (a ∷ rest) (fits.more p ps) h =
    argument_converted_fits kind p (λ v g b q. arguments_converted_fit kinds others rest (later_values g ps) (λ u f bs qs. h u (grows_on g f) (b ∷ bs) (fits.more (later_value f q) qs)))

or_undefined_fits : {w : Counts} {o : Option Value} → IfAny (ValueFits w) o → ValueFits w (unwrap_or o value.Undefined)
or_undefined_fits fits.nothing = fits.undefined
or_undefined_fits (fits.just a) = a

pub argument_fits : {w : Counts} {args : List Value} → Each (ValueFits w) args → (i : ℕ) → ValueFits w (argument args i)
argument_fits args i = or_undefined_fits (each_got args i)

pub behind_two : {w : Counts} {args : List Value} → Each (ValueFits w) args → Each (ValueFits w) (drop 2 args)
behind_two fits.empty = fits.empty
behind_two (fits.more a fits.empty) = fits.empty
behind_two (fits.more a (fits.more b hs)) = hs

-- ---- what a native does once all is converted

abbrev pub Row : (Value → List Value → Asks Answer) → Type 0
Row row = (w : Counts) (this : Value) (args : List Value) → ValueFits w this → Each (ValueFits w) args → NativeFits w (row this args Done)
