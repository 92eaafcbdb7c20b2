-- `call` and `apply`.
use Rattle.std.proofs.Common.{ℕ, zero, suc, List, []}
use Rattle.js_values.specs.declared.value.Value.{Value}
use Rattle.js_values.specs.Integers.{uint32_of}
use Rattle.object_heap.specs.declared.object.Class.{Class}
use Rattle.object_heap.specs.declared.object.Class.TheVariants as class
use Rattle.object_heap.specs.Names.{length_name, decimal}
use Rattle.js_machine.specs.Applying.{this_function, values_from, values_in, list_by_class, list_of, apply_to, apply, call_with, call}
use Rattle.js_machine.specs.Asks.{Program}
use Rattle.js_machine.specs.Kinds.{is_function, class_by}
use Rattle.js_machine.specs.Reachable as fits
use Rattle.js_machine.specs.Reachable.{Each, Counts, IsInReach, ValueFits}
use Rattle.js_machine.proofs.fitting.Lists.{each_joined}
use Rattle.js_machine.proofs.fitting.Growth.{stays, grows_on, is_there, later_reach, later_value, later_values}
use Rattle.js_machine.proofs.fitting.Family as asks
use Rattle.js_machine.proofs.fitting.Family.{ProgramFits, OnLists, later_program}
use Rattle.js_machine.proofs.fitting.Frames.{if_fits, all_fit}
use Rattle.js_machine.proofs.fitting.References.{type_error_fits, get_fits}
use Rattle.js_machine.proofs.fitting.Conversions.{to_number_fits}

this_function_fits : {w : Counts} {f : Value} {p : Program} → ValueFits w f → ProgramFits w p → ProgramFits w (this_function f p)
this_function_fits fits.undefined p = type_error_fits
this_function_fits fits.null p = type_error_fits
this_function_fits fits.bool p = asks.stop
this_function_fits fits.num p = asks.stop
this_function_fits fits.str p = asks.stop
this_function_fits (fits.object o) p = asks.kind_of (fits.object o) (λ v g kind. if_fits (is_function kind) (later_program p g) type_error_fits)

-- ---- the list of `apply`

values_from_fit : (count index : ℕ) {w : Counts} {o : ℕ} {done : List Value} {k : List Value → Program} → IsInReach w o → Each (ValueFits w) done → OnLists w k → ProgramFits w (values_from count index o done k)
values_from_fit zero index {w = w} o done h = h w (stays w) _ done
values_from_fit (suc count) index o done h =
    asks.tick (get_fits (decimal index) (is_there o) (λ v g a p.
    values_from_fit count (suc index) (later_reach g o) (each_joined (later_values g done) (fits.more p fits.empty)) (λ u f. h u (grows_on g f))))

values_in_fit : {w : Counts} {o : ℕ} {k : List Value → Program} → IsInReach w o → OnLists w k → ProgramFits w (values_in o k)
values_in_fit o h =
    get_fits length_name (is_there o) (λ v g a p. to_number_fits p (λ u f n.
    values_from_fit (uint32_of n) 0 (later_reach (grows_on g f) o) fits.empty (λ t e. h t (grows_on (grows_on g f) e))))

list_by_class_fits : (c : Class) {w : Counts} {o : ℕ} {k : List Value → Program} → IsInReach w o → OnLists w k → ProgramFits w (list_by_class c o k)
list_by_class_fits class.Array o h = values_in_fit o h
list_by_class_fits class.Arguments o h = values_in_fit o h
list_by_class_fits class.Plain o h = type_error_fits
list_by_class_fits class.Function o h = type_error_fits
list_by_class_fits class.Error o h = type_error_fits
list_by_class_fits class.Math o h = type_error_fits

list_of_fits : {w : Counts} {a : Value} {k : List Value → Program} → ValueFits w a → OnLists w k → ProgramFits w (list_of a k)
list_of_fits {w = w} fits.undefined h = h w (stays w) [] fits.empty
list_of_fits {w = w} fits.null h = h w (stays w) [] fits.empty
list_of_fits fits.bool h = type_error_fits
list_of_fits fits.num h = type_error_fits
list_of_fits fits.str h = type_error_fits
list_of_fits (fits.object o) h = asks.kind_of (fits.object o) (λ v g kind. list_by_class_fits (class_by kind) (later_reach g o) (λ u f. h u (grows_on g f)))

-- ---- both

apply_to_fits : {w : Counts} {f : Value} {args : List Value} → ValueFits w f → Each (ValueFits w) args → ProgramFits w (apply_to f args)
apply_to_fits f fits.empty = asks.enter f fits.undefined fits.empty all_fit
apply_to_fits f (fits.more this fits.empty) = asks.enter f this fits.empty all_fit
apply_to_fits f (fits.more this (fits.more list others)) = list_of_fits list (λ v g vs p. asks.enter (later_value g f) (later_value g this) p all_fit)

pub apply_fits : {w : Counts} {f : Value} {args : List Value} → ValueFits w f → Each (ValueFits w) args → ProgramFits w (apply f args)
apply_fits f args = this_function_fits f (apply_to_fits f args)

call_with_fits : {w : Counts} {f : Value} {args : List Value} → ValueFits w f → Each (ValueFits w) args → ProgramFits w (call_with f args)
call_with_fits f fits.empty = asks.enter f fits.undefined fits.empty all_fit
call_with_fits f (fits.more this args) = asks.enter f this args all_fit

pub call_fits : {w : Counts} {f : Value} {args : List Value} → ValueFits w f → Each (ValueFits w) args → ProgramFits w (call f args)
call_fits f args = this_function_fits f (call_with_fits f args)
