-- The natives of Array.prototype that move elements.
use Rattle.std.proofs.Common.{ℕ, zero, suc, ◌+◌, ◌-◌, ◌/◌, Bool, true, false, List, [], ◌∷◌}
use Rattle.std.specs.Prelude.{min, is_some, nat_lt}
use Rattle.js_values.specs.declared.value.Value.{Value}
use Rattle.js_natives.specs.Convert.{count_of, from_either_end, integer_of}
use Rattle.js_natives.specs.Indices.{indices, downward}
use Rattle.js_natives.specs.Moves.{moved_one, moved, exchanged, reversed, reverse, shifted, shift, converted_end, end_of, copies, copied_part, sliced, slice, at_least_zero, put_elements, deletes, closed_or_opened, spliced, splice, unshifted, unshift}
use Rattle.js_natives.specs.Program.{Program, Done}
use Rattle.js_machine.specs.Reachable as fits
use Rattle.js_machine.specs.Reachable.{Each, Counts, IsInReach, ValueFits}
use Rattle.js_machine.proofs.fitting.Growth.{stays, grows_on, is_there, later_reach, later_value, later_values}
use Rattle.js_machine.proofs.fitting.natives.Family as asks
use Rattle.js_machine.proofs.fitting.natives.Family.{NativeFits, OnAll, later_native, either}
use Rattle.js_machine.proofs.fitting.natives.Convert.{Row, this_object_fits, argument_fits, behind_two}
use Rattle.js_machine.proofs.fitting.natives.Arrays.{length_of_fits, new_array_fits, copied_fits, with_length_fits, put_length_fits}

moved_one_fits : (b : Bool) (source target : ℕ) {w : Counts} {o : ℕ} {p : Program} → IsInReach w o → NativeFits w p → NativeFits w (moved_one b o source target p)
moved_one_fits true source target o p = asks.get (is_there o) (λ v g a q. asks.put (is_there (later_reach g o)) q (later_native p g))
moved_one_fits false source target o p = asks.delete (is_there o) p

moved_fits : (ks : List ℕ) (a b : ℕ) {w : Counts} {o : ℕ} {p : Program} → IsInReach w o → NativeFits w p → NativeFits w (moved ks o a b p)
moved_fits [] a b o p = p
moved_fits (k ∷ ks) a b o p =
    let rest = moved_fits ks a b o p in
    asks.step (asks.own (is_there o) (λ v g c. moved_one_fits (is_some c) (k + a) (k + b) (later_reach g o) (later_native rest g)))

-- ---- reverse

exchanged_fits : (a b : Bool) (lower upper : ℕ) {w : Counts} {o : ℕ} {l u : Value} {p : Program} → IsInReach w o → ValueFits w l → ValueFits w u → NativeFits w p → NativeFits w (exchanged a b o lower upper l u p)
exchanged_fits true true lower upper o l u p = asks.put (is_there o) u (asks.put (is_there o) l p)
exchanged_fits false true lower upper o l u p = asks.put (is_there o) u (asks.delete (is_there o) p)
exchanged_fits true false lower upper o l u p = asks.delete (is_there o) (asks.put (is_there o) l p)
exchanged_fits false false lower upper o l u p = p

reversed_fits : (ks : List ℕ) (n : ℕ) {w : Counts} {o : ℕ} → IsInReach w o → NativeFits w (reversed ks o n Done)
reversed_fits [] n o = asks.done (asks.value (fits.object o))
reversed_fits (k ∷ ks) n o =
    let rest = reversed_fits ks n o in
    asks.step (asks.get (is_there o) (λ v g l p. asks.get (is_there (later_reach g o)) (λ u f m q.
    asks.own (is_there (later_reach (grows_on g f) o)) (λ t e b. asks.own (is_there (later_reach (grows_on (grows_on g f) e) o)) (λ s d c.
    let at = grows_on (grows_on (grows_on g f) e) d in
    exchanged_fits (is_some c) (is_some b) k (n - k - 1) (later_reach at o) (later_value (grows_on (grows_on f e) d) p) (later_value (grows_on e d) q) (later_native rest at))))))

pub reverse_fits : Row reverse
reverse_fits w this args t vs = this_object_fits t (λ v g o p. length_of_fits (is_there p) (λ u f n. reversed_fits (indices 0 (n / 2)) n (later_reach f p)))

-- ---- shift

shifted_fits : (n : ℕ) {w : Counts} {o : ℕ} → IsInReach w o → NativeFits w (shifted o n Done)
shifted_fits zero o = put_length_fits 0 o (asks.done (asks.value fits.undefined))
shifted_fits (suc n) o =
    asks.get (is_there o) (λ v g a p. let at = later_reach g o in
    moved_fits (indices 0 n) 1 0 at (asks.delete (is_there at) (put_length_fits n at (asks.done (asks.value p)))))

pub shift_fits : Row shift
shift_fits w this args t vs = this_object_fits t (λ v g o p. length_of_fits (is_there p) (λ u f n. shifted_fits n (later_reach f p)))

-- ---- slice

converted_end_fits : (n : ℕ) {w : Counts} {a : Value} {k : ℕ → Program} → ValueFits w a → OnAll ℕ w k → NativeFits w (converted_end a n k)
converted_end_fits n a h = asks.number a (λ v g m. h v g (from_either_end (integer_of m) n))

end_of_fits : (n : ℕ) {w : Counts} {a : Value} {k : ℕ → Program} → ValueFits w a → OnAll ℕ w k → NativeFits w (end_of a n k)
end_of_fits n {w = w} fits.undefined h = h w (stays w) n
end_of_fits n fits.null h = converted_end_fits n fits.null h
end_of_fits n fits.bool h = converted_end_fits n fits.bool h
end_of_fits n fits.num h = converted_end_fits n fits.num h
end_of_fits n fits.str h = converted_end_fits n fits.str h
end_of_fits n (fits.object o) h = converted_end_fits n (fits.object o) h

copies_fit : (ks : List ℕ) (start : ℕ) {w : Counts} {o made : ℕ} {p : Program} → IsInReach w o → IsInReach w made → NativeFits w p → NativeFits w (copies ks o start made p)
copies_fit [] start o made p = p
copies_fit (k ∷ ks) start o made p =
    let rest = copies_fit ks start o made p in
    asks.step (asks.own (is_there o) (λ v g c. copied_fits (is_some c) (k + start) k (is_there (later_reach g o)) (later_reach g made) (later_native rest g)))

copied_part_fits : (start end : ℕ) {w : Counts} {o made : ℕ} → IsInReach w o → IsInReach w made → NativeFits w (copied_part o made start end Done)
copied_part_fits start end o made = copies_fit (indices 0 (end - start)) start o made (with_length_fits (end - start) made)

sliced_fits : {w : Counts} {o made : ℕ} {from to : Value} → IsInReach w o → IsInReach w made → ValueFits w from → ValueFits w to → NativeFits w (sliced o made from to Done)
sliced_fits o made from to =
    length_of_fits (is_there o) (λ v g n. asks.number (later_value g from) (λ u f start. end_of_fits n (later_value (grows_on g f) to) (λ t e end.
    let at = grows_on (grows_on g f) e in
    copied_part_fits (from_either_end (integer_of start) n) end (later_reach at o) (later_reach at made))))

pub slice_fits : Row slice
slice_fits w this args t vs =
    this_object_fits t (λ v g o p. new_array_fits (λ u f made q. let at = grows_on g f in
    sliced_fits (later_reach f p) q (later_value at (argument_fits vs 0)) (later_value at (argument_fits vs 1))))

-- ---- splice and unshift

put_elements_fit : {w : Counts} (k : ℕ) {vs : List Value} {o : ℕ} {p : Program} → Each (ValueFits w) vs → IsInReach w o → NativeFits w p → NativeFits w (put_elements vs o k p)
put_elements_fit k fits.empty o p = p
put_elements_fit k (fits.more a vs) o p = asks.put (is_there o) a (put_elements_fit (suc k) vs o p)

deletes_fit : (ks : List ℕ) {w : Counts} {o : ℕ} {p : Program} → IsInReach w o → NativeFits w p → NativeFits w (deletes ks o p)
deletes_fit [] o p = p
deletes_fit (k ∷ ks) o p = asks.step (asks.delete (is_there o) (deletes_fit ks o p))

closed_or_opened_fits : (n start gone come : ℕ) {w : Counts} {o : ℕ} {p : Program} → IsInReach w o → NativeFits w p → NativeFits w (closed_or_opened o n start gone come p)
closed_or_opened_fits n start gone come o p =
    either (nat_lt come gone) (moved_fits (indices start (n - gone - start)) gone come o (deletes_fit (downward (n - gone + come) (gone - come)) o p))
    (either (nat_lt gone come) (moved_fits (downward start (n - gone - start)) gone come o p) p)

spliced_fits : (n start gone : ℕ) {w : Counts} {o made : ℕ} {vs : List Value} → IsInReach w o → IsInReach w made → Each (ValueFits w) vs → NativeFits w (spliced o made n start gone vs Done)
spliced_fits n start gone {vs = items} o made vs =
    copies_fit (indices 0 gone) start o made (asks.write (is_there made) fits.num (closed_or_opened_fits n start gone (count_of items) o
    (put_elements_fit start vs o (put_length_fits (n - gone + count_of items) o (asks.done (asks.value (fits.object made)))))))

pub splice_fits : Row splice
splice_fits w this args t vs =
    this_object_fits t (λ v g o p. new_array_fits (λ u f made q. length_of_fits (is_there (later_reach f p)) (λ s e n.
    asks.number (later_value (grows_on (grows_on g f) e) (argument_fits vs 0)) (λ s2 e2 start. asks.number (later_value (grows_on (grows_on (grows_on g f) e) e2) (argument_fits vs 1)) (λ s3 e3 count.
    let on = grows_on (grows_on e e2) e3 in
    spliced_fits n (from_either_end (integer_of start) n) (min (at_least_zero (integer_of count)) (n - from_either_end (integer_of start) n))
    (later_reach (grows_on f on) p) (later_reach on q) (later_values (grows_on (grows_on g f) on) (behind_two vs)))))))

unshifted_fits : (n : ℕ) {w : Counts} {o : ℕ} {vs : List Value} → IsInReach w o → Each (ValueFits w) vs → NativeFits w (unshifted o n vs Done)
unshifted_fits n {vs = items} o vs =
    moved_fits (downward 0 n) 0 (count_of items) o (put_elements_fit 0 vs o (put_length_fits (n + count_of items) o (asks.done (asks.value fits.num))))

pub unshift_fits : Row unshift
unshift_fits w this args t vs = this_object_fits t (λ v g o p. length_of_fits (is_there p) (λ u f n. unshifted_fits n (later_reach f p) (later_values (grows_on g f) vs)))
