-- The list of `apply`, and long texts.
use Rattle.std.proofs.Common.{◌≡◌, ℕ, zero, suc, ◌+◌, ◌^◌, true, false, [], ◌∷◌, ◌++◌, length, refl, sym, ap, ◌∙◌, arith, append_assoc}
use Rattle.std.specs.Prelude.{nat_le, Option, Some, None}
use Rattle.std.proofs.Common.{append-nil}
use Rattle.std.proofs.lemmas.Bool.{le-leb, lt-leb}
use Rattle.object_heap.specs.Names.{decimal}
use Rattle.object_heap.specs.Objects.{Slot, Holds, Shares}
use Rattle.object_heap.specs.Get.{get}
use Rattle.scope_arena.specs.Scopes.{Scopes}
use Rattle.js_calls.specs.Apply as calls
use Rattle.js_machine.specs.State.{State, value_read, property_value, with_step}
use Rattle.js_machine.specs.Applying.{values_from}
use Rattle.js_machine.specs.References.{or_undefined}
use Rattle.js_machine.specs.Run.{run}
use Rattle.js_machine.specs.Laws.{with_steps, ListsAreApplied, LongTextsStop}

-- a read property is the same in both
same_read : (scopes : Scopes) (slot : Option Slot) → or_undefined (value_read scopes slot) ≡ calls.value_in scopes slot
same_read scopes None = refl
same_read scopes (Some (Holds v)) = refl
same_read scopes (Some (Shares scope place)) = refl

no_more : (s : State) → with_steps 0 s ≡ s
no_more s = ap (λ count. record s { steps = count }) (zero_plus s.steps)
  where
    zero_plus : (n : ℕ) → 0 + n ≡ n
    zero_plus n = omega arith

one_more : (count : ℕ) (s : State) → with_steps count (with_step s) ≡ with_steps (suc count) s
one_more count s = ap (λ steps. record s { steps = steps }) (moved count s.steps)
  where
    moved : (n m : ℕ) → n + suc m ≡ suc n + m
    moved n m = omega arith

-- ---- the list of `apply`

pub lists_are_applied : ListsAreApplied
lists_are_applied world n zero index o known k ks s =
    let none : 0 + n ≡ n = omega arith in
    ap (λ m. run world m (k known) ks s) none
    ∙ (ap (λ vs. run world n (k vs) ks s) (sym (append-nil known))
    ∙ ap (λ t. run world n (k (known ++ [])) ks t) (sym (no_more s)))
lists_are_applied world n (suc count) index o known k ks s =
    let more : suc count + n ≡ suc (count + n) = omega arith in
    let v = or_undefined (property_value s o (decimal index)) in
    let rest = calls.values_from s.heap s.scopes o (suc index) count in
    ap (λ m. run world m (values_from (suc count) index o known k) ks s) more
    ∙ (lists_are_applied world n count (suc index) o (known ++ v ∷ []) k ks (with_step s)
    ∙ (ap (λ vs. run world n (k vs) ks (with_steps count (with_step s))) (append_assoc known (v ∷ []) rest)
    ∙ (ap (λ u. run world n (k (known ++ u ∷ rest)) ks (with_steps count (with_step s))) (same_read s.scopes (get s.heap o (decimal index)))
    ∙ ap (λ t. run world n (k (known ++ calls.values_from s.heap s.scopes o index (suc count))) ks t) (one_more count s))))

-- ---- long texts

pub long_texts_stop : LongTextsStop
long_texts_stop = record {
  stops = λ text k long. let no : nat_le (length text) (2 ^ 26) ≡ false = lt-leb (length text) (2 ^ 26) long in rw no refl;
  goes_on = λ text k short. let so : nat_le (length text) (2 ^ 26) ≡ true = le-leb (length text) (2 ^ 26) short in rw so refl;
}
