-- What is left of a run where an error is thrown behind a write.
use Rattle.std.proofs.Common.{◌≡◌, List, [], ◌∷◌, ◌++◌, length, sym, ap, ◌∙◌}
use Rattle.std.specs.declared.alloc.AllocError.{AllocError}
use Rattle.std.specs.Prelude.{IfOk, Result, Ok, Err}
use Rattle.js_values.specs.declared.value.Value.{Value}
use Rattle.object_heap.specs.declared.built_in.BuiltIn.{BuiltIn}
use Rattle.object_heap.specs.Objects.{Heap}
use Rattle.js_machine.specs.declared.frame.Control.{Control}
use Rattle.js_machine.specs.declared.frame.Control.TheVariants as control
use Rattle.js_machine.specs.declared.machine.Machine.{Machine}
use Rattle.js_machine.specs.References.{error_object}
use Rattle.js_machine.specs.Rest.{Left, Outside, Same, at, rest}
use Rattle.js_machine.specs.State.{object_value}

pub if_ok : {A E : Type 0} (r : Result A E) (P Q : A → Type 0) → IfOk r P → ((a : A) → P a → Q a) → IfOk r Q
if_ok (Ok a) P Q h f = f a h
if_ok (Err e) P Q h f = tt

-- the machine went from old to now, where an error is made and thrown
pub raised : (left : Left) (old now new : Machine) (p : BuiltIn) (heap : Heap) (values : List Value) (r : Result Control AllocError)
    → now ≡ record old { heap = heap; values = values }
    → ((out : Outside) → at left old out ≡ rest control.Throw old.clock.1 old.frames (object_value (length now.heap) ∷ now.values) (now.heap ++ error_object p ∷ []) old.hosts old.beats old.clock.0 out)
    → IfOk r (λ next. (next ≡ control.Throw) × (new ≡ record now { heap = now.heap ++ error_object p ∷ []; values = object_value (length now.heap) ∷ now.values }))
    → IfOk r (λ next. Same left old next new)
raised left old now new p heap values r k e h =
    if_ok r _ _ h (λ next g. λ out.
    e out
    ∙ (sym (ap (λ m. rest control.Throw m.clock.1 m.frames (object_value (length now.heap) ∷ now.values) (now.heap ++ error_object p ∷ []) m.hosts m.beats m.clock.0 out) k)
    ∙ (sym (ap (λ m. at (rest control.Throw) m out) g.1)
    ∙ sym (ap (λ c. at (rest c) new out) g.0))))
