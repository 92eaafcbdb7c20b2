-- What holds of each of a list.
use Rattle.std.proofs.Common.{◌≡◌, ℕ, zero, suc, List, [], ◌∷◌, ◌++◌, length, refl, ap}
use Rattle.std.specs.Prelude.{Option, option_map, slice_get, slice_set, take, if◌then◌else◌, Bool, true, false}
use Rattle.js_machine.specs.Reachable.{Each, empty, more, IfAny, nothing, just}

pub each_so : {A : Type 0} {P Q : A → Type 0} → ((x : A) → P x → Q x) → {xs : List A} → Each P xs → Each Q xs
each_so f empty = empty
each_so f (more {x = x} h hs) = more (f x h) (each_so f hs)

pub any_so : {A : Type 0} {P Q : A → Type 0} → ((x : A) → P x → Q x) → {o : Option A} → IfAny P o → IfAny Q o
any_so f nothing = nothing
any_so f (just {x = x} h) = just (f x h)

pub any_mapped : {A B : Type 0} {P : A → Type 0} {Q : B → Type 0} (f : A → B) → ((x : A) → P x → Q (f x)) → {o : Option A} → IfAny P o → IfAny Q (option_map f o)
any_mapped f h nothing = nothing
any_mapped f h (just {x = x} p) = just (h x p)

pub each_joined : {A : Type 0} {P : A → Type 0} {xs ys : List A} → Each P xs → Each P ys → Each P (xs ++ ys)
each_joined empty ys = ys
each_joined (more h hs) ys = more h (each_joined hs ys)

pub each_got : {A : Type 0} {P : A → Type 0} {xs : List A} → Each P xs → (i : ℕ) → IfAny P (slice_get xs i)
each_got empty i = nothing
each_got (more h hs) zero = just h
each_got (more h hs) (suc i) = each_got hs i

pub each_set : {A : Type 0} {P : A → Type 0} {xs : List A} → Each P xs → (i : ℕ) {x : A} → P x → Each P (slice_set xs i x)
each_set empty i p = empty
each_set (more h hs) zero p = more p hs
each_set (more h hs) (suc i) p = more h (each_set hs i p)

pub each_taken : {A : Type 0} {P : A → Type 0} {xs : List A} → Each P xs → (n : ℕ) → Each P (take n xs)
each_taken hs zero = empty
each_taken empty (suc n) = empty
each_taken (more h hs) (suc n) = more h (each_taken hs n)

pub each_if : {A : Type 0} {P : A → Type 0} (b : Bool) {xs ys : List A} → Each P xs → Each P ys → Each P (if b then xs else ys)
each_if true h g = h
each_if false h g = g

pub any_if : {A : Type 0} {P : A → Type 0} (b : Bool) {x y : Option A} → IfAny P x → IfAny P y → IfAny P (if b then x else y)
any_if true h g = h
any_if false h g = g

pub length_set : {A : Type 0} (xs : List A) (i : ℕ) (x : A) → length (slice_set xs i x) ≡ length xs
length_set [] i x = refl
length_set (y ∷ ys) zero x = refl
length_set (y ∷ ys) (suc i) x = ap suc (length_set ys i x)
