-- What a function that reads ensures.
use Rattle.std.specs.Prelude.{◌≡◌, ◌<◌, ◌^◌, ℕ, Bool, true, false, List}
use Rattle.std.specs.Prelude.{Option, Some, None, Result, Ok, Err, IfOk, IfSome, alloc_error}
use Rattle.std.specs.declared.alloc.AllocError.{AllocError}
use Rattle.text_reader.specs.declared.cursor.Refusal.{Refusal}
use Rattle.text_reader.specs.declared.cursor.Refusal.TheVariants.{NotOfForm, OutOfMemory}
use Rattle.text_reader.specs.Reader.{Found}

-- what was found and the bytes that are left, unless memory fails
abbrev pub Gives : {A : Type 0} → Found A → Result A Refusal → List ℕ → Type 0
Gives found (Ok a) rest = found ≡ Some (a, rest)
Gives found (Err NotOfForm) rest = found ≡ None
Gives found (Err OutOfMemory) rest = Unit {0}

-- whether it was found; what is left stays where it was not
abbrev pub Eats : Found (Unit {0}) → Bool → List ℕ → List ℕ → Type 0
Eats found true old new = found ≡ Some (tt, new)
Eats found false old new = (found ≡ None) × (new ≡ old)

-- each answer of a test of bytes is that of `test`
abbrev pub Decides : (ℕ → Bool → Type 0) → (ℕ → Bool) → Type 0
Decides answers test =
    (byte : ℕ) (answer : Bool) → byte < 2 ^ 8 → answers byte answer → answer ≡ test byte

-- what was read, or None where the text is not of the form
abbrev pub or_none : {A : Type 0} → Result A Refusal → Result (Option A) AllocError
or_none (Ok a) = Ok (Some a)
or_none (Err NotOfForm) = Ok None
or_none (Err OutOfMemory) = Err alloc_error

-- what was read, where something was, is P
abbrev pub IfRead : {A E : Type 0} → Result (Option A) E → (A → Type 0) → Type 0
IfRead result P = IfOk result (λ found. IfSome found P)

-- this is what was read, unless memory fails
abbrev pub IsRead : {A E : Type 0} → Result (Option A) E → A → Type 0
IsRead result x = IfOk result (λ found. found ≡ Some x)
