-- What holds of all natives, whatever they are answered.
use Rattle.std.specs.Prelude.{◌≡◌, ℕ, zero, suc, ◌+◌, ◌-◌, ◌/◌, ◌==◌, nat_le, Bool, true, false}
use Rattle.std.specs.Prelude.{List, [], ◌∷◌, length, Option}
use Rattle.js_values.specs.declared.number.Num.{Num}
use Rattle.js_values.specs.declared.reason.Reason.TheVariants.{LongText}
use Rattle.js_values.specs.declared.value.Value.{Value}
use Rattle.object_heap.specs.declared.object.Attrs.{Attrs}
use Rattle.object_heap.specs.declared.object.Class.{Class}
use Rattle.object_heap.specs.Laws.{is_object}
use Rattle.object_heap.specs.Names.{Name}
use Rattle.js_natives.specs.declared.answer.Answer.{Answer}
use Rattle.js_natives.specs.declared.answer.Answer.TheVariants as answer
use Rattle.js_natives.specs.declared.native.Native.{Native}
use Rattle.js_natives.specs.declared.native.Native.TheVariants as native
use Rattle.js_natives.specs.Arrays.{elements, joined}
use Rattle.js_natives.specs.Asks.{ended, longest_text, made_text}
use Rattle.js_natives.specs.Convert.{count_of}
use Rattle.js_natives.specs.Indices.{indices}
use Rattle.js_natives.specs.Moves.{copied_part, reversed, shifted, spliced, unshifted}
use Rattle.js_natives.specs.Program.{Program, Done, Step, Text, Number, Get, Put, Listen, Make}
use Rattle.js_natives.specs.Program.{ClassOf, Own, Behind, Write, Delete}
use Rattle.js_natives.specs.Natives.{program_of}
use Rattle.js_natives.specs.This.{global}

-- ---- an object that a native is not given, as Function.prototype: it passes it nowhere

abbrev pub AllFree : ℕ → List Value → Type 0
AllFree f [] = Unit {0}
AllFree f (v ∷ vs) = (is_object f v ≡ false) × AllFree f vs

abbrev pub AnswerAvoids : ℕ → Answer → Type 0
AnswerAvoids f (answer.Value v) = is_object f v ≡ false
AnswerAvoids f (answer.Throw kind) = Unit {0}
AnswerAvoids f (answer.Stop reason) = Unit {0}

-- it is no answer, and no value that is converted, put or written, as long as no read gives it and
-- no new object is it
abbrev pub Avoids : ℕ → Program → Type 0
Avoids f (Done answer) = AnswerAvoids f answer
Avoids f (Step p) = Avoids f p
Avoids f (Text v k) = (is_object f v ≡ false) × ((s : Name) → Avoids f (k s))
Avoids f (Number v k) = (is_object f v ≡ false) × ((n : Num) → Avoids f (k n))
Avoids f (Get o name k) = (v : Value) → is_object f v ≡ false → Avoids f (k v)
Avoids f (Put o name v p) = (is_object f v ≡ false) × Avoids f p
Avoids f (Listen event g p) = ((g == f) ≡ false) × Avoids f p
Avoids f (Make class prototype k) = (o : ℕ) → (o == f) ≡ false → Avoids f (k o)
Avoids f (ClassOf o k) = (c : Class) → Avoids f (k c)
Avoids f (Own o name k) = (a : Option Attrs) → Avoids f (k a)
Avoids f (Behind o target k) = (b : Bool) → Avoids f (k b)
Avoids f (Write o name v p) = (is_object f v ≡ false) × Avoids f p
Avoids f (Delete o name p) = Avoids f p

abbrev pub NativesAvoid : Type 0
NativesAvoid =
    (f : ℕ) (n : Native) (this : Value) (args : List Value)
    → (global == f) ≡ false → is_object f this ≡ false → AllFree f args
    → Avoids f (program_of n this args)

-- ---- steps

abbrev pub StepsAtMost : Program → ℕ → Type 0
StepsAtMost (Done answer) n = Unit {0}
StepsAtMost (Step p) zero = ⊥
StepsAtMost (Step p) (suc n) = StepsAtMost p n
StepsAtMost (Text v k) n = (s : Name) → StepsAtMost (k s) n
StepsAtMost (Number v k) n = (a : Num) → StepsAtMost (k a) n
StepsAtMost (Get o name k) n = (v : Value) → StepsAtMost (k v) n
StepsAtMost (Put o name v p) n = StepsAtMost p n
StepsAtMost (Listen event g p) n = StepsAtMost p n
StepsAtMost (Make class prototype k) n = (o : ℕ) → StepsAtMost (k o) n
StepsAtMost (ClassOf o k) n = (c : Class) → StepsAtMost (k c) n
StepsAtMost (Own o name k) n = (a : Option Attrs) → StepsAtMost (k a) n
StepsAtMost (Behind o target k) n = (b : Bool) → StepsAtMost (k b) n
StepsAtMost (Write o name v p) n = StepsAtMost p n
StepsAtMost (Delete o name p) n = StepsAtMost p n

abbrev pub loops_over_indices : Native → Bool
loops_over_indices native.ArrayToString = true
loops_over_indices native.ArrayConcat = true
loops_over_indices native.Join = true
loops_over_indices native.Reverse = true
loops_over_indices native.Shift = true
loops_over_indices native.ArraySlice = true
loops_over_indices native.Splice = true
loops_over_indices native.Unshift = true
loops_over_indices n = false

pub record StepsAreOfIndices : Type 0 where
  -- the other natives take none
  pub others : (n : Native) (this : Value) (args : List Value) → loops_over_indices n ≡ false
      → StepsAtMost (program_of n this args) 0
  -- and these take, once their length and what they convert is known, one an index; index 0 is read
  -- outside the loops of `join` (and `toString`) and of `shift`
  pub join : (o n : ℕ) (between : Name) (k : Name → Program) → ((s : Name) → StepsAtMost (k s) 0)
      → StepsAtMost (joined o (suc n) between k) n
  pub shift : (o n : ℕ) → StepsAtMost (ended (shifted o (suc n))) n
  pub reverse : (o n : ℕ) → StepsAtMost (ended (reversed (indices 0 (n / 2)) o n)) (n / 2)
  pub slice : (o made start end : ℕ)
      → StepsAtMost (ended (copied_part o made start end)) (end - start)
  pub splice : (o made n start gone : ℕ) (items : List Value)
      → StepsAtMost (ended (spliced o made n start gone items))
      (gone + (n - gone - start) + (gone - count_of items))
  pub unshift : (o n : ℕ) (items : List Value) → StepsAtMost (ended (unshifted o n items)) n
  -- for each array among the items of `concat`
  pub concat : (e made n count m : ℕ) (k : ℕ → Program) → ((c : ℕ) → StepsAtMost (k c) m)
      → StepsAtMost (elements (indices 0 count) e made n k) (count + m)

-- ---- long texts

abbrev pub LongTextsStop : Type 0
LongTextsStop =
    (s : Name) (k : Name → Program) → nat_le (length s) longest_text ≡ false
    → made_text s k ≡ Done (answer.Stop LongText)

abbrev pub OtherTextsAreMade : Type 0
OtherTextsAreMade =
    (s : Name) (k : Name → Program) → nat_le (length s) longest_text ≡ true
    → made_text s k ≡ k s
