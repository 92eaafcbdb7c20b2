-- Programs of natives that fit: what they ask for is there, and for every answer that fits in a later
-- world they go on so.
use Rattle.std.proofs.Common.{ℕ, Bool, true, false, List}
use Rattle.std.specs.Prelude.{Option, if◌then◌else◌}
use Rattle.js_values.specs.declared.number.Num.{Num}
use Rattle.js_values.specs.declared.reason.Reason.{Reason}
use Rattle.js_values.specs.declared.value.Value.{Value}
use Rattle.object_heap.specs.declared.object.Attrs.{Attrs}
use Rattle.object_heap.specs.declared.object.Class.{Class}
use Rattle.object_heap.specs.Names.{Name}
use Rattle.js_natives.specs.declared.answer.Answer.{Answer}
use Rattle.js_natives.specs.declared.answer.Answer.TheVariants as answer
use Rattle.js_natives.specs.declared.answer.ErrorKind.{ErrorKind}
use Rattle.js_natives.specs.Asks.{Asks}
use Rattle.js_natives.specs.Program.{Program, Done, Step, Text, Number, Get, Put, Listen, Make, ClassOf, Own, Behind, Write, Delete}
use Rattle.js_machine.specs.Reachable.{Each, Counts, IsObject, IsInReach, ValueFits}
use Rattle.js_machine.proofs.fitting.Growth.{Grows, grows_on, later_object, later_reach, later_value}

pub data AnswerFits (w : Counts) : Answer → Type 0 where
  value : {a : Value} → ValueFits w a → AnswerFits w (answer.Value a)
  throw : {kind : ErrorKind} → AnswerFits w (answer.Throw kind)
  stop : {reason : Reason} → AnswerFits w (answer.Stop reason)

pub data NativeFits : Counts → Program → Type 0 where
  done : {w : Counts} {a : Answer} → AnswerFits w a → NativeFits w (Done a)
  step : {w : Counts} {p : Program} → NativeFits w p → NativeFits w (Step p)
  text : {w : Counts} {a : Value} {k : Name → Program} → ValueFits w a
      → ((v : Counts) → Grows w v → (s : Name) → NativeFits v (k s)) → NativeFits w (Text a k)
  number : {w : Counts} {a : Value} {k : Num → Program} → ValueFits w a
      → ((v : Counts) → Grows w v → (n : Num) → NativeFits v (k n)) → NativeFits w (Number a k)
  get : {w : Counts} {o : ℕ} {name : Name} {k : Value → Program} → IsObject w o
      → ((v : Counts) → Grows w v → (a : Value) → ValueFits v a → NativeFits v (k a)) → NativeFits w (Get o name k)
  put : {w : Counts} {o : ℕ} {name : Name} {a : Value} {p : Program} → IsObject w o → ValueFits w a → NativeFits w p → NativeFits w (Put o name a p)
  listen : {w : Counts} {event : Name} {f : ℕ} {p : Program} → IsInReach w f → NativeFits w p → NativeFits w (Listen event f p)
  make : {w : Counts} {class : Class} {prototype : ℕ} {k : ℕ → Program} → IsObject w prototype
      → ((v : Counts) → Grows w v → (o : ℕ) → IsInReach v o → NativeFits v (k o)) → NativeFits w (Make class prototype k)
  class_of : {w : Counts} {o : ℕ} {k : Class → Program} → IsInReach w o
      → ((v : Counts) → Grows w v → (c : Class) → NativeFits v (k c)) → NativeFits w (ClassOf o k)
  own : {w : Counts} {o : ℕ} {name : Name} {k : Option Attrs → Program} → IsObject w o
      → ((v : Counts) → Grows w v → (a : Option Attrs) → NativeFits v (k a)) → NativeFits w (Own o name k)
  behind : {w : Counts} {o target : ℕ} {k : Bool → Program} → IsObject w o → IsObject w target
      → ((v : Counts) → Grows w v → (b : Bool) → NativeFits v (k b)) → NativeFits w (Behind o target k)
  write : {w : Counts} {o : ℕ} {name : Name} {a : Value} {p : Program} → IsObject w o → ValueFits w a → NativeFits w p → NativeFits w (Write o name a p)
  delete : {w : Counts} {o : ℕ} {name : Name} {p : Program} → IsObject w o → NativeFits w p → NativeFits w (Delete o name p)

-- ---- what goes on with answers, from a world on

abbrev pub OnValues : Counts → (Value → Program) → Type 0
OnValues w k = (v : Counts) → Grows w v → (a : Value) → ValueFits v a → NativeFits v (k a)

abbrev pub OnLists : Counts → (List Value → Program) → Type 0
OnLists w k = (v : Counts) → Grows w v → (vs : List Value) → Each (ValueFits v) vs → NativeFits v (k vs)

abbrev pub OnObjects : Counts → (ℕ → Program) → Type 0
OnObjects w k = (v : Counts) → Grows w v → (o : ℕ) → IsInReach v o → NativeFits v (k o)

abbrev pub OnAll : (A : Type 0) → Counts → (A → Program) → Type 0
OnAll A w k = (v : Counts) → Grows w v → (a : A) → NativeFits v (k a)

-- ---- in every later world

pub later_native : {w : Counts} {p : Program} → NativeFits w p → {v : Counts} → Grows w v → NativeFits v p
later_native (done (value a)) g = done (value (later_value g a))
later_native (done throw) g = done throw
later_native (done stop) g = done stop
later_native (step p) g = step (later_native p g)
later_native (text a h) g = text (later_value g a) (λ u f. h u (grows_on g f))
later_native (number a h) g = number (later_value g a) (λ u f. h u (grows_on g f))
later_native (get o h) g = get (later_object g o) (λ u f. h u (grows_on g f))
later_native (put o a p) g = put (later_object g o) (later_value g a) (later_native p g)
later_native (listen f p) g = listen (later_reach g f) (later_native p g)
later_native (make p h) g = make (later_object g p) (λ u f. h u (grows_on g f))
later_native (class_of o h) g = class_of (later_reach g o) (λ u f. h u (grows_on g f))
later_native (own o h) g = own (later_object g o) (λ u f. h u (grows_on g f))
later_native (behind o t h) g = behind (later_object g o) (later_object g t) (λ u f. h u (grows_on g f))
later_native (write o a p) g = write (later_object g o) (later_value g a) (later_native p g)
later_native (delete o p) g = delete (later_object g o) (later_native p g)

-- ---- choices

pub chosen : {A : Type 0} (b : Bool) (m n : Asks A) {w : Counts} {k : A → Program} → NativeFits w (m k) → NativeFits w (n k) → NativeFits w ((if b then m else n) k)
chosen true m n p q = p
chosen false m n p q = q

pub either : (b : Bool) {w : Counts} {p q : Program} → NativeFits w p → NativeFits w q → NativeFits w (if b then p else q)
either true p q = p
either false p q = q
