-- Asks in `do` notation, and how a native ends.
use Rattle.std.specs.Prelude.{ℕ, ◌^◌, Bool, nat_le, if◌then◌else◌, pos, ◌++◌, length}
use Rattle.std.specs.Prelude.{Option, is_some}
use Rattle.js_values.specs.declared.number.Num.{Num}
use Rattle.js_values.specs.declared.number.Num.TheVariants.{Whole}
use Rattle.js_values.specs.declared.reason.Reason.{Reason}
use Rattle.js_values.specs.declared.reason.Reason.TheVariants.{LongText}
use Rattle.js_values.specs.declared.value.Value.{Value}
use Rattle.js_values.specs.declared.value.Value.TheVariants as value
use Rattle.object_heap.specs.declared.object.Attrs.{Attrs}
use Rattle.object_heap.specs.declared.object.Class.{Class}
use Rattle.object_heap.specs.Names.{Name}
use Rattle.js_natives.specs.declared.answer.Answer.{Answer}
use Rattle.js_natives.specs.declared.answer.Answer.TheVariants as answer
use Rattle.js_natives.specs.declared.answer.ErrorKind.{ErrorKind}
use Rattle.js_natives.specs.Program.{Program, Done, Step, Text, Number, Get, Put, Listen, Make}
use Rattle.js_natives.specs.Program.{ClassOf, Own, Behind, Write, Delete}

-- what asks, and then goes on with an A
abbrev pub Asks : Type 0 → Type 0
Asks A = (A → Program) → Program

infixl 1 ◌>>=◌
abbrev pub ◌>>=◌ : {A B : Type 0} → Asks A → (A → Asks B) → Asks B
m >>= f = λ k. m (λ a. f a k)

infixl 1 ◌>>◌
abbrev pub ◌>>◌ : {A : Type 0} → (Program → Program) → Asks A → Asks A
m >> n = λ k. m (n k)

abbrev pub pure : {A : Type 0} → A → Asks A
pure a k = k a

-- ---- the asks

abbrev pub step : Program → Program
step p = Step p

abbrev pub text : Value → Asks Name
text v k = Text v k

abbrev pub number : Value → Asks Num
number v k = Number v k

abbrev pub get : ℕ → Name → Asks Value
get o name k = Get o name k

abbrev pub put : ℕ → Name → Value → Program → Program
put o name v p = Put o name v p

abbrev pub listen : Name → ℕ → Program → Program
listen event f p = Listen event f p

abbrev pub make : Class → ℕ → Asks ℕ
make class prototype k = Make class prototype k

abbrev pub class_of : ℕ → Asks Class
class_of o k = ClassOf o k

abbrev pub own : ℕ → Name → Asks (Option Attrs)
own o name k = Own o name k

abbrev pub behind : ℕ → ℕ → Asks Bool
behind o target k = Behind o target k

abbrev pub write : ℕ → Name → Value → Program → Program
write o name v p = Write o name v p

abbrev pub delete : ℕ → Name → Program → Program
delete o name p = Delete o name p

-- whether the object itself has a property: so the standard says "has a property" (8.6.2.1,
-- 15.2.4.5), and calls [[HasProperty]] where prototypes count
abbrev pub has : ℕ → Name → Asks Bool
has o name = do
  attributes ← own o name
  pure (is_some attributes)

-- ---- how a native ends

abbrev pub ended : Asks Answer → Program
ended native = native Done

abbrev pub stop : {A : Type 0} → Reason → Asks A
stop reason k = Done (answer.Stop reason)

abbrev pub throw : {A : Type 0} → ErrorKind → Asks A
throw kind k = Done (answer.Throw kind)

abbrev pub value_answer : Value → Asks Answer
value_answer v = pure (answer.Value v)

abbrev pub undefined_answer : Asks Answer
undefined_answer = value_answer value.Undefined

abbrev pub truth_answer : Bool → Asks Answer
truth_answer b = value_answer (value.Bool b)

abbrev pub number_answer : Num → Asks Answer
number_answer n = value_answer (value.Num n)

abbrev pub whole_answer : ℕ → Asks Answer
whole_answer n = number_answer (Whole (pos n))

abbrev pub text_answer : Name → Asks Answer
text_answer s = value_answer (value.Str s)

abbrev pub the_object : ℕ → Value
the_object o = value.Object (record { 0 = o })

abbrev pub object_answer : ℕ → Asks Answer
object_answer o = value_answer (the_object o)

-- ---- texts that are made

-- 2^26 units
abbrev pub longest_text : ℕ
longest_text = 2 ^ 26

-- a text that is about to be made
abbrev pub made_text : Name → Asks Name
made_text s = if nat_le (length s) longest_text then pure s else stop LongText

abbrev pub joined_text : Name → Name → Asks Name
joined_text a b = made_text (a ++ b)
