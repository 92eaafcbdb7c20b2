-- The errors (ES3 15.11).
use Rattle.std.specs.Prelude.{ℕ, List, [], ◌∷◌, ◌++◌, codes}
use Rattle.js_values.specs.declared.value.Value.{Value}
use Rattle.js_values.specs.declared.value.Value.TheVariants as value
use Rattle.object_heap.specs.declared.built_in.BuiltIn.{BuiltIn}
use Rattle.object_heap.specs.declared.object.Class.TheVariants as class
use Rattle.object_heap.specs.BuiltIns.{number_of}
use Rattle.object_heap.specs.Names.{Name}
use Rattle.js_natives.specs.declared.answer.Answer.{Answer}
use Rattle.js_natives.specs.Program.{Program}
use Rattle.js_natives.specs.Asks.{Asks, ◌>>=◌, ◌>>◌, pure, text, get, make, write, joined_text}
use Rattle.js_natives.specs.Asks.{text_answer, object_answer}
use Rattle.js_natives.specs.This.{this_object}
use Rattle.js_natives.specs.Convert.{argument}

abbrev pub message_name : Name
message_name = codes "message"

-- ---- Error (message) and new Error (message) (15.11.1.1, 15.11.2.1), and those of the three kinds
-- (15.11.7.2, 15.11.7.4)

-- a message that is not undefined has been made a text: it is the object's own, and has no
-- attributes
abbrev pub with_message : Value → ℕ → Program → Program
with_message (value.Str s) made p = write made message_name (value.Str s) p
with_message v made p = p

abbrev pub error : BuiltIn → Value → List Value → Asks Answer
error prototype this args = do
  made ← make class.Error (number_of prototype)
  with_message (argument args 0) made
  object_answer made

-- ---- Error.prototype.toString () (15.11.4.4)

-- the name alone where there is no message
abbrev pub described : Name → Name → Asks Name
described name [] = pure name
described name (u ∷ us) = joined_text name (codes ": " ++ u ∷ us)

abbrev pub error_to_string : Value → List Value → Asks Answer
error_to_string this args = do
  o ← this_object this
  v ← get o (codes "name")
  name ← text v
  w ← get o message_name
  message ← text w
  s ← described name message
  text_answer s
