-- A native as a program of asks: what it asks for next, and how it goes on with what it is given.
-- It knows no tree and no machine. A throw or a stop inside an ask ends the native.
use Rattle.std.specs.Prelude.{ℕ, Bool, Option}
use Rattle.js_values.specs.declared.number.Num.{Num}
use Rattle.js_values.specs.declared.value.Value.{Value}
use Rattle.object_heap.specs.declared.object.Attrs.{Attrs}
use Rattle.object_heap.specs.declared.object.Class.{Class}
use Rattle.object_heap.specs.Names.{Name}
use Rattle.js_natives.specs.declared.answer.Answer.{Answer}

pub data Program : Type 0 where
  -- the native has ended
  Done : (answer : Answer) → Program
  -- ---- what the machine does

  -- a step is due, at each turn of a loop over indices
  Step : (p : Program) → Program
  -- ToString (ES3 9.8), which may call functions of a script
  Text : (v : Value) → (k : Name → Program) → Program
  -- ToNumber (9.3), which may call functions of a script
  Number : (v : Value) → (k : Num → Program) → Program
  -- [[Get]] (8.6.2.1), which may meet an index that shares its value with a formal
  Get : (o : ℕ) → (name : Name) → (k : Value → Program) → Program
  -- [[Put]] (8.6.2.2, 15.4.5.1), which may meet one too, and throws RangeError where the value is
  -- no length of an array
  Put : (o : ℕ) → (name : Name) → (v : Value) → (p : Program) → Program
  -- the function is registered as a listener for events of this type
  Listen : (event : Name) → (f : ℕ) → (p : Program) → Program
  -- ---- what is done on the heap alone

  -- a new object
  Make : (class : Class) → (prototype : ℕ) → (k : ℕ → Program) → Program
  -- [[Class]] (8.6.2)
  ClassOf : (o : ℕ) → (k : Class → Program) → Program
  -- the attributes of the object's own property, or None where it has none of the name
  Own : (o : ℕ) → (name : Name) → (k : Option Attrs → Program) → Program
  -- whether an object stands behind another along its prototypes (15.2.4.6)
  Behind : (o : ℕ) → (target : ℕ) → (k : Bool → Program) → Program
  -- [[Put]] of an object that the native made, which is neither refused nor shared
  Write : (o : ℕ) → (name : Name) → (v : Value) → (p : Program) → Program
  -- [[Delete]] (8.6.2.5), whose result is not looked at
  Delete : (o : ℕ) → (name : Name) → (p : Program) → Program
