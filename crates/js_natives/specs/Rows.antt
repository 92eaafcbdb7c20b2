-- Runs of natives for the rows: on a small heap, with a list of what was asked.
use Rattle.std.specs.Prelude.{ℕ, suc, false, List, [], ◌∷◌, ◌++◌, length, replicate}
use Rattle.std.specs.Prelude.{pos, neg_ℤ, codes, Option, Some, None, option_map, unwrap_or}
use Rattle.std.specs.Prelude.{Result, Ok, Err, map, sum}
use Rattle.js_values.specs.declared.number.Num.{Num}
use Rattle.js_values.specs.declared.number.Num.TheVariants as number
use Rattle.js_values.specs.declared.reason.Reason.{Reason}
use Rattle.js_values.specs.declared.value.Value.{Value}
use Rattle.js_values.specs.declared.value.Value.TheVariants as value
use Rattle.js_values.specs.Numerals.{number_text}
use Rattle.js_values.specs.Values.{number_of, text_of_bool}
use Rattle.object_heap.specs.declared.built_in.BuiltIn.{BuiltIn}
use Rattle.object_heap.specs.declared.built_in.BuiltIn.TheVariants as built
use Rattle.object_heap.specs.declared.object.Class.{Class}
use Rattle.object_heap.specs.declared.object.Class.TheVariants as class
use Rattle.object_heap.specs.Arrays.{whole, no_attributes, length_in}
use Rattle.object_heap.specs.BuiltIns as built_ins
use Rattle.object_heap.specs.Changes.{holding, hidden_and_fixed, hidden_only, made}
use Rattle.object_heap.specs.Changes.{deleted}
use Rattle.object_heap.specs.Get as heap_get
use Rattle.object_heap.specs.Names.{Name, length_name, decimal}
use Rattle.object_heap.specs.Objects.{Slot, Holds, Shares, Property, Object, Heap, own_of}
use Rattle.object_heap.specs.Objects.{attributes_of, is_behind, properties_of}
use Rattle.object_heap.specs.Objects as objects
use Rattle.object_heap.specs.Put as heap_put
use Rattle.js_natives.specs.declared.answer.Answer.{Answer}
use Rattle.js_natives.specs.declared.answer.Answer.TheVariants as answer
use Rattle.js_natives.specs.declared.answer.ErrorKind.TheVariants.{RangeError}
use Rattle.js_natives.specs.declared.native.Native.{Native}
use Rattle.js_natives.specs.Program.{Program, Done, Step, Text, Number, Get, Put, Listen, Make}
use Rattle.js_natives.specs.Program.{ClassOf, Own, Behind, Write, Delete}
use Rattle.js_natives.specs.declared.native.Native.TheVariants as native
use Rattle.js_natives.specs.Indices.{indices}
use Rattle.js_natives.specs.Natives.{program_of, calls_of}

-- ---- runs

-- what a native asked of the machine
pub data Asked : Type 0 where
  AStep : Asked
  AText : (v : Value) → Asked
  ANumber : (v : Value) → Asked
  AGet : (o : ℕ) → (name : Name) → Asked
  APut : (o : ℕ) → (name : Name) → (v : Value) → Asked
  AListener : (event : Name) → (f : ℕ) → Asked

pub record Ran : Type 0 where
  pub asked : List Asked
  pub answer : Answer
  pub heap : Heap

abbrev pub ended : Answer → Heap → Ran
ended answer heap = record { asked = []; answer = answer; heap = heap }

abbrev pub behind : Asked → Ran → Ran
behind asked ran = record ran { asked = asked ∷ ran.asked }

-- an object is given the text `o` and its number, and that number; no function is called here
abbrev pub given_text : Value → Name
given_text value.Undefined = codes "undefined"
given_text value.Null = codes "null"
given_text (value.Bool b) = text_of_bool b
given_text (value.Num n) = number_text 10 n
given_text (value.Str s) = s
given_text (value.Object o) = codes "o" ++ decimal o.0

abbrev pub given_number : Value → Result Num Reason
given_number (value.Object o) = Ok (number.Whole (pos o.0))
given_number v = unwrap_or (number_of v) (Ok number.NaN)

-- a shared index has the value of its place
abbrev pub given_value : Option Slot → Value
given_value None = value.Undefined
given_value (Some (Holds v)) = v
given_value (Some (Shares scope place)) = whole place

abbrev pub with_number : (Num → Ran) → Heap → Result Num Reason → Ran
with_number k heap (Ok n) = k n
with_number k heap (Err reason) = ended (answer.Stop reason) heap

abbrev pub with_put : (Heap → Ran) → Heap → heap_put.Put → Ran
with_put k heap (heap_put.Done after) = k after
with_put k heap heap_put.Ignored = k heap
with_put k heap (heap_put.Shared scope place) = k heap
with_put k heap heap_put.BadLength = ended (answer.Throw RangeError) heap

abbrev pub run : Program → Heap → Ran
run (Done answer) heap = ended answer heap
run (Step p) heap = behind AStep (run p heap)
run (Text v k) heap = behind (AText v) (run (k (given_text v)) heap)
run (Number v k) heap =
    behind (ANumber v) (with_number (λ n. run (k n) heap) heap (given_number v))
run (Get o name k) heap =
    behind (AGet o name) (run (k (given_value (heap_get.get heap o name))) heap)
run (Put o name v p) heap =
    behind (APut o name v) (with_put (run p) heap (heap_put.put heap o name v))
run (Listen event f p) heap = behind (AListener event f) (run p heap)
run (Make class prototype k) heap = run (k (length heap)) (made class (Some prototype) heap)
run (ClassOf o k) heap = run (k (unwrap_or (objects.class_of heap o) class.Plain)) heap
run (Own o name k) heap = run (k (attributes_of heap o name)) heap
run (Behind o target k) heap = run (k (is_behind heap o target)) heap
run (Write o name v p) heap = run p (heap_put.written heap o name v)
run (Delete o name p) heap = run p (deleted o name heap)

abbrev pub ran : Native → Value → List Value → Heap → Ran
ran n this args heap = run (program_of n this args) heap

abbrev pub answered : Native → Value → List Value → Heap → Answer
answered n this args heap = (ran n this args heap).answer

-- what was asked of the machine, in order
abbrev pub asks : Native → Value → List Value → Heap → List Asked
asks n this args heap = (ran n this args heap).asked

abbrev pub left : Native → Value → List Value → Heap → Heap
left n this args heap = (ran n this args heap).heap

-- how many steps were taken
abbrev pub one_if_step : Asked → ℕ
one_if_step AStep = 1
one_if_step (AText v) = 0
one_if_step (ANumber v) = 0
one_if_step (AGet o name) = 0
one_if_step (APut o name v) = 0
one_if_step (AListener event f) = 0

abbrev pub steps : Native → Value → List Value → Heap → ℕ
steps n this args heap = sum (map one_if_step (asks n this args heap))

-- ---- values and answers

abbrev pub minus : ℕ → Value
minus n = value.Num (number.Whole (neg_ℤ (pos n)))

abbrev pub nan : Value
nan = value.Num number.NaN

abbrev pub o : ℕ → Value
o number = value.Object (record { 0 = number })

abbrev pub gives : Value → Answer
gives v = answer.Value v

abbrev pub gives_text : Name → Answer
gives_text s = answer.Value (value.Str s)

-- a value of each kind that would have to be put into an object
abbrev pub primitives : List Value
primitives = value.Bool false ∷ whole 5 ∷ value.Str (codes "a") ∷ []

-- ---- heaps. The objects below 13 are those that natives name, here without properties: the
-- prototypes, Math, `host` and the global object. Those of a row begin with 13.

abbrev pub plain_object : Object
plain_object = record { class = class.Plain; prototype = None; properties = [] }

abbrev pub few : Heap
few = replicate 13 plain_object

abbrev pub elements_from : ℕ → List (Option Value) → List Property
elements_from k [] = []
elements_from k (None ∷ vs) = elements_from (suc k) vs
elements_from k (Some v ∷ vs) =
    holding (decimal k) v no_attributes ∷ elements_from (suc k) vs

-- an object with these elements, of which some may be missing, and their count as its length
abbrev pub list_object : Class → List (Option Value) → Object
list_object class vs = record {
  class = class;
  prototype = Some (built_ins.number_of built.ArrayPrototype);
  properties = holding length_name (whole (length vs)) hidden_and_fixed ∷ elements_from 0 vs;
}

abbrev pub array_of : List (Option Value) → Object
array_of vs = list_object class.Array vs

-- the array is 13
abbrev pub one_array : List (Option Value) → Heap
one_array vs = few ++ array_of vs ∷ []

-- the object is 13, and has these properties
abbrev pub one_object : Class → List Property → Heap
one_object class properties =
    few ++ record { class = class; prototype = None; properties = properties } ∷ []

abbrev pub array_behind : Object → Object
array_behind object = record object { prototype = Some 13 }

-- the arrays are 13 and 14
abbrev pub two_arrays : List (Option Value) → List (Option Value) → Heap
two_arrays vs us = one_array vs ++ array_of us ∷ []

-- the array is 14, and the object behind it, 13, has 7 at the index 1
abbrev pub array_over : List (Option Value) → Heap
array_over vs =
    one_object class.Plain (holding (codes "1") (whole 7) no_attributes ∷ [])
    ++ array_behind (array_of vs) ∷ []

-- an array without elements whose length is the greatest
abbrev pub full_array : Heap
full_array =
    one_object class.Array (holding length_name (whole 4294967295) hidden_and_fixed ∷ [])

-- 13 has a and a hidden b, and stands behind 14, which has c
abbrev pub two_behind : Heap
two_behind =
    one_object class.Plain (holding (codes "a") (whole 1) no_attributes
    ∷ holding (codes "b") (whole 2) hidden_only ∷ [])
    ++ record {
      class = class.Plain;
      prototype = Some 13;
      properties = holding (codes "c") (whole 3) no_attributes ∷ [];
    } ∷ []

-- ---- what is left

-- the value of an own property
abbrev pub own_value : Heap → ℕ → Name → Option Value
own_value heap o name = option_map (λ p. given_value (Some p.slot)) (own_of heap o name)

-- the elements of an object, as many as its length
abbrev pub elements_of : Heap → ℕ → List (Option Value)
elements_of heap o =
    map (λ k. own_value heap o (decimal k)) (indices 0 (length_in (properties_of heap o)))

-- whole numbers as elements
abbrev pub wholes : List ℕ → List (Option Value)
wholes ns = map (λ n. Some (whole n)) ns

-- a native called on the array of these elements: its answer, the array's elements then, and the
-- steps
abbrev pub on_array : Native → List Value → List (Option Value) → Answer × List (Option Value) × ℕ
on_array n args vs = (
  answered n (o 13) args (one_array vs),
  elements_of (left n (o 13) args (one_array vs)) 13,
  steps n (o 13) args (one_array vs),
)

-- the elements of the array that it made
abbrev pub made_by : Native → List Value → List (Option Value) → List (Option Value)
made_by n args vs = elements_of (left n (o 13) args (one_array vs)) 14

-- the texts of the array that `split` made
abbrev pub split_of : Name → List Value → List (Option Value)
split_of s args = elements_of (left native.Split (value.Str s) args few) 13

abbrev pub texts : List Name → List (Option Value)
texts ss = map (λ s. Some (value.Str s)) ss

-- the answers of a native to each of these as its `this`
abbrev pub answers_to : Native → List Value → List Answer
answers_to n vs = map (λ v. answered n v [] few) vs

-- the answer of a native of a text, and of one of a number
abbrev pub of_text : Native → Name → List Value → Answer
of_text n s args = answered n (value.Str s) args few

abbrev pub of_number : Native → ℕ → List Value → Answer
of_number n size args = answered n (whole size) args few

-- the answers of `parseInt`
abbrev pub parsed : Name → Answer
parsed s = answered native.ParseInt (o 12) (value.Str s ∷ []) few

abbrev pub parsed_in : Name → Value → Answer
parsed_in s radix = answered native.ParseInt (o 12) (value.Str s ∷ radix ∷ []) few

-- which native a function of the start is
abbrev pub called_as : BuiltIn → Option Native
called_as b = (calls_of b).called

abbrev pub constructed_as : BuiltIn → Option Native
constructed_as b = (calls_of b).constructed
