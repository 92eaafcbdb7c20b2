-- Values, outcomes and environments (ES3 sections 8 and 10), as far as a text of the first grammar reaches them.
--
-- Functions, `arguments` and scopes are plain data here, since nothing in this grammar writes to one, compares two, or
-- shows one. What can be shown has a number: an error that was thrown.
use Rattle.std.specs.Prelude.{ℕ, suc, List, [], ◌∷◌, cond, nat_eq}
use Rattle.js_tree.specs.Tree.{Name, Func}

mutual
  pub data Value : Type 0 where
    Undefined : Value
    Text : (units : Name) → Value
    -- the global object, which is `this` of a call without an object (10.2.3)
    Global : Value
    Host : Value
    -- a host call: the property of the host object of that name
    HostCall : (name : Name) → Value
    -- `Function.prototype.apply` (15.3.4.3)
    Apply : Value
    Closure : (code : Func) → (chain : Chain) → Value
    Arguments : (items : Values) → Value
    -- an error object, by its number in order of being made
    Error : (object : ℕ) → Value

  pub data Values : Type 0 where
    NoValues : Values
    MoreValues : (v : Value) → (rest : Values) → Values

  -- a chain of scopes, innermost first (10.1.4): a function's scope binds `arguments` (10.1.8), and the last is the global object
  pub data Chain : Type 0 where
    GlobalScope : Chain
    FunctionScope : (arguments : Values) → (outer : Chain) → Chain

abbrev pub values : List Value → Values
values [] = NoValues
values (v ∷ vs) = MoreValues v (values vs)

abbrev pub items : Values → List Value
items NoValues = []
items (MoreValues v vs) = v ∷ items vs

-- a completion (8.9), or the value of an expression
pub data Outcome : Type 0 where
  Normal : (v : Value) → Outcome
  Returned : (v : Value) → Outcome
  Thrown : (v : Value) → Outcome

-- where a node stands: its chain of scopes and its `this` (10.2)
pub record Env : Type 0 where
  pub chain : Chain
  pub this : Value

-- the environment of a script's code (10.2.1)
abbrev pub global_env : Env
global_env = record { chain = GlobalScope; this = Global }

-- a value as it is shown to the host: an object by its rank, from 1, by first passing
pub data Shown : Type 0 where
  ShownUndefined : Shown
  ShownText : (units : Name) → Shown
  ShownObject : (rank : ℕ) → Shown

-- the place, from 0, of an object among those that passed, or their count
abbrev pub place : List ℕ → ℕ → ℕ
place [] o = 0
place (p ∷ ps) o = cond (nat_eq p o) 0 (suc (place ps o))

-- the objects that passed, with o at the end unless it had passed
abbrev pub pass : List ℕ → ℕ → List ℕ
pass [] o = o ∷ []
pass (p ∷ ps) o = cond (nat_eq p o) (p ∷ ps) (p ∷ pass ps o)

-- of the objects, no text of this grammar passes another than an error
abbrev pub shown : List ℕ → Value → Shown
shown passed (Text units) = ShownText units
shown passed (Error o) = ShownObject (suc (place passed o))
shown passed Undefined = ShownUndefined
shown passed Global = ShownUndefined
shown passed Host = ShownUndefined
shown passed (HostCall name) = ShownUndefined
shown passed Apply = ShownUndefined
shown passed (Closure code chain) = ShownUndefined
shown passed (Arguments vs) = ShownUndefined

abbrev pub passed_with : List ℕ → Value → List ℕ
passed_with passed (Error o) = pass passed o
passed_with passed (Text units) = passed
passed_with passed Undefined = passed
passed_with passed Global = passed
passed_with passed Host = passed
passed_with passed (HostCall name) = passed
passed_with passed Apply = passed
passed_with passed (Closure code chain) = passed
passed_with passed (Arguments vs) = passed

abbrev pub all_shown : List ℕ → List Value → List Shown
all_shown passed [] = []
all_shown passed (v ∷ vs) = shown passed v ∷ all_shown (passed_with passed v) vs

abbrev pub all_passed : List ℕ → List Value → List ℕ
all_passed passed [] = passed
all_passed passed (v ∷ vs) = all_passed (passed_with passed v) vs
