-- Values, scopes and states of the written run that stand for those of the original, and what can be seen of them.
use Rattle.std.proofs.Common.{◌≡◌, ℕ, List, [], ◌∷◌, Option, Some, None, Bool, true, false, cond, refl, ap, ◌∙◌, subst}
use Rattle.std.specs.Str.{bytes_eq}
use Rattle.js_tree.specs.Tree.{Name, Func}
use Rattle.first_grammar.specs.First.{host_name, out_name, arguments_name, apply_name}
use Rattle.play.specs.Value.{Value, Undefined, Text, Global, Host, HostCall, Apply, Closure, Arguments, Error, Values, NoValues, MoreValues, values, items, Chain, GlobalScope, FunctionScope, Outcome, Normal, Returned, Thrown, Env, shown, passed_with, all_shown, all_passed}
use Rattle.play.specs.Program.{property, this_of, array_of}
use Rattle.play.specs.Run.{State, or_else, is_named, named_value, function_named, find}
use Rattle.play.proofs.sim.Trees.{OfFunc, plain, stub}

mutual
  pub data OfValue (entries : ℕ → Option Func) : Value → Value → Type 0 where
    undefined : OfValue entries Undefined Undefined
    text : {units : Name} → OfValue entries (Text units) (Text units)
    global : OfValue entries Global Global
    host : OfValue entries Host Host
    host_call : {name : Name} → OfValue entries (HostCall name) (HostCall name)
    apply : OfValue entries Apply Apply
    closure : {f f' : Func} {ch ch' : Chain} → OfFunc entries f f' → OfChain entries ch ch' → OfValue entries (Closure f ch) (Closure f' ch')
    arguments : {vs vs' : Values} → OfItems entries vs vs' → OfValue entries (Arguments vs) (Arguments vs')
    error : {o : ℕ} → OfValue entries (Error o) (Error o)

  pub data OfItems (entries : ℕ → Option Func) : Values → Values → Type 0 where
    no_items : OfItems entries NoValues NoValues
    more_items : {v v' : Value} {vs vs' : Values} → OfValue entries v v' → OfItems entries vs vs' → OfItems entries (MoreValues v vs) (MoreValues v' vs')

  -- the written chain may have a stub's scope below the scope of its late function, which binds the same names
  pub data OfChain (entries : ℕ → Option Func) : Chain → Chain → Type 0 where
    global_scope : OfChain entries GlobalScope GlobalScope
    function_scope : {vs vs' : Values} {ch ch' : Chain} → OfItems entries vs vs' → OfChain entries ch ch' → OfChain entries (FunctionScope vs ch) (FunctionScope vs' ch')
    stub_scope : {vs vs' us : Values} {ch ch' : Chain} → OfItems entries vs vs' → OfChain entries ch ch' → OfChain entries (FunctionScope vs ch) (FunctionScope vs' (FunctionScope us ch'))

pub data OfValues (entries : ℕ → Option Func) : List Value → List Value → Type 0 where
  no_values : OfValues entries [] []
  more_values : {v v' : Value} {vs vs' : List Value} → OfValue entries v v' → OfValues entries vs vs' → OfValues entries (v ∷ vs) (v' ∷ vs')

pub data OfOption (entries : ℕ → Option Func) : Option Value → Option Value → Type 0 where
  none : OfOption entries None None
  some : {v v' : Value} → OfValue entries v v' → OfOption entries (Some v) (Some v')

pub data OfOutcome (entries : ℕ → Option Func) : Outcome → Outcome → Type 0 where
  normal : {v v' : Value} → OfValue entries v v' → OfOutcome entries (Normal v) (Normal v')
  returned : {v v' : Value} → OfValue entries v v' → OfOutcome entries (Returned v) (Returned v')
  thrown : {v v' : Value} → OfValue entries v v' → OfOutcome entries (Thrown v) (Thrown v')

-- the `this` of an entry. It is never undefined, so that `apply` hands it on as it is
pub record OfThis (entries : ℕ → Option Func) (v v' : Value) : Type 0 where
  pub of : OfValue entries v v'
  pub stays : this_of v' ≡ v'

-- what a read of a property gives; where it gives anything, the object can be a `this`
pub data OfRead (entries : ℕ → Option Func) (object : Value) : Option Value → Option Value → Type 0 where
  no_object : OfRead entries object None None
  read : {v v' : Value} → this_of object ≡ object → OfValue entries v v' → OfRead entries object (Some v) (Some v')

pub data OfArray (entries : ℕ → Option Func) : Option (List Value) → Option (List Value) → Type 0 where
  no_array : OfArray entries None None
  an_array : {vs vs' : List Value} → OfValues entries vs vs' → OfArray entries (Some vs) (Some vs')

pub record OfEnv (entries : ℕ → Option Func) (env env' : Env) : Type 0 where
  pub chain : OfChain entries env.chain env'.chain
  pub this : OfValue entries env.this env'.this

pub data OfFuncs (entries : ℕ → Option Func) : List Func → List Func → Type 0 where
  no_funcs : OfFuncs entries [] []
  more_funcs : {f f' : Func} {fs fs' : List Func} → OfFunc entries f f' → OfFuncs entries fs fs' → OfFuncs entries (f ∷ fs) (f' ∷ fs')

-- no clause speaks of steps
pub record OfState (entries : ℕ → Option Func) (s s' : State) : Type 0 where
  pub functions : OfFuncs entries s.functions s'.functions
  pub errors : s.errors ≡ s'.errors
  pub passed : s.passed ≡ s'.passed
  pub beats : s.beats ≡ s'.beats

pub items_values : (vs : List Value) → items (values vs) ≡ vs
items_values [] = refl
items_values (v ∷ vs) = ap (λ l. v ∷ l) (items_values vs)

module _ (entries : ℕ → Option Func) where
  pub error_of : {a b : ℕ} → a ≡ b → OfValue entries (Error a) (Error b)
  error_of {a = a} e = subst (λ z. OfValue entries (Error a) (Error z)) e error

  pub values_of : {vs vs' : List Value} → OfValues entries vs vs' → OfItems entries (values vs) (values vs')
  values_of no_values = no_items
  values_of (more_values h hs) = more_items h (values_of hs)

  items_of : {vs vs' : Values} → OfItems entries vs vs' → OfValues entries (items vs) (items vs')
  items_of no_items = no_values
  items_of (more_items h hs) = more_values h (items_of hs)

  -- ---- names

  cond_of : (b : Bool) {o o' p p' : Option Value} → OfOption entries o o' → OfOption entries p p' → OfOption entries (cond b o p) (cond b o' p')
  cond_of true h i = h
  cond_of false h i = i

  or_else_of : {o o' p p' : Option Value} → OfOption entries o o' → OfOption entries p p' → OfOption entries (or_else o p) (or_else o' p')
  or_else_of none i = i
  or_else_of (some h) i = some h

  is_named_of : (x : Name) (name : Option Name) {o o' : Option Value} → OfOption entries o o' → OfOption entries (is_named x name o) (is_named x name o')
  is_named_of x None h = none
  is_named_of x (Some name) h = cond_of (bytes_eq name x) h none

  named_of : (x : Name) {f f' : Func} → OfFunc entries f f' → OfOption entries (named_value f x) (named_value f' x)
  named_of x (plain {name = name} b) = is_named_of x name (some (closure (plain b) global_scope))
  named_of x (stub {name = name} e b) = is_named_of x name (some (closure (stub e b) global_scope))

  function_named_of : (x : Name) {fs fs' : List Func} → OfFuncs entries fs fs' → OfOption entries (function_named fs x) (function_named fs' x)
  function_named_of x no_funcs = none
  function_named_of x (more_funcs f fs) = or_else_of (function_named_of x fs) (named_of x f)

  -- a stub's scope is not reached, since the scope above it binds its names
  stub_cond_of : (b : Bool) {o o' p p' : Option Value} (q : Option Value) → OfOption entries o o' → OfOption entries p p' → OfOption entries (cond b o p) (cond b o' (cond b q p'))
  stub_cond_of true q h i = h
  stub_cond_of false q h i = i

  pub find_of : (x : Name) {fs fs' : List Func} → OfFuncs entries fs fs' → {ch ch' : Chain} → OfChain entries ch ch' → OfOption entries (find fs ch x) (find fs' ch' x)
  find_of x fs global_scope = cond_of (bytes_eq x host_name) (some host) (function_named_of x fs)
  find_of x fs (function_scope vs ch) = cond_of (bytes_eq x arguments_name) (some (arguments vs)) (find_of x fs ch)
  find_of x fs (stub_scope {us = us} vs ch) = stub_cond_of (bytes_eq x arguments_name) (Some (Arguments us)) (some (arguments vs)) (find_of x fs ch)

  -- ---- properties and natives

  cond_value : (b : Bool) {v v' u u' : Value} → OfValue entries v v' → OfValue entries u u' → OfValue entries (cond b v u) (cond b v' u')
  cond_value true h i = h
  cond_value false h i = i

  pub property_of : (x : Name) {v v' : Value} → OfValue entries v v' → OfRead entries v' (property v x) (property v' x)
  property_of x undefined = no_object
  property_of x text = read refl undefined
  property_of x global = read refl undefined
  property_of x host = read refl (cond_value (bytes_eq x out_name) host_call undefined)
  property_of x host_call = read refl undefined
  property_of x apply = read refl undefined
  property_of x (closure f ch) = read refl (cond_value (bytes_eq x apply_name) apply undefined)
  property_of x (arguments vs) = read refl undefined
  property_of x error = read refl undefined

  pub this_of_of : {v v' : Value} → OfValue entries v v' → OfThis entries (this_of v) (this_of v')
  this_of_of undefined = record { of = global; stays = refl }
  this_of_of text = record { of = text; stays = refl }
  this_of_of global = record { of = global; stays = refl }
  this_of_of host = record { of = host; stays = refl }
  this_of_of host_call = record { of = host_call; stays = refl }
  this_of_of apply = record { of = apply; stays = refl }
  this_of_of (closure f ch) = record { of = closure f ch; stays = refl }
  this_of_of (arguments vs) = record { of = arguments vs; stays = refl }
  this_of_of error = record { of = error; stays = refl }

  pub array_of_of : {v v' : Value} → OfValue entries v v' → OfArray entries (array_of v) (array_of v')
  array_of_of undefined = an_array no_values
  array_of_of text = no_array
  array_of_of global = no_array
  array_of_of host = no_array
  array_of_of host_call = no_array
  array_of_of apply = no_array
  array_of_of (closure f ch) = no_array
  array_of_of (arguments vs) = an_array (items_of vs)
  array_of_of error = no_array

  -- ---- what the host is shown

  shown_same : {v v' : Value} → OfValue entries v v' → (passed : List ℕ) → shown passed v ≡ shown passed v'
  shown_same undefined passed = refl
  shown_same text passed = refl
  shown_same global passed = refl
  shown_same host passed = refl
  shown_same host_call passed = refl
  shown_same apply passed = refl
  shown_same (closure f ch) passed = refl
  shown_same (arguments vs) passed = refl
  shown_same error passed = refl

  passed_same : {v v' : Value} → OfValue entries v v' → (passed : List ℕ) → passed_with passed v ≡ passed_with passed v'
  passed_same undefined passed = refl
  passed_same text passed = refl
  passed_same global passed = refl
  passed_same host passed = refl
  passed_same host_call passed = refl
  passed_same apply passed = refl
  passed_same (closure f ch) passed = refl
  passed_same (arguments vs) passed = refl
  passed_same error passed = refl

  pub shown_of : {v v' : Value} → OfValue entries v v' → {p p' : List ℕ} → p ≡ p' → shown p v ≡ shown p' v'
  shown_of {v' = v'} h {p = p} e = shown_same h p ∙ ap (λ l. shown l v') e

  pub passed_of : {v v' : Value} → OfValue entries v v' → {p p' : List ℕ} → p ≡ p' → passed_with p v ≡ passed_with p' v'
  passed_of {v' = v'} h {p = p} e = passed_same h p ∙ ap (λ l. passed_with l v') e

  pub all_shown_of : {vs vs' : List Value} → OfValues entries vs vs' → {p p' : List ℕ} → p ≡ p' → all_shown p vs ≡ all_shown p' vs'
  all_shown_of no_values e = refl
  all_shown_of (more_values {v = v} {v' = v'} {vs = vs} h hs) {p = p} {p' = p'} e =
      ap (λ z. z ∷ all_shown (passed_with p v) vs) (shown_of h e) ∙ ap (λ l. shown p' v' ∷ l) (all_shown_of hs (passed_of h e))

  pub all_passed_of : {vs vs' : List Value} → OfValues entries vs vs' → {p p' : List ℕ} → p ≡ p' → all_passed p vs ≡ all_passed p' vs'
  all_passed_of no_values e = e
  all_passed_of (more_values h hs) e = all_passed_of hs (passed_of h e)
