-- The host calls, by their objects.
use Rattle.std.proofs.Common.{subst, ◌≡◌, ℕ, zero, suc, Bool, true, false, List, [], ◌∷◌, ◌++◌, ◌+◌, ◌<◌, ◌≤◌, length, arith, get_or, take, Option, Some, None, refl, sym, ap, ◌∙◌}
use Rattle.std.specs.Prelude.{◌==◌, nat_eq, is_some, map, reverse, if◌then◌else◌, slice_get, slice_set, option_map}
use Rattle.std.proofs.lemmas.List.{reverse-append, take_all}
use Rattle.std.proofs.lemmas.Grind.{take_at_read}
use Rattle.std.specs.Prelude.{codes}
use Rattle.std.specs.Str.{chars}
use Rattle.dl_text.specs.Utf16.{utf16}
use Rattle.js_values.specs.declared.value.ObjectId.{ObjectId}
use Rattle.js_values.specs.declared.value.Value.{Value}
use Rattle.js_values.specs.declared.value.Value.TheVariants as value
use Rattle.object_heap.specs.declared.built_in.BuiltIn.TheVariants as built
use Rattle.object_heap.specs.declared.object.Class.{Class}
use Rattle.object_heap.specs.declared.object.Class.TheVariants as class
use Rattle.object_heap.specs.Arrays.{whole}
use Rattle.object_heap.specs.BuiltIns.{number_of}
use Rattle.object_heap.specs.Answers.{IsPlainName, IsUnshared}
use Rattle.object_heap.specs.Changes.{all_three, defined, defined_at, hidden_only, holding, made, new_object, put_property}
use Rattle.object_heap.specs.Names.{Name, is_same_name, length_name}
use Rattle.object_heap.specs.Objects.{Heap, Object, Property, changed, class_of, own_in, own_of, properties_in, properties_of}
use Rattle.js_machine.specs.declared.hosts.HostCall.{HostCall}
use Rattle.js_machine.specs.Globals.{host_body}
use Rattle.js_machine.specs.HostCalls.{AllHold, HostHolds, heap_with_host, host_name}
use Rattle.js_machine.specs.Page.{host_function, with_host_call, with_host_calls}
use Rattle.js_machine.specs.State.{Body, Callee, body_callee, body_in}
use Rattle.js_machine.specs.State as state
use Rattle.js_machine.proofs.VariableLaws.{plain_name}

-- ---- what runs when an object is called

by_name : (b : Bool) (name : Name) (o : ℕ) (callee : Option Callee) (found : Option Name) → callee ≡ option_map state.HostCall found
    → (if b then Some (state.HostCall name) else callee) ≡ option_map state.HostCall (if b then Some name else found)
by_name true name o callee found e = refl
by_name false name o callee found e = e

pub callee_is : (calls : List HostCall) (o : ℕ) → body_in (map host_body calls) o ≡ option_map state.HostCall (host_name calls o)
callee_is [] o = refl
callee_is (call ∷ calls) o = by_name (nat_eq call.object o) call.name o (body_in (map host_body calls) o) (host_name calls o) (callee_is calls o)

-- ---- the newest call of an object

first_is : (call : HostCall) (calls : List HostCall) (o : ℕ) → (call.object == o) ≡ true → host_name (call ∷ calls) o ≡ Some call.name
first_is call calls o e = ap (λ b. if b then Some call.name else host_name calls o) e

first_is_not : (call : HostCall) (calls : List HostCall) (o : ℕ) → (call.object == o) ≡ false → host_name (call ∷ calls) o ≡ host_name calls o
first_is_not call calls o e = ap (λ b. if b then Some call.name else host_name calls o) e

-- the calls up to one, the newest first
newest_of : (calls : List HostCall) (i : ℕ) (call : HostCall) → i < length calls → call ≡ get_or calls i call → reverse (take (i + 1) calls) ≡ call ∷ reverse (take i calls)
newest_of calls i call h e =
    ap reverse ((take_at_read calls i call h).1 ∙ ap (λ x. take i calls ++ x ∷ []) (sym e))
    ∙ reverse-append (take i calls) (call ∷ [])

abbrev pub AllLeft : List HostCall → ℕ → ℕ → Type 0
AllLeft calls left o = host_name (reverse calls) o ≡ host_name (reverse (take left calls)) o

pub all_left : (calls : List HostCall) (o : ℕ) → AllLeft calls (length calls) o
all_left calls o = let h : length calls ≤ length calls = omega arith in ap (λ cs. host_name (reverse cs) o) (sym (take_all (length calls) calls h))

one_left : (calls : List HostCall) (left i : ℕ) (call : HostCall) (o : ℕ) → i + 1 ≡ left → i < length calls → call ≡ get_or calls i call → AllLeft calls left o → host_name (reverse calls) o ≡ host_name (call ∷ reverse (take i calls)) o
one_left calls left i call o e h f is = is ∙ (ap (λ k. host_name (reverse (take k calls)) o) (sym e) ∙ ap (λ cs. host_name cs o) (newest_of calls i call h f))

pub name_met : (calls : List HostCall) (left i : ℕ) (call : HostCall) (o : ℕ) → i + 1 ≡ left → i < length calls → call ≡ get_or calls i call → AllLeft calls left o → (call.object == o) ≡ true → host_name (reverse calls) o ≡ Some call.name
name_met calls left i call o e h f is g = one_left calls left i call o e h f is ∙ first_is call (reverse (take i calls)) o g

pub name_passed : (calls : List HostCall) (left i : ℕ) (call : HostCall) (o : ℕ) → i + 1 ≡ left → i < length calls → call ≡ get_or calls i call → AllLeft calls left o → (call.object == o) ≡ false → AllLeft calls i o
name_passed calls left i call o e h f is g = one_left calls left i call o e h f is ∙ first_is_not call (reverse (take i calls)) o g

pub name_not_met : (calls : List HostCall) (left o : ℕ) → left ≡ 0 → AllLeft calls left o → host_name (reverse calls) o ≡ None
name_not_met calls left o e is = is ∙ ap (λ k. host_name (reverse (take k calls)) o) e

pub ruleset name_laws = (all_left, name_met, name_passed, name_not_met)

-- ---- whether there is one

pub has_some : (calls : List HostCall) (o : ℕ) (name : Name) → host_name calls o ≡ Some name → true ≡ is_some (body_in (map host_body calls) o)
has_some calls o name e = sym (ap is_some (callee_is calls o ∙ ap (option_map state.HostCall) e))

pub has_none : (calls : List HostCall) (o : ℕ) → host_name calls o ≡ None → false ≡ is_some (body_in (map host_body calls) o)
has_none calls o e = sym (ap is_some (callee_is calls o ∙ ap (option_map state.HostCall) e))

pub ruleset has_laws = (has_some, has_none)

-- ---- the objects of host calls

last_is : (heap : Heap) (x : Object) → slice_get (heap ++ x ∷ []) (length heap) ≡ Some x
last_is [] x = refl
last_is (y ∷ heap) x = last_is heap x

last_set : (heap : Heap) (x y : Object) → slice_set (heap ++ x ∷ []) (length heap) y ≡ heap ++ y ∷ []
last_set [] x y = refl
last_set (z ∷ heap) x y = ap (λ xs. z ∷ xs) (last_set heap x y)

abbrev bare_function : Object
bare_function = new_object class.Function (Some (number_of built.FunctionPrototype))

pub length_units : utf16 (chars (codes "length")) ≡ length_name
unfolding chars
length_units = refl

pub function_made : (heap after : Heap) (o p : ℕ) (name : Name) → o ≡ length heap → p ≡ number_of built.FunctionPrototype → after ≡ made class.Function (Some p) heap → name ≡ length_name
    → defined o name (whole 0) all_three after ≡ heap ++ host_function ∷ []
function_made heap after o p name e f g h =
    ap (λ o. defined o name (whole 0) all_three after) e
    ∙ (ap (λ name. defined (length heap) name (whole 0) all_three after) h
    ∙ (ap (defined (length heap) length_name (whole 0) all_three) (g ∙ ap (λ p. made class.Function (Some p) heap) f)
    ∙ (ap (λ found. defined_at (heap ++ bare_function ∷ []) (length heap) found (holding length_name (whole 0) all_three)) (last_is heap bare_function)
    ∙ last_set heap bare_function host_function)))

fresh_class : (heap after : Heap) (o p : ℕ) → o ≡ length heap → after ≡ made class.Function (Some p) heap → class_of after o ≡ Some class.Function
fresh_class heap after o p e f =
    ap (λ o. class_of after o) e
    ∙ (ap (λ after. class_of after (length heap)) f
    ∙ ap (option_map (λ object. object.class)) (last_is heap (new_object class.Function (Some p))))

function_plain : (c : Option Class) (name : Name) → c ≡ Some class.Function → IsPlainName c name
function_plain None name e = tt
function_plain (Some class.Array) name e = cc
function_plain (Some class.Plain) name e = tt
function_plain (Some class.Function) name e = tt
function_plain (Some class.Arguments) name e = tt
function_plain (Some class.Error) name e = tt
function_plain (Some class.Math) name e = tt

-- a new function has no properties
pub fresh_plain : (heap after : Heap) (o p : ℕ) (name : Name) → o ≡ length heap → after ≡ made class.Function (Some p) heap → IsPlainName (class_of after o) name
fresh_plain heap after o p name e f = function_plain (class_of after o) name (fresh_class heap after o p e f)

fresh_own : (heap after : Heap) (o p : ℕ) (name : Name) → o ≡ length heap → after ≡ made class.Function (Some p) heap → own_of after o name ≡ None
fresh_own heap after o p name e f =
    ap (λ o. own_of after o name) e
    ∙ (ap (λ after. own_of after (length heap) name) f
    ∙ ap (λ found. own_in (properties_in found) name) (last_is heap (new_object class.Function (Some p))))

pub fresh_unshared : (heap after : Heap) (o p : ℕ) (name : Name) → o ≡ length heap → after ≡ made class.Function (Some p) heap → IsUnshared (own_of after o name)
fresh_unshared heap after o p name e f = let P : Option Property → Type 0 = IsUnshared in subst P (sym (fresh_own heap after o p name e f)) tt

pub ruleset function_laws = (function_made, length_units, fresh_plain, fresh_unshared)

-- `host` has it as a property
pub host_added : (heap h1 : Heap) (o : ObjectId) (host : ℕ) (name : Name) → o.0 ≡ length heap → host ≡ number_of built.Host → h1 ≡ heap ++ host_function ∷ []
    → defined host name (value.Object o) hidden_only h1 ≡ heap_with_host name heap
host_added heap h1 o host name e f g =
    ap (λ host. defined host name (value.Object o) hidden_only h1) f
    ∙ (ap (λ k. defined (number_of built.Host) name (state.object_value k) hidden_only h1) e
    ∙ ap (defined (number_of built.Host) name (state.object_value (length heap)) hidden_only) g)

found_holds : (ps : List Property) (name : Name) → AllHold ps → IsUnshared (own_in ps name)
found_holds [] name h = tt
found_holds (p ∷ ps) name h = by (is_same_name p.name name) (found_holds ps name h.1)
  where
    by : (b : Bool) → IsUnshared (own_in ps name) → IsUnshared (if b then Some p else own_in ps name)
    by true more = h.0
    by false more = more

all_put : (ps : List Property) (name : Name) (v : Value) → AllHold ps → AllHold (put_property ps (holding name v hidden_only))
all_put [] name v h = (refl, tt)
all_put (p ∷ ps) name v h = by (is_same_name p.name name) (all_put ps name v h.1)
  where
    by : (b : Bool) → AllHold (put_property ps (holding name v hidden_only)) → AllHold (if b then holding name v hidden_only ∷ ps else p ∷ put_property ps (holding name v hidden_only))
    by true more = (refl, h.1)
    by false more = (h.0, more)

-- an object before the last
before_last : (heap : Heap) (x : Object) (o : ℕ) → o < length heap → slice_get (heap ++ x ∷ []) o ≡ slice_get heap o
before_last [] x o h = absurd (omega (arith, h))
before_last (y ∷ heap) x zero h = refl
before_last (y ∷ heap) x (suc o) h = before_last heap x o (omega (arith, h))

-- it stays so where a function is made
pub still_holds : (heap h1 : Heap) → number_of built.Host < length heap → h1 ≡ heap ++ host_function ∷ [] → HostHolds heap → HostHolds h1
still_holds heap h1 there e h =
    let P : List Property → Type 0 = AllHold in
    subst P (sym (ap (λ h1. properties_of h1 (number_of built.Host)) e ∙ ap properties_in (before_last heap host_function (number_of built.Host) there))) h

pub host_unshared : (heap h1 : Heap) (host : ℕ) (name : Name) → host ≡ number_of built.Host → number_of built.Host < length heap → h1 ≡ heap ++ host_function ∷ [] → HostHolds heap → IsUnshared (own_of h1 host name)
host_unshared heap h1 host name f there e h =
    let P : ℕ → Type 0 = λ o. IsUnshared (own_of h1 o name) in
    subst P (sym f) (found_holds (properties_of h1 (number_of built.Host)) name (still_holds heap h1 there e h))

defined_holds : (heap : Heap) (found : Option Object) (o : ℕ) (name : Name) (v : Value) → slice_get heap o ≡ found → AllHold (properties_in found) → AllHold (properties_of (defined_at heap o found (holding name v hidden_only)) o)
defined_holds heap None o name v e h =
    let P : Option Object → Type 0 = λ found. AllHold (properties_in found) in
    subst P (sym e) h
defined_holds heap (Some object) o name v e h = set_holds heap o object (put_property object.properties (holding name v hidden_only)) e (all_put object.properties name v h)
  where
    set_holds : (heap : Heap) (o : ℕ) (object : Object) (ps : List Property) → slice_get heap o ≡ Some object → AllHold ps → AllHold (properties_of (changed heap o object ps) o)
    set_holds [] o object ps e h = cc
    set_holds (x ∷ heap) zero object ps e h = h
    set_holds (x ∷ heap) (suc o) object ps e h = set_holds heap o object ps e h

pub host_plain : (heap h1 : Heap) (host : ℕ) (name : Name) → host ≡ number_of built.Host → number_of built.Host < length heap → h1 ≡ heap ++ host_function ∷ [] → class_of heap (number_of built.Host) ≡ Some class.Plain → IsPlainName (class_of h1 host) name
host_plain heap h1 host name f there e h =
    plain_name h1 host name
    (ap (λ host. class_of h1 host) f
    ∙ (ap (λ h1. class_of h1 (number_of built.Host)) e
    ∙ (ap (option_map (λ object. object.class)) (before_last heap host_function (number_of built.Host) there) ∙ h)))

-- and where it becomes a property
pub holds_one_more : (heap h1 after : Heap) (host : ℕ) (name : Name) (v : Value) → host ≡ number_of built.Host → number_of built.Host < length heap → h1 ≡ heap ++ host_function ∷ [] → after ≡ defined host name v hidden_only h1 → HostHolds heap → HostHolds after
holds_one_more heap h1 after host name v f there e is h =
    let P : Heap → Type 0 = HostHolds in
    subst P (sym (is ∙ ap (λ host. defined host name v hidden_only h1) f))
    (defined_holds h1 (slice_get h1 (number_of built.Host)) (number_of built.Host) name v refl (still_holds heap h1 there e h))

pub ruleset host_laws = (host_unshared, host_plain, host_added, holds_one_more)

-- ---- all of them

pub one_host : (names : List Name) (name : Name) (s : state.State) → with_host_calls (names ++ name ∷ []) s ≡ with_host_call name (with_host_calls names s)
one_host [] name s = refl
one_host (n ∷ names) name s = one_host names name (with_host_call n s)
