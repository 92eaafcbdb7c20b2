-- What fits does so in every later world, where there may be more objects and scopes.
use Rattle.std.proofs.Common.{◌≡◌, ℕ, suc, ◌≤◌, List, arith}
use Rattle.std.specs.Prelude.{Option}
use Rattle.js_values.specs.declared.value.Value.{Value}
use Rattle.exceptions_core.specs.declared.completion.Completion.{Completion}
use Rattle.object_heap.specs.Objects.{Slot, Property, Object}
use Rattle.scope_arena.specs.Scopes.{Binding, Scope}
use Rattle.js_machine.specs.Asks.{Env, Outcome}
use Rattle.js_machine.specs.State.{Body}
use Rattle.js_machine.specs.Reachable.{Each, IfAny, Counts, IsObject, IsInReach, IsScope, ValueFits, undefined, null, bool, num, str, object, SlotFits, holds, shares, PropertyFits, ObjectFits, BindingFits, ScopeFits, BodyFits, of_script, of_host, FunctionFits, ListenerFits, EnvFits, CompletionFits, normal, a_break, a_continue, a_return, a_throw, OutcomeFits, gives, ends}
use Rattle.js_machine.proofs.fitting.Lists.{each_so, any_so}

pub record Grows (w v : Counts) : Type 0 where
  pub objects : w.objects ≤ v.objects
  pub scopes : w.scopes ≤ v.scopes

pub stays : (w : Counts) → Grows w w
stays w = record { objects = omega arith; scopes = omega arith }

pub grows_on : {u v w : Counts} → Grows u v → Grows v w → Grows u w
grows_on g h = record { objects = omega (arith, g.objects, h.objects); scopes = omega (arith, g.scopes, h.scopes) }

-- one object more, and one scope more
abbrev pub one_object : Counts → Counts
one_object w = record { objects = suc w.objects; scopes = w.scopes; start = omega (arith, w.start) }

abbrev pub one_scope : Counts → Counts
one_scope w = record { objects = w.objects; scopes = suc w.scopes; start = w.start }

pub object_grows : (w : Counts) → Grows w (one_object w)
object_grows w = record { objects = omega arith; scopes = omega arith }

pub scope_grows : (w : Counts) → Grows w (one_scope w)
scope_grows w = record { objects = omega arith; scopes = omega arith }

-- their numbers are the counts before
pub new_object : (w : Counts) (n : ℕ) → w.objects ≡ n → IsInReach (one_object w) n
new_object w n e = record { is = omega (arith, e); other = λ i. absurd (omega (arith, w.start, e, i)) }

pub new_scope : (w : Counts) (n : ℕ) → w.scopes ≡ n → IsScope (one_scope w) n
new_scope w n e = record { is = omega (arith, e) }

-- ---- numbers

-- an object of the start
pub started : {w : Counts} (n : ℕ) → n ≤ 64 → IsObject w n
started {w = w} n le = record { is = omega (arith, le, w.start) }

pub is_there : {w : Counts} {o : ℕ} → IsInReach w o → IsObject w o
is_there h = record { is = h.is }

module _ {w v : Counts} (g : Grows w v) where
  pub later_object : {o : ℕ} → IsObject w o → IsObject v o
  later_object h = record { is = omega (arith, h.is, g.objects) }

  pub later_reach : {o : ℕ} → IsInReach w o → IsInReach v o
  later_reach h = record { is = omega (arith, h.is, g.objects); other = h.other }

  pub later_scope : {scope : ℕ} → IsScope w scope → IsScope v scope
  later_scope h = record { is = omega (arith, h.is, g.scopes) }

  pub later_chain : {chain : List ℕ} → Each (IsScope w) chain → Each (IsScope v) chain
  later_chain h = each_so (λ scope. later_scope) h

  pub later_reaches : {os : List ℕ} → Each (IsInReach w) os → Each (IsInReach v) os
  later_reaches h = each_so (λ o. later_reach) h

  -- ---- values

  pub later_value : {a : Value} → ValueFits w a → ValueFits v a
  later_value undefined = undefined
  later_value null = null
  later_value bool = bool
  later_value num = num
  later_value str = str
  later_value (object h) = object (later_reach h)

  pub later_values : {vs : List Value} → Each (ValueFits w) vs → Each (ValueFits v) vs
  later_values h = each_so (λ a. later_value) h

  later_slot : {slot : Slot} → SlotFits w slot → SlotFits v slot
  later_slot (holds h) = holds (later_value h)
  later_slot (shares h) = shares (later_scope h)

  later_property : {p : Property} → PropertyFits w p → PropertyFits v p
  later_property h = record { slot = later_slot h.slot }

  pub later_properties : {ps : List Property} → Each (PropertyFits w) ps → Each (PropertyFits v) ps
  later_properties h = each_so (λ p. later_property) h

  pub later_prototype : {o : Option ℕ} → IfAny (IsObject w) o → IfAny (IsObject v) o
  later_prototype h = any_so (λ o. later_object) h

  pub later_content : {o : Object} → ObjectFits w o → ObjectFits v o
  later_content h = record { prototype = later_prototype h.prototype; properties = later_properties h.properties }

  pub later_contents : {os : List Object} → Each (ObjectFits w) os → Each (ObjectFits v) os
  later_contents h = each_so (λ o. later_content) h

  later_binding : {b : Binding} → BindingFits w b → BindingFits v b
  later_binding h = record { value = later_value h.value }

  pub later_bindings : {bs : List Binding} → Each (BindingFits w) bs → Each (BindingFits v) bs
  later_bindings h = each_so (λ b. later_binding) h

  pub later_scope_content : {scope : Scope} → ScopeFits w scope → ScopeFits v scope
  later_scope_content h = record { bindings = later_bindings h.bindings; parent = any_so (λ s. later_scope) h.parent }

  pub later_scope_contents : {scopes : List Scope} → Each (ScopeFits w) scopes → Each (ScopeFits v) scopes
  later_scope_contents h = each_so (λ scope. later_scope_content) h

  later_body : {body : Body} → BodyFits w body → BodyFits v body
  later_body (of_script h) = of_script (later_chain h)
  later_body of_host = of_host

  pub later_function : {f : ℕ × Body} → FunctionFits w f → FunctionFits v f
  later_function h = record { object = later_reach h.object; body = later_body h.body }

  pub later_listener : {listener : List ℕ × ℕ} → ListenerFits w listener → ListenerFits v listener
  later_listener h = record { function = later_reach h.function }

  pub later_functions : {fs : List (ℕ × Body)} → Each (FunctionFits w) fs → Each (FunctionFits v) fs
  later_functions h = each_so (λ f. later_function) h

  pub later_listeners : {ls : List (List ℕ × ℕ)} → Each (ListenerFits w) ls → Each (ListenerFits v) ls
  later_listeners h = each_so (λ l. later_listener) h

  -- ---- nodes

  pub later_env : {env : Env} → EnvFits w env → EnvFits v env
  later_env h = record { chain = later_chain h.chain; this = later_value h.this }

  pub later_completion : {c : Completion} → CompletionFits w c → CompletionFits v c
  later_completion normal = normal
  later_completion a_break = a_break
  later_completion a_continue = a_continue
  later_completion (a_return h) = a_return (later_value h)
  later_completion (a_throw h) = a_throw (later_value h)

  pub later_outcome : {o : Outcome} → OutcomeFits w o → OutcomeFits v o
  later_outcome (gives h) = gives (later_value h)
  later_outcome (ends h) = ends (later_completion h)
