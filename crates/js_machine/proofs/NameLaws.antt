-- What is left of a run where a name is read or written.
use Rattle.std.proofs.Common.{◌≡◌, ℕ, zero, suc, Bool, true, false, List, [], ◌∷◌, ◌++◌, length, Option, Some, None, Ok, Err, refl, sym, ap, ◌∙◌}
use Rattle.std.specs.Prelude.{is_some, option_map, if◌then◌else◌}
use Rattle.js_values.specs.declared.value.Value.{Value}
use Rattle.js_values.specs.declared.value.Value.TheVariants as value
use Rattle.object_heap.specs.declared.answer.HeapError.TheVariants as error
use Rattle.object_heap.specs.declared.answer.Put as answer
use Rattle.object_heap.specs.declared.built_in.BuiltIn.TheVariants as built
use Rattle.object_heap.specs.Answers.{told}
use Rattle.object_heap.specs.Get.{get, met}
use Rattle.object_heap.specs.Names.{Name}
use Rattle.object_heap.specs.Objects.{Heap, Holds, Property, Shares}
use Rattle.object_heap.specs.Put as heap_put
use Rattle.object_heap.specs.Put.{heap_after, put, written}
use Rattle.scope_arena.specs.Scopes.{Scopes, value_at, written_at}
use Rattle.js_tree.specs.Tree as tree
use Rattle.js_machine.specs.declared.frame.Frame.{Frame}
use Rattle.js_machine.specs.declared.frame.Control.TheVariants as control
use Rattle.js_machine.specs.declared.hosts.HostCall.{HostCall}
use Rattle.js_machine.specs.Asks.{Program}
use Rattle.js_machine.specs.Frames.{gives}
use Rattle.js_machine.specs.Globals.{name_in, no_names, stored, value_of_global}
use Rattle.js_machine.specs.References.{Reference, OnBase, error_object, get_value, global_object, global_value, if_global, or_undefined, resolve, throws_range_error}
use Rattle.js_machine.specs.Rest.{Outside, in_expr, in_store, rest, running, stack, state_of}
use Rattle.js_machine.specs.Run.{run}
use Rattle.js_machine.specs.State.{State, is_length, object_value, scopes_after, value_read}

-- ---- the one scope has no names

pub at_no_name : (scope place : ℕ) → value_at no_names scope place ≡ value.Undefined
at_no_name zero place = refl
at_no_name (suc scope) place = refl

write_at_no_name : (scope place : ℕ) (v : Value) → written_at scope place v no_names ≡ no_names
write_at_no_name zero place v = refl
write_at_no_name (suc scope) place v = refl

scopes_stay : (p : heap_put.Put) (v : Value) → scopes_after p v no_names ≡ no_names
scopes_stay (heap_put.Done heap) v = refl
scopes_stay heap_put.Ignored v = refl
scopes_stay (heap_put.Shared scope place) v = write_at_no_name scope place v
scopes_stay heap_put.BadLength v = refl

-- ---- what the heap answers

pub holds_it : (heap : Heap) (name : Name) (v : Value) → Some (Holds v) ≡ get heap global_object name → Some v ≡ value_of_global heap name
holds_it heap name v e = ap (value_read no_names) e

pub shares_it : (heap : Heap) (name : Name) (scope place : ℕ) → Some (Shares scope place) ≡ get heap global_object name → Some value.Undefined ≡ value_of_global heap name
shares_it heap name scope place e = ap Some (sym (at_no_name scope place)) ∙ ap (value_read no_names) e

pub has_none : (heap : Heap) (name : Name) → None ≡ get heap global_object name → None ≡ value_of_global heap name
has_none heap name e = ap (value_read no_names) e

pub ruleset value_laws = (holds_it, shares_it, has_none)

told_ok : (p : heap_put.Put) (answered : answer.Put) → Ok answered ≡ told p → true ≡ is_length p
told_ok (heap_put.Done heap) answered e = refl
told_ok heap_put.Ignored answered e = refl
told_ok (heap_put.Shared scope place) answered e = refl
told_ok heap_put.BadLength answered e = cc

told_bad : (p : heap_put.Put) → Err error.BadLength ≡ told p → false ≡ is_length p
told_bad (heap_put.Done heap) e = cc
told_bad heap_put.Ignored e = cc
told_bad (heap_put.Shared scope place) e = cc
told_bad heap_put.BadLength e = refl

bad_stays : (heap : Heap) (p : heap_put.Put) → Err error.BadLength ≡ told p → heap ≡ heap_after heap p
bad_stays heap (heap_put.Done after) e = cc
bad_stays heap heap_put.Ignored e = refl
bad_stays heap (heap_put.Shared scope place) e = refl
bad_stays heap heap_put.BadLength e = refl

pub is_put : (heap : Heap) (o : ℕ) (name : Name) (v : Value) (answered : answer.Put) → Ok answered ≡ told (put heap o name v) → true ≡ is_length (put heap o name v)
is_put heap o name v answered f = told_ok (put heap o name v) answered f

pub is_bad : (heap : Heap) (o : ℕ) (name : Name) (v : Value) → Err error.BadLength ≡ told (put heap o name v) → false ≡ is_length (put heap o name v)
is_bad heap o name v f = told_bad (put heap o name v) f

pub stays : (heap : Heap) (o : ℕ) (name : Name) (v : Value) → Err error.BadLength ≡ told (put heap o name v) → heap ≡ written heap o name v
stays heap o name v f = bad_stays heap (put heap o name v) f

pub ruleset write_laws = (is_put, is_bad, stays)

-- of the global object
pub global_told : (heap : Heap) (o : ℕ) (name : Name) (v : Value) (b : Bool) → o ≡ global_object → b ≡ is_length (put heap o name v) → b ≡ is_length (put heap global_object name v)
global_told heap o name v b e f = f ∙ ap (λ o. is_length (put heap o name v)) e

pub global_written : (heap : Heap) (o : ℕ) (name : Name) (v : Value) → o ≡ global_object → written heap o name v ≡ written heap global_object name v
global_written heap o name v e = ap (λ o. written heap o name v) e

pub ruleset global_laws = (global_told, global_written)

-- ---- a name is bound where the global object has it

pub is_met : (found : Option Property) (v : Value) → value_read no_names (option_map (λ p. p.slot) found) ≡ Some v → is_some found ≡ true
is_met None v e = cc
is_met (Some p) v e = refl

pub is_not_met : (found : Option Property) → value_read no_names (option_map (λ p. p.slot) found) ≡ None → is_some found ≡ false
is_not_met None e = refl
is_not_met (Some p) e = cc

module _ (n : ℕ) (fs : List Frame) (vs : List Value) (heap : Heap) (hosts : List HostCall) (beats steps : ℕ) (out : Outside) where
  -- a name is resolved, and its value is read
  pub read_bound : (name : Name) (k : Reference → Value → Program) (v : Value) → value_of_global heap name ≡ Some v
      → running (resolve (0 ∷ []) name (λ it. get_value it (k it))) n fs vs heap hosts beats steps out ≡ running (k (OnBase global_value name) v) n fs vs heap hosts beats steps out
  read_bound name k v e =
      ap (λ b. running (get_value (if_global name b) (k (if_global name b))) n fs vs heap hosts beats steps out) (is_met (met heap global_object name) v e)
      ∙ ap (λ found. running (k (OnBase global_value name) (or_undefined found)) n fs vs heap hosts beats steps out) e

  pub read_unbound : (name : Name) (k : Reference → Value → Program) → value_of_global heap name ≡ None
      → running (resolve (0 ∷ []) name (λ it. get_value it (k it))) n fs vs heap hosts beats steps out ≡ rest control.Throw n fs (object_value (length heap) ∷ vs) (heap ++ error_object built.ReferenceErrorPrototype ∷ []) hosts beats steps out
  unfolding rest
  read_unbound name k e =
      ap (λ b. running (get_value (if_global name b) (k (if_global name b))) n fs vs heap hosts beats steps out) (is_not_met (met heap global_object name) e)

  -- ---- 11.1.2

  pub name_bound : (name : Name) (v : Value) → value_of_global heap name ≡ Some v → in_expr (tree.Ident name) n fs vs heap hosts beats steps out ≡ rest control.Give n fs (v ∷ vs) heap hosts beats steps out
  unfolding in_expr rest
  name_bound name v e = read_bound name (λ it. gives) v e

  pub name_unbound : (name : Name) → value_of_global heap name ≡ None
      → in_expr (tree.Ident name) n fs vs heap hosts beats steps out ≡ rest control.Throw n fs (object_value (length heap) ∷ vs) (heap ++ error_object built.ReferenceErrorPrototype ∷ []) hosts beats steps out
  unfolding in_expr
  name_unbound name e = read_unbound name (λ it. gives) e

  -- ---- 8.7.2

  abbrev with_scopes : Scopes → Heap → State
  with_scopes scopes after = record (state_of after hosts beats steps out) { scopes = scopes }

  pub put_goes : (o : ℕ) (name : Name) (v : Value) (p q : Program)
      → run out.world n (if is_length (put heap o name v) then p else q) (stack fs vs) (with_scopes (scopes_after (put heap o name v) v no_names) (written heap o name v))
      ≡ running (if is_length (put heap o name v) then p else q) n fs vs (written heap o name v) hosts beats steps out
  put_goes o name v p q = ap (λ scopes. run out.world n (if is_length (put heap o name v) then p else q) (stack fs vs) (with_scopes scopes (written heap o name v))) (scopes_stay (put heap o name v) v)

  pub put_ok : (o : ℕ) (name : Name) (v : Value) (p : Program) → is_length (put heap o name v) ≡ true
      → running (Rattle.js_machine.specs.References.put o name v p) n fs vs heap hosts beats steps out ≡ running p n fs vs (written heap o name v) hosts beats steps out
  put_ok o name v p h =
      put_goes o name v p throws_range_error
      ∙ ap (λ b. running (if b then p else throws_range_error) n fs vs (written heap o name v) hosts beats steps out) h

  pub put_bad : (o : ℕ) (name : Name) (v : Value) (p : Program) → is_length (put heap o name v) ≡ false
      → running (Rattle.js_machine.specs.References.put o name v p) n fs vs heap hosts beats steps out
      ≡ rest control.Throw n fs (object_value (length (written heap o name v)) ∷ vs) (written heap o name v ++ error_object built.RangeErrorPrototype ∷ []) hosts beats steps out
  unfolding rest
  put_bad o name v p h =
      put_goes o name v p throws_range_error
      ∙ ap (λ b. running (if b then p else throws_range_error) n fs vs (written heap o name v) hosts beats steps out) h

  pub store_none : (name : Option Name) (v w : Value) → name ≡ None → in_store name v w n fs vs heap hosts beats steps out ≡ rest control.Give n fs (w ∷ vs) heap hosts beats steps out
  unfolding in_store rest
  store_none name v w e = ap (λ o. running (stored o v w) n fs vs heap hosts beats steps out) e

  pub store_ok : (t : tree.Expr) (name : Name) (v w : Value) → t ≡ tree.Ident name → is_length (put heap global_object name v) ≡ true
      → in_store (name_in t) v w n fs vs heap hosts beats steps out ≡ rest control.Give n fs (w ∷ vs) (written heap global_object name v) hosts beats steps out
  unfolding in_store rest
  store_ok t name v w e h =
      ap (λ t. running (stored (name_in t) v w) n fs vs heap hosts beats steps out) e
      ∙ put_ok global_object name v (gives w) h

  pub store_bad : (t : tree.Expr) (name : Name) (v w : Value) (ws : List Value) (after : Heap) → t ≡ tree.Ident name → ws ≡ vs → after ≡ written heap global_object name v → is_length (put heap global_object name v) ≡ false
      → in_store (name_in t) v w n fs vs heap hosts beats steps out ≡ rest control.Throw n fs (object_value (length after) ∷ ws) (after ++ error_object built.RangeErrorPrototype ∷ []) hosts beats steps out
  unfolding in_store
  store_bad t name v w ws after e g f h =
      ap (λ t. running (stored (name_in t) v w) n fs vs heap hosts beats steps out) e
      ∙ (put_bad global_object name v (gives w) h
      ∙ (sym (ap (λ after. rest control.Throw n fs (object_value (length after) ∷ vs) (after ++ error_object built.RangeErrorPrototype ∷ []) hosts beats steps out) f)
      ∙ sym (ap (λ ws. rest control.Throw n fs (object_value (length after) ∷ ws) (after ++ error_object built.RangeErrorPrototype ∷ []) hosts beats steps out) g)))

-- ---- the cases of one call each

pub ruleset name_laws = (name_bound, name_unbound)

pub ruleset store_laws = (store_none, store_ok)
