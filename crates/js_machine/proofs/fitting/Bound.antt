-- Function objects, the object of `new`, and what an entry binds.
use Rattle.std.proofs.Common.{◌≡◌, ℕ, suc, Bool, true, false, List, [], ◌∷◌, ◌++◌, length, refl, sym, ◌∙◌, ap, arith}
use Rattle.std.specs.Prelude.{Option, Some, None, if◌then◌else◌, nat_lt}
use Rattle.js_values.specs.declared.value.Value.{Value}
use Rattle.object_heap.specs.declared.built_in.BuiltIn.TheVariants as built
use Rattle.object_heap.specs.declared.object.Class.TheVariants as class
use Rattle.object_heap.specs.BuiltIns.{number_of}
use Rattle.object_heap.specs.Changes.{holding, hidden_only, sharing}
use Rattle.object_heap.specs.Names.{Name, decimal, prototype_name}
use Rattle.object_heap.specs.Objects.{Slot, Property, Heap}
use Rattle.scope_arena.specs.Scopes.{Scopes}
use Rattle.js_tree.specs.Tree.{Func, Code, Stmts}
use Rattle.js_calls.specs.Construct.{prototype_for, prototype_in, constructed}
use Rattle.js_calls.specs.Declared.{functions_of}
use Rattle.js_calls.specs.Entry.{Entered, scope_names, index_properties, arguments_object, with_values, named_if_any, with_arguments, with_declared, with_all_declared, entry_of}
use Rattle.js_calls.specs.FunctionObjects.{function_object, prototype_object, with_function}
use Rattle.js_calls.proofs.AfterEntry.{keep_order}
use Rattle.js_machine.specs.Reachable as fits
use Rattle.js_machine.specs.Reachable.{Each, IfAny, Counts, IsObject, IsInReach, IsScope, ValueFits, SlotFits, PropertyFits, ObjectFits, HeapFits, ScopesFit}
use Rattle.js_machine.proofs.fitting.Lists.{each_joined, each_taken}
use Rattle.js_machine.proofs.fitting.Growth.{Grows, grows_on, one_object, one_scope, object_grows, scope_grows, new_object, new_scope, started, is_there, later_reach, later_scope, later_values, later_reaches, later_contents}
use Rattle.js_machine.proofs.fitting.References.{new_object_fits}
use Rattle.js_machine.proofs.fitting.Heap.{get_slot_fits, make_heap, same_heap}
use Rattle.js_machine.proofs.fitting.Scopes.{write_scopes, name_scopes, enter_scopes, same_scopes}

-- ---- the object of `new`

prototype_for_there : {w : Counts} {a : Value} → ValueFits w a → IsObject w (prototype_for a)
prototype_for_there (fits.object o) = is_there o
prototype_for_there fits.undefined = started (number_of built.ObjectPrototype) (omega arith)
prototype_for_there fits.null = started (number_of built.ObjectPrototype) (omega arith)
prototype_for_there fits.bool = started (number_of built.ObjectPrototype) (omega arith)
prototype_for_there fits.num = started (number_of built.ObjectPrototype) (omega arith)
prototype_for_there fits.str = started (number_of built.ObjectPrototype) (omega arith)

prototype_in_there : {w : Counts} {slot : Option Slot} → IfAny (SlotFits w) slot → IsObject w (prototype_in slot)
prototype_in_there fits.nothing = started (number_of built.ObjectPrototype) (omega arith)
prototype_in_there (fits.just (fits.holds a)) = prototype_for_there a
prototype_in_there (fits.just (fits.shares s)) = started (number_of built.ObjectPrototype) (omega arith)

pub constructed_heap : (f : ℕ) {w : Counts} {heap : Heap} → HeapFits w heap → HeapFits (one_object w) (constructed f heap)
constructed_heap f h = make_heap h (new_object_fits class.Plain (prototype_in_there (get_slot_fits f prototype_name h.each)))

-- ---- a function, and the object that is its `prototype`

abbrev pub one_function : Counts → Counts
one_function w = one_object (one_object w)

pub function_grows : (w : Counts) → Grows w (one_function w)
function_grows w = grows_on (object_grows w) (object_grows (one_object w))

pub new_function : (w : Counts) (n : ℕ) → w.objects ≡ n → IsInReach (one_function w) n
new_function w n e = later_reach (object_grows (one_object w)) (new_object w n e)

function_object_fits : (formals prototype : ℕ) {w : Counts} → IsInReach w prototype → ObjectFits w (function_object formals prototype)
function_object_fits formals prototype p = record {
  prototype = fits.just (started (number_of built.FunctionPrototype) (omega arith));
  properties = fits.more (record { slot = fits.holds fits.num }) (fits.more (record { slot = fits.holds (fits.object p) }) fits.empty);
}

prototype_object_fits : (f : ℕ) {w : Counts} → IsInReach w f → ObjectFits w (prototype_object f)
prototype_object_fits f p = record {
  prototype = fits.just (started (number_of built.ObjectPrototype) (omega arith));
  properties = fits.more (record { slot = fits.holds (fits.object p) }) fits.empty;
}

length_two : {A : Type 0} (xs : List A) (x y : A) → length (xs ++ x ∷ y ∷ []) ≡ suc (suc (length xs))
length_two [] x y = refl
length_two (z ∷ zs) x y = ap suc (length_two zs x y)

pub function_heap : (formals : ℕ) {w : Counts} {heap : Heap} → HeapFits w heap → HeapFits (one_function w) (with_function formals heap)
function_heap formals {w = w} {heap = heap} h =
    record {
      count = ap (λ n. suc (suc n)) h.count ∙ sym (length_two heap _ _);
      before = keep_order.function formals heap (omega (arith, h.count, w.start)) h.before;
      each = each_joined (later_contents (function_grows w) h.each)
          (fits.more (function_object_fits formals (suc (length heap)) (new_object (one_object w) (suc (length heap)) (ap suc h.count)))
          (fits.more (prototype_object_fits (length heap) (new_function w (length heap) h.count)) fits.empty));
    }

-- ---- an entry

either : (b : Bool) {w : Counts} {p q : Property} → PropertyFits w p → PropertyFits w q → PropertyFits w (if b then p else q)
either true h g = h
either false h g = g

index_properties_fit : {w : Counts} (scope formals k : ℕ) {args : List Value} → IsScope w scope → Each (ValueFits w) args → Each (PropertyFits w) (index_properties scope formals k args)
index_properties_fit scope formals k s fits.empty = fits.empty
index_properties_fit scope formals k s (fits.more {x = v} a args) =
    fits.more (either (nat_lt k formals) {p = sharing k scope k} {q = holding (decimal k) v hidden_only} (record { slot = fits.shares s }) (record { slot = fits.holds a }))
    (index_properties_fit scope formals (suc k) s args)

arguments_object_fits : (scope formals : ℕ) {w : Counts} {args : List Value} → IsScope w scope → Each (ValueFits w) args → ObjectFits w (arguments_object scope formals args)
arguments_object_fits scope formals s args = record {
  prototype = fits.just (started (number_of built.ObjectPrototype) (omega arith));
  properties = fits.more (record { slot = fits.holds fits.num }) (index_properties_fit scope formals 0 s args);
}

values_scopes : {w : Counts} (scope place : ℕ) {vs : List Value} {scopes : Scopes} → Each (ValueFits w) vs → ScopesFit w scopes → ScopesFit w (with_values scope place vs scopes)
values_scopes scope place fits.empty h = h
values_scopes scope place (fits.more a vs) h = values_scopes scope (suc place) vs (write_scopes scope place h a)

named_scopes : (scope : ℕ) (name : Option Name) {w : Counts} {a : Value} {scopes : Scopes} → ValueFits w a → ScopesFit w scopes → ScopesFit w (named_if_any scope name a scopes)
named_scopes scope None a h = h
named_scopes scope (Some name) a h = name_scopes (scope ∷ []) name h a

-- what an entry leaves, in a later world
pub record Binds (w : Counts) (e : Entered) : Type 0 where
  pub now : Counts
  pub grows : Grows w now
  pub heap : HeapFits now e.heap
  pub scopes : ScopesFit now e.scopes
  pub scope : IsScope now e.scope
  pub functions : Each (IsInReach now) e.functions

arguments_bind : (formals : List Name) (body : Stmts) {w : Counts} {outer : Option ℕ} {args : List Value} {heap : Heap} {scopes : Scopes} → IfAny (IsScope w) outer → Each (ValueFits w) args → HeapFits w heap → ScopesFit w scopes → Binds w (with_arguments formals body outer args heap scopes)
arguments_bind formals body {w = w} {heap = heap} {scopes = scopes} outer args h s =
    record {
      now = v;
      grows = g;
      heap = make_heap (same_heap (scope_grows w) refl h) (arguments_object_fits (length scopes) (length formals) new (later_values (scope_grows w) args));
      scopes = write_scopes (length scopes) (length formals)
          (values_scopes (length scopes) 0 (each_taken (later_values g args) (length formals)) (same_scopes (object_grows (one_scope w)) refl (enter_scopes (scope_names formals body) s outer)))
          (fits.object (new_object (one_scope w) (length heap) h.count));
      scope = later_scope (object_grows (one_scope w)) new;
      functions = fits.empty;
    }
  where
    v : Counts
    v = one_object (one_scope w)

    g : Grows w v
    g = grows_on (scope_grows w) (object_grows (one_scope w))

    new : IsScope (one_scope w) (length scopes)
    new = new_scope w (length scopes) s.count

declared_binds : (f : Func) {w : Counts} {e : Entered} → Binds w e → Binds w (with_declared f e)
declared_binds (Code number name formals body role) {w = w} {e = e} b =
    record {
      now = one_function b.now;
      grows = grows_on b.grows g;
      heap = function_heap (length formals) b.heap;
      scopes = named_scopes e.scope name (fits.object new) (same_scopes g refl b.scopes);
      scope = later_scope g b.scope;
      functions = each_joined (later_reaches g b.functions) (fits.more new fits.empty);
    }
  where
    g : Grows b.now (one_function b.now)
    g = function_grows b.now

    new : IsInReach (one_function b.now) (length e.heap)
    new = new_function b.now (length e.heap) b.heap.count

all_declared_bind : (fs : List Func) {w : Counts} {e : Entered} → Binds w e → Binds w (with_all_declared fs e)
all_declared_bind [] b = b
all_declared_bind (f ∷ fs) b = all_declared_bind fs (declared_binds f b)

pub entry_binds : (f : Func) {w : Counts} {outer : Option ℕ} {args : List Value} {heap : Heap} {scopes : Scopes} → IfAny (IsScope w) outer → Each (ValueFits w) args → HeapFits w heap → ScopesFit w scopes → Binds w (entry_of f outer args heap scopes)
entry_binds (Code number name formals body role) outer args h s = all_declared_bind (functions_of body) (arguments_bind formals body outer args h s)
