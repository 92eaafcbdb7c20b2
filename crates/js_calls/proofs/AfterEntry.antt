-- What entries leave.
use Rattle.std.proofs.Common.{◌≡◌, ℕ, zero, suc, ◌+◌, ◌<◌, ◌≤◌, Bool, true, false, List, [], ◌∷◌, ◌++◌, length, Some, None, refl, ap, subst, sym, ◌∙◌, arith}
use Rattle.std.specs.Prelude.{Option, ◌==◌, ◌||◌, if◌then◌else◌, nat_lt, take, unwrap_or, option_map, slice_get}
use Rattle.std.proofs.lemmas.Bool.{ne_eqb}
use Rattle.js_values.specs.declared.value.Value.{Value}
use Rattle.object_heap.specs.Arrays.{whole}
use Rattle.object_heap.specs.Changes.{holding, hidden_only, sharing}
use Rattle.object_heap.specs.Names.{Name, decimal}
use Rattle.object_heap.specs.Objects.{Property, Object, Heap, prototype_of, properties_of}
use Rattle.object_heap.specs.Laws.{PrototypesComeBefore, IsNowhereHeld, is_object, holds, is_held_in}
use Rattle.scope_arena.specs.Scopes.{Scopes, entered, written_at}
use Rattle.scope_arena.specs.Search.{Place, find, with_name}
use Rattle.scope_arena.specs.Laws as scopes_law
use Rattle.scope_arena.specs.Laws.{ParentsComeBefore, IsThere}
use Rattle.scope_arena.proofs.Parents as parents
use Rattle.js_tree.specs.Tree.{Func, Code, Stmts}
use Rattle.js_calls.specs.Declared.{functions_of}
use Rattle.js_calls.specs.Entry.{Entered, scope_names, index_property, index_properties, arguments_object, with_values, named, named_if_any, with_formals, with_arguments, with_declared, with_all_declared, entry_of}
use Rattle.js_calls.specs.FunctionObjects.{the_object, function_object, prototype_object, with_function}
use Rattle.js_calls.specs.Laws.{HasPrototypes, EntriesKeepOrder, AllFree, EntriesHoldNothing}

none_some : {A : Type 0} {x : A} → None ≡ Some x → ⊥
none_some e = cc

some_one : {A : Type 0} {x y : A} → Some x ≡ Some y → x ≡ y
some_one {x = x} e = ap (λ o. unwrap_or o x) e

-- ---- more objects

longer : (n : ℕ) (heap news : Heap) → n ≤ length heap → n ≤ length (heap ++ news)
longer zero heap news le = omega arith
longer (suc n) [] news le = absurd (omega (arith, le))
longer (suc n) (x ∷ xs) news le = let h = longer n xs news (omega (arith, le)) in omega (arith, h)

-- prototypes below a number
abbrev AllBelow : ℕ → Heap → Type 0
AllBelow n [] = Unit {0}
AllBelow n (x ∷ xs) = ((p : ℕ) → x.prototype ≡ Some p → p < n) × AllBelow n xs

of_news : (n m : ℕ) (news : Heap) → AllBelow n news → n ≤ m → (o p : ℕ) → prototype_of news o ≡ Some p → p < m + o
of_news n m [] b le o p e = absurd (none_some e)
of_news n m (x ∷ xs) b le zero p e = let lt = b.0 p e in omega (arith, lt, le)
of_news n m (x ∷ xs) b le (suc o) p e = let lt = of_news n m xs (b.1) le o p e in omega (arith, lt)

below_with : (k n : ℕ) (heap news : Heap) → AllBelow n news → n ≤ k + length heap → ((o p : ℕ) → prototype_of heap o ≡ Some p → p < k + o) → (o p : ℕ) → prototype_of (heap ++ news) o ≡ Some p → p < k + o
below_with k n [] news b le h o p e = of_news n k news b (omega (arith, le)) o p e
below_with k n (x ∷ xs) news b le h zero p e = h zero p e
below_with k n (x ∷ xs) news b le h (suc o) p e = let lt = below_with (suc k) n xs news b (omega (arith, le)) (λ q r i. let l = h (suc q) r i in omega (arith, l)) o p e in omega (arith, lt)

before_with : (n : ℕ) (heap news : Heap) → AllBelow n news → n ≤ length heap → PrototypesComeBefore heap → PrototypesComeBefore (heap ++ news)
before_with n heap news b le h o p e = let lt = below_with 0 n heap news b (omega (arith, le)) (λ q r i. let l = h q r i in omega (arith, l)) o p e in omega (arith, lt)

zero_below : (p : ℕ) → Some 0 ≡ Some p → p < 2
zero_below p e = let i = some_one e in omega (arith, i)

one_below : (p : ℕ) → Some 1 ≡ Some p → p < 2
one_below p e = let i = some_one e in omega (arith, i)

function_before : (formals : ℕ) (heap : Heap) → HasPrototypes heap → PrototypesComeBefore heap → PrototypesComeBefore (with_function formals heap)
function_before formals heap le h = before_with 2 heap (function_object formals (suc (length heap)) ∷ prototype_object (length heap) ∷ []) (one_below, (zero_below, tt)) le h

declared_before : (fs : List Func) (e : Entered) → HasPrototypes (e.heap) → PrototypesComeBefore (e.heap) → PrototypesComeBefore ((with_all_declared fs e).heap)
declared_before [] e le h = h
declared_before (Code number name formals body role ∷ fs) e le h = declared_before fs (with_declared (Code number name formals body role) e) (longer 2 (e.heap) _ le) (function_before (length formals) (e.heap) le h)

prototypes : (f : Func) (outer : Option ℕ) (args : List Value) (heap : Heap) (scopes : Scopes) → HasPrototypes heap → PrototypesComeBefore heap → PrototypesComeBefore ((entry_of f outer args heap scopes).heap)
prototypes (Code number name formals body role) outer args heap scopes le h =
    declared_before (functions_of body) (with_arguments formals body outer args heap scopes) (longer 2 heap _ le)
    (before_with 2 heap (arguments_object (length scopes) (length formals) args ∷ []) (zero_below, tt) le h)

-- ---- scopes

write : (scopes : Scopes) (s slot : ℕ) (v : Value) → ParentsComeBefore scopes → ParentsComeBefore (written_at s slot v scopes)
write = parents.stay_before.write

values_before : (s place : ℕ) (vs : List Value) (scopes : Scopes) → ParentsComeBefore scopes → ParentsComeBefore (with_values s place vs scopes)
values_before s place [] scopes h = h
values_before s place (v ∷ vs) scopes h = values_before s (suc place) vs (written_at s place v scopes) (write scopes s place v h)

place_before : (scopes : Scopes) (v : Value) (at : Option Place) → ParentsComeBefore scopes → ParentsComeBefore (unwrap_or (option_map (λ place. written_at place.scope place.slot v scopes) at) scopes)
place_before scopes v None h = h
place_before scopes v (Some place) h = write scopes (place.scope) (place.slot) v h

named_before : (s : ℕ) (name : Option Name) (v : Value) (scopes : Scopes) → ParentsComeBefore scopes → ParentsComeBefore (named_if_any s name v scopes)
named_before s None v scopes h = h
named_before s (Some name) v scopes h = place_before scopes v (find scopes (s ∷ []) name) h

all_named_before : (fs : List Func) (e : Entered) → ParentsComeBefore (e.scopes) → ParentsComeBefore ((with_all_declared fs e).scopes)
all_named_before [] e h = h
all_named_before (Code number name formals body role ∷ fs) e h = all_named_before fs (with_declared (Code number name formals body role) e) (named_before (e.scope) name (the_object (length (e.heap))) (e.scopes) h)

parents_before : (f : Func) (outer : Option ℕ) (args : List Value) (heap : Heap) (scopes : Scopes) → IsThere scopes outer → ParentsComeBefore scopes → ParentsComeBefore ((entry_of f outer args heap scopes).scopes)
parents_before (Code number name formals body role) outer args heap scopes is h =
    all_named_before (functions_of body) (with_arguments formals body outer args heap scopes)
    (write (with_formals formals body outer args scopes) (length scopes) (length formals) (the_object (length heap))
    (values_before (length scopes) 0 (take (length formals) args) (entered (scope_names formals body) outer scopes)
    (parents.stay_before.enter scopes (scope_names formals body) outer is h)))

pub keep_order : EntriesKeepOrder
keep_order = record { prototypes = prototypes; parents = parents_before; function = function_before }

-- ---- what no property holds

module _ (g : ℕ) where
  nor : (a b : Bool) → a ≡ false → b ≡ false → (a || b) ≡ false
  nor true b e h = absurd cc
  nor false b e h = h

  other : (n : ℕ) → g < n → (n == g) ≡ false
  other n lt = ne_eqb n g (λ e. omega (arith, lt, e))

  abbrev AllEmpty : Heap → Type 0
  AllEmpty [] = Unit {0}
  AllEmpty (x ∷ xs) = (is_held_in g x.properties ≡ false) × AllEmpty xs

  in_news : (news : Heap) → AllEmpty news → IsNowhereHeld g news
  in_news [] b o = refl
  in_news (x ∷ xs) b zero = b.0
  in_news (x ∷ xs) b (suc o) = in_news xs (b.1) o

  held_with : (heap news : Heap) → AllEmpty news → IsNowhereHeld g heap → IsNowhereHeld g (heap ++ news)
  held_with [] news b h o = in_news news b o
  held_with (x ∷ xs) news b h zero = h zero
  held_with (x ∷ xs) news b h (suc o) = held_with xs news b (λ q. h (suc q)) o

  function_held : (formals : ℕ) (heap : Heap) → g < length heap → IsNowhereHeld g heap → IsNowhereHeld g (with_function formals heap)
  function_held formals heap lt h =
      held_with heap (function_object formals (suc (length heap)) ∷ prototype_object (length heap) ∷ [])
      (nor (suc (length heap) == g) false (other (suc (length heap)) (omega (arith, lt))) refl, (nor (length heap == g) false (other (length heap) lt) refl, tt)) h

  one_index : (b : Bool) (p q : Property) → holds g (p.slot) ≡ false → holds g (q.slot) ≡ false → holds g ((if b then p else q).slot) ≡ false
  one_index true p q e h = e
  one_index false p q e h = h

  indices_held : (scope formals k : ℕ) (vs : List Value) → AllFree g vs → is_held_in g (index_properties scope formals k vs) ≡ false
  indices_held scope formals k [] e = refl
  indices_held scope formals k (v ∷ vs) e =
      nor (holds g ((index_property scope formals k v).slot)) (is_held_in g (index_properties scope formals (suc k) vs))
      (one_index (nat_lt k formals) (sharing k scope k) (holding (decimal k) v hidden_only) refl (e.0)) (indices_held scope formals (suc k) vs (e.1))

  declared_held : (fs : List Func) (e : Entered) → g < length (e.heap) → IsNowhereHeld g (e.heap) → IsNowhereHeld g ((with_all_declared fs e).heap)
  declared_held [] e lt h = h
  declared_held (Code number name formals body role ∷ fs) e lt h = declared_held fs (with_declared (Code number name formals body role) e) (longer (suc g) (e.heap) _ lt) (function_held (length formals) (e.heap) lt h)

  entry_held : (f : Func) (outer : Option ℕ) (args : List Value) (heap : Heap) (scopes : Scopes) → g < length heap → AllFree g args → IsNowhereHeld g heap → IsNowhereHeld g ((entry_of f outer args heap scopes).heap)
  entry_held (Code number name formals body role) outer args heap scopes lt e h =
      declared_held (functions_of body) (with_arguments formals body outer args heap scopes) (longer (suc g) heap _ lt)
      (held_with heap (arguments_object (length scopes) (length formals) args ∷ []) (indices_held (length scopes) (length formals) 0 args e, tt) h)

pub hold_nothing : EntriesHoldNothing
hold_nothing = record { entry = entry_held; function = function_held }
