-- What holds of all entries.
use Rattle.std.specs.Prelude.{◌≡◌, ℕ, ◌<◌, ◌≤◌, false, List, [], ◌∷◌, length, Option}
use Rattle.js_values.specs.declared.value.Value.{Value}
use Rattle.object_heap.specs.Laws.{PrototypesComeBefore, IsNowhereHeld, is_object}
use Rattle.object_heap.specs.Objects.{Heap}
use Rattle.scope_arena.specs.Scopes.{Scopes}
use Rattle.scope_arena.specs.Laws.{ParentsComeBefore, IsThere}
use Rattle.js_tree.specs.Tree.{Func}
use Rattle.js_calls.specs.Entry.{entry_of}
use Rattle.js_calls.specs.FunctionObjects.{with_function}

-- Object.prototype and Function.prototype are there
abbrev pub HasPrototypes : Heap → Type 0
HasPrototypes heap = 2 ≤ length heap

-- prototypes and parents keep their lower numbers
pub record EntriesKeepOrder : Type 0 where
  pub prototypes : (f : Func) (outer : Option ℕ) (args : List Value) (heap : Heap) (scopes : Scopes)
      → HasPrototypes heap → PrototypesComeBefore heap
      → PrototypesComeBefore (entry_of f outer args heap scopes).heap
  pub parents : (f : Func) (outer : Option ℕ) (args : List Value) (heap : Heap) (scopes : Scopes)
      → IsThere scopes outer → ParentsComeBefore scopes
      → ParentsComeBefore (entry_of f outer args heap scopes).scopes
  pub function : (formals : ℕ) (heap : Heap) → HasPrototypes heap → PrototypesComeBefore heap
      → PrototypesComeBefore (with_function formals heap)

-- ---- an object of the heap that no property holds, as Function.prototype

abbrev pub AllFree : ℕ → List Value → Type 0
AllFree g [] = Unit {0}
AllFree g (v ∷ vs) = (is_object g v ≡ false) × AllFree g vs

-- still none holds it, where it is none of the arguments
pub record EntriesHoldNothing : Type 0 where
  pub entry : (g : ℕ) (f : Func) (outer : Option ℕ) (args : List Value) (heap : Heap)
      (scopes : Scopes) → g < length heap → AllFree g args → IsNowhereHeld g heap
      → IsNowhereHeld g (entry_of f outer args heap scopes).heap
  pub function : (g formals : ℕ) (heap : Heap) → g < length heap → IsNowhereHeld g heap
      → IsNowhereHeld g (with_function formals heap)
