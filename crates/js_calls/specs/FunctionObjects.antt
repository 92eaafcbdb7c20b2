-- Function objects (ES3 13.2), and the name of a function expression (13).
use Rattle.std.specs.Prelude.{ℕ, suc, List, [], ◌∷◌, ◌++◌, length, Option, Some}
use Rattle.js_values.specs.declared.value.Value.{Value}
use Rattle.js_values.specs.declared.value.Value.TheVariants as value
use Rattle.object_heap.specs.declared.built_in.BuiltIn.TheVariants as built
use Rattle.object_heap.specs.declared.object.Class.TheVariants as class
use Rattle.object_heap.specs.Arrays.{whole}
use Rattle.object_heap.specs.BuiltIns.{number_of}
use Rattle.object_heap.specs.Changes.{holding, hidden_only, hidden_and_fixed, all_three}
use Rattle.object_heap.specs.Names.{Name, length_name, prototype_name, constructor_name}
use Rattle.object_heap.specs.Objects.{Object, Heap}
use Rattle.scope_arena.specs.Scopes.{Scopes, entered, written_at, fixed_at}
use Rattle.js_tree.specs.Tree.{Func, Code}

abbrev pub the_object : ℕ → Value
the_object o = value.Object (record { 0 = o })

abbrev pub formals_of : Func → List Name
formals_of (Code number name formals body role) = formals

-- ---- 13.2: a function, and the object that is to stand behind those that it makes. Each has the
-- other as a property; no two functions are joined.

-- steps 2 to 8 and 11
abbrev pub function_object : ℕ → ℕ → Object
function_object formals prototype = record {
  class = class.Function;
  prototype = Some (number_of built.FunctionPrototype);
  properties = holding length_name (whole formals) all_three
      ∷ holding prototype_name (the_object prototype) hidden_and_fixed ∷ [];
}

-- steps 9 and 10
abbrev pub prototype_object : ℕ → Object
prototype_object f = record {
  class = class.Plain;
  prototype = Some (number_of built.ObjectPrototype);
  properties = holding constructor_name (the_object f) hidden_only ∷ [];
}

-- a function of so many formals comes last, and then that object
abbrev pub with_function : ℕ → Heap → Heap
with_function formals heap =
    heap ++ function_object formals (suc (length heap)) ∷ prototype_object (length heap) ∷ []

-- ---- 13: the name of a function expression stands in a scope of its own, around the function's,
-- and is read-only there

abbrev pub with_name_scope : Name → Option ℕ → ℕ → Scopes → Scopes
with_name_scope name outer f scopes =
    fixed_at (length scopes) (written_at (length scopes) 0 (the_object f)
    (entered (name ∷ []) outer scopes))
