-- What the entry of a function binds, in order (ES3 10.1.3, 10.1.6, 10.1.8, 10.2.3).
use Rattle.std.specs.Prelude.{ℕ, suc, nat_lt, if◌then◌else◌, List, [], ◌∷◌, ◌++◌, length, take}
use Rattle.std.specs.Prelude.{codes, Option, Some, None, unwrap_or, Result, Ok, Err}
use Rattle.std.specs.List.{list_any}
use Rattle.js_values.specs.declared.reason.Reason.{Reason}
use Rattle.js_values.specs.declared.reason.Reason.TheVariants.{Wrapper}
use Rattle.js_values.specs.declared.value.Value.{Value}
use Rattle.js_values.specs.declared.value.Value.TheVariants as value
use Rattle.object_heap.specs.declared.built_in.BuiltIn.TheVariants as built
use Rattle.object_heap.specs.declared.object.Class.TheVariants as class
use Rattle.object_heap.specs.Arrays.{whole}
use Rattle.object_heap.specs.BuiltIns.{number_of}
use Rattle.object_heap.specs.Changes.{holding, hidden_only, sharing}
use Rattle.object_heap.specs.Names.{Name, is_same_name, length_name, decimal}
use Rattle.object_heap.specs.Objects.{Property, Object, Heap}
use Rattle.scope_arena.specs.Scopes.{Scopes, entered, written_at}
use Rattle.scope_arena.specs.Search.{with_name}
use Rattle.js_tree.specs.Tree.{Func, Code, Stmts}
use Rattle.js_calls.specs.Declared.{functions_of, names_of, vars_in_all}
use Rattle.js_calls.specs.FunctionObjects.{the_object, with_function}

-- ---- `this` (10.2.3): an undefined or null one is the global object; a primitive one would be put
-- into an object

abbrev pub this_at_entry : Value → Result Value Reason
this_at_entry value.Undefined = Ok (the_object (number_of built.Global))
this_at_entry value.Null = Ok (the_object (number_of built.Global))
this_at_entry (value.Bool b) = Err Wrapper
this_at_entry (value.Num n) = Err Wrapper
this_at_entry (value.Str s) = Err Wrapper
this_at_entry (value.Object o) = Ok (value.Object o)

-- ---- the names of the scope (10.1.3, 10.1.6)

abbrev pub arguments_name : Name
arguments_name = codes "arguments"

-- a name that is there already is bound again, and is no second one
abbrev pub with_one : List Name → Name → List Name
with_one names name =
    if list_any (λ old. is_same_name old name) names then names else names ++ name ∷ []

abbrev pub with_all : List Name → List Name → List Name
with_all names [] = names
with_all names (new ∷ news) = with_all (with_one names new) news

-- the formals stand first, each at its own place, and then `arguments`; no formal has that name
abbrev pub scope_names : List Name → Stmts → List Name
scope_names formals body =
    with_all (formals ++ arguments_name ∷ []) (names_of (functions_of body) ++ vars_in_all body)

-- ---- `arguments` (10.1.8)

-- an index that is also the place of a formal shares its value with it
abbrev pub index_property : ℕ → ℕ → ℕ → Value → Property
index_property scope formals k v =
    if nat_lt k formals then sharing k scope k else holding (decimal k) v hidden_only

-- one for each argument, from an index on
abbrev pub index_properties : ℕ → ℕ → ℕ → List Value → List Property
index_properties scope formals k [] = []
index_properties scope formals k (v ∷ vs) =
    index_property scope formals k v ∷ index_properties scope formals (suc k) vs

abbrev pub arguments_object : ℕ → ℕ → List Value → Object
arguments_object scope formals args = record {
  class = class.Arguments;
  prototype = Some (number_of built.ObjectPrototype);
  properties = holding length_name (whole (length args)) hidden_only
      ∷ index_properties scope formals 0 args;
}

-- ---- the values of the names

-- what an entry leaves: the scope is that of the function's body, and the functions are those that
-- it declares, in the order of the text
pub record Entered : Type 0 where
  pub heap : Heap
  pub scopes : Scopes
  pub scope : ℕ
  pub functions : List ℕ

-- values at the places from one on
abbrev pub with_values : ℕ → ℕ → List Value → Scopes → Scopes
with_values scope place [] scopes = scopes
with_values scope place (v ∷ vs) scopes =
    with_values scope (suc place) vs (written_at scope place v scopes)

-- a name of the scope gets a value
abbrev pub named : ℕ → Name → Value → Scopes → Scopes
named scope name v scopes = unwrap_or (with_name scopes (scope ∷ []) name v) scopes

abbrev pub named_if_any : ℕ → Option Name → Value → Scopes → Scopes
named_if_any scope None v scopes = scopes
named_if_any scope (Some name) v scopes = named scope name v scopes

-- the scope with the formals' values; those of which there is no argument stay undefined
abbrev pub with_formals : List Name → Stmts → Option ℕ → List Value → Scopes → Scopes
with_formals formals body outer args scopes =
    with_values (length scopes) 0 (take (length formals) args)
    (entered (scope_names formals body) outer scopes)

-- `arguments`, whose place is behind the formals
abbrev pub with_arguments : List Name → Stmts → Option ℕ → List Value → Heap → Scopes → Entered
with_arguments formals body outer args heap scopes = record {
  heap = heap ++ arguments_object (length scopes) (length formals) args ∷ [];
  scopes = written_at (length scopes) (length formals) (the_object (length heap))
      (with_formals formals body outer args scopes);
  scope = length scopes;
  functions = [];
}

-- a declared function, whose name may be that of a formal or of one before it
abbrev pub with_declared : Func → Entered → Entered
with_declared (Code number name formals body role) e = record e {
  heap = with_function (length formals) e.heap;
  scopes = named_if_any e.scope name (the_object (length e.heap)) e.scopes;
  functions = e.functions ++ length e.heap ∷ [];
}

abbrev pub with_all_declared : List Func → Entered → Entered
with_all_declared [] e = e
with_all_declared (f ∷ fs) e = with_all_declared fs (with_declared f e)

-- ---- the entry of a function that was made in a scope, with these arguments; a variable stays
-- undefined where no formal and no declared function has its name

abbrev pub entry_of : Func → Option ℕ → List Value → Heap → Scopes → Entered
entry_of (Code number name formals body role) outer args heap scopes =
    with_all_declared (functions_of body) (with_arguments formals body outer args heap scopes)
