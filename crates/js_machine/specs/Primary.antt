-- Primary expressions (ES3 11.1).
use Rattle.std.specs.Prelude.{ℕ, suc, Some}
use Rattle.object_heap.specs.declared.built_in.BuiltIn.TheVariants as built
use Rattle.object_heap.specs.declared.object.Class.TheVariants as class
use Rattle.object_heap.specs.Arrays.{whole}
use Rattle.object_heap.specs.BuiltIns.{number_of}
use Rattle.object_heap.specs.Changes.{new_object}
use Rattle.object_heap.specs.Names.{Name, length_name, decimal}
use Rattle.object_heap.specs.Objects.{Object}
use Rattle.js_tree.specs.Tree.{Elements, NoElements, MoreElements, NoExpr, AnExpr}
use Rattle.js_tree.specs.Tree.{Pairs, NoPairs, MorePairs}
use Rattle.js_machine.specs.Asks.{Program, Env, Make}
use Rattle.js_machine.specs.State.{object_value}
use Rattle.js_machine.specs.Frames.{◌>>=◌, ◌>>◌, gives, value_of}
use Rattle.js_machine.specs.References.{resolve, get_value, put}

-- ---- 11.1.2

abbrev pub identifier : Name → Env → Program
identifier name env = do
  reference ← resolve env.chain name
  v ← get_value reference
  gives v

-- ---- 11.1.4

abbrev pub new_array : Object
new_array = new_object class.Array (Some (number_of built.ArrayPrototype))

-- the elements from an index on; a hole counts in `length` alone
abbrev pub elements : Elements → ℕ → ℕ → Env → Program → Program
elements NoElements array index env p = put array length_name (whole index) p
elements (MoreElements NoExpr rest) array index env p = elements rest array (suc index) env p
elements (MoreElements (AnExpr e) rest) array index env p = do
  v ← value_of e env
  put array (decimal index) v
  elements rest array (suc index) env p

abbrev pub array_literal : Elements → Env → Program
array_literal es env = do
  array ← Make new_array
  elements es array 0 env
  gives (object_value array)

-- ---- 11.1.5

abbrev pub new_plain : Object
new_plain = new_object class.Plain (Some (number_of built.ObjectPrototype))

-- a later pair with the same key writes again
abbrev pub pairs : Pairs → ℕ → Env → Program → Program
pairs NoPairs o env p = p
pairs (MorePairs key e rest) o env p = do
  v ← value_of e env
  put o key v
  pairs rest o env p

abbrev pub object_literal : Pairs → Env → Program
object_literal ps env = do
  o ← Make new_plain
  pairs ps o env
  gives (object_value o)
