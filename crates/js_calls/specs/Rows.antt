-- Functions, heaps and scopes of the rows.
use Rattle.std.specs.Prelude.{ℕ, List, [], ◌∷◌, ◌++◌, map, replicate, codes, Some, None}
use Rattle.js_values.specs.declared.value.Value.{Value}
use Rattle.object_heap.specs.declared.object.Class.{Class}
use Rattle.object_heap.specs.declared.object.Class.TheVariants as class
use Rattle.object_heap.specs.Arrays.{whole, no_attributes}
use Rattle.object_heap.specs.Changes.{holding, hidden_only, sharing}
use Rattle.object_heap.specs.Names.{Name, prototype_name}
use Rattle.object_heap.specs.Objects.{Property, Heap}
use Rattle.scope_arena.specs.Scopes.{Scopes, entered, bindings_of}
use Rattle.js_tree.specs.Tree.{Func, Code, Stmt, Stmts, NoStmts, MoreStmts}
use Rattle.js_tree.specs.Tree as tree
use Rattle.js_tree.specs.declared.tree.Role.TheVariants.{Plain}
use Rattle.js_calls.specs.FunctionObjects.{the_object}
use Rattle.js_calls.specs.Entry.{Entered, entry_of}

-- ---- code

abbrev pub body_of : List Stmt → Stmts
body_of [] = NoStmts
body_of (s ∷ ss) = MoreStmts s (body_of ss)

-- a function with these formals
abbrev pub function : List Name → List Stmt → Func
function formals body = Code 1 None formals (body_of body) Plain

abbrev pub items : Name → tree.VarItems
items name = tree.MoreVarItems name tree.NoExpr tree.NoVarItems

abbrev pub var : Name → Stmt
var name = tree.Variables (items name)

-- a declared function, in which a variable z stands
abbrev pub declared : Name → List Name → Stmt
declared name formals =
    tree.Declare (Code 2 (Some name) formals (body_of (var (codes "z") ∷ [])) Plain)

abbrev pub block : Name → Stmt
block name = tree.Block (body_of (var name ∷ []))

-- variables in statements of each kind, in the order of the text, and one that is no variable
abbrev pub variables : List Stmt
variables =
    var (codes "a") ∷ block (codes "b")
    ∷ tree.If tree.Null (var (codes "c")) (tree.AStmt (var (codes "d")))
    ∷ tree.DoWhile (var (codes "e")) tree.Null ∷ tree.While tree.Null (var (codes "f"))
    ∷ tree.For (tree.Vars (items (codes "g"))) tree.NoExpr tree.NoExpr (var (codes "h"))
    ∷ tree.ForIn (tree.AVar (codes "i") tree.NoExpr) tree.Null (var (codes "j"))
    ∷ tree.Switch tree.Null (tree.MoreCases tree.NoExpr (body_of (var (codes "k") ∷ []))
    (tree.MoreCases (tree.AnExpr tree.Null) (body_of (var (codes "l") ∷ [])) tree.NoCases))
    ∷ tree.Label (codes "x") (var (codes "m"))
    ∷ tree.Try (block (codes "n")) (tree.ACatch (codes "y") (block (codes "o")))
    (tree.AStmt (block (codes "p")))
    ∷ tree.Do (tree.Function (function (codes "v" ∷ []) (var (codes "w") ∷ [])))
    ∷ tree.Variables (tree.MoreVarItems (codes "q") (tree.AnExpr tree.Null) (items (codes "r")))
    ∷ []

-- `function(a,b){var c;function b(){..}var b;function c(d){..}function c(d,e){..}var d;}`
abbrev pub full : Func
full =
    function (codes "a" ∷ codes "b" ∷ []) (var (codes "c") ∷ declared (codes "b") []
    ∷ var (codes "b") ∷ declared (codes "c") (codes "d" ∷ [])
    ∷ declared (codes "c") (codes "d" ∷ codes "e" ∷ []) ∷ var (codes "d") ∷ [])

-- `function(a,b){}`
abbrev pub bare : Func
bare = function (codes "a" ∷ codes "b" ∷ []) []

-- ---- heaps and scopes

abbrev pub o : ℕ → Value
o number = the_object number

-- the objects below 13 are those of the start that are named, here without properties
abbrev pub few : Heap
few = replicate 13 (record { class = class.Plain; prototype = None; properties = [] })

-- a scope with one name
abbrev pub outer_scope : Scopes
outer_scope = entered (codes "out" ∷ []) None []

-- the function is entered in that scope
abbrev pub entered_with : Func → List Value → Entered
entered_with f args = entry_of f (Some 0) args few outer_scope

-- the names of a scope with their values
abbrev pub bound : Scopes → ℕ → List (Name × Value)
bound scopes s = map (λ b. (b.name, b.value)) (bindings_of scopes s)

abbrev pub bound_by : Entered → List (Name × Value)
bound_by e = bound e.scopes e.scope

abbrev pub lone : Class → List Property → Heap
lone class properties =
    few ++ record { class = class; prototype = None; properties = properties } ∷ []

-- 13 is a function with this `prototype`
abbrev pub with_prototype : Value → Heap
with_prototype v = lone class.Function (holding prototype_name v hidden_only ∷ [])

-- 13 has 7 at the index 1
abbrev pub seven_at_one : Class → Heap
seven_at_one class = lone class (holding (codes "1") (whole 7) no_attributes ∷ [])

-- 13 is an `arguments` whose index 0 shares the value of the outer scope's name, and whose index 1
-- is 8
abbrev pub shared_arguments : Heap
shared_arguments =
    lone class.Arguments (sharing 0 0 0 ∷ holding (codes "1") (whole 8) hidden_only ∷ [])
