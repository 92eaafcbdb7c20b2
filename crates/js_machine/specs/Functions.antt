-- Function expressions (ES3 13).
use Rattle.std.specs.Prelude.{ℕ, List, [], ◌∷◌, Option, Some, None}
use Rattle.object_heap.specs.Names.{Name}
use Rattle.js_tree.specs.Tree.{Func, Code}
use Rattle.js_tree.specs.declared.tree.Role.TheVariants as role
use Rattle.js_machine.specs.Asks.{Program, MakeFunction, Open, Write, Fix, Broken, Env}
use Rattle.js_machine.specs.Asks.{TellNeed}
use Rattle.js_machine.specs.State.{object_value}
use Rattle.js_machine.specs.Frames.{Asks, ◌>>=◌, ◌>>◌, gives}

-- ---- 13, a function expression

abbrev pub name_of : Func → Option Name
name_of (Code number name formals body role) = name

-- its name, if it has one, is read-only in a scope of its own
abbrev pub named_function : Option Name → Func → List ℕ → Asks ℕ
named_function None code chain k = MakeFunction code chain k
named_function (Some name) code chain k = do
  scope ← Open (name ∷ []) chain
  f ← MakeFunction code (scope ∷ chain)
  Write (scope ∷ []) name (object_value f)
  Fix scope
  k f

abbrev pub function_expression : Func → Env → Program
function_expression code env = do
  f ← named_function (name_of code) code env.chain
  gives (object_value f)

-- ---- `eval($dl_get(k))` (Doloto's own): the entry's function, in the running scope

abbrev pub as_late : Func → Func
as_late (Code number name formals body stands) = Code number None formals body role.Late

abbrev pub made_late : Option Func → List ℕ → Asks ℕ
made_late None chain k = Broken
made_late (Some code) chain k = MakeFunction (as_late code) chain k

abbrev pub late_function : ℕ → Env → Program
late_function number env = do
  entry ← TellNeed number
  f ← made_late entry env.chain
  gives (object_value f)
