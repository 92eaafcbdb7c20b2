-- What a body binds, listed once.
use Rattle.std.specs.Prelude.{◌≡◌, List, map}
use Rattle.js_tree.specs.declared.tree.Stmt.{Stmt}
use Rattle.js_tree.specs.declared.tree.Func.{Func}
use Rattle.js_tree.specs.Tree.{Name}
use Rattle.js_tree.specs.Plain as view
use Rattle.js_calls.specs.Declared.{functions_of, vars_in_all}

-- these are the functions that statements declare and their variables, in the order of the text
pub record Lists (functions : List Func) (variables : List Name) (statements : List Stmt)
    : Type 0 where
  pub all_functions : map view.func functions ≡ functions_of (view.body statements)
  pub all_variables : variables ≡ vars_in_all (view.body statements)
