-- What code declares (ES3 10.1.3): its functions, and the names of its `var` statements, in the
-- order of the text. What stands in a function is declared there alone.
use Rattle.std.specs.Prelude.{List, [], ◌∷◌, ◌++◌, Some, None}
use Rattle.object_heap.specs.Names.{Name}
use Rattle.js_tree.specs.Tree.{Func, Code}
use Rattle.js_tree.specs.Tree as tree

abbrev mutual
  pub vars_in : tree.Stmt → List Name
  vars_in (tree.Block body) = vars_in_all body
  vars_in (tree.Variables items) = vars_in_items items
  vars_in tree.Empty = []
  vars_in (tree.Do e) = []
  vars_in (tree.If test first second) = vars_in first ++ vars_in_other second
  vars_in (tree.DoWhile body test) = vars_in body
  vars_in (tree.While test body) = vars_in body
  vars_in (tree.For first test update body) = vars_in_first first ++ vars_in body
  vars_in (tree.ForIn target object body) = vars_in_target target ++ vars_in body
  vars_in (tree.Continue label) = []
  vars_in (tree.Break label) = []
  vars_in (tree.Return value) = []
  vars_in (tree.Switch value cases) = vars_in_cases cases
  vars_in (tree.Label name body) = vars_in body
  vars_in (tree.Throw e) = []
  vars_in (tree.Try block handler last) =
      vars_in block ++ (vars_in_handler handler ++ vars_in_other last)
  vars_in (tree.Declare f) = []
  vars_in (tree.Used n) = []

  pub vars_in_all : tree.Stmts → List Name
  vars_in_all tree.NoStmts = []
  vars_in_all (tree.MoreStmts s rest) = vars_in s ++ vars_in_all rest

  pub vars_in_other : tree.MaybeStmt → List Name
  vars_in_other tree.NoStmt = []
  vars_in_other (tree.AStmt s) = vars_in s

  pub vars_in_handler : tree.Handler → List Name
  vars_in_handler tree.NoHandler = []
  vars_in_handler (tree.ACatch name block) = vars_in block

  pub vars_in_first : tree.ForInit → List Name
  vars_in_first tree.Nothing = []
  vars_in_first (tree.Vars items) = vars_in_items items
  vars_in_first (tree.First e) = []

  pub vars_in_target : tree.ForTarget → List Name
  vars_in_target (tree.AVar name value) = name ∷ []
  vars_in_target (tree.Target e) = []

  pub vars_in_items : tree.VarItems → List Name
  vars_in_items tree.NoVarItems = []
  vars_in_items (tree.MoreVarItems name value rest) = name ∷ vars_in_items rest

  pub vars_in_cases : tree.Cases → List Name
  vars_in_cases tree.NoCases = []
  vars_in_cases (tree.MoreCases test body rest) = vars_in_all body ++ vars_in_cases rest

-- declarations stand directly in the code
abbrev pub with_function : tree.Stmt → List Func → List Func
with_function (tree.Declare f) fs = f ∷ fs
with_function s fs = fs

abbrev pub functions_of : tree.Stmts → List Func
functions_of tree.NoStmts = []
functions_of (tree.MoreStmts s rest) = with_function s (functions_of rest)

abbrev pub with_name : Func → List Name → List Name
with_name (Code number (Some name) formals body role) names = name ∷ names
with_name (Code number None formals body role) names = names

abbrev pub names_of : List Func → List Name
names_of [] = []
names_of (f ∷ fs) = with_name f (names_of fs)
