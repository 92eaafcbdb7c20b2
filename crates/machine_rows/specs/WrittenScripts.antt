-- Written forms of the scripts of the rows, with the entries of their late functions.
use Rattle.std.specs.Prelude.{ℕ, List, [], ◌∷◌, ◌++◌, codes, Option, Some, None}
use Rattle.object_heap.specs.Names.{Name, decimal}
use Rattle.js_tree.specs.declared.tree.BinaryOp.TheVariants as op
use Rattle.js_tree.specs.declared.tree.PostfixOp.TheVariants as postfix
use Rattle.js_tree.specs.declared.tree.PrefixOp.TheVariants as prefix
use Rattle.js_tree.specs.declared.tree.Role.TheVariants as role
use Rattle.js_tree.specs.Tree.{Expr, Stmt, Func, Code, NoExpr, AnExpr, NoStmt, AStmt, NoHandler}
use Rattle.js_tree.specs.Tree.{NoVarItems, MoreVarItems, VarItems}
use Rattle.js_tree.specs.Tree as tree
use Rattle.js_machine.specs.Logs.{marks_of, seen}
use Rattle.js_machine.specs.Page.{written}
use Rattle.machine_rows.specs.Pages.{listens}
use Rattle.machine_rows.specs.Rows.{page, ample}
use Rattle.js_machine.specs.Run.{Mark, Trace}
use Rattle.machine_rows.specs.Scripts as script
use Rattle.machine_rows.specs.Scripts.{arguments, dot, at}
use Rattle.machine_rows.specs.Writing.{block, name, text, number, call, shows, sets, calls}
use Rattle.machine_rows.specs.Writing.{blocks, var, returns, a, b, e, f, g, k, x}

-- ---- stubs

-- `f.apply(this,arguments)`
abbrev pub applied : Expr → Expr
applied f = call (dot f (codes "apply")) (tree.This ∷ arguments ∷ [])

-- of form 1: `return eval($dl_get(k)).apply(this,arguments);`
abbrev pub first_form : ℕ → List Stmt
first_form k = returns (applied (tree.Late k)) ∷ []

-- of form 2: `if(!$dl_rk)$dl_rk=eval($dl_get(k));return $dl_rk.apply(this,arguments);`
abbrev pub cell_name : ℕ → Name
cell_name k = codes "$dl_r" ++ decimal k

abbrev pub cell : ℕ → Expr
cell k = name (cell_name k)

abbrev pub second_form : ℕ → List Stmt
second_form k =
    tree.If (tree.Prefix prefix.Not (cell k)) (sets (cell k) (tree.Late k)) NoStmt
    ∷ returns (applied (cell k)) ∷ []

-- `var $dl_rk,..;`
abbrev pub cell_items : List ℕ → VarItems
cell_items [] = NoVarItems
cell_items (k ∷ ks) = MoreVarItems (cell_name k) NoExpr (cell_items ks)

abbrev pub cells : List ℕ → Stmt
cells ks = tree.Variables (cell_items ks)

-- a stub of entry k, with this body
abbrev pub stub : ℕ → Option Name → List Name → List Stmt → Func
stub k x formals body = Code k x formals (block body) role.Stub

abbrev pub declared_stub : ℕ → Name → List Name → List Stmt → Stmt
declared_stub k x formals body = tree.Declare (stub k (Some x) formals body)

-- of form 1, in an expression
abbrev pub first_stub : ℕ → Option Name → List Name → Expr
first_stub k x formals = tree.Function (stub k x formals (first_form k))

-- of form 2, in its wrapper: `(function(){var $dl_rk;return function NAME(formals){..};})()`
abbrev pub second_stub : ℕ → Option Name → List Name → Expr
second_stub k x formals =
    call (tree.Function (Code 0 None [] (block (cells (k ∷ [])
    ∷ returns (tree.Function (stub k x formals (second_form k))) ∷ [])) role.Wrapper)) []

-- ---- entries

abbrev pub Entries : Type 0
Entries = List (ℕ × Func)

abbrev pub entry : ℕ → List Name → List Stmt → ℕ × Func
entry k formals body = (k, Code k None formals (block body) role.Late)

-- ---- runs

abbrev pub written_run : Entries → List Stmt → Trace
written_run entries ss = written entries (block ss ∷ []) page ample

abbrev pub written_lines : Entries → List Stmt → List Mark
written_lines entries ss = seen (marks_of (written_run entries ss))

-- ---- `tells_three`, where f stays

abbrev pub tells_two : Entries
tells_two = entry 2 [] (shows (text (codes "two") ∷ []) ∷ []) ∷ []

abbrev pub tells_three_with : List Stmt → List Stmt → List Stmt
tells_three_with first body =
    first ++ tree.Declare (Code 1 (Some f) [] (block (shows (text (codes "one") ∷ []) ∷ []))
    role.Plain)
    ∷ declared_stub 2 g [] body
    ∷ calls (name f) [] ∷ calls (name g) [] ∷ shows (text (codes "three") ∷ []) ∷ []

abbrev pub tells_three_first : List Stmt
tells_three_first = tells_three_with [] (first_form 2)

abbrev pub tells_three_second : List Stmt
tells_three_second = tells_three_with (cells (2 ∷ []) ∷ []) (second_form 2)

-- ---- the others: all their functions are stubs

abbrev pub constructs_entries : Entries
constructs_entries = entry 1 (a ∷ []) script.keeps_arguments ∷ []

abbrev pub constructs : List Stmt
constructs = declared_stub 1 (codes "F") (a ∷ []) (first_form 1) ∷ script.uses_a_constructor

abbrev pub catches_entries : Entries
catches_entries = entry 1 [] (returns (name e) ∷ []) ∷ []

abbrev pub replaces_entries : Entries
replaces_entries =
    entry 1 [] (sets (name f) (name g) ∷ returns (text f) ∷ [])
    ∷ entry 2 [] (returns (text g) ∷ []) ∷ entry 3 [] (returns (text (codes "n")) ∷ []) ∷ []

-- with this in the place of the third function
abbrev pub replaces_with : Stmt → List Stmt → List Stmt → Expr → List Stmt
replaces_with first one two third =
    first ∷ declared_stub 1 f [] one ∷ declared_stub 2 g [] two
    ∷ var b (name g) ∷ sets (name g) third
    ∷ shows (call (name b) [] ∷ call (name f) [] ∷ call (name f) [] ∷ []) ∷ []

abbrev pub replaces_first : List Stmt
replaces_first = replaces_with tree.Empty (first_form 1) (first_form 2) (first_stub 3 None [])

abbrev pub replaces_second : List Stmt
replaces_second =
    replaces_with (cells (1 ∷ 2 ∷ [])) (second_form 1) (second_form 2) (second_stub 3 None [])

abbrev pub knows_its_name_entries : Entries
knows_its_name_entries =
    entry 1 (codes "n" ∷ []) (returns (tree.Cond (name (codes "n"))
    (call (name (codes "h")) (tree.Binary op.Subtract (name (codes "n")) (number 1) ∷ []))
    (tree.Binary op.Same (name (codes "h")) (name g))) ∷ []) ∷ []

abbrev pub knows_its_name_with : Expr → List Stmt
knows_its_name_with function =
    var g function ∷ shows (call (name g) (number 2 ∷ []) ∷ []) ∷ []

abbrev pub named_formals : List Name
named_formals = codes "n" ∷ []

abbrev pub keeps_scopes_entries : (ℕ → Option Name → List Name → Expr) → Entries
keeps_scopes_entries inner =
    entry 1 (x ∷ []) (returns (inner 2 None []) ∷ [])
    ∷ entry 2 [] (returns (tree.Postfix (name x) postfix.Increment) ∷ []) ∷ []

abbrev pub keeps_scopes_with : Stmt → List Stmt → List Stmt
keeps_scopes_with first body =
    first ∷ declared_stub 1 (codes "mk") (x ∷ []) body
    ∷ tree.Variables (MoreVarItems a (AnExpr (call (name (codes "mk")) (number 10 ∷ [])))
    (MoreVarItems b (AnExpr (call (name (codes "mk")) (number 20 ∷ []))) NoVarItems))
    ∷ shows (call (name a) [] ∷ call (name b) [] ∷ call (name a) [] ∷ call (name b) [] ∷ []) ∷ []

abbrev pub shares_entries : Entries
shares_entries =
    entry 1 (x ∷ []) (sets (at arguments (number 0)) (number 5) ∷ returns (name x) ∷ []) ∷ []

abbrev pub shares_with : Stmt → List Stmt → List Stmt
shares_with first body =
    first ∷ declared_stub 1 f (x ∷ []) body
    ∷ shows (call (name f) (number 1 ∷ []) ∷ call (name f) [] ∷ []) ∷ []

abbrev pub returns_entries : Entries
returns_entries =
    entry 1 [] (tree.Try (blocks (tree.Throw (number 1) ∷ [])) NoHandler
    (AStmt (blocks (returns (number 2) ∷ []))) ∷ []) ∷ []

abbrev pub returns_with : Stmt → List Stmt → List Stmt
returns_with first body =
    first ∷ declared_stub 1 f [] body ∷ shows (call (name f) [] ∷ []) ∷ []

abbrev pub visits_entries : Entries
visits_entries = entry 1 [] [] ∷ []

abbrev pub visits_the_global_object : List Stmt
visits_the_global_object =
    cells (1 ∷ []) ∷ script.visits k tree.This (shows (name k ∷ []))
    ∷ declared_stub 1 f [] (second_form 1) ∷ calls (name f) [] ∷ []

-- ---- a page

abbrev pub goes_entries : Entries
goes_entries =
    entry 1 [] (shows (text f ∷ []) ∷ []) ∷ entry 2 [] (calls (name f) [] ∷ []) ∷ []

abbrev pub goes : List Stmt
goes =
    declared_stub 1 f [] (first_form 1)
    ∷ listens (codes "go") (first_stub 2 None []) ∷ []
