-- The first grammar: what its scripts and cluster files hold, the text of each, and the tree of
-- each.
--
--   script     items, then one line feed
--   item       a statement or a function
--   statement  N();   or   host.out("CHARS");
--   function   function N(){ statements }
--              or   function N(){return eval($dl_get(K)).apply(this,arguments);}
--   entry      K (function(){ statements }) and one line feed
--
-- N is a lower-case letter, CHARS are printable ASCII characters without `"` and the backslash, K
-- is a function number.
use Rattle.std.specs.Prelude.{◌≡◌, ◌≢◌, ◌≤◌, ℕ, List, [], ◌∷◌, ◌++◌, Some, codes, All}
use Rattle.std.specs.List.{flat_map}
use Rattle.std.specs.Fmt.{decimal}
use Rattle.js_tree.specs.Tree
use Rattle.js_tree.specs.Numbering.{last_function_number}
use Rattle.js_tree.specs.declared.tree.Role.TheVariants.{Plain}
use Rattle.first_grammar.specs.declared.script.FirstStatement.{FirstStatement}
use Rattle.first_grammar.specs.declared.script.FirstStatement.TheVariants.{Call, Out}
use Rattle.first_grammar.specs.declared.script.FirstBody.{FirstBody}
use Rattle.first_grammar.specs.declared.script.FirstBody.TheVariants.{Statements, Stub}
use Rattle.first_grammar.specs.declared.script.FirstFunction.{FirstFunction}
use Rattle.first_grammar.specs.declared.script.FirstItem.{FirstItem}
use Rattle.first_grammar.specs.declared.script.FirstItem.TheVariants.{Statement, Function}
use Rattle.first_grammar.specs.declared.script.FirstScript.{FirstScript}
use Rattle.first_grammar.specs.declared.script.FirstEntry.{FirstEntry}

-- ---- what is of the grammar

abbrev pub IsLetter : ℕ → Type 0
IsLetter c = (97 ≤ c) × (c ≤ 122)

-- a character that stands in a string as it is
abbrev pub IsPlainCharacter : ℕ → Type 0
IsPlainCharacter c = (32 ≤ c) × (c ≤ 126) × (c ≢ 34) × (c ≢ 92)

abbrev pub IsFunctionNumber : ℕ → Type 0
IsFunctionNumber k = (1 ≤ k) × (k ≤ last_function_number)

abbrev pub IsStatement : FirstStatement → Type 0
IsStatement (Call letter) = IsLetter letter
IsStatement (Out characters) = All IsPlainCharacter characters

abbrev pub IsBody : FirstBody → Type 0
IsBody (Statements ss) = All IsStatement ss
IsBody (Stub k) = IsFunctionNumber k

abbrev pub IsItem : FirstItem → Type 0
IsItem (Statement s) = IsStatement s
IsItem (Function f) = IsLetter f.name × IsBody f.body

abbrev pub IsEntry : FirstEntry → Type 0
IsEntry e = IsFunctionNumber e.number × All IsStatement e.body

-- ---- its text

abbrev pub statement_text : FirstStatement → List ℕ
statement_text (Call letter) = letter ∷ codes "();"
statement_text (Out characters) = codes "host.out(\"" ++ (characters ++ codes "\");")

abbrev pub body_text : FirstBody → List ℕ
body_text (Statements ss) = flat_map statement_text ss
body_text (Stub k) =
    codes "return eval($dl_get(" ++ (decimal k ++ codes ")).apply(this,arguments);")

abbrev pub item_text : FirstItem → List ℕ
item_text (Statement s) = statement_text s
item_text (Function f) =
    codes "function " ++ (f.name ∷ (codes "(){" ++ (body_text f.body ++ codes "}")))

abbrev pub script_text : FirstScript → List ℕ
script_text s = flat_map item_text s.items ++ 10 ∷ []

abbrev pub entry_text : FirstEntry → List ℕ
entry_text e =
    decimal e.number
    ++ (codes " (function(){" ++ (flat_map statement_text e.body ++ codes "})\n"))

abbrev pub cluster_text : List FirstEntry → List ℕ
cluster_text es = flat_map entry_text es

-- the text is that of this script
abbrev pub IsScriptOf : List ℕ → FirstScript → Type 0
IsScriptOf text s = All IsItem s.items × (script_text s ≡ text)

-- the text is that of the cluster file of these entries
abbrev pub IsClusterOf : List ℕ → List FirstEntry → Type 0
IsClusterOf text es = All IsEntry es × (cluster_text es ≡ text)

-- ---- its tree

abbrev pub host_name : Tree.Name
host_name = codes "host"

abbrev pub out_name : Tree.Name
out_name = codes "out"

-- `host.out`
abbrev pub host_out : Tree.Expr
host_out = Tree.Dot (Tree.Ident host_name) out_name

abbrev pub apply_name : Tree.Name
apply_name = codes "apply"

abbrev pub arguments_name : Tree.Name
arguments_name = codes "arguments"

abbrev pub statement_tree : FirstStatement → Tree.Stmt
statement_tree (Call letter) = Tree.Do (Tree.Call (Tree.Ident (letter ∷ [])) Tree.NoExprs)
statement_tree (Out characters) =
    Tree.Do (Tree.Call host_out (Tree.MoreExprs (Tree.Str characters) Tree.NoExprs))

abbrev pub statements_tree : List FirstStatement → Tree.Stmts
statements_tree [] = Tree.NoStmts
statements_tree (s ∷ ss) = Tree.MoreStmts (statement_tree s) (statements_tree ss)

-- `f.apply(this,arguments)`
abbrev pub applied : Tree.Expr → Tree.Expr
applied f =
    let names = Tree.MoreExprs (Tree.Ident arguments_name) Tree.NoExprs in
    Tree.Call (Tree.Dot f apply_name) (Tree.MoreExprs Tree.This names)

-- `return eval($dl_get(k)).apply(this,arguments);`
abbrev pub stub_tree : ℕ → Tree.Stmts
stub_tree k = Tree.MoreStmts (Tree.Return (Tree.AnExpr (applied (Tree.Late k)))) Tree.NoStmts

abbrev pub body_tree : FirstBody → Tree.Stmts
body_tree (Statements ss) = statements_tree ss
body_tree (Stub k) = stub_tree k

-- a text says no number and no role
abbrev pub function_tree : FirstFunction → Tree.Func
function_tree f = Tree.Code 0 (Some (f.name ∷ [])) [] (body_tree f.body) Plain

abbrev pub item_tree : FirstItem → Tree.Stmt
item_tree (Statement s) = statement_tree s
item_tree (Function f) = Tree.Declare (function_tree f)

abbrev pub items_tree : List FirstItem → Tree.Script
items_tree [] = Tree.NoStmts
items_tree (i ∷ is) = Tree.MoreStmts (item_tree i) (items_tree is)

-- the text is that of this tree by the first grammar
pub record IsTextOf (tree : Tree.Script) (text : List ℕ) : Type 0 where
  pub script : FirstScript
  pub of_grammar : All IsItem script.items
  pub tree_is : items_tree script.items ≡ tree
  pub text_is : script_text script ≡ text
