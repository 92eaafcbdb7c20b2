-- Sites that put back, and their neighbours that do not.
use Rattle.std.specs.Prelude.{ℕ, List, [], ◌∷◌, codes, Some, None, Option, cond, nat_eq}
use Rattle.js_tree.specs.Tree.{Name, Func, Stmts, NoStmts, MoreStmts, Code, Declare, Script}
use Rattle.js_tree.specs.declared.tree.Role.{Role}
use Rattle.js_tree.specs.declared.tree.Role.TheVariants.{Plain, Stub, Late}
use Rattle.first_grammar.specs.First.{statements_tree, stub_tree}
use Rattle.first_grammar.specs.declared.script.FirstStatement.TheVariants.{Call, Out}
use Rattle.play.specs.PutBack.{PutsBack}
use Rattle.play.specs.Rows as rows

-- the listed entries, the stubs' numbers and the script put back to no script
abbrev pub PutsNotBack : List ℕ → List ℕ → Script → Type 0
PutsNotBack listed stubs script =
    (original : Script) → PutsBack rows.entry_two listed stubs script original → ⊥

-- an entry of this number alone
abbrev pub only : ℕ → Func → ℕ → Option Func
only number f k = cond (nat_eq k number) (Some f) None

abbrev pub none : ℕ → Option Func
none k = None

abbrev pub body : Stmts
body = statements_tree (Out (codes "two") ∷ Call 102 ∷ [])

-- functions of one formal, or of two
abbrev pub stub : List Name → Func
stub formals = Code 2 (Some (codes "g")) formals (stub_tree 2) Stub

abbrev pub entry : List Name → Func
entry formals = Code 2 None formals body Late

abbrev pub plain : List Name → Func
plain formals = Code 2 (Some (codes "g")) formals body Plain

-- a script of one function
abbrev pub script_of : Func → Script
script_of f = MoreStmts (Declare f) NoStmts

abbrev pub role_of : Role → Func
role_of role = Code 2 (Some (codes "g")) [] body role

abbrev pub a : Name
a = codes "a"

abbrev pub b : Name
b = codes "b"

-- the example's script with its functions the other way round
abbrev pub turned : Script
turned =
    MoreStmts (Declare (Code 2 (Some (codes "g")) [] (stub_tree 2) Stub))
    (MoreStmts (Declare (Code 1 (Some (codes "f")) [] NoStmts Plain)) NoStmts)
