-- Trees of the rows, written by hand.
use Rattle.std.specs.Prelude.{ℕ, List, [], ◌∷◌, codes, Some, None}
use Rattle.js_tree.specs.declared.tree.Role.TheVariants.{Plain}
use Rattle.js_tree.specs.Tree.{Name, Expr, Exprs, NoExprs, MoreExprs, MaybeExpr, NoExpr, AnExpr}
use Rattle.js_tree.specs.Tree.{Stmt, Stmts, NoStmts, MoreStmts, Func, Code, VarItems, NoVarItems}
use Rattle.js_tree.specs.Tree.{MoreVarItems, Elements, NoElements, MoreElements, Pairs, NoPairs}
use Rattle.js_tree.specs.Tree.{MorePairs}
use Rattle.js_tree.specs.Tree as tree

-- ---- lists

abbrev pub block : List Stmt → Stmts
block [] = NoStmts
block (s ∷ ss) = MoreStmts s (block ss)

abbrev pub expressions : List Expr → Exprs
expressions [] = NoExprs
expressions (e ∷ es) = MoreExprs e (expressions es)

abbrev pub elements : List Expr → Elements
elements [] = NoElements
elements (e ∷ es) = MoreElements (AnExpr e) (elements es)

abbrev pub pairs : List (Name × Expr) → Pairs
pairs [] = NoPairs
pairs (p ∷ ps) = MorePairs p.0 p.1 (pairs ps)

-- ---- expressions

abbrev pub name : Name → Expr
name x = tree.Ident x

abbrev pub text : Name → Expr
text x = tree.Str x

abbrev pub number : ℕ → Expr
number n = tree.Num n

abbrev pub call : Expr → List Expr → Expr
call callee arguments = tree.Call callee (expressions arguments)

abbrev pub new : Expr → List Expr → Expr
new callee arguments = tree.New callee (expressions arguments)

abbrev pub array : List Expr → Expr
array es = tree.Array (elements es)

abbrev pub object : List (Name × Expr) → Expr
object ps = tree.Object (pairs ps)

abbrev pub set : Expr → Expr → Expr
set target value = tree.Assign None target value

-- `host.out(..)`
abbrev pub out : List Expr → Expr
out arguments = call (tree.Dot (name (codes "host")) (codes "out")) arguments

abbrev pub function : ℕ → List Name → List Stmt → Expr
function number formals body = tree.Function (Code number None formals (block body) Plain)

-- ---- statements

abbrev pub shows : List Expr → Stmt
shows arguments = tree.Do (out arguments)

abbrev pub sets : Expr → Expr → Stmt
sets target value = tree.Do (set target value)

abbrev pub calls : Expr → List Expr → Stmt
calls callee arguments = tree.Do (call callee arguments)

abbrev pub blocks : List Stmt → Stmt
blocks ss = tree.Block (block ss)

-- `var x=e;`
abbrev pub var : Name → Expr → Stmt
var x e = tree.Variables (MoreVarItems x (AnExpr e) NoVarItems)

abbrev pub declare : ℕ → Name → List Name → List Stmt → Stmt
declare number x formals body = tree.Declare (Code number (Some x) formals (block body) Plain)

abbrev pub returns : Expr → Stmt
returns e = tree.Return (AnExpr e)

-- `try{..}catch(e){host.out(e.name);}`
abbrev pub tries : List Stmt → Stmt
tries ss =
    tree.Try (blocks ss) (tree.ACatch (codes "e") (blocks (
    shows (tree.Dot (name (codes "e")) (codes "name") ∷ []) ∷ []))) tree.NoStmt

-- `x;`, and `return;` of nothing
abbrev pub does : Expr → Stmt
does e = tree.Do e

-- ---- objects that tell when they are converted

-- `valueOf:function(){host.out("x");return e;}`, or with another name
abbrev pub telling : Name → Name → Expr → Name × Expr
telling method x e = (method, function 9 [] (shows (text x ∷ []) ∷ returns e ∷ []))

abbrev pub value_of : Name
value_of = codes "valueOf"

abbrev pub to_string : Name
to_string = codes "toString"

-- an object whose number, or whose text, is e; `x` is shown when it is converted
abbrev pub counted : Name → Expr → Expr
counted x e = object (telling value_of x e ∷ [])

abbrev pub spelled : Name → Expr → Expr
spelled x e = object (telling to_string x e ∷ [])

-- ---- names

abbrev pub a : Name
a = codes "a"

abbrev pub b : Name
b = codes "b"

abbrev pub e : Name
e = codes "e"

abbrev pub f : Name
f = codes "f"

abbrev pub g : Name
g = codes "g"

abbrev pub i : Name
i = codes "i"

abbrev pub k : Name
k = codes "k"

abbrev pub o : Name
o = codes "o"

abbrev pub x : Name
x = codes "x"
