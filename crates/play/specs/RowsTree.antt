-- Scripts by their trees, past the first grammar: returned values, other properties, and `apply`.
use Rattle.std.specs.Prelude.{ℕ, List, [], ◌∷◌, codes, Some}
use Rattle.js_tree.specs.Tree
use Rattle.js_tree.specs.Tree.{Name, Expr, Exprs, Stmt, Stmts, NoStmts, MoreStmts, Script}
use Rattle.js_tree.specs.declared.tree.Role.TheVariants.{Plain}
use Rattle.first_grammar.specs.First.{apply_name, arguments_name, host_name, out_name}
use Rattle.play.specs.Page.{original}
use Rattle.play.specs.Rows as rows
use Rattle.play.specs.Rows.{Timed}

abbrev pub text : List ℕ → Expr
text units = Tree.Str units

abbrev pub f : Expr
f = Tree.Ident (codes "f")

abbrev pub arguments_of : List Expr → Exprs
arguments_of [] = Tree.NoExprs
arguments_of (e ∷ es) = Tree.MoreExprs e (arguments_of es)

abbrev pub call : Expr → List Expr → Expr
call callee args = Tree.Call callee (arguments_of args)

-- `host.NAME(ARGS)`
abbrev pub host_call : Name → List Expr → Expr
host_call name args = call (Tree.Dot (Tree.Ident host_name) name) args

-- `f.apply(ARGS)`
abbrev pub apply : List Expr → Expr
apply args = call (Tree.Dot f apply_name) args

abbrev pub body_of : List Stmt → Stmts
body_of [] = NoStmts
body_of (s ∷ ss) = MoreStmts s (body_of ss)

-- `function NAME(){BODY}` of this number
abbrev pub declares : ℕ → Name → List Stmt → Stmt
declares number name body = Tree.Declare (Tree.Code number (Some name) [] (body_of body) Plain)

-- the marks of a script of these statements
abbrev pub marks_of : List Stmt → List Timed
marks_of ss = rows.marks (original (body_of ss) 100)

-- `host.out(f());`, where f has this body
abbrev pub shows_value : List Stmt → List Stmt
shows_value body =
    declares 1 (codes "f") body ∷ Tree.Do (host_call out_name (call f [] ∷ [])) ∷ []

-- `return "a";host.out("b");`
abbrev pub returns_a : List Stmt
returns_a =
    Tree.Return (Tree.AnExpr (text (codes "a")))
    ∷ Tree.Do (host_call out_name (text (codes "b") ∷ [])) ∷ []

-- a call of `f.apply`, where f has an empty body
abbrev pub applies : List Expr → List Stmt
applies args = declares 1 (codes "f") [] ∷ Tree.Do (apply args) ∷ []

-- `function f(){}function g(){f.apply(this,arguments);}g("x","y");`
abbrev pub hands_on : List Stmt
hands_on =
    declares 1 (codes "f") []
    ∷ declares 2 (codes "g") (Tree.Do (apply (Tree.This ∷ Tree.Ident arguments_name ∷ [])) ∷ [])
    ∷ Tree.Do (call (Tree.Ident (codes "g")) (text (codes "x") ∷ text (codes "y") ∷ [])) ∷ []
