-- Small expressions and scripts of the rows on ES3 11, each beside its text.
use Rattle.std.specs.Prelude.{ℕ, true, false, List, [], ◌∷◌, codes, Some}
use Rattle.js_tree.specs.declared.tree.BinaryOp.{BinaryOp}
use Rattle.js_tree.specs.declared.tree.BinaryOp.TheVariants as op
use Rattle.js_tree.specs.declared.tree.PostfixOp.TheVariants as postfix
use Rattle.js_tree.specs.declared.tree.PrefixOp.{PrefixOp}
use Rattle.js_tree.specs.declared.tree.PrefixOp.TheVariants as prefix
use Rattle.js_tree.specs.Tree.{Name, Expr, Stmt, NoExpr, AnExpr, MoreElements, NoElements}
use Rattle.js_tree.specs.Tree as tree
use Rattle.machine_rows.specs.Writing.{name, text, number, call, new, array, object, set, out}
use Rattle.machine_rows.specs.Writing.{function, shows, sets, calls, var, declare, returns, does}
use Rattle.machine_rows.specs.Writing.{spelled}
use Rattle.machine_rows.specs.Writing.{a, b, e, f, g, i, k, o, x}
use Rattle.machine_rows.specs.Scripts.{dot, at}

abbrev pub one : Expr
one = number 1

abbrev pub two : Expr
two = number 2

abbrev pub binary : BinaryOp → Expr → Expr → Expr
binary op left right = tree.Binary op left right

abbrev pub unary : PrefixOp → Expr → Expr
unary op e = tree.Prefix op e

abbrev pub minus : ℕ → Expr
minus n = unary prefix.Minus (number n)

abbrev pub nan : Expr
nan = binary op.Divide (number 0) (number 0)

abbrev pub empty : Expr
empty = object []

abbrev pub nothing : Expr
nothing = name (codes "undefined")

-- a name that is nowhere bound
abbrev pub nope : Expr
nope = name (codes "nope")

abbrev pub same : Expr → Expr → Expr
same left right = binary op.Same left right

-- ---- 11.1

-- `1,"a",true,false,null,undefined`
abbrev pub literals : List Expr
literals = one ∷ text a ∷ tree.Truth true ∷ tree.Truth false ∷ tree.Null ∷ nothing ∷ []

-- `[1,,2]` and `[1,,]`
abbrev pub with_hole : Expr
with_hole = tree.Array (MoreElements (AnExpr one) (MoreElements NoExpr
    (MoreElements (AnExpr two) NoElements)))

abbrev pub with_last_hole : Expr
with_last_hole = tree.Array (MoreElements (AnExpr one) (MoreElements NoExpr NoElements))

-- `[1,,2].length,[1,,2][2],1 in [1,,2],2 in [1,,2],[1,,].length,[].length`
abbrev pub arrays : List Expr
arrays =
    dot with_hole (codes "length") ∷ at with_hole two ∷ binary op.In one with_hole
    ∷ binary op.In two with_hole ∷ dot with_last_hole (codes "length")
    ∷ dot (array []) (codes "length") ∷ []

-- `{a:1,b:2,a:3}.a,{a:1}.b,{a:1}.constructor===Object`
abbrev pub objects : List Expr
objects =
    dot (object ((a, one) ∷ (b, two) ∷ (a, number 3) ∷ [])) a ∷ dot (object ((a, one) ∷ [])) b
    ∷ same (dot (object ((a, one) ∷ [])) (codes "constructor")) (name (codes "Object")) ∷ []

-- `this===this,typeof this,[] instanceof Array,{} instanceof Array`
abbrev pub identities : List Expr
identities =
    same tree.This tree.This ∷ unary prefix.TypeOf tree.This
    ∷ binary op.InstanceOf (array []) (name (codes "Array"))
    ∷ binary op.InstanceOf empty (name (codes "Array")) ∷ []

-- ---- 11.2

-- `"ab".length,"ab"[0],"ab".x,(1).constructor===Number,true.constructor===Boolean,`
-- `"".constructor===String`
abbrev pub of_primitives : List Expr
of_primitives =
    dot (text (codes "ab")) (codes "length") ∷ at (text (codes "ab")) (number 0)
    ∷ dot (text (codes "ab")) x
    ∷ same (dot one (codes "constructor")) (name (codes "Number"))
    ∷ same (dot (tree.Truth true) (codes "constructor")) (name (codes "Boolean"))
    ∷ same (dot (text []) (codes "constructor")) (name (codes "String")) ∷ []

-- `null[host.out(1)];`, and `null[{toString:function(){host.out("k");return "x";}}];`
abbrev pub reads_of_null : List Stmt
reads_of_null = does (at tree.Null (out (one ∷ []))) ∷ []

abbrev pub reads_of_null_by_object : List Stmt
reads_of_null_by_object = does (at tree.Null (spelled k (text x))) ∷ []

-- `{1:2}[1],{x:3}[{toString:function(){host.out("k");return "x";}}]`
abbrev pub by_keys : List Expr
by_keys =
    at (object ((codes "1", two) ∷ [])) one ∷ at (object ((x, number 3) ∷ [])) (spelled k (text x))
    ∷ []

-- `function g(){host.out("g");}function f(){host.out("f");}f(f=g);`
abbrev pub changes_its_callee : List Stmt
changes_its_callee =
    declare 1 g [] (shows (text g ∷ []) ∷ []) ∷ declare 2 f [] (shows (text f ∷ []) ∷ [])
    ∷ calls (name f) (set (name f) (name g) ∷ []) ∷ []

-- the same with `new f(f=g);`
abbrev pub changes_its_constructor : List Stmt
changes_its_constructor =
    declare 1 g [] (shows (text g ∷ []) ∷ []) ∷ declare 2 f [] (shows (text f ∷ []) ∷ [])
    ∷ does (new (name f) (set (name f) (name g) ∷ [])) ∷ []

-- `nope(host.out(1));`, `nope(nope=function(){});`, `q=1;q(delete q);` and `new 1(host.out(2));`
abbrev pub calls_nothing : List Stmt
calls_nothing = calls nope (out (one ∷ []) ∷ []) ∷ []

abbrev pub calls_what_is_bound_late : List Stmt
calls_what_is_bound_late = calls nope (set nope (function 1 [] []) ∷ []) ∷ []

abbrev pub calls_what_is_deleted : List Stmt
calls_what_is_deleted =
    sets (name (codes "q")) one
    ∷ calls (name (codes "q")) (unary prefix.Delete (name (codes "q")) ∷ []) ∷ []

abbrev pub constructs_nothing : List Stmt
constructs_nothing = does (new one (out (two ∷ []) ∷ [])) ∷ []

-- `this===o` from `o.m()`, `o["m"]()`, `(0,o.m)()`
abbrev pub this_of_calls : List Stmt
this_of_calls =
    var o (object ((codes "m", function 1 [] (returns (same tree.This (name o)) ∷ [])) ∷ []))
    ∷ shows (call (dot (name o) (codes "m")) [] ∷ call (at (name o) (text (codes "m"))) []
    ∷ call (tree.Comma (number 0) (dot (name o) (codes "m"))) [] ∷ []) ∷ []

-- ---- 11.3, 11.4

-- `var i=5;host.out(i++,i,++i,i--,--i);` and `var i="5";host.out(i++,i);`
abbrev pub steps_of_i : List Expr
steps_of_i =
    tree.Postfix (name i) postfix.Increment ∷ name i ∷ unary prefix.Increment (name i)
    ∷ tree.Postfix (name i) postfix.Decrement ∷ unary prefix.Decrement (name i) ∷ []

abbrev pub steps_of_text : List Expr
steps_of_text = tree.Postfix (name i) postfix.Increment ∷ name i ∷ []

-- `typeof` of undefined, null, true, 1, "", {}, function(){}, host.out, Math.abs and nope
abbrev pub types : List Expr
types =
    unary prefix.TypeOf nothing ∷ unary prefix.TypeOf tree.Null
    ∷ unary prefix.TypeOf (tree.Truth true) ∷ unary prefix.TypeOf one
    ∷ unary prefix.TypeOf (text []) ∷ unary prefix.TypeOf empty
    ∷ unary prefix.TypeOf (function 1 [] [])
    ∷ unary prefix.TypeOf (dot (name (codes "host")) (codes "out"))
    ∷ unary prefix.TypeOf (dot (name (codes "Math")) (codes "abs"))
    ∷ unary prefix.TypeOf nope ∷ []

-- `var v=1;q=1;` and then `delete` of v, q, nope, [].length, {}.x, 1, "ab".length and "ab".x, and
-- `typeof q`
abbrev pub before_deletes : List Stmt
before_deletes = var (codes "v") one ∷ sets (name (codes "q")) one ∷ []

abbrev pub deletes : List Expr
deletes =
    unary prefix.Delete (name (codes "v")) ∷ unary prefix.Delete (name (codes "q"))
    ∷ unary prefix.Delete nope ∷ unary prefix.Delete (dot (array []) (codes "length"))
    ∷ unary prefix.Delete (dot empty x) ∷ unary prefix.Delete one
    ∷ unary prefix.Delete (dot (text (codes "ab")) (codes "length"))
    ∷ unary prefix.Delete (dot (text (codes "ab")) x) ∷ unary prefix.TypeOf (name (codes "q"))
    ∷ []

-- `void 1,+"12",-"3",-(0/0),~5,~"4294967295",!0,!"a",+null,+undefined,+true`
abbrev pub unary_values : List Expr
unary_values =
    unary prefix.Void one ∷ unary prefix.Plus (text (codes "12"))
    ∷ unary prefix.Minus (text (codes "3")) ∷ unary prefix.Minus nan
    ∷ unary prefix.BitNot (number 5) ∷ unary prefix.BitNot (text (codes "4294967295"))
    ∷ unary prefix.Not (number 0) ∷ unary prefix.Not (text a) ∷ unary prefix.Plus tree.Null
    ∷ unary prefix.Plus nothing ∷ unary prefix.Plus (tree.Truth true) ∷ []

-- ---- 11.11 to 11.14

-- `0&&host.out(1),2&&3,0||4,5||host.out(1),1?6:host.out(1),0?host.out(1):7,(host.out(8),9)`
abbrev pub choices : List Expr
choices =
    tree.And (number 0) (out (one ∷ [])) ∷ tree.And two (number 3) ∷ tree.Or (number 0) (number 4)
    ∷ tree.Or (number 5) (out (one ∷ [])) ∷ tree.Cond one (number 6) (out (one ∷ []))
    ∷ tree.Cond (number 0) (out (one ∷ [])) (number 7)
    ∷ tree.Comma (out (number 8 ∷ [])) (number 9) ∷ []

-- `var x=1;` and then `x+=(x=10),x,x=3,x`
abbrev pub assignments : List Expr
assignments =
    tree.Assign (Some op.Add) (name x) (set (name x) (number 10)) ∷ name x
    ∷ set (name x) (number 3) ∷ name x ∷ []

-- `q=1;host.out(this.q);`
abbrev pub makes_a_global : List Stmt
makes_a_global = sets (name (codes "q")) one ∷ shows (dot tree.This (codes "q") ∷ []) ∷ []

-- `var o={};(host.out("o"),o)[{toString:function(){host.out("k");return "x";}}]=host.out("v");`
abbrev pub order_of_assignment : List Stmt
order_of_assignment =
    var o empty
    ∷ sets (at (tree.Comma (out (text o ∷ [])) (name o)) (spelled k (text x)))
    (out (text (codes "v") ∷ [])) ∷ []

-- `function f(a){}f.length=5;"ab".x=1;var o={};o.a=1;` and then `f.length,"ab".x,o.a`
abbrev pub writes : List Stmt
writes =
    declare 1 f (a ∷ []) [] ∷ sets (dot (name f) (codes "length")) (number 5)
    ∷ sets (dot (text (codes "ab")) x) one ∷ var o empty ∷ sets (dot (name o) a) one ∷ []

abbrev pub behind_writes : List Expr
behind_writes =
    dot (name f) (codes "length") ∷ dot (text (codes "ab")) x ∷ dot (name o) a ∷ []

-- `[].length=e;`
abbrev pub sets_length : Expr → List Stmt
sets_length e = sets (dot (array []) (codes "length")) e ∷ []
