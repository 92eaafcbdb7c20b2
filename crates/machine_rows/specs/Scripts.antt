-- Scripts of the rows, each beside its text.
use Rattle.std.specs.Prelude.{ℕ, true, List, [], ◌∷◌, ◌++◌, codes, Some, None}
use Rattle.js_tree.specs.declared.tree.BinaryOp.TheVariants as op
use Rattle.js_tree.specs.declared.tree.PostfixOp.TheVariants as postfix
use Rattle.js_tree.specs.declared.tree.PrefixOp.TheVariants as prefix
use Rattle.js_tree.specs.declared.tree.Role.TheVariants.{Plain}
use Rattle.js_tree.specs.Tree.{Name, Expr, Stmt, Code, NoExpr, AnExpr, NoStmt, AStmt, NoHandler}
use Rattle.js_tree.specs.Tree.{ACatch, Nothing, Vars, First, AVar, Target, MoreVarItems, NoVarItems}
use Rattle.js_tree.specs.Tree.{MoreCases, NoCases}
use Rattle.js_tree.specs.Tree as tree
use Rattle.machine_rows.specs.Writing.{block, name, text, number, call, new, array, object}
use Rattle.machine_rows.specs.Writing.{function, shows, sets, calls, blocks, var, declare, returns}
use Rattle.machine_rows.specs.Writing.{a, b, e, f, g, i, k, o, x}

-- ---- parts that come again

abbrev pub arguments : Expr
arguments = name (codes "arguments")

abbrev pub vars : Name → Expr → tree.ForInit
vars x e = Vars (MoreVarItems x (AnExpr e) NoVarItems)

-- `for(var x=0;x<n;x++)`
abbrev pub counts : Name → ℕ → Stmt → Stmt
counts x n body =
    tree.For (vars x (number 0)) (AnExpr (tree.Binary op.Less (name x) (number n)))
    (AnExpr (tree.Postfix (name x) postfix.Increment)) body

-- `for(var x in object)`
abbrev pub visits : Name → Expr → Stmt → Stmt
visits x object body = tree.ForIn (AVar x NoExpr) object body

abbrev pub dot : Expr → Name → Expr
dot object x = tree.Dot object x

abbrev pub at : Expr → Expr → Expr
at object key = tree.Index object key

-- ---- numbers, loops and jumps

-- `var s=0;for(var i=1;i<=3;i++){if(i==2)continue;s+=i;}host.out(s,-7%4,1<<31,"a"+1);`
abbrev pub sums : List Stmt
sums =
    var (codes "s") (number 0)
    ∷ tree.For (vars i (number 1)) (AnExpr (tree.Binary op.LessEqual (name i) (number 3)))
    (AnExpr (tree.Postfix (name i) postfix.Increment)) (blocks (
    tree.If (tree.Binary op.Equal (name i) (number 2)) (tree.Continue None) NoStmt
    ∷ tree.Do (tree.Assign (Some op.Add) (name (codes "s")) (name i)) ∷ []))
    ∷ shows (name (codes "s")
    ∷ tree.Binary op.Remainder (tree.Prefix prefix.Minus (number 7)) (number 4)
    ∷ tree.Binary op.ShiftLeft (number 1) (number 31)
    ∷ tree.Binary op.Add (text a) (number 1) ∷ []) ∷ []

-- `a:for(var i=0;i<3;i++){for(;;){if(i==1)break a;continue a;}}host.out(i);`
abbrev pub jumps : List Stmt
jumps =
    tree.Label a (counts i 3 (blocks (
    tree.For Nothing NoExpr NoExpr (blocks (
    tree.If (tree.Binary op.Equal (name i) (number 1)) (tree.Break (Some a)) NoStmt
    ∷ tree.Continue (Some a) ∷ [])) ∷ [])))
    ∷ shows (name i ∷ []) ∷ []

-- `switch(2){case 1:host.out(1);default:host.out(0);case 3:host.out(3);}`
abbrev pub chooses : List Stmt
chooses =
    tree.Switch (number 2)
    (MoreCases (AnExpr (number 1)) (block (shows (number 1 ∷ []) ∷ []))
    (MoreCases NoExpr (block (shows (number 0 ∷ []) ∷ []))
    (MoreCases (AnExpr (number 3)) (block (shows (number 3 ∷ []) ∷ [])) NoCases))) ∷ []

-- `try{host.out(6/2);7/2;}catch(e){host.out("no");}`
abbrev pub divides : List Stmt
divides =
    tree.Try (blocks (shows (tree.Binary op.Divide (number 6) (number 2) ∷ [])
    ∷ tree.Do (tree.Binary op.Divide (number 7) (number 2)) ∷ []))
    (ACatch e (blocks (shows (text (codes "no") ∷ []) ∷ []))) NoStmt ∷ []

-- `host.out(9007199254740991);host.out(9007199254740991+1);`
abbrev pub passes_the_top : List Stmt
passes_the_top =
    shows (number 9007199254740991 ∷ [])
    ∷ shows (tree.Binary op.Add (number 9007199254740991) (number 1) ∷ []) ∷ []

-- `while(true){host.out("t");}`
abbrev pub never_ends : List Stmt
never_ends = tree.While (tree.Truth true) (blocks (shows (text (codes "t") ∷ []) ∷ [])) ∷ []

-- `throw {};`
abbrev pub throws : List Stmt
throws = tree.Throw (object []) ∷ []

-- ---- objects and arrays

-- `var o={a:1,b:2};delete o.a;o.a=3;for(var k in o)host.out(k,o[k]);`
abbrev pub visits_again : List Stmt
visits_again =
    var o (object ((a, number 1) ∷ (b, number 2) ∷ []))
    ∷ tree.Do (tree.Prefix prefix.Delete (dot (name o) a))
    ∷ sets (dot (name o) a) (number 3)
    ∷ visits k (name o) (shows (name k ∷ at (name o) (name k) ∷ [])) ∷ []

-- `var a=[1,2,3];a.length=1;a[3]=9;host.out(a.length,a[1],3 in a);`
abbrev pub shortens : List Stmt
shortens =
    var a (array (number 1 ∷ number 2 ∷ number 3 ∷ []))
    ∷ sets (dot (name a) (codes "length")) (number 1)
    ∷ sets (at (name a) (number 3)) (number 9)
    ∷ shows (dot (name a) (codes "length") ∷ at (name a) (number 1)
    ∷ tree.Binary op.In (number 3) (name a) ∷ []) ∷ []

-- `var o={};o["$dl_"+"x"]=1;`
abbrev pub takes_a_reserved_name : List Stmt
takes_a_reserved_name =
    var o (object [])
    ∷ sets (at (name o) (tree.Binary op.Add (text (codes "$dl_")) (text x))) (number 1) ∷ []

-- `host.out([1,[2,3]].join("-"),"a,b".split(",").length,parseInt("12px"),(255).toString(16),0/0);`
abbrev pub converts : List Stmt
converts =
    shows (call (dot (array (number 1 ∷ array (number 2 ∷ number 3 ∷ []) ∷ [])) (codes "join"))
    (text (codes "-") ∷ [])
    ∷ dot (call (dot (text (codes "a,b")) (codes "split")) (text (codes ",") ∷ []))
    (codes "length")
    ∷ call (name (codes "parseInt")) (text (codes "12px") ∷ [])
    ∷ call (dot (number 255) (codes "toString")) (number 16 ∷ [])
    ∷ tree.Binary op.Divide (number 0) (number 0) ∷ []) ∷ []

-- `String.prototype.twice=function(){return this+this;};`
-- `host.out("ab".twice(),typeof Object(1),new Number(5)+1);`
abbrev pub enters_with_a_text : List Stmt
enters_with_a_text =
    sets (dot (dot (name (codes "String")) (codes "prototype")) (codes "twice"))
    (function 1 [] (returns (tree.Binary op.Add tree.This tree.This) ∷ []))
    ∷ shows (call (dot (text (codes "ab")) (codes "twice")) []
    ∷ tree.Prefix prefix.TypeOf (call (name (codes "Object")) (number 1 ∷ []))
    ∷ tree.Binary op.Add (new (name (codes "Number")) (number 5 ∷ [])) (number 1) ∷ []) ∷ []

-- ---- functions

-- `function f(){host.out("one");}function g(){host.out("two");}f();g();host.out("three");`, where
-- these statements stand first in the body of f
abbrev pub tells_three : List Stmt → List Stmt
tells_three first =
    declare 1 f [] (first ++ shows (text (codes "one") ∷ []) ∷ [])
    ∷ declare 2 g [] (shows (text (codes "two") ∷ []) ∷ [])
    ∷ calls (name f) [] ∷ calls (name g) [] ∷ shows (text (codes "three") ∷ []) ∷ []

-- `function f(){f=g;return "f";}function g(){return "g";}var b=g;g=function(){return "n";};`
-- `host.out(b(),f(),f());`
abbrev pub replaces_functions : List Stmt
replaces_functions =
    declare 1 f [] (sets (name f) (name g) ∷ returns (text f) ∷ [])
    ∷ declare 2 g [] (returns (text g) ∷ [])
    ∷ var b (name g)
    ∷ sets (name g) (function 3 [] (returns (text (codes "n")) ∷ []))
    ∷ shows (call (name b) [] ∷ call (name f) [] ∷ call (name f) [] ∷ []) ∷ []

-- `var g=function h(n){return n?h(n-1):h===g;};host.out(g(2));`
abbrev pub knows_its_name : List Stmt
knows_its_name =
    var g (tree.Function (Code 1 (Some (codes "h")) (codes "n" ∷ []) (block (
    returns (tree.Cond (name (codes "n"))
    (call (name (codes "h")) (tree.Binary op.Subtract (name (codes "n")) (number 1) ∷ []))
    (tree.Binary op.Same (name (codes "h")) (name g))) ∷ [])) Plain))
    ∷ shows (call (name g) (number 2 ∷ []) ∷ []) ∷ []

-- `function mk(x){return function(){return x++;};}var a=mk(10),b=mk(20);`
-- `host.out(a(),b(),a(),b());`
abbrev pub keeps_scopes : List Stmt
keeps_scopes =
    declare 1 (codes "mk") (x ∷ []) (
    returns (function 2 [] (returns (tree.Postfix (name x) postfix.Increment) ∷ [])) ∷ [])
    ∷ tree.Variables (MoreVarItems a (AnExpr (call (name (codes "mk")) (number 10 ∷ [])))
    (MoreVarItems b (AnExpr (call (name (codes "mk")) (number 20 ∷ []))) NoVarItems))
    ∷ shows (call (name a) [] ∷ call (name b) [] ∷ call (name a) [] ∷ call (name b) [] ∷ []) ∷ []

-- `function f(x){arguments[0]=5;return x;}host.out(f(1),f());`
abbrev pub shares_arguments : List Stmt
shares_arguments =
    declare 1 f (x ∷ []) (sets (at arguments (number 0)) (number 5) ∷ returns (name x) ∷ [])
    ∷ shows (call (name f) (number 1 ∷ []) ∷ call (name f) [] ∷ []) ∷ []

-- `function f(){try{throw 1;}finally{return 2;}}host.out(f());`
abbrev pub returns_at_last : List Stmt
returns_at_last =
    declare 1 f [] (tree.Try (blocks (tree.Throw (number 1) ∷ [])) NoHandler
    (AStmt (blocks (returns (number 2) ∷ []))) ∷ [])
    ∷ shows (call (name f) [] ∷ []) ∷ []

-- `for(var k in this)host.out(k);function f(){}f();`
abbrev pub visits_the_global_object : List Stmt
visits_the_global_object =
    visits k tree.This (shows (name k ∷ [])) ∷ declare 1 f [] [] ∷ calls (name f) [] ∷ []

-- the last statements of the following: `var o={m:F};o.m(1,2);host.out(o.n,o.a);var p=new F(3);`
-- `host.out(p.n,p.a,p.constructor===F);F.call(o,4,5,6);host.out(o.n,o.a,F.length);`
abbrev pub uses_a_constructor : List Stmt
uses_a_constructor =
    var o (object ((codes "m", name (codes "F")) ∷ []))
    ∷ calls (dot (name o) (codes "m")) (number 1 ∷ number 2 ∷ [])
    ∷ shows (dot (name o) (codes "n") ∷ dot (name o) a ∷ [])
    ∷ var (codes "p") (new (name (codes "F")) (number 3 ∷ []))
    ∷ shows (dot (name (codes "p")) (codes "n") ∷ dot (name (codes "p")) a
    ∷ tree.Binary op.Same (dot (name (codes "p")) (codes "constructor")) (name (codes "F"))
    ∷ [])
    ∷ calls (dot (name (codes "F")) (codes "call"))
    (name o ∷ number 4 ∷ number 5 ∷ number 6 ∷ [])
    ∷ shows (dot (name o) (codes "n") ∷ dot (name o) a
    ∷ dot (name (codes "F")) (codes "length") ∷ []) ∷ []

-- `this.n=arguments.length;this.a=a;`
abbrev pub keeps_arguments : List Stmt
keeps_arguments =
    sets (dot tree.This (codes "n")) (dot arguments (codes "length"))
    ∷ sets (dot tree.This a) (name a) ∷ []

-- `function F(a){..}` with this body, and then the others
abbrev pub constructs : List Stmt
constructs = declare 1 (codes "F") (a ∷ []) keeps_arguments ∷ uses_a_constructor

-- `var fs=[];for(var i=0;i<3;i++){try{throw i;}catch(e){fs.push(F);}}`
-- `for(var j=0;j<2;j++)for(var k=0;k<3;k++)host.out(fs[k]());`, where F is this function
abbrev pub catches : Expr → List Stmt
catches function =
    var (codes "fs") (array [])
    ∷ counts i 3 (blocks (tree.Try (blocks (tree.Throw (name i) ∷ []))
    (ACatch e (blocks (calls (dot (name (codes "fs")) (codes "push")) (function ∷ []) ∷ [])))
    NoStmt ∷ []))
    ∷ counts (codes "j") 2 (counts k 3 (
    shows (call (at (name (codes "fs")) (name k)) [] ∷ []))) ∷ []
