-- Small scripts of the rows on ES3 10, 13 and 15.3, each beside its text.
use Rattle.std.specs.Prelude.{List, [], ◌∷◌, codes, Some, true, ◌++◌}
use Rattle.js_tree.specs.declared.tree.BinaryOp.TheVariants as op
use Rattle.js_tree.specs.declared.tree.PrefixOp.TheVariants as prefix
use Rattle.js_tree.specs.declared.tree.Role.TheVariants.{Plain}
use Rattle.js_tree.specs.Tree.{Name, Expr, Stmt, Code, NoExpr, MoreVarItems, NoVarItems, NoStmt}
use Rattle.js_tree.specs.Tree.{ACatch}
use Rattle.js_tree.specs.Tree as tree
use Rattle.machine_rows.specs.Writing.{block, name, text, number, call, new, array, object}
use Rattle.machine_rows.specs.Writing.{function, shows, sets, calls, blocks, var, declare, returns}
use Rattle.machine_rows.specs.Writing.{does, counted, spelled, a, b, e, f, k, o, x}
use Rattle.machine_rows.specs.Scripts.{arguments, dot, at, visits}
use Rattle.machine_rows.specs.ExpressionScripts.{binary, unary, one, two, empty, same, minus}

-- `var x;`
abbrev pub variable : Name → Stmt
variable x = tree.Variables (MoreVarItems x NoExpr NoVarItems)

-- ---- 10.1.3

-- `host.out(f(),x);var x=1;function f(){return 1;}function f(){return 2;}`
abbrev pub declares_first : List Stmt
declares_first =
    shows (call (name f) [] ∷ name x ∷ []) ∷ var x one ∷ declare 1 f [] (returns one ∷ [])
    ∷ declare 2 f [] (returns two ∷ []) ∷ []

-- `function f(a,b,x){var a;var b=5;function x(){}host.out(a,b,typeof x);}f(1,2,3);`
abbrev pub binds_in_order : List Stmt
binds_in_order =
    declare 1 f (a ∷ b ∷ x ∷ []) (variable a ∷ var b (number 5) ∷ declare 2 x [] []
    ∷ shows (name a ∷ name b ∷ unary prefix.TypeOf (name x) ∷ []) ∷ [])
    ∷ calls (name f) (one ∷ two ∷ number 3 ∷ []) ∷ []

-- `var valueOf;host.out(valueOf,typeof toString);`
abbrev pub declares_own : List Stmt
declares_own =
    variable (codes "valueOf")
    ∷ shows (name (codes "valueOf") ∷ unary prefix.TypeOf (name (codes "toString")) ∷ []) ∷ []

-- `a=1;b=2;`, and then `function a(){}var b;for(var k in this)host.out(k);`
-- `host.out(delete a,delete b,delete k);`
abbrev pub makes_globals : List Stmt
makes_globals = sets (name a) one ∷ sets (name b) two ∷ []

abbrev pub declares_again : List Stmt
declares_again =
    declare 1 a [] [] ∷ variable b ∷ visits k tree.This (shows (name k ∷ []))
    ∷ shows (unary prefix.Delete (name a) ∷ unary prefix.Delete (name b)
    ∷ unary prefix.Delete (name k) ∷ []) ∷ []

-- `undefined=1;NaN=2;host.out(undefined,NaN,delete undefined,void 0);`
abbrev pub writes_constants : List Stmt
writes_constants =
    sets (name (codes "undefined")) one ∷ sets (name (codes "NaN")) two
    ∷ shows (name (codes "undefined") ∷ name (codes "NaN")
    ∷ unary prefix.Delete (name (codes "undefined")) ∷ unary prefix.Void (number 0) ∷ []) ∷ []

-- ---- 10.1.8

-- `function f(x){x=2;host.out(arguments[0],arguments.length,arguments[1]);arguments[1]=4;`
-- `delete arguments[0];arguments[0]=5;host.out(x,arguments[0]);`
-- `for(var k in arguments)host.out(k);}f(1,3);`
abbrev pub shares : List Stmt
shares =
    declare 1 f (x ∷ []) (sets (name x) two
    ∷ shows (at arguments (number 0) ∷ dot arguments (codes "length") ∷ at arguments one ∷ [])
    ∷ does (unary prefix.Delete (at arguments (number 0)))
    ∷ sets (at arguments (number 0)) (number 5)
    ∷ shows (name x ∷ at arguments (number 0) ∷ [])
    ∷ visits k arguments (shows (name k ∷ [])) ∷ [])
    ∷ calls (name f) (one ∷ number 3 ∷ []) ∷ []

-- `function f(a,b){b=2;host.out(arguments.length,arguments[1],a,b);}f();`
abbrev pub shares_nothing : List Stmt
shares_nothing =
    declare 1 f (a ∷ b ∷ []) (sets (name b) two
    ∷ shows (dot arguments (codes "length") ∷ at arguments one ∷ name a ∷ name b ∷ []) ∷ [])
    ∷ calls (name f) [] ∷ []

-- ---- 13, 13.2

-- `(function f(){f=1;host.out(typeof f,delete f);})();host.out(typeof f);`
abbrev pub keeps_its_name : List Stmt
keeps_its_name =
    calls (tree.Function (Code 1 (Some f) [] (block (sets (name f) one
    ∷ shows (unary prefix.TypeOf (name f) ∷ unary prefix.Delete (name f) ∷ []) ∷ [])) Plain)) []
    ∷ shows (unary prefix.TypeOf (name f) ∷ []) ∷ []

-- `function f(a,b){}for(var k in f)host.out(k);f.prototype.x=1;`
-- `host.out(f.length,f.prototype.constructor===f,new f().x,delete f.prototype,delete f.length);`
-- `for(var k in new f())host.out(k);`
abbrev pub has_a_prototype : List Stmt
has_a_prototype =
    declare 1 f (a ∷ b ∷ []) [] ∷ visits k (name f) (shows (name k ∷ []))
    ∷ sets (dot (dot (name f) (codes "prototype")) x) one
    ∷ shows (dot (name f) (codes "length")
    ∷ same (dot (dot (name f) (codes "prototype")) (codes "constructor")) (name f)
    ∷ dot (new (name f) []) x ∷ unary prefix.Delete (dot (name f) (codes "prototype"))
    ∷ unary prefix.Delete (dot (name f) (codes "length")) ∷ [])
    ∷ visits k (new (name f) []) (shows (name k ∷ [])) ∷ []

-- `function f(x){this.x=1;return x;}var o={x:2};f.prototype=1;`
-- `host.out(new f(o).x,new f(3).x,new f() instanceof Object);`
abbrev pub returns_from_new : List Stmt
returns_from_new =
    declare 1 f (x ∷ []) (sets (dot tree.This x) one ∷ returns (name x) ∷ [])
    ∷ var o (object ((x, two) ∷ [])) ∷ sets (dot (name f) (codes "prototype")) one
    ∷ shows (dot (new (name f) (name o ∷ [])) x ∷ dot (new (name f) (number 3 ∷ [])) x
    ∷ binary op.InstanceOf (new (name f) []) (name (codes "Object")) ∷ []) ∷ []

-- `new Math.abs(1);`, `new host.out(1);`, `new Math(1);`
abbrev pub constructs : Expr → List Stmt
constructs callee = does (new callee (one ∷ [])) ∷ []

-- `new Array(3).length,new Object() instanceof Object,new RangeError("x").message`
abbrev pub constructed : List Expr
constructed =
    dot (new (name (codes "Array")) (number 3 ∷ [])) (codes "length")
    ∷ binary op.InstanceOf (new (name (codes "Object")) []) (name (codes "Object"))
    ∷ dot (new (name (codes "RangeError")) (text x ∷ [])) (codes "message") ∷ []

-- ---- 10.2.3, 15.3.4

-- `function f(a,b){return this===o?a:b;}var o={};` and then `f.call(o,1,2),f.call(null,1,2),`
-- `f.apply(o,[1,2]),f.apply(undefined,[1,2]),f.apply(o),f.call()`
abbrev pub chooses_by_this : List Stmt
chooses_by_this =
    declare 1 f (a ∷ b ∷ [])
    (returns (tree.Cond (same tree.This (name o)) (name a) (name b)) ∷ [])
    ∷ var o empty ∷ []

abbrev pub applied : List Expr
applied =
    call (dot (name f) (codes "call")) (name o ∷ one ∷ two ∷ [])
    ∷ call (dot (name f) (codes "call")) (tree.Null ∷ one ∷ two ∷ [])
    ∷ call (dot (name f) (codes "apply")) (name o ∷ array (one ∷ two ∷ []) ∷ [])
    ∷ call (dot (name f) (codes "apply"))
    (name (codes "undefined") ∷ array (one ∷ two ∷ []) ∷ [])
    ∷ call (dot (name f) (codes "apply")) (name o ∷ []) ∷ call (dot (name f) (codes "call")) []
    ∷ []

-- `host.out(this===o)` from a script's `f()`, where `this` is the global object
abbrev pub this_of_a_call : List Stmt
this_of_a_call =
    declare 1 f [] (returns tree.This ∷ []) ∷ shows (same (call (name f) []) tree.This ∷ []) ∷ []

-- `try{throw function(){return this;};}catch(e){host.out(e()===this);}`
abbrev pub this_of_a_caught_call : List Stmt
this_of_a_caught_call =
    tree.Try (blocks (tree.Throw (function 1 [] (returns tree.This ∷ [])) ∷ []))
    (ACatch e (blocks (shows (same (call (name e) []) tree.This ∷ []) ∷ []))) NoStmt ∷ []

-- `Math.abs.apply(null,{});`, `Math.abs.apply(null,1);`
abbrev pub applies : Expr → List Stmt
applies list =
    calls (dot (dot (name (codes "Math")) (codes "abs")) (codes "apply")) (tree.Null ∷ list ∷ [])
    ∷ []

-- `var o={apply:Math.abs.apply};o.apply();` and with a text in the place of o
abbrev pub applies_no_function : List Stmt
applies_no_function =
    var o (object ((x, dot (dot (name (codes "Math")) (codes "abs")) (codes "apply")) ∷ []))
    ∷ calls (dot (name o) x) [] ∷ []

abbrev pub applies_a_text : List Stmt
applies_a_text =
    sets (dot (dot (name (codes "String")) (codes "prototype")) x)
    (dot (dot (name (codes "Math")) (codes "abs")) (codes "apply"))
    ∷ calls (dot (text a) x) [] ∷ []

-- `function f(){}f.apply(null,[1,2,3]);` and `function f(){}f.call(null,1,2,3);`
abbrev pub applies_three : List Stmt
applies_three =
    declare 1 f [] []
    ∷ calls (dot (name f) (codes "apply"))
    (tree.Null ∷ array (one ∷ two ∷ number 3 ∷ []) ∷ []) ∷ []

abbrev pub calls_with_three : List Stmt
calls_with_three =
    declare 1 f [] []
    ∷ calls (dot (name f) (codes "call")) (tree.Null ∷ one ∷ two ∷ number 3 ∷ []) ∷ []

-- `1();`, `({})();`, `host.nope();`
abbrev pub calls_value : Expr → List Stmt
calls_value callee = calls callee [] ∷ []

-- `host.out(host.out.length,host.on.length,Math.abs.call.length,Math.abs.apply.length)`
abbrev pub lengths : List Expr
lengths =
    dot (dot (name (codes "host")) (codes "out")) (codes "length")
    ∷ dot (dot (name (codes "host")) (codes "on")) (codes "length")
    ∷ dot (dot (dot (name (codes "Math")) (codes "abs")) (codes "call")) (codes "length")
    ∷ dot (dot (dot (name (codes "Math")) (codes "abs")) (codes "apply")) (codes "length") ∷ []

-- `function f(){return this===o;}var o={};` and then `f.apply(o),f.apply(),f.call(o),f.call()`
abbrev pub tests_this : List Stmt
tests_this = declare 1 f [] (returns (same tree.This (name o)) ∷ []) ∷ var o empty ∷ []

abbrev pub this_values : List Expr
this_values =
    call (dot (name f) (codes "apply")) (name o ∷ []) ∷ call (dot (name f) (codes "apply")) []
    ∷ call (dot (name f) (codes "call")) (name o ∷ []) ∷ call (dot (name f) (codes "call")) [] ∷ []

-- `(function(c){c();})(Math.abs.call)`, `Math.abs.call.call(null)`
abbrev pub calls_undefined : List Stmt
calls_undefined =
    calls (function 1 (a ∷ []) (calls (name a) [] ∷ []))
    (dot (dot (name (codes "Math")) (codes "abs")) (codes "call") ∷ []) ∷ []

abbrev pub calls_null : List Stmt
calls_null =
    calls (dot (dot (dot (name (codes "Math")) (codes "abs")) (codes "call")) (codes "call"))
    (tree.Null ∷ []) ∷ []

-- lists that `apply` does not take: functions of each kind, Math, an error, a boolean and a text
abbrev pub no_lists : List Expr
no_lists =
    dot (name (codes "Math")) (codes "abs") ∷ function 1 [] []
    ∷ dot (name (codes "host")) (codes "out") ∷ name (codes "Math")
    ∷ new (name (codes "Error")) [] ∷ tree.Truth true ∷ text a ∷ []

-- `Object.prototype.toString.call(e)` of a function of each kind, and of what `nope` throws
abbrev pub class_of : Expr → Expr
class_of e = call (dot (dot empty (codes "toString")) (codes "call")) (e ∷ [])

abbrev pub classes : List Expr
classes =
    class_of (function 1 [] []) ∷ class_of (dot (name (codes "Math")) (codes "abs"))
    ∷ class_of (dot (name (codes "host")) (codes "out")) ∷ class_of (array [])
    ∷ class_of empty ∷ []

abbrev pub class_of_an_error : List Stmt
class_of_an_error =
    tree.Try (blocks (does (name (codes "nope")) ∷ []))
    (ACatch e (blocks (shows (class_of (name e)
    ∷ binary op.InstanceOf (name e) (name (codes "ReferenceError"))
    ∷ call (dot (name e) (codes "hasOwnProperty")) (text (codes "message") ∷ []) ∷ []) ∷ [])))
    NoStmt ∷ []

-- `(255).toString(99);`, `[1,2,3].join();`, and `var a=[1,,];a.reverse();host.out(0 in a,a[1]);`
abbrev pub throws_a_range_error : List Stmt
throws_a_range_error = calls (dot (number 255) (codes "toString")) (number 99 ∷ []) ∷ []

abbrev pub joins : List Stmt
joins = calls (dot (array (one ∷ two ∷ number 3 ∷ [])) (codes "join")) [] ∷ []

abbrev pub reverses : List Stmt
reverses =
    var a (tree.Array (tree.MoreElements (tree.AnExpr one)
    (tree.MoreElements NoExpr tree.NoElements)))
    ∷ calls (dot (name a) (codes "reverse")) []
    ∷ shows (binary op.In (number 0) (name a) ∷ at (name a) one ∷ []) ∷ []

-- `function f(){$dl_use(1);}f();`
abbrev pub uses_alone : List Stmt
uses_alone = declare 1 f [] (tree.Used 1 ∷ []) ∷ calls (name f) [] ∷ []

-- `new RangeError("x")+"",new TypeError()+""`
abbrev pub error_texts : List Expr
error_texts =
    binary op.Add (new (name (codes "RangeError")) (text x ∷ [])) (text [])
    ∷ binary op.Add (new (name (codes "TypeError")) []) (text []) ∷ []

-- `function f(){}host.out(f());`
abbrev pub returns_nothing : List Stmt
returns_nothing = declare 1 f [] [] ∷ shows (call (name f) [] ∷ []) ∷ []

-- `f=function(){};f.prototype=1;` and then `1 instanceof f`, `{} instanceof f`
abbrev pub without_prototype : List Stmt
without_prototype =
    sets (name f) (function 1 [] []) ∷ sets (dot (name f) (codes "prototype")) one ∷ []

abbrev pub number_of_it : Expr
number_of_it = binary op.InstanceOf one (name f)

abbrev pub object_of_it : List Stmt
object_of_it = without_prototype ++ does (binary op.InstanceOf empty (name f)) ∷ []

-- `{} instanceof Math.abs`
abbrev pub object_of_a_native : List Stmt
object_of_a_native =
    does (binary op.InstanceOf empty (dot (name (codes "Math")) (codes "abs"))) ∷ []

-- `Array.prototype.isPrototypeOf([]),{}.isPrototypeOf.call([],Array.prototype),`
-- `{a:1}.hasOwnProperty("a"),{a:1}.propertyIsEnumerable("a"),[1].concat(2).length,`
-- `[].slice(0) instanceof Array,Math.abs({valueOf:..}),parseInt({toString:..})`, where the methods
-- show `a` and `b`
abbrev pub array_prototype : Expr
array_prototype = dot (name (codes "Array")) (codes "prototype")

abbrev pub asked : List Expr
asked =
    call (dot array_prototype (codes "isPrototypeOf")) (array [] ∷ [])
    ∷ call (dot (dot empty (codes "isPrototypeOf")) (codes "call"))
    (array [] ∷ array_prototype ∷ [])
    ∷ call (dot (object ((a, one) ∷ [])) (codes "hasOwnProperty")) (text a ∷ [])
    ∷ call (dot (object ((a, one) ∷ [])) (codes "propertyIsEnumerable")) (text a ∷ [])
    ∷ dot (call (dot (array (one ∷ [])) (codes "concat")) (two ∷ [])) (codes "length")
    ∷ binary op.InstanceOf (call (dot (array []) (codes "slice")) (number 0 ∷ []))
    (name (codes "Array"))
    ∷ call (dot (name (codes "Math")) (codes "abs")) (counted a (minus 3) ∷ [])
    ∷ call (name (codes "parseInt")) (spelled b (text (codes "7")) ∷ []) ∷ []
