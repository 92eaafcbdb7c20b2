-- Small scripts of the rows on ES3 12, each beside its text.
use Rattle.std.specs.Prelude.{ℕ, true, false, List, [], ◌∷◌, codes, Some, None}
use Rattle.js_tree.specs.declared.tree.BinaryOp.TheVariants as op
use Rattle.js_tree.specs.declared.tree.PostfixOp.TheVariants as postfix
use Rattle.js_tree.specs.declared.tree.PrefixOp.TheVariants as prefix
use Rattle.js_tree.specs.Tree.{Name, Expr, Stmt, NoExpr, AnExpr, MoreVarItems, NoVarItems, NoStmt}
use Rattle.js_tree.specs.Tree.{AStmt, NoHandler, ACatch, AVar, Target, MoreCases, NoCases, Nothing}
use Rattle.js_tree.specs.Tree as tree
use Rattle.machine_rows.specs.Writing.{block, name, text, number, call, object, out, b}
use Rattle.machine_rows.specs.Writing.{shows, sets, blocks, var, declare, returns}
use Rattle.machine_rows.specs.Writing.{does, a, e, f, i, k, o, x}
use Rattle.machine_rows.specs.Writing.{spelled}
use Rattle.machine_rows.specs.Scripts.{counts, dot, at, visits}
use Rattle.machine_rows.specs.ExpressionScripts.{binary, unary, one, two, empty}

abbrev pub says : Name → Stmt
says x = shows (text x ∷ [])

abbrev pub tells : Expr → Stmt
tells e = shows (e ∷ [])

-- ---- 12.1 to 12.5

-- `{host.out("a");host.out("b");};var x=1,o;var x;host.out(x,o);`
abbrev pub blocks_and_variables : List Stmt
blocks_and_variables =
    blocks (says a ∷ says b ∷ []) ∷ tree.Empty
    ∷ tree.Variables (MoreVarItems x (AnExpr one) (MoreVarItems o NoExpr NoVarItems))
    ∷ tree.Variables (MoreVarItems x NoExpr NoVarItems) ∷ shows (name x ∷ name o ∷ []) ∷ []

-- `if("")host.out("a");if("")host.out("a");else host.out("b");`
-- `if("x")host.out("x");else host.out("a");`
abbrev pub conditions : List Stmt
conditions =
    tree.If (text []) (says a) NoStmt ∷ tree.If (text []) (says a) (AStmt (says b))
    ∷ tree.If (text x) (says x) (AStmt (says a)) ∷ []

-- ---- 12.6 to 12.8

-- `i<n`
abbrev pub below : ℕ → Expr
below n = binary op.Less (name i) (number n)

abbrev pub next : Expr
next = tree.Postfix (name i) postfix.Increment

-- `if(i==n)s`
abbrev pub when : ℕ → Stmt → Stmt
when n s = tree.If (binary op.Equal (name i) (number n)) s NoStmt

-- `do{host.out("x");}while(false);`
abbrev pub does_once : List Stmt
does_once = tree.DoWhile (blocks (says x ∷ [])) (tree.Truth false) ∷ []

-- `var i=0;do{i++;if(i==2)continue;host.out(i);}while(i<3);`
abbrev pub does_on : List Stmt
does_on =
    var i (number 0)
    ∷ tree.DoWhile (blocks (does next ∷ when 2 (tree.Continue None) ∷ tells (name i) ∷ []))
    (below 3) ∷ []

-- `var i=0;while(i<5){i++;if(i==2)continue;if(i==4)break;host.out(i);}host.out("x");`
abbrev pub goes_on : List Stmt
goes_on =
    var i (number 0)
    ∷ tree.While (below 5) (blocks (does next ∷ when 2 (tree.Continue None)
    ∷ when 4 (tree.Break None) ∷ tells (name i) ∷ []))
    ∷ says x ∷ []

-- `var i=0;for(;;){if(i==2)break;i++;}host.out(i);`
abbrev pub has_no_parts : List Stmt
has_no_parts =
    var i (number 0)
    ∷ tree.For Nothing NoExpr NoExpr (blocks (when 2 (tree.Break None) ∷ does next ∷ []))
    ∷ tells (name i) ∷ []

-- `for(host.out("a");host.out("b");host.out("x"))host.out("k");`
abbrev pub has_all_parts : List Stmt
has_all_parts =
    tree.For (tree.First (out (text a ∷ []))) (AnExpr (out (text b ∷ [])))
    (AnExpr (out (text x ∷ []))) (says k) ∷ []

-- `for(var i=0;i<2;i++){if(i==0)continue;host.out(i);}`
abbrev pub updates : List Stmt
updates = counts i 2 (blocks (when 0 (tree.Continue None) ∷ tells (name i) ∷ [])) ∷ []

-- ---- 12.6.4

-- `var o={a:1,b:1,k:1};for(var k in o){delete o.b;o.x=1;host.out(k);}`
abbrev pub changes_while_visited : List Stmt
changes_while_visited =
    var o (object ((a, one) ∷ (b, one) ∷ (k, one) ∷ []))
    ∷ visits k (name o) (blocks (does (unary prefix.Delete (dot (name o) b))
    ∷ sets (dot (name o) x) one ∷ tells (name k) ∷ [])) ∷ []

-- `Object.prototype.b=1;Object.prototype.x=1;for(k in {a:1,x:2})host.out(k);`
abbrev pub visits_prototypes : List Stmt
visits_prototypes =
    sets (dot (dot (name (codes "Object")) (codes "prototype")) b) one
    ∷ sets (dot (dot (name (codes "Object")) (codes "prototype")) x) one
    ∷ tree.ForIn (Target (name k)) (object ((a, one) ∷ (x, two) ∷ [])) (tells (name k)) ∷ []

-- `String.prototype.x=1;for(var k in "ab")host.out(k);`
abbrev pub visits_a_text : List Stmt
visits_a_text =
    sets (dot (dot (name (codes "String")) (codes "prototype")) x) one
    ∷ visits k (text (codes "ab")) (tells (name k)) ∷ []

-- `for(var k in null);`
abbrev pub visits_null : List Stmt
visits_null = visits k tree.Null tree.Empty ∷ []

-- `for(var k=host.out("a") in (host.out("b"),{}))host.out("x");host.out(k);`
abbrev pub begins_a_visit : List Stmt
begins_a_visit =
    tree.ForIn (AVar k (AnExpr (out (text a ∷ [])))) (tree.Comma (out (text b ∷ [])) empty) (says x)
    ∷ tells (name k) ∷ []

-- `var o={};for(o[(host.out("k"),"x")] in {a:1,b:1})host.out(o.x);`
abbrev pub visits_into_a_property : List Stmt
visits_into_a_property =
    var o empty
    ∷ tree.ForIn (Target (at (name o) (tree.Comma (out (text k ∷ [])) (text x))))
    (object ((a, one) ∷ (b, one) ∷ [])) (tells (dot (name o) x)) ∷ []

-- `for(var k in {a:1,b:1}){if(k=="a")continue;host.out(k);break;}`
abbrev pub jumps_in_a_visit : List Stmt
jumps_in_a_visit =
    visits k (object ((a, one) ∷ (b, one) ∷ (x, one) ∷ [])) (blocks (
    tree.If (binary op.Equal (name k) (text a)) (tree.Continue None) NoStmt
    ∷ tells (name k) ∷ tree.Break None ∷ [])) ∷ []

-- `for(var k in new Error("x"))host.out(k);`
abbrev pub visits_an_error : List Stmt
visits_an_error =
    visits k (tree.New (name (codes "Error")) (tree.MoreExprs (text x) tree.NoExprs))
    (tells (name k)) ∷ []

-- ---- 12.9, 12.11, 12.12

-- `function f(i){while(true){if(i)return;return 1;}}host.out(f(0),f(1));`
abbrev pub returns_from_a_loop : List Stmt
returns_from_a_loop =
    declare 1 f (i ∷ []) (tree.While (tree.Truth true) (blocks (
    tree.If (name i) (tree.Return NoExpr) NoStmt ∷ returns one ∷ [])) ∷ [])
    ∷ shows (call (name f) (number 0 ∷ []) ∷ call (name f) (one ∷ []) ∷ []) ∷ []

-- `switch(e){case 1:host.out(1);default:host.out(0);break;case "1":host.out(2);}`
abbrev pub switches : Expr → List Stmt
switches e =
    tree.Switch e
    (MoreCases (AnExpr one) (block (shows (one ∷ []) ∷ []))
    (MoreCases NoExpr (block (shows (number 0 ∷ []) ∷ tree.Break None ∷ []))
    (MoreCases (AnExpr (text (codes "1"))) (block (shows (two ∷ []) ∷ [])) NoCases))) ∷ []

-- `switch(2){case host.out("a"):case 2:host.out("b");case host.out("k"):}`
abbrev pub tests_in_order : List Stmt
tests_in_order =
    tree.Switch two
    (MoreCases (AnExpr (out (text a ∷ []))) tree.NoStmts
    (MoreCases (AnExpr two) (block (says b ∷ []))
    (MoreCases (AnExpr (out (text k ∷ []))) tree.NoStmts NoCases))) ∷ []

-- `switch(1){case 2:host.out("a");}`
abbrev pub chooses_none : List Stmt
chooses_none =
    tree.Switch one (MoreCases (AnExpr two) (block (says a ∷ [])) NoCases) ∷ []

-- `a:{host.out("a");break a;host.out("b");}x:switch(1){case 1:for(;;){break x;}}host.out("x");`
abbrev pub leaves_labels : List Stmt
leaves_labels =
    tree.Label a (blocks (says a ∷ tree.Break (Some a) ∷ says b ∷ []))
    ∷ tree.Label x (tree.Switch one (MoreCases (AnExpr one) (block (
    tree.For Nothing NoExpr NoExpr (blocks (tree.Break (Some x) ∷ [])) ∷ [])) NoCases))
    ∷ says x ∷ []

-- `for(var i=0;i<2;i++){a:{if(i==0)break;host.out("b");}host.out(i);}`
abbrev pub leaves_the_loop : List Stmt
leaves_the_loop =
    counts i 2 (blocks (tree.Label a (blocks (when 0 (tree.Break None) ∷ says b ∷ []))
    ∷ tells (name i) ∷ [])) ∷ []

-- `a:b:for(var i=0;i<2;i++){for(;;){host.out(i);continue a;}}`, or with b
abbrev pub goes_on_outside : Name → List Stmt
goes_on_outside label =
    tree.Label a (tree.Label b (counts i 2 (blocks (
    tree.For Nothing NoExpr NoExpr (blocks (tells (name i) ∷ tree.Continue (Some label) ∷ []))
    ∷ [])))) ∷ []

-- ---- 12.13, 12.14

-- `try{..}finally{..}`
abbrev pub at_last : List Stmt → List Stmt → Stmt
at_last ss last = tree.Try (blocks ss) NoHandler (AStmt (blocks last))

abbrev pub catching : List Stmt → List Stmt → Stmt
catching ss handler = tree.Try (blocks ss) (ACatch e (blocks handler)) NoStmt

-- `var e=1;try{throw 2;}catch(e){host.out(e);e=3;var x=e;}host.out(e,x);`
abbrev pub catches_in_a_scope : List Stmt
catches_in_a_scope =
    var e one
    ∷ catching (tree.Throw two ∷ [])
    (tells (name e) ∷ sets (name e) (number 3) ∷ var x (name e) ∷ [])
    ∷ shows (name e ∷ name x ∷ []) ∷ []

-- `try{try{throw 1;}finally{host.out("a");}}catch(e){host.out(e);}finally{host.out("b");}`
abbrev pub finishes_and_catches : List Stmt
finishes_and_catches =
    tree.Try (blocks (at_last (tree.Throw one ∷ []) (says a ∷ []) ∷ []))
    (ACatch e (blocks (tells (name e) ∷ []))) (AStmt (blocks (says b ∷ []))) ∷ []

-- `try{try{throw 1;}catch(e){throw 2;}finally{host.out("a");}}catch(e){host.out(e);}`
abbrev pub throws_from_a_catch : List Stmt
throws_from_a_catch =
    catching (tree.Try (blocks (tree.Throw one ∷ [])) (ACatch e (blocks (tree.Throw two ∷ [])))
    (AStmt (blocks (says a ∷ []))) ∷ []) (tells (name e) ∷ []) ∷ []

-- `for(;;){try{throw 1;}finally{break;}}host.out("x");`
abbrev pub leaves_by_finally : List Stmt
leaves_by_finally =
    tree.For Nothing NoExpr NoExpr
    (blocks (at_last (tree.Throw one ∷ []) (tree.Break None ∷ []) ∷ []))
    ∷ says x ∷ []

-- `for(var i=0;i<2;i++){try{continue;}finally{host.out(i);}}`
abbrev pub goes_on_through_finally : List Stmt
goes_on_through_finally =
    counts i 2 (blocks (at_last (tree.Continue None ∷ []) (tells (name i) ∷ []) ∷ [])) ∷ []

-- `try{7/2;}catch(e){host.out("a");}finally{host.out("b");}`
abbrev pub stops_in_a_try : List Stmt
stops_in_a_try =
    tree.Try (blocks (does (binary op.Divide (number 7) two) ∷ []))
    (ACatch e (blocks (says a ∷ []))) (AStmt (blocks (says b ∷ []))) ∷ []

-- `Number.prototype.x=1;Boolean.prototype.b=1;`
-- `for(var k in 1)host.out(k);for(var k in true)host.out(k);`
abbrev pub visits_primitives : List Stmt
visits_primitives =
    sets (dot (dot (name (codes "Number")) (codes "prototype")) x) one
    ∷ sets (dot (dot (name (codes "Boolean")) (codes "prototype")) b) one
    ∷ visits k one (tells (name k)) ∷ visits k (tree.Truth true) (tells (name k)) ∷ []

-- `a:for(var k in {a:1,b:1}){for(;;){host.out(k);continue a;}}`
abbrev pub goes_on_with_visits : List Stmt
goes_on_with_visits =
    tree.Label a (visits k (object ((a, one) ∷ (b, one) ∷ [])) (blocks (
    tree.For Nothing NoExpr NoExpr (blocks (tells (name k) ∷ tree.Continue (Some a) ∷ []))
    ∷ []))) ∷ []

-- `undefined[{toString:function(){host.out("k");return "x";}}];`, `for(var k in undefined);`
abbrev pub reads_of_undefined : List Stmt
reads_of_undefined = does (at (name (codes "undefined")) (spelled k (text x))) ∷ []

abbrev pub visits_undefined : List Stmt
visits_undefined = visits k (name (codes "undefined")) tree.Empty ∷ []

-- `for(var i=0;i<3;i++){switch(i){case 0:break;case 1:continue;}host.out(i);}`
abbrev pub leaves_a_switch : List Stmt
leaves_a_switch =
    counts i 3 (blocks (
    tree.Switch (name i) (MoreCases (AnExpr (number 0)) (block (tree.Break None ∷ []))
    (MoreCases (AnExpr one) (block (tree.Continue None ∷ [])) NoCases))
    ∷ tells (name i) ∷ [])) ∷ []
