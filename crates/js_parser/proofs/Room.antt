-- Where there is room for a tree, there is room for each of its parts.
use Rattle.std.proofs.Common.{◌≡◌, ℕ, suc, ◌-◌, ◌≤◌, ◌<◌, ◌&&◌, max, Bool, true, false, List, Option, Some, None, refl, arith}
use Rattle.std.proofs.lemmas.Bool.{le-leb, leb-true}
use Rattle.js_tree.specs.declared.tree.BinaryOp.{BinaryOp}
use Rattle.js_tree.specs.declared.tree.PrefixOp.{PrefixOp}
use Rattle.js_tree.specs.declared.tree.PostfixOp.{PostfixOp}
use Rattle.js_tree.specs.Tree.{Name, Expr, Exprs, MaybeExpr, Elements, Pairs, Stmt, Stmts, VarItems, Cases, ForInit, ForTarget, Handler, MaybeStmt}
use Rattle.js_tree.specs.Tree
use Rattle.js_parser.specs.declared.form.Limits.{Limits}
use Rattle.js_tree.specs.Levels.{Operator, LogicalOr, LogicalAnd, Operation, joined}
use Rattle.js_parser.specs.Grammar.{code}
use Rattle.js_tree.specs.Heights as heights
use Rattle.js_tree.specs.Heights.{Growth}
use Rattle.js_tree.specs.Depth.{by_nodes, by_functions, depth, nesting}
use Rattle.js_parser.specs.Rooms.{Room, unbounded, of_limits, one_less, inside, in_function, fits, fits_node, fits_around, fits_function}

-- what a tree is made of
pub data Part : Type 0 where
  expr : Expr → Part
  exprs : Exprs → Part
  maybe_expr : MaybeExpr → Part
  elements : Elements → Part
  pairs : Pairs → Part
  stmt : Stmt → Part
  stmts : Stmts → Part
  maybe_stmt : MaybeStmt → Part
  handler : Handler → Part
  first : ForInit → Part
  target : ForTarget → Part
  var_items : VarItems → Part
  cases : Cases → Part

abbrev pub height : Growth → Part → ℕ
height by (expr x) = heights.expr_height by x
height by (exprs xs) = heights.exprs_height by xs
height by (maybe_expr x) = heights.maybe_expr_height by x
height by (elements es) = heights.elements_height by es
height by (pairs ps) = heights.pairs_height by ps
height by (stmt s) = heights.stmt_height by s
height by (stmts ss) = heights.stmts_height by ss
height by (maybe_stmt s) = heights.maybe_stmt_height by s
height by (handler h) = heights.handler_height by h
height by (first init) = heights.for_init_height by init
height by (target t) = heights.for_target_height by t
height by (var_items items) = heights.var_items_height by items
height by (cases cs) = heights.cases_height by cs

-- there is room for it
pub record Has (room : Room) (part : Part) : Type 0 where
  pub deep : fits room.depth (height by_nodes part) ≡ true
  pub nested : fits room.nesting (height by_functions part) ≡ true

-- ---- smaller heights

fits-less : (most : Option ℕ) (a c : ℕ) → a ≤ c → fits most c ≡ true → fits most a ≡ true
fits-less None a c h e = refl
fits-less (Some n) a c h e = le-leb a n (let f = leb-true c n e in omega (arith, f))

fits-inside : (most : Option ℕ) (a c : ℕ) → a < c → fits most c ≡ true → fits (one_less most) a ≡ true
fits-inside None a c h e = refl
fits-inside (Some n) a c h e = le-leb a (n - 1) (let f = leb-true c n e in omega (arith, f))

-- a part that is no higher
beside : {room : Room} {p : Part} (q : Part) → Has room p → height by_nodes q ≤ height by_nodes p → height by_functions q ≤ height by_functions p → Has room q
beside {room = room} {p = p} q h a c = record {
  deep = fits-less room.depth (height by_nodes q) (height by_nodes p) a h.deep;
  nested = fits-less room.nesting (height by_functions q) (height by_functions p) c h.nested;
}

below : {room : Room} {p : Part} (q : Part) → Has room p → height by_nodes q < height by_nodes p → height by_functions q ≤ height by_functions p → Has (inside room) q
below {room = room} {p = p} q h a c = record {
  deep = fits-inside room.depth (height by_nodes q) (height by_nodes p) a h.deep;
  nested = fits-less room.nesting (height by_functions q) (height by_functions p) c h.nested;
}

-- ---- nodes

high-expr : (x : Expr) → 1 ≤ heights.expr_height by_nodes x
high-expr (Tree.Num n) = omega arith
high-expr _ = omega arith

high-stmt : (s : Stmt) → 1 ≤ heights.stmt_height by_nodes s
high-stmt (Tree.Block ss) = omega arith
high-stmt _ = omega arith

pub node : {room : Room} {x : Expr} → Has room (expr x) → fits_node room ≡ true
node {room = room} {x = x} h = fits-less room.depth 1 (heights.expr_height by_nodes x) (high-expr x) h.deep

pub statement : {room : Room} {s : Stmt} → Has room (stmt s) → fits_node room ≡ true
statement {room = room} {s = s} h = fits-less room.depth 1 (heights.stmt_height by_nodes s) (high-stmt s) h.deep

both : (a c : Bool) → a ≡ true → c ≡ true → (a && c) ≡ true
both true c h i = i
both false c h i = cc

-- ---- functions

pub function : {room : Room} {name : Option Name} {ns : List Name} {body : Stmts} → Has room (expr (Tree.Function (code name ns body))) → fits_function room ≡ true
function {room = room} {name = name} {ns = ns} {body = body} h =
    both (fits room.depth 1) (fits room.nesting 1) (fits-less room.depth 1 (height by_nodes (expr (Tree.Function (code name ns body)))) (omega arith) h.deep)
    (fits-less room.nesting 1 (height by_functions (expr (Tree.Function (code name ns body)))) (omega arith) h.nested)

pub function-body : {room : Room} {name : Option Name} {ns : List Name} {body : Stmts} → Has room (expr (Tree.Function (code name ns body))) → Has (in_function room) (stmts body)
function-body {room = room} {name = name} {ns = ns} {body = body} h = record {
  deep = fits-inside room.depth (height by_nodes (stmts body)) (height by_nodes (expr (Tree.Function (code name ns body)))) (omega arith) h.deep;
  nested = fits-inside room.nesting (height by_functions (stmts body)) (height by_functions (expr (Tree.Function (code name ns body)))) (omega arith) h.nested;
}

pub declared : {room : Room} {name : Option Name} {ns : List Name} {body : Stmts} → Has room (stmt (Tree.Declare (code name ns body))) → fits_function room ≡ true
declared {room = room} {name = name} {ns = ns} {body = body} h =
    both (fits room.depth 1) (fits room.nesting 1) (fits-less room.depth 1 (height by_nodes (stmt (Tree.Declare (code name ns body)))) (omega arith) h.deep)
    (fits-less room.nesting 1 (height by_functions (stmt (Tree.Declare (code name ns body)))) (omega arith) h.nested)

pub declared-body : {room : Room} {name : Option Name} {ns : List Name} {body : Stmts} → Has room (stmt (Tree.Declare (code name ns body))) → Has (in_function room) (stmts body)
declared-body {room = room} {name = name} {ns = ns} {body = body} h = record {
  deep = fits-inside room.depth (height by_nodes (stmts body)) (height by_nodes (stmt (Tree.Declare (code name ns body)))) (omega arith) h.deep;
  nested = fits-inside room.nesting (height by_functions (stmts body)) (height by_functions (stmt (Tree.Declare (code name ns body)))) (omega arith) h.nested;
}

-- ---- expressions

pub array : {room : Room} {es : Elements} → Has room (expr (Tree.Array es)) → Has (inside room) (elements es)
array {es = es} h = below (elements es) h (omega arith) (omega arith)

pub object : {room : Room} {ps : Pairs} → Has room (expr (Tree.Object ps)) → Has (inside room) (pairs ps)
object {ps = ps} h = below (pairs ps) h (omega arith) (omega arith)

pub dot : {room : Room} {x : Expr} {n : Name} → Has room (expr (Tree.Dot x n)) → fits_around room x ≡ true
dot {room = room} {x = x} {n = n} h = fits-less room.depth (suc (heights.expr_height by_nodes x)) (height by_nodes (expr (Tree.Dot x n))) (omega arith) h.deep

pub dot-object : {room : Room} {x : Expr} {n : Name} → Has room (expr (Tree.Dot x n)) → Has room (expr x)
dot-object {x = x} h = beside (expr x) h (omega arith) (omega arith)

pub index : {room : Room} {x y : Expr} → Has room (expr (Tree.Index x y)) → fits_around room x ≡ true
index {room = room} {x = x} {y = y} h = fits-less room.depth (suc (heights.expr_height by_nodes x)) (height by_nodes (expr (Tree.Index x y))) (omega arith) h.deep

pub index-object : {room : Room} {x y : Expr} → Has room (expr (Tree.Index x y)) → Has room (expr x)
index-object {x = x} h = beside (expr x) h (omega arith) (omega arith)

pub index-key : {room : Room} {x y : Expr} → Has room (expr (Tree.Index x y)) → Has (inside room) (expr y)
index-key {y = y} h = below (expr y) h (omega arith) (omega arith)

pub call : {room : Room} {x : Expr} {xs : Exprs} → Has room (expr (Tree.Call x xs)) → fits_around room x ≡ true
call {room = room} {x = x} {xs = xs} h = fits-less room.depth (suc (heights.expr_height by_nodes x)) (height by_nodes (expr (Tree.Call x xs))) (omega arith) h.deep

pub call-callee : {room : Room} {x : Expr} {xs : Exprs} → Has room (expr (Tree.Call x xs)) → Has room (expr x)
call-callee {x = x} h = beside (expr x) h (omega arith) (omega arith)

pub call-arguments : {room : Room} {x : Expr} {xs : Exprs} → Has room (expr (Tree.Call x xs)) → Has (inside room) (exprs xs)
call-arguments {xs = xs} h = below (exprs xs) h (omega arith) (omega arith)

pub new-callee : {room : Room} {x : Expr} {xs : Exprs} → Has room (expr (Tree.New x xs)) → Has (inside room) (expr x)
new-callee {x = x} h = below (expr x) h (omega arith) (omega arith)

pub new-arguments : {room : Room} {x : Expr} {xs : Exprs} → Has room (expr (Tree.New x xs)) → Has (inside room) (exprs xs)
new-arguments {xs = xs} h = below (exprs xs) h (omega arith) (omega arith)

pub postfix : {room : Room} {x : Expr} {op : PostfixOp} → Has room (expr (Tree.Postfix x op)) → fits_around room x ≡ true
postfix {room = room} {x = x} {op = op} h = fits-less room.depth (suc (heights.expr_height by_nodes x)) (height by_nodes (expr (Tree.Postfix x op))) (omega arith) h.deep

pub postfix-target : {room : Room} {x : Expr} {op : PostfixOp} → Has room (expr (Tree.Postfix x op)) → Has room (expr x)
postfix-target {x = x} h = beside (expr x) h (omega arith) (omega arith)

pub prefix-operand : {room : Room} {op : PrefixOp} {x : Expr} → Has room (expr (Tree.Prefix op x)) → Has (inside room) (expr x)
prefix-operand {x = x} h = below (expr x) h (omega arith) (omega arith)

joined-nodes : (by : Growth) (op : Operator) (x y : Expr) → heights.expr_height by (joined op x y) ≡ by.node (max (heights.expr_height by x) (heights.expr_height by y))
joined-nodes by LogicalOr x y = refl
joined-nodes by LogicalAnd x y = refl
joined-nodes by (Operation op) x y = refl

pub joined-fits : {room : Room} (op : Operator) (x y : Expr) → Has room (expr (joined op x y)) → fits_around room x ≡ true
joined-fits {room = room} op x y h =
    fits-less room.depth (suc (heights.expr_height by_nodes x)) (height by_nodes (expr (joined op x y))) (let e = joined-nodes by_nodes op x y in omega (arith, e)) h.deep

pub joined-left : {room : Room} (op : Operator) (x y : Expr) → Has room (expr (joined op x y)) → Has room (expr x)
joined-left op x y h = let e = joined-nodes by_nodes op x y in let f = joined-nodes by_functions op x y in beside (expr x) h (omega (arith, e)) (omega (arith, f))

pub joined-right : {room : Room} (op : Operator) (x y : Expr) → Has room (expr (joined op x y)) → Has (inside room) (expr y)
joined-right op x y h = let e = joined-nodes by_nodes op x y in let f = joined-nodes by_functions op x y in below (expr y) h (omega (arith, e)) (omega (arith, f))

pub cond : {room : Room} {x y other : Expr} → Has room (expr (Tree.Cond x y other)) → fits_around room x ≡ true
cond {room = room} {x = x} {y = y} {other = other} h = fits-less room.depth (suc (heights.expr_height by_nodes x)) (height by_nodes (expr (Tree.Cond x y other))) (omega arith) h.deep

pub cond-test : {room : Room} {x y other : Expr} → Has room (expr (Tree.Cond x y other)) → Has room (expr x)
cond-test {x = x} h = beside (expr x) h (omega arith) (omega arith)

pub cond-then : {room : Room} {x y other : Expr} → Has room (expr (Tree.Cond x y other)) → Has (inside room) (expr y)
cond-then {y = y} h = below (expr y) h (omega arith) (omega arith)

pub cond-other : {room : Room} {x y other : Expr} → Has room (expr (Tree.Cond x y other)) → Has (inside room) (expr other)
cond-other {other = other} h = below (expr other) h (omega arith) (omega arith)

pub assign : {room : Room} {op : Option BinaryOp} {x y : Expr} → Has room (expr (Tree.Assign op x y)) → fits_around room x ≡ true
assign {room = room} {op = op} {x = x} {y = y} h = fits-less room.depth (suc (heights.expr_height by_nodes x)) (height by_nodes (expr (Tree.Assign op x y))) (omega arith) h.deep

pub assign-target : {room : Room} {op : Option BinaryOp} {x y : Expr} → Has room (expr (Tree.Assign op x y)) → Has room (expr x)
assign-target {x = x} h = beside (expr x) h (omega arith) (omega arith)

pub assign-value : {room : Room} {op : Option BinaryOp} {x y : Expr} → Has room (expr (Tree.Assign op x y)) → Has (inside room) (expr y)
assign-value {y = y} h = below (expr y) h (omega arith) (omega arith)

pub comma : {room : Room} {x y : Expr} → Has room (expr (Tree.Comma x y)) → fits_around room x ≡ true
comma {room = room} {x = x} {y = y} h = fits-less room.depth (suc (heights.expr_height by_nodes x)) (height by_nodes (expr (Tree.Comma x y))) (omega arith) h.deep

pub comma-left : {room : Room} {x y : Expr} → Has room (expr (Tree.Comma x y)) → Has room (expr x)
comma-left {x = x} h = beside (expr x) h (omega arith) (omega arith)

pub comma-right : {room : Room} {x y : Expr} → Has room (expr (Tree.Comma x y)) → Has (inside room) (expr y)
comma-right {y = y} h = below (expr y) h (omega arith) (omega arith)

-- ---- lists

pub argument : {room : Room} {x : Expr} {xs : Exprs} → Has room (exprs (Tree.MoreExprs x xs)) → Has room (expr x)
argument {x = x} h = beside (expr x) h (omega arith) (omega arith)

pub more-arguments : {room : Room} {x : Expr} {xs : Exprs} → Has room (exprs (Tree.MoreExprs x xs)) → Has room (exprs xs)
more-arguments {xs = xs} h = beside (exprs xs) h (omega arith) (omega arith)

pub element : {room : Room} {x : Expr} {es : Elements} → Has room (elements (Tree.MoreElements (Tree.AnExpr x) es)) → Has room (expr x)
element {x = x} h = beside (expr x) h (omega arith) (omega arith)

pub more-elements : {room : Room} {e : MaybeExpr} {es : Elements} → Has room (elements (Tree.MoreElements e es)) → Has room (elements es)
more-elements {es = es} h = beside (elements es) h (omega arith) (omega arith)

pub pair : {room : Room} {key : Name} {x : Expr} {ps : Pairs} → Has room (pairs (Tree.MorePairs key x ps)) → Has room (expr x)
pair {x = x} h = beside (expr x) h (omega arith) (omega arith)

pub more-pairs : {room : Room} {key : Name} {x : Expr} {ps : Pairs} → Has room (pairs (Tree.MorePairs key x ps)) → Has room (pairs ps)
more-pairs {ps = ps} h = beside (pairs ps) h (omega arith) (omega arith)

pub item : {room : Room} {n : Name} {value : MaybeExpr} {items : VarItems} → Has room (var_items (Tree.MoreVarItems n value items)) → Has room (maybe_expr value)
item {value = value} h = beside (maybe_expr value) h (omega arith) (omega arith)

pub more-items : {room : Room} {n : Name} {value : MaybeExpr} {items : VarItems} → Has room (var_items (Tree.MoreVarItems n value items)) → Has room (var_items items)
more-items {items = items} h = beside (var_items items) h (omega arith) (omega arith)

pub present : {room : Room} {x : Expr} → Has room (maybe_expr (Tree.AnExpr x)) → Has room (expr x)
present {x = x} h = beside (expr x) h (omega arith) (omega arith)

pub one : {room : Room} {s : Stmt} {ss : Stmts} → Has room (stmts (Tree.MoreStmts s ss)) → Has room (stmt s)
one {s = s} h = beside (stmt s) h (omega arith) (omega arith)

pub more : {room : Room} {s : Stmt} {ss : Stmts} → Has room (stmts (Tree.MoreStmts s ss)) → Has room (stmts ss)
more {ss = ss} h = beside (stmts ss) h (omega arith) (omega arith)

pub case-test : {room : Room} {x : Expr} {ss : Stmts} {cs : Cases} → Has room (cases (Tree.MoreCases (Tree.AnExpr x) ss cs)) → Has room (expr x)
case-test {x = x} h = beside (expr x) h (omega arith) (omega arith)

pub case-body : {room : Room} {x : MaybeExpr} {ss : Stmts} {cs : Cases} → Has room (cases (Tree.MoreCases x ss cs)) → Has room (stmts ss)
case-body {ss = ss} h = beside (stmts ss) h (omega arith) (omega arith)

pub more-cases : {room : Room} {x : MaybeExpr} {ss : Stmts} {cs : Cases} → Has room (cases (Tree.MoreCases x ss cs)) → Has room (cases cs)
more-cases {cs = cs} h = beside (cases cs) h (omega arith) (omega arith)

pub first-items : {room : Room} {items : VarItems} → Has room (first (Tree.Vars items)) → Has room (var_items items)
first-items {items = items} h = beside (var_items items) h (omega arith) (omega arith)

pub first-value : {room : Room} {x : Expr} → Has room (first (Tree.First x)) → Has room (expr x)
first-value {x = x} h = beside (expr x) h (omega arith) (omega arith)

-- ---- statements

pub block-body : {room : Room} {ss : Stmts} → Has room (stmt (Tree.Block ss)) → Has (inside room) (stmts ss)
block-body {ss = ss} h = below (stmts ss) h (omega arith) (omega arith)

pub variables-items : {room : Room} {items : VarItems} → Has room (stmt (Tree.Variables items)) → Has (inside room) (var_items items)
variables-items {items = items} h = below (var_items items) h (omega arith) (omega arith)

pub do-value : {room : Room} {x : Expr} → Has room (stmt (Tree.Do x)) → Has (inside room) (expr x)
do-value {x = x} h = below (expr x) h (omega arith) (omega arith)

pub if-test : {room : Room} {x : Expr} {s : Stmt} {other : MaybeStmt} → Has room (stmt (Tree.If x s other)) → Has (inside room) (expr x)
if-test {x = x} h = below (expr x) h (omega arith) (omega arith)

pub if-body : {room : Room} {x : Expr} {s : Stmt} {other : MaybeStmt} → Has room (stmt (Tree.If x s other)) → Has (inside room) (stmt s)
if-body {s = s} h = below (stmt s) h (omega arith) (omega arith)

pub if-other : {room : Room} {x : Expr} {s other : Stmt} → Has room (stmt (Tree.If x s (Tree.AStmt other))) → Has (inside room) (stmt other)
if-other {other = other} h = below (stmt other) h (omega arith) (omega arith)

pub do_while-body : {room : Room} {s : Stmt} {x : Expr} → Has room (stmt (Tree.DoWhile s x)) → Has (inside room) (stmt s)
do_while-body {s = s} h = below (stmt s) h (omega arith) (omega arith)

pub do_while-test : {room : Room} {s : Stmt} {x : Expr} → Has room (stmt (Tree.DoWhile s x)) → Has (inside room) (expr x)
do_while-test {x = x} h = below (expr x) h (omega arith) (omega arith)

pub while-test : {room : Room} {x : Expr} {s : Stmt} → Has room (stmt (Tree.While x s)) → Has (inside room) (expr x)
while-test {x = x} h = below (expr x) h (omega arith) (omega arith)

pub while-body : {room : Room} {x : Expr} {s : Stmt} → Has room (stmt (Tree.While x s)) → Has (inside room) (stmt s)
while-body {s = s} h = below (stmt s) h (omega arith) (omega arith)

pub for-first : {room : Room} {init : ForInit} {test last : MaybeExpr} {s : Stmt} → Has room (stmt (Tree.For init test last s)) → Has (inside room) (first init)
for-first {init = init} h = below (first init) h (omega arith) (omega arith)

pub for-test : {room : Room} {init : ForInit} {test last : MaybeExpr} {s : Stmt} → Has room (stmt (Tree.For init test last s)) → Has (inside room) (maybe_expr test)
for-test {test = test} h = below (maybe_expr test) h (omega arith) (omega arith)

pub for-last : {room : Room} {init : ForInit} {test last : MaybeExpr} {s : Stmt} → Has room (stmt (Tree.For init test last s)) → Has (inside room) (maybe_expr last)
for-last {last = last} h = below (maybe_expr last) h (omega arith) (omega arith)

pub for-body : {room : Room} {init : ForInit} {test last : MaybeExpr} {s : Stmt} → Has room (stmt (Tree.For init test last s)) → Has (inside room) (stmt s)
for-body {s = s} h = below (stmt s) h (omega arith) (omega arith)

pub for_in-target : {room : Room} {x y : Expr} {s : Stmt} → Has room (stmt (Tree.ForIn (Tree.Target x) y s)) → Has (inside room) (expr x)
for_in-target {x = x} h = below (expr x) h (omega arith) (omega arith)

pub for_in-value : {room : Room} {n : Name} {value : MaybeExpr} {y : Expr} {s : Stmt} → Has room (stmt (Tree.ForIn (Tree.AVar n value) y s)) → Has (inside room) (maybe_expr value)
for_in-value {value = value} h = below (maybe_expr value) h (omega arith) (omega arith)

pub for_in-object : {room : Room} {t : ForTarget} {y : Expr} {s : Stmt} → Has room (stmt (Tree.ForIn t y s)) → Has (inside room) (expr y)
for_in-object {y = y} h = below (expr y) h (omega arith) (omega arith)

pub for_in-body : {room : Room} {t : ForTarget} {y : Expr} {s : Stmt} → Has room (stmt (Tree.ForIn t y s)) → Has (inside room) (stmt s)
for_in-body {s = s} h = below (stmt s) h (omega arith) (omega arith)

pub return-value : {room : Room} {x : Expr} → Has room (stmt (Tree.Return (Tree.AnExpr x))) → Has (inside room) (expr x)
return-value {x = x} h = below (expr x) h (omega arith) (omega arith)

pub switch-value : {room : Room} {x : Expr} {cs : Cases} → Has room (stmt (Tree.Switch x cs)) → Has (inside room) (expr x)
switch-value {x = x} h = below (expr x) h (omega arith) (omega arith)

pub switch-cases : {room : Room} {x : Expr} {cs : Cases} → Has room (stmt (Tree.Switch x cs)) → Has (inside room) (cases cs)
switch-cases {cs = cs} h = below (cases cs) h (omega arith) (omega arith)

pub label-body : {room : Room} {n : Name} {s : Stmt} → Has room (stmt (Tree.Label n s)) → Has (inside room) (stmt s)
label-body {s = s} h = below (stmt s) h (omega arith) (omega arith)

pub throw-value : {room : Room} {x : Expr} → Has room (stmt (Tree.Throw x)) → Has (inside room) (expr x)
throw-value {x = x} h = below (expr x) h (omega arith) (omega arith)

pub try-block : {room : Room} {s : Stmt} {caught : Handler} {last : MaybeStmt} → Has room (stmt (Tree.Try s caught last)) → Has (inside room) (stmt s)
try-block {s = s} h = below (stmt s) h (omega arith) (omega arith)

pub try-handler : {room : Room} {n : Name} {s z : Stmt} {last : MaybeStmt} → Has room (stmt (Tree.Try s (Tree.ACatch n z) last)) → Has (inside room) (stmt z)
try-handler {z = z} h = below (stmt z) h (omega arith) (omega arith)

pub try-last : {room : Room} {s last : Stmt} {caught : Handler} → Has room (stmt (Tree.Try s caught (Tree.AStmt last))) → Has (inside room) (stmt last)
try-last {last = last} h = below (stmt last) h (omega arith) (omega arith)

-- ---- whole scripts

-- no limit
pub unlimited : (p : Part) → Has unbounded p
unlimited p = record { deep = refl; nested = refl }

pub limited : (limits : Limits) (tree : Tree.Script) → depth tree ≤ limits.depth → nesting tree ≤ limits.nesting → Has (of_limits limits) (stmts tree)
limited limits tree h i = record { deep = le-leb (depth tree) limits.depth h; nested = le-leb (nesting tree) limits.nesting i }
