-- Small pages of the rows, and scripts that stop, each beside its text.
use Rattle.std.specs.Prelude.{ℕ, List, [], ◌∷◌, codes, pos, true}
use Rattle.js_values.specs.declared.number.Num.TheVariants.{Whole}
use Rattle.js_values.specs.declared.value.Value.{Value}
use Rattle.js_values.specs.declared.value.Value.TheVariants as value
use Rattle.js_tree.specs.declared.tree.BinaryOp.TheVariants as op
use Rattle.js_tree.specs.declared.tree.PrefixOp.TheVariants as prefix
use Rattle.js_tree.specs.Tree.{Name, Expr, Stmt}
use Rattle.js_tree.specs.Tree as tree
use Rattle.js_machine.specs.Page.{Page}
use Rattle.machine_rows.specs.Pages.{listens}
use Rattle.machine_rows.specs.Writing.{name, text, number, call, new}
use Rattle.machine_rows.specs.Writing.{function, shows, sets, calls, var}
use Rattle.machine_rows.specs.Writing.{does, spelled, a, b, k, o, x}
use Rattle.machine_rows.specs.Scripts.{dot, at}
use Rattle.machine_rows.specs.ExpressionScripts.{binary, unary, one, two, empty}
use Rattle.machine_rows.specs.StatementScripts.{says, tells, at_last}

-- ---- events

abbrev pub number_value : ℕ → Value
number_value n = value.Num (Whole (pos n))

-- a page with two host calls, of which one is answered twice, and three events
abbrev pub page : Page
page = record {
  host = codes "out" ∷ codes "ask" ∷ [];
  replies = (codes "ask", number_value 7 ∷ value.Str x ∷ []) ∷ [];
  events = (a, number_value 1) ∷ (b, value.Null) ∷ (a, value.Str x) ∷ [];
}

-- `host.ask(..)`
abbrev pub ask : List Expr → Expr
ask es = call (dot (name (codes "host")) (codes "ask")) es

-- `host.out(host.ask(1),host.ask(),host.ask(2));`
abbrev pub asks : List Stmt
asks = shows (ask (one ∷ []) ∷ ask [] ∷ ask (two ∷ []) ∷ []) ∷ []

-- `host.out(1);host.out(host.ask());`
abbrev pub asks_later : List Stmt
asks_later = shows (one ∷ []) ∷ shows (ask [] ∷ []) ∷ []

-- `function(type,v){host.out(type,v,this===o);}`
abbrev pub shower : ℕ → Expr
shower number =
    function number (codes "type" ∷ codes "v" ∷ [])
    (shows (name (codes "type") ∷ name (codes "v") ∷ binary op.Same tree.This (name o) ∷ []) ∷ [])

-- `var o=this;host.on("a",..);host.on("b",function(){throw {};});host.on("b",..);`
abbrev pub listening : List Stmt
listening =
    var o tree.This ∷ listens a (shower 1)
    ∷ listens b (function 2 [] (tree.Throw empty ∷ [])) ∷ listens b (shower 3) ∷ []

-- `host.on("a",function(){host.out("x");host.on("a",function(){host.out("k");});});`
abbrev pub registers_late : List Stmt
registers_late =
    listens a (function 1 [] (says x ∷ listens a (function 2 [] (says k ∷ [])) ∷ [])) ∷ []

-- `host.out(host.on(1,function(){}));`
abbrev pub registers : List Stmt
registers =
    shows (call (dot (name (codes "host")) (codes "on")) (one ∷ function 1 [] [] ∷ []) ∷ []) ∷ []

-- `host.on({toString:function(){host.out("k");return "x";}},1);`
abbrev pub registers_no_function : List Stmt
registers_no_function =
    calls (dot (name (codes "host")) (codes "on")) (spelled k (text x) ∷ one ∷ []) ∷ []

-- `throw 1;` and then `host.out("x");`
abbrev pub throws_one : List Stmt
throws_one = tree.Throw one ∷ says x ∷ []

-- `var o={};host.out(o,{},o);throw o;`
abbrev pub passes_objects : List Stmt
passes_objects =
    var o empty ∷ shows (name o ∷ empty ∷ name o ∷ []) ∷ tree.Throw (name o) ∷ []

-- `for(var k in host)host.out(k);host.out("x");`
abbrev pub visits_host : List Stmt
visits_host =
    tree.ForIn (tree.AVar k tree.NoExpr) (name (codes "host")) (tells (name k)) ∷ says x ∷ []

-- ---- stops, each in a `try` with a `finally` that would show `b`

abbrev pub stops : Expr → List Stmt
stops e = at_last (does e ∷ []) (says b ∷ []) ∷ []

-- `7/2`, `9007199254740991+1`, `-9007199254740991-1`, `9007199254740991*2`
abbrev pub top : Expr
top = number 9007199254740991

abbrev pub fraction : Expr
fraction = binary op.Divide (number 7) two

abbrev pub too_large : List Expr
too_large =
    binary op.Add top one
    ∷ binary op.Subtract (unary prefix.Minus top) one
    ∷ binary op.Multiply top two ∷ unary prefix.Plus (text (codes "9007199254740992")) ∷ []

-- `1/0`, `Math.max()`
abbrev pub infinite : List Expr
infinite =
    binary op.Divide one (number 0) ∷ call (dot (name (codes "Math")) (codes "max")) [] ∷ []

-- `+"1.5"`, `+"1e3"`, `+"-Infinity"`, `"1.5"==1`, `1<"1.5"`
abbrev pub number_texts : List Expr
number_texts =
    unary prefix.Plus (text (codes "1.5")) ∷ unary prefix.Plus (text (codes "1e3"))
    ∷ unary prefix.Plus (text (codes "-Infinity"))
    ∷ binary op.Equal (text (codes "1.5")) one ∷ binary op.Less one (text (codes "1.5")) ∷ []

-- `Math.abs+""`
abbrev pub function_text : Expr
function_text = binary op.Add (dot (name (codes "Math")) (codes "abs")) (text [])

-- `Math.abs.call.call(1)`, `Object(1)`, `new String("x")`, `Object.prototype.valueOf.call(1)`,
-- `(function(){}).call("x")`
abbrev pub wrappers : List Expr
wrappers =
    call (dot (dot (dot (name (codes "Math")) (codes "abs")) (codes "call")) (codes "call"))
    (one ∷ [])
    ∷ call (name (codes "Object")) (one ∷ []) ∷ new (name (codes "String")) (text x ∷ [])
    ∷ call (dot (dot empty (codes "valueOf")) (codes "call")) (one ∷ [])
    ∷ call (dot (function 1 [] []) (codes "call")) (text x ∷ []) ∷ []

-- `{}["$dl_"]`, `"$dl_x" in {}`, `{}.hasOwnProperty("$dl_x")`, `delete {}["$dl_x"]`
abbrev pub reserved_names : List Expr
reserved_names =
    at empty (text (codes "$dl_")) ∷ binary op.In (text (codes "$dl_x")) empty
    ∷ call (dot empty (codes "hasOwnProperty")) (text (codes "$dl_x") ∷ [])
    ∷ unary prefix.Delete (at empty (text (codes "$dl_x"))) ∷ []

-- `({})["$dl"]`, which does not stop, and null["$dl_x"], which throws
abbrev pub not_reserved : Expr
not_reserved = at empty (text (codes "$dl"))

abbrev pub reserved_of_null : Expr
reserved_of_null = at tree.Null (text (codes "$dl_x"))

-- `(function(){return arguments;}).call("x")`, which stops before its beat
abbrev pub enters_with_text : List Stmt
enters_with_text =
    calls (function 1 [] []) [] ∷ calls (dot (function 2 [] []) (codes "call")) (text x ∷ []) ∷ []

-- `host.out("a");7/2;` as a listener, with another behind it
abbrev pub stops_in_an_event : List Stmt
stops_in_an_event =
    listens a (function 1 [] (does fraction ∷ [])) ∷ listens a (function 2 [] (says x ∷ [])) ∷ []

-- `var o={};throw o;` and then `host.out({},o);`
abbrev pub throws_first : List Stmt
throws_first = var o empty ∷ tree.Throw (name o) ∷ []

abbrev pub shows_then : List Stmt
shows_then = shows (empty ∷ name o ∷ []) ∷ []

-- `(function(){})+""`
abbrev pub script_function_text : Expr
script_function_text = binary op.Add (function 1 [] []) (text [])

-- `Math.abs.apply.call(true)`, with a number and with a text
abbrev pub applied_primitives : List Expr
applied_primitives =
    call (dot (dot (dot (name (codes "Math")) (codes "abs")) (codes "apply")) (codes "call"))
    (tree.Truth true ∷ [])
    ∷ call (dot (dot (dot (name (codes "Math")) (codes "abs")) (codes "apply")) (codes "call"))
    (one ∷ [])
    ∷ call (dot (dot (dot (name (codes "Math")) (codes "abs")) (codes "apply")) (codes "call"))
    (text x ∷ []) ∷ []

-- `var o=host.out;host.out=1;o(host.out,delete host.out);`
-- `o(typeof host.out,delete host.on,delete this.host);`
abbrev pub changes_host : List Stmt
changes_host =
    var o (dot (name (codes "host")) (codes "out"))
    ∷ sets (dot (name (codes "host")) (codes "out")) one
    ∷ calls (name o) (dot (name (codes "host")) (codes "out")
    ∷ unary prefix.Delete (dot (name (codes "host")) (codes "out")) ∷ [])
    ∷ calls (name o) (unary prefix.TypeOf (dot (name (codes "host")) (codes "out"))
    ∷ unary prefix.Delete (dot (name (codes "host")) (codes "on"))
    ∷ unary prefix.Delete (dot tree.This (codes "host")) ∷ []) ∷ []
