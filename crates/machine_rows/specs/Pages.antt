-- Pages of the rows.
use Rattle.std.specs.Prelude.{ℕ, List, [], ◌∷◌, codes}
use Rattle.js_values.specs.declared.number.Num.TheVariants.{Whole}
use Rattle.js_values.specs.declared.value.Value.TheVariants as value
use Rattle.std.specs.Prelude.{Some, pos}
use Rattle.js_tree.specs.declared.tree.BinaryOp.TheVariants as op
use Rattle.js_tree.specs.declared.tree.PostfixOp.TheVariants as postfix
use Rattle.js_tree.specs.Tree.{Expr, Stmt}
use Rattle.js_tree.specs.Tree as tree
use Rattle.js_machine.specs.Page.{Page}
use Rattle.machine_rows.specs.Writing.{name, text, number, call, new, array, function, shows}
use Rattle.machine_rows.specs.Writing.{sets, calls, var, declare, returns, f, i, k}
use Rattle.machine_rows.specs.Scripts.{dot, at}

-- `host.on(type,function)`
abbrev pub listens : List ℕ → Expr → Stmt
listens type function = calls (dot (name (codes "host")) (codes "on")) (text type ∷ function ∷ [])

-- ---- `function f(){host.out("f");}host.on("go",function(){f();});`

abbrev pub goes : List Stmt
goes =
    declare 1 f [] (shows (text f ∷ []) ∷ [])
    ∷ listens (codes "go") (function 2 [] (calls (name f) [] ∷ [])) ∷ []

abbrev pub go_page : Page
go_page = record {
  host = codes "out" ∷ [];
  replies = [];
  events = (codes "go", value.Null) ∷ [];
}

-- ---- a usual page: `function Counter(n){this.n=n;}`
-- `Counter.prototype.up=function(k){this.n+=k;return this;};`
-- `Counter.prototype.show=function(){host.out("n="+this.n);};`
-- `var list=[new Counter(1),new Counter(10)];`
-- `host.on("click",function(type,v){for(var i=0;i<list.length;i++)list[i].up(v).show();});`

abbrev pub counter : Expr
counter = name (codes "Counter")

abbrev pub list : Expr
list = name (codes "list")

abbrev pub this_n : Expr
this_n = dot tree.This (codes "n")

abbrev pub clicks : Expr
clicks =
    function 4 (codes "type" ∷ codes "v" ∷ []) (
    tree.For (tree.Vars (tree.MoreVarItems i (tree.AnExpr (number 0)) tree.NoVarItems))
    (tree.AnExpr (tree.Binary op.Less (name i) (dot list (codes "length"))))
    (tree.AnExpr (tree.Postfix (name i) postfix.Increment))
    (calls (dot (call (dot (at list (name i)) (codes "up")) (name (codes "v") ∷ []))
    (codes "show")) []) ∷ [])

abbrev pub counters : List Stmt
counters =
    declare 1 (codes "Counter") (codes "n" ∷ []) (sets this_n (name (codes "n")) ∷ [])
    ∷ sets (dot (dot counter (codes "prototype")) (codes "up")) (function 2 (k ∷ []) (
    tree.Do (tree.Assign (Some op.Add) this_n (name k)) ∷ returns tree.This ∷ []))
    ∷ sets (dot (dot counter (codes "prototype")) (codes "show")) (function 3 [] (
    shows (tree.Binary op.Add (text (codes "n=")) this_n ∷ []) ∷ []))
    ∷ var (codes "list")
    (array (new counter (number 1 ∷ []) ∷ new counter (number 10 ∷ []) ∷ []))
    ∷ listens (codes "click") clicks ∷ []

abbrev pub click_page : Page
click_page = record {
  host = codes "out" ∷ [];
  replies = [];
  events = (codes "click", value.Num (Whole (pos 2)))
      ∷ (codes "click", value.Num (Whole (pos 3))) ∷ [];
}
