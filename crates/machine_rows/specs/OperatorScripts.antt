-- Small expressions of the rows on ES3 11.5 to 11.10 and on conversions, each beside its text.
use Rattle.std.specs.Prelude.{true, List, [], ◌∷◌, codes}
use Rattle.js_tree.specs.declared.tree.BinaryOp.{BinaryOp}
use Rattle.js_tree.specs.declared.tree.BinaryOp.TheVariants as op
use Rattle.js_tree.specs.declared.tree.PrefixOp.TheVariants as prefix
use Rattle.js_tree.specs.Tree.{Name, Expr, Stmt}
use Rattle.js_tree.specs.Tree as tree
use Rattle.machine_rows.specs.Writing.{name, text, number, array, object, function}
use Rattle.machine_rows.specs.Writing.{returns, does, counted, telling}
use Rattle.machine_rows.specs.Writing.{to_string, value_of, a, b, o}
use Rattle.machine_rows.specs.Scripts.{dot, at}
use Rattle.machine_rows.specs.ExpressionScripts.{one, two, binary, unary, minus, nan, empty, nothing}

-- `7*6,8/2,7%-3,-7%3,5-2,1+2,"a"+1,1+"a","3"*"4",1+null,1+undefined,"a"+undefined,[1,2]+""`
abbrev pub sums : List Expr
sums =
    binary op.Multiply (number 7) (number 6) ∷ binary op.Divide (number 8) two
    ∷ binary op.Remainder (number 7) (minus 3) ∷ binary op.Remainder (minus 7) (number 3)
    ∷ binary op.Subtract (number 5) two ∷ binary op.Add one two ∷ binary op.Add (text a) one
    ∷ binary op.Add one (text a) ∷ binary op.Multiply (text (codes "3")) (text (codes "4"))
    ∷ binary op.Add one tree.Null ∷ binary op.Add one nothing ∷ binary op.Add (text a) nothing
    ∷ binary op.Add (array (one ∷ two ∷ [])) (text []) ∷ []

-- `1<<33,-1>>1,-1>>>28,6&3,6|3,6^3,-1&255,4294967296|1`
abbrev pub bits : List Expr
bits =
    binary op.ShiftLeft one (number 33) ∷ binary op.ShiftRight (minus 1) one
    ∷ binary op.ShiftRightUnsigned (minus 1) (number 28) ∷ binary op.BitAnd (number 6) (number 3)
    ∷ binary op.BitOr (number 6) (number 3) ∷ binary op.BitXor (number 6) (number 3)
    ∷ binary op.BitAnd (minus 1) (number 255) ∷ binary op.BitOr (number 4294967296) one ∷ []

-- `1<2,2>1,1<=1,1>=2,NaN<1,NaN>=1,"a"<"b","b"<"a","a"<"ab","10"<"9","10"<9,null>=0,undefined<1`
abbrev pub orders : List Expr
orders =
    binary op.Less one two ∷ binary op.Greater two one ∷ binary op.LessEqual one one
    ∷ binary op.GreaterEqual one two ∷ binary op.Less nan one ∷ binary op.GreaterEqual nan one
    ∷ binary op.Less (text a) (text b) ∷ binary op.Less (text b) (text a)
    ∷ binary op.Less (text a) (text (codes "ab"))
    ∷ binary op.Less (text (codes "10")) (text (codes "9"))
    ∷ binary op.Less (text (codes "10")) (number 9) ∷ binary op.GreaterEqual tree.Null (number 0)
    ∷ binary op.Less nothing one ∷ []

-- `A<B`, and so on, where A shows `a` and B shows `b` when it is converted
abbrev pub compares : BinaryOp → List Expr
compares op = binary op (counted a one) (counted b two) ∷ []

-- `1=="1",null==undefined,null==0,NaN==NaN,true=="1",1!=2,{}=={},0==""`
abbrev pub equalities : List Expr
equalities =
    binary op.Equal one (text (codes "1")) ∷ binary op.Equal tree.Null nothing
    ∷ binary op.Equal tree.Null (number 0) ∷ binary op.Equal nan nan
    ∷ binary op.Equal (tree.Truth true) (text (codes "1")) ∷ binary op.NotEqual one two
    ∷ binary op.Equal empty empty ∷ binary op.Equal (number 0) (text []) ∷ []

-- `1===1,1==="1",NaN===NaN,null===undefined,"a"==="a",1!==1,{}==={}`
abbrev pub identities : List Expr
identities =
    binary op.Same one one ∷ binary op.Same one (text (codes "1")) ∷ binary op.Same nan nan
    ∷ binary op.Same tree.Null nothing ∷ binary op.Same (text a) (text a)
    ∷ binary op.NotSame one one ∷ binary op.Same empty empty ∷ []

-- `var o={};` and then `o==o,o===o,o==null,undefined==o,o=="[object Object]",`
-- `{valueOf:..1}==1,"2"=={valueOf:..2},true=={valueOf:..1}`
abbrev pub with_objects : List Expr
with_objects =
    binary op.Equal (name o) (name o) ∷ binary op.Same (name o) (name o)
    ∷ binary op.Equal (name o) tree.Null ∷ binary op.Equal nothing (name o)
    ∷ binary op.Equal (name o) (text (codes "[object Object]"))
    ∷ binary op.Equal (object ((value_of, function 1 [] (returns one ∷ [])) ∷ [])) one
    ∷ binary op.Equal (text (codes "2"))
    (object ((value_of, function 1 [] (returns two ∷ [])) ∷ []))
    ∷ binary op.Equal (tree.Truth true)
    (object ((value_of, function 1 [] (returns one ∷ [])) ∷ [])) ∷ []

-- `[] instanceof Object,1 instanceof Object,host.out instanceof Object,"a" in {a:1},`
-- `"toString" in {},"b" in {a:1}`
abbrev pub tests : List Expr
tests =
    binary op.InstanceOf (array []) (name (codes "Object"))
    ∷ binary op.InstanceOf one (name (codes "Object"))
    ∷ binary op.InstanceOf (dot (name (codes "host")) (codes "out")) (name (codes "Object"))
    ∷ binary op.In (text a) (object ((a, one) ∷ [])) ∷ binary op.In (text to_string) empty
    ∷ binary op.In (text b) (object ((a, one) ∷ [])) ∷ []

-- `e;`
abbrev pub only : Expr → List Stmt
only e = does e ∷ []

-- ---- conversions of objects

-- `{valueOf:..,toString:..}`, whose methods show `v` and `s` and give these
abbrev pub both : Expr → Expr → Expr
both v s = object (telling value_of (codes "v") v ∷ telling to_string (codes "s") s ∷ [])

-- `e+""`, `+e`, `{}[e]`
abbrev pub added : Expr → Expr
added e = binary op.Add e (text [])

abbrev pub number_of : Expr → Expr
number_of e = unary prefix.Plus e

abbrev pub read_by : Expr → Expr
read_by e = at empty e

-- `{valueOf:{}}+""`, `{valueOf:1,toString:function(){return "s";}}+""`
abbrev pub with_object_method : Expr
with_object_method = object ((value_of, empty) ∷ [])

abbrev pub with_number_method : Expr
with_number_method =
    object ((value_of, one) ∷ (to_string, function 1 [] (returns (text (codes "s")) ∷ [])) ∷ [])
