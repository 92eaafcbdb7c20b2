-- A script for each kind of node, each beside its text, by which its steps are counted.
use Rattle.std.specs.Prelude.{true, List, [], ◌∷◌, codes, None, Some}
use Rattle.js_tree.specs.declared.tree.BinaryOp.TheVariants as op
use Rattle.js_tree.specs.declared.tree.PostfixOp.TheVariants as postfix
use Rattle.js_tree.specs.declared.tree.PrefixOp.TheVariants as prefix
use Rattle.js_tree.specs.Tree.{Expr, Stmt, NoExpr, AnExpr, MoreVarItems, NoVarItems, NoStmt, AStmt}
use Rattle.js_tree.specs.Tree.{NoHandler, ACatch, Target, MoreCases, NoCases, Nothing}
use Rattle.js_tree.specs.Tree as tree
use Rattle.machine_rows.specs.Writing.{block, name, text, number, call, new, object, set, a, b}
use Rattle.machine_rows.specs.Writing.{function, blocks, declare, does, e, f, i, x}
use Rattle.machine_rows.specs.Scripts.{counts, dot, at}
use Rattle.machine_rows.specs.ExpressionScripts.{binary, unary, one, two}

-- ---- statements: `;` `{}` `var x;` `var x=1;` `function f(){}` `if(1);else;` `if(0);`

abbrev pub plain_statements : List Stmt
plain_statements =
    tree.Empty
    ∷ blocks []
    ∷ tree.Variables (MoreVarItems x NoExpr NoVarItems)
    ∷ tree.Variables (MoreVarItems x (AnExpr one) NoVarItems)
    ∷ declare 1 f [] []
    ∷ tree.If one tree.Empty (AStmt tree.Empty)
    ∷ tree.If (number 0) tree.Empty NoStmt ∷ []

-- `do;while(0);` `while(0);` `for(;;)break;` `for(var i=0;i<1;i++);` `for(x in {a:1});`

abbrev pub loops : List Stmt
loops =
    tree.DoWhile tree.Empty (number 0)
    ∷ tree.While (number 0) tree.Empty
    ∷ tree.For Nothing NoExpr NoExpr (tree.Break None)
    ∷ counts i 1 tree.Empty
    ∷ tree.ForIn (Target (name x)) (object ((a, one) ∷ [])) tree.Empty ∷ []

-- `a:for(;;)break a;` `a:{break a;}` `a:b:;` `switch(1){case 1:;}` `switch(1){default:;}`
-- `try{}finally{}` `try{throw 1;}catch(e){}` `try{}catch(e){}finally{}`

abbrev pub other_statements : List Stmt
other_statements =
    tree.Label a (tree.For Nothing NoExpr NoExpr (tree.Break (Some a)))
    ∷ tree.Label a (blocks (tree.Break (Some a) ∷ []))
    ∷ tree.Label a (tree.Label b tree.Empty)
    ∷ tree.Switch one (MoreCases (AnExpr one) (block (tree.Empty ∷ [])) NoCases)
    ∷ tree.Switch one (MoreCases NoExpr (block (tree.Empty ∷ [])) NoCases)
    ∷ tree.Try (blocks []) NoHandler (AStmt (blocks []))
    ∷ tree.Try (blocks (tree.Throw one ∷ [])) (ACatch e (blocks [])) NoStmt
    ∷ tree.Try (blocks []) (ACatch e (blocks [])) (AStmt (blocks [])) ∷ []

-- ---- expressions, each as a statement: `1` `""` `true` `null` `this` `Math` `[,1]` `{a:1}`
-- `function(){}` `Math.a` `Math[1]` `Math.abs(1)` `new Object(null)`

abbrev pub primaries : List Expr
primaries =
    one ∷ text [] ∷ tree.Truth true ∷ tree.Null ∷ tree.This ∷ name (codes "Math")
    ∷ tree.Array (tree.MoreElements NoExpr (tree.MoreElements (AnExpr one) tree.NoElements))
    ∷ object ((a, one) ∷ []) ∷ function 1 [] [] ∷ dot (name (codes "Math")) a
    ∷ at (name (codes "Math")) one ∷ call (dot (name (codes "Math")) (codes "abs")) (one ∷ [])
    ∷ new (name (codes "Object")) (tree.Null ∷ []) ∷ []

-- `x=1` `i++` `--i` `delete x` `void 1` `typeof x` `!1` `1+2` `1&&2` `0&&2` `1||2` `0||2` `1?2:3`
-- `1,2` `x+=1`, where x is 1 and i is 1

abbrev pub operations : List Expr
operations =
    set (name x) one ∷ tree.Postfix (name i) postfix.Increment
    ∷ unary prefix.Decrement (name i) ∷ unary prefix.Delete (name x) ∷ unary prefix.Void one
    ∷ unary prefix.TypeOf (name x) ∷ unary prefix.Not one ∷ binary op.Add one two
    ∷ tree.And one two ∷ tree.And (number 0) two ∷ tree.Or one two ∷ tree.Or (number 0) two
    ∷ tree.Cond one two two ∷ tree.Comma one two ∷ tree.Assign (Some op.Add) (name x) one ∷ []

abbrev pub alone : Expr → List Stmt
alone e = does e ∷ []

-- behind `var x=1,i=1;`, which takes three steps
abbrev pub behind_variables : Expr → List Stmt
behind_variables e =
    tree.Variables (MoreVarItems x (AnExpr one) (MoreVarItems i (AnExpr one) NoVarItems))
    ∷ does e ∷ []
