-- A node of each kind, for the rows on what is a name, what is a dot and what is built.
use Rattle.std.specs.Prelude.{true, List, [], ◌∷◌, None, Some}
use Rattle.js_tree.specs.declared.tree.BinaryOp.TheVariants as op
use Rattle.js_tree.specs.declared.tree.PostfixOp.TheVariants as postfix
use Rattle.js_tree.specs.declared.tree.PrefixOp.{PrefixOp}
use Rattle.js_tree.specs.declared.tree.PrefixOp.TheVariants as prefix
use Rattle.js_tree.specs.declared.tree.Role.TheVariants as role
use Rattle.js_tree.specs.Tree.{Expr, Func, Code, MaybeExpr, NoExpr, AnExpr, NoExprs, MoreExprs}
use Rattle.js_tree.specs.Tree.{NoElements, NoPairs, NoStmts, NoStmt, AStmt, Stmt, NoHandler}
use Rattle.js_tree.specs.Tree.{Nothing}
use Rattle.js_tree.specs.Tree.{ACatch, AVar, Target, VarItems, NoVarItems, MoreVarItems, NoCases}
use Rattle.js_tree.specs.Tree as tree
use Rattle.machine_rows.specs.Writing.{a, f, g, x}

-- ---- expressions

abbrev pub one : Expr
one = tree.Num 1

abbrev pub name : Expr
name = tree.Ident x

abbrev pub dot : Expr
dot = tree.Dot name a

abbrev pub index : Expr
index = tree.Index name one

abbrev pub declared : Func
declared = Code 1 (Some f) [] NoStmts role.Plain

abbrev pub other_declared : Func
other_declared = Code 2 (Some g) [] NoStmts role.Plain

-- those without parts, in the order of the tree: `1` `"a"` `true` `null` `this`
abbrev pub literals : List Expr
literals = one ∷ tree.Str a ∷ tree.Truth true ∷ tree.Null ∷ tree.This ∷ []

-- behind names, up to dots: `[]` `{}` `function f(){}`
abbrev pub makers : List Expr
makers = tree.Array NoElements ∷ tree.Object NoPairs ∷ tree.Function declared ∷ []

-- `x.a()` `x[1]()` `x()` `x.a().a()`
abbrev pub calls : List Expr
calls =
    tree.Call dot NoExprs ∷ tree.Call index NoExprs ∷ tree.Call name NoExprs
    ∷ tree.Call (tree.Dot (tree.Call dot NoExprs) a) NoExprs ∷ []

-- `new x` `new x.a()`
abbrev pub news : List Expr
news = tree.New name NoExprs ∷ tree.New dot NoExprs ∷ []

-- `1+1` `1&&1` `1||1` `1,1` `1?1:1`
abbrev pub operations : List Expr
operations =
    tree.Binary op.Add one one ∷ tree.And one one ∷ tree.Or one one ∷ tree.Comma one one
    ∷ tree.Cond one one one ∷ []

-- `x` `x.a` `x[1]` `1`
abbrev pub targets : List Expr
targets = name ∷ dot ∷ index ∷ one ∷ []

abbrev pub prefixes : List PrefixOp
prefixes =
    prefix.Delete ∷ prefix.Void ∷ prefix.TypeOf ∷ prefix.Increment ∷ prefix.Decrement
    ∷ prefix.Plus ∷ prefix.Minus ∷ prefix.BitNot ∷ prefix.Not ∷ []

abbrev pub late : Expr
late = tree.Late 8

-- one of each kind, in the order of the tree: the sixth is a name, and the tenth a dot
abbrev pub expressions : List Expr
expressions =
    one ∷ tree.Str a ∷ tree.Truth true ∷ tree.Null ∷ tree.This ∷ name
    ∷ tree.Array NoElements ∷ tree.Object NoPairs ∷ tree.Function declared ∷ dot ∷ index
    ∷ tree.Call dot NoExprs ∷ tree.New name NoExprs ∷ tree.Postfix name postfix.Increment
    ∷ tree.Prefix prefix.Not name ∷ tree.Binary op.Add name name ∷ tree.And name name
    ∷ tree.Or name name ∷ tree.Comma name name ∷ tree.Cond name name name
    ∷ tree.Assign None name name ∷ late ∷ []

-- ---- statements

-- one of each kind, in the order of the tree: `{}` `var ;` `;` `x;` `if(x);` `do;while(x);`
-- `while(x);` `for(;;);` `for(x in x);` `continue;` `break;` `return;` `switch(x){}` `a:;`
-- `throw x;` `try{}finally{}` `function f(){}` and the note of a use
abbrev pub statements : List Stmt
statements =
    tree.Block NoStmts ∷ tree.Variables NoVarItems ∷ tree.Empty ∷ tree.Do name
    ∷ tree.If name tree.Empty NoStmt ∷ tree.DoWhile tree.Empty name ∷ tree.While name tree.Empty
    ∷ tree.For Nothing NoExpr NoExpr tree.Empty ∷ tree.ForIn (Target name) name tree.Empty
    ∷ tree.Continue None ∷ tree.Break None ∷ tree.Return NoExpr ∷ tree.Switch name NoCases
    ∷ tree.Label a tree.Empty ∷ tree.Throw name
    ∷ tree.Try (tree.Block NoStmts) NoHandler (AStmt (tree.Block NoStmts))
    ∷ tree.Declare declared ∷ tree.Used 3 ∷ []

-- `continue a;` `break a;`
abbrev pub far_jumps : List Stmt
far_jumps = tree.Continue (Some a) ∷ tree.Break (Some a) ∷ []

-- `;` `break;` `break a;` `continue;` `continue a;` `return 1;`
abbrev pub endings : List Stmt
endings =
    tree.Empty ∷ tree.Break None ∷ tree.Break (Some a) ∷ tree.Continue None
    ∷ tree.Continue (Some a) ∷ tree.Return (AnExpr one) ∷ []
