-- Worked texts: the tokens of each, its tree, and what the tree is written as.
use Rattle.std.specs.Prelude.{ℕ, ◌≡◌, true, false, List, [], ◌∷◌, codes, Some, None}
use Rattle.js_lexer.specs.declared.mark.Mark.TheVariants as m
use Rattle.js_lexer.specs.declared.word.Word.TheVariants as w
use Rattle.js_tree.specs.declared.tree.BinaryOp.TheVariants as b
use Rattle.js_tree.specs.declared.tree.PrefixOp.TheVariants as p
use Rattle.js_tree.specs.declared.tree.PostfixOp.TheVariants as q
use Rattle.js_tree.specs.Tree.{Script, Func, Stmts}
use Rattle.js_tree.specs.Tree
use Rattle.js_parser.specs.declared.form.Form.{Form}
use Rattle.js_parser.specs.declared.form.Limits.{Limits}
use Rattle.js_parser.specs.Symbols.{Symbols, word, mark, name, number, string, end}
use Rattle.js_parser.specs.Accepted.{Accepted}
use Rattle.js_parser.specs.Grammar.{code}
use Rattle.js_printer.specs.PrintedText.{script_text}

-- the tokens are an accepted script of this tree, which is written as the text
abbrev pub IsWorked : Form → Limits → Symbols → Script → List ℕ → Type 0
IsWorked form limits tokens tree text = Accepted form limits tokens tree × (script_text tree ≡ text)

-- `a` LF `++` LF `b`
abbrev pub three_lines : Symbols
three_lines = name (codes "a") false ∷ mark m.PlusPlus true ∷ name (codes "b") true ∷ end false ∷ []

abbrev pub three_lines_tree : Script
three_lines_tree = Tree.MoreStmts (Tree.Do (Tree.Ident (codes "a")))
    (Tree.MoreStmts (Tree.Do (Tree.Prefix p.Increment (Tree.Ident (codes "b")))) Tree.NoStmts)

-- `function f(){return` LF `x}`
abbrev pub returned_line : Symbols
returned_line = word w.Function false ∷ name (codes "f") false ∷ mark m.OpenParenthesis false
    ∷ mark m.CloseParenthesis false ∷ mark m.OpenBrace false ∷ word w.Return false ∷ name
    (codes "x") true ∷ mark m.CloseBrace false ∷ end false ∷ []

abbrev pub returned_line_tree : Script
returned_line_tree = Tree.MoreStmts (Tree.Declare
    (code (Some (codes "f")) ([]) (Tree.MoreStmts (Tree.Return Tree.NoExpr)
    (Tree.MoreStmts (Tree.Do (Tree.Ident (codes "x"))) Tree.NoStmts)))) Tree.NoStmts

-- `a` LF `(b)`
abbrev pub called_line : Symbols
called_line = name (codes "a") false ∷ mark m.OpenParenthesis true ∷ name (codes "b") false
    ∷ mark m.CloseParenthesis false ∷ end false ∷ []

abbrev pub called_line_tree : Script
called_line_tree = Tree.MoreStmts (Tree.Do (Tree.Call (Tree.Ident (codes "a"))
    (Tree.MoreExprs (Tree.Ident (codes "b")) Tree.NoExprs))) Tree.NoStmts

-- `x=- -a+ +0x1F`
abbrev pub signs : Symbols
signs = name (codes "x") false ∷ mark m.Assign false ∷ mark m.Minus false ∷ mark m.Minus false
    ∷ name (codes "a") false ∷ mark m.Plus false ∷ mark m.Plus false ∷ number 31 false
    ∷ end false ∷ []

abbrev pub signs_tree : Script
signs_tree = Tree.MoreStmts (Tree.Do (Tree.Assign None (Tree.Ident (codes "x"))
    (Tree.Binary b.Add (Tree.Prefix p.Minus (Tree.Prefix p.Minus (Tree.Ident (codes "a"))))
    (Tree.Prefix p.Plus (Tree.Num 31))))) Tree.NoStmts

-- `a+ ++b- --c;d++ +e`
abbrev pub signs_apart : Symbols
signs_apart = name (codes "a") false ∷ mark m.Plus false ∷ mark m.PlusPlus false ∷ name
    (codes "b") false ∷ mark m.Minus false ∷ mark m.MinusMinus false ∷ name (codes "c") false
    ∷ mark m.Semicolon false ∷ name (codes "d") false ∷ mark m.PlusPlus false
    ∷ mark m.Plus false ∷ name (codes "e") false ∷ end false ∷ []

abbrev pub signs_apart_tree : Script
signs_apart_tree = Tree.MoreStmts (Tree.Do (Tree.Binary b.Subtract
    (Tree.Binary b.Add (Tree.Ident (codes "a"))
    (Tree.Prefix p.Increment (Tree.Ident (codes "b"))))
    (Tree.Prefix p.Decrement (Tree.Ident (codes "c")))))
    (Tree.MoreStmts (Tree.Do (Tree.Binary b.Add
    (Tree.Postfix (Tree.Ident (codes "d")) q.Increment) (Tree.Ident (codes "e")))) Tree.NoStmts)

-- `new (a().b)(1)`
abbrev pub new_called : Symbols
new_called = word w.New false ∷ mark m.OpenParenthesis false ∷ name (codes "a") false
    ∷ mark m.OpenParenthesis false ∷ mark m.CloseParenthesis false ∷ mark m.Dot false ∷ name
    (codes "b") false ∷ mark m.CloseParenthesis false ∷ mark m.OpenParenthesis false
    ∷ number 1 false ∷ mark m.CloseParenthesis false ∷ end false ∷ []

abbrev pub new_called_tree : Script
new_called_tree = Tree.MoreStmts (Tree.Do (Tree.New
    (Tree.Dot (Tree.Call (Tree.Ident (codes "a")) Tree.NoExprs) (codes "b"))
    (Tree.MoreExprs (Tree.Num 1) Tree.NoExprs))) Tree.NoStmts

-- `var a=[1,,2,],o={"if":1,"b":2}`
abbrev pub literals : Symbols
literals = word w.Var false ∷ name (codes "a") false ∷ mark m.Assign false
    ∷ mark m.OpenBracket false ∷ number 1 false ∷ mark m.Comma false ∷ mark m.Comma false
    ∷ number 2 false ∷ mark m.Comma false ∷ mark m.CloseBracket false ∷ mark m.Comma false
    ∷ name (codes "o") false ∷ mark m.Assign false ∷ mark m.OpenBrace false ∷ string
    (codes "if") false ∷ mark m.Colon false ∷ number 1 false ∷ mark m.Comma false ∷ string
    (codes "b") false ∷ mark m.Colon false ∷ number 2 false ∷ mark m.CloseBrace false
    ∷ end false ∷ []

abbrev pub literals_tree : Script
literals_tree = Tree.MoreStmts (Tree.Variables
    (Tree.MoreVarItems (codes "a") (Tree.AnExpr
    (Tree.Array (Tree.MoreElements (Tree.AnExpr (Tree.Num 1))
    (Tree.MoreElements Tree.NoExpr (Tree.MoreElements
    (Tree.AnExpr (Tree.Num 2)) Tree.NoElements)))))
    (Tree.MoreVarItems (codes "o") (Tree.AnExpr
    (Tree.Object (Tree.MorePairs (codes "if") (Tree.Num 1)
    (Tree.MorePairs (codes "b") (Tree.Num 2) Tree.NoPairs)))) Tree.NoVarItems))) Tree.NoStmts

-- `for(var i=(1 in x);;);`
abbrev pub in_header : Symbols
in_header = word w.For false ∷ mark m.OpenParenthesis false ∷ word w.Var false ∷ name
    (codes "i") false ∷ mark m.Assign false ∷ mark m.OpenParenthesis false ∷ number 1 false
    ∷ word w.In false ∷ name (codes "x") false ∷ mark m.CloseParenthesis false
    ∷ mark m.Semicolon false ∷ mark m.Semicolon false ∷ mark m.CloseParenthesis false
    ∷ mark m.Semicolon false ∷ end false ∷ []

abbrev pub in_header_tree : Script
in_header_tree = Tree.MoreStmts (Tree.For (Tree.Vars
    (Tree.MoreVarItems (codes "i") (Tree.AnExpr
    (Tree.Binary b.In (Tree.Num 1) (Tree.Ident (codes "x")))) Tree.NoVarItems)) Tree.NoExpr
    Tree.NoExpr Tree.Empty) Tree.NoStmts

-- `if(a)if(b)c;else d`
abbrev pub nearest_if : Symbols
nearest_if = word w.If false ∷ mark m.OpenParenthesis false ∷ name (codes "a") false
    ∷ mark m.CloseParenthesis false ∷ word w.If false ∷ mark m.OpenParenthesis false ∷ name
    (codes "b") false ∷ mark m.CloseParenthesis false ∷ name (codes "c") false
    ∷ mark m.Semicolon false ∷ word w.Else false ∷ name (codes "d") false ∷ end false ∷ []

abbrev pub nearest_if_tree : Script
nearest_if_tree = Tree.MoreStmts (Tree.If (Tree.Ident (codes "a"))
    (Tree.If (Tree.Ident (codes "b")) (Tree.Do (Tree.Ident (codes "c")))
    (Tree.AStmt (Tree.Do (Tree.Ident (codes "d"))))) Tree.NoStmt) Tree.NoStmts

-- `l:while(a){if(b)continue l;else break}` LF `c`
abbrev pub labelled_loop : Symbols
labelled_loop = name (codes "l") false ∷ mark m.Colon false ∷ word w.While false
    ∷ mark m.OpenParenthesis false ∷ name (codes "a") false ∷ mark m.CloseParenthesis false
    ∷ mark m.OpenBrace false ∷ word w.If false ∷ mark m.OpenParenthesis false ∷ name
    (codes "b") false ∷ mark m.CloseParenthesis false ∷ word w.Continue false ∷ name
    (codes "l") false ∷ mark m.Semicolon false ∷ word w.Else false ∷ word w.Break false
    ∷ mark m.CloseBrace false ∷ name (codes "c") true ∷ end false ∷ []

abbrev pub labelled_loop_tree : Script
labelled_loop_tree = Tree.MoreStmts (Tree.Label (codes "l")
    (Tree.While (Tree.Ident (codes "a")) (Tree.Block
    (Tree.MoreStmts (Tree.If (Tree.Ident (codes "b")) (Tree.Continue (Some (codes "l")))
    (Tree.AStmt (Tree.Break None))) Tree.NoStmts))))
    (Tree.MoreStmts (Tree.Do (Tree.Ident (codes "c"))) Tree.NoStmts)

-- `do;while(a)` LF `(b)`
abbrev pub do_line : Symbols
do_line = word w.Do false ∷ mark m.Semicolon false ∷ word w.While false ∷ mark m.OpenParenthesis
    false ∷ name (codes "a") false ∷ mark m.CloseParenthesis false ∷ mark m.OpenParenthesis true
    ∷ name (codes "b") false ∷ mark m.CloseParenthesis false ∷ end false ∷ []

abbrev pub do_line_tree : Script
do_line_tree = Tree.MoreStmts (Tree.DoWhile Tree.Empty (Tree.Ident (codes "a")))
    (Tree.MoreStmts (Tree.Do (Tree.Ident (codes "b"))) Tree.NoStmts)

-- `switch(a){case 1:b` LF `case 2:default:break}`
abbrev pub clauses : Symbols
clauses = word w.Switch false ∷ mark m.OpenParenthesis false ∷ name (codes "a") false
    ∷ mark m.CloseParenthesis false ∷ mark m.OpenBrace false ∷ word w.Case false
    ∷ number 1 false ∷ mark m.Colon false ∷ name (codes "b") false ∷ word w.Case true
    ∷ number 2 false ∷ mark m.Colon false ∷ word w.Default false ∷ mark m.Colon false
    ∷ word w.Break false ∷ mark m.CloseBrace false ∷ end false ∷ []

abbrev pub clauses_tree : Script
clauses_tree = Tree.MoreStmts (Tree.Switch (Tree.Ident (codes "a"))
    (Tree.MoreCases (Tree.AnExpr (Tree.Num 1))
    (Tree.MoreStmts (Tree.Do (Tree.Ident (codes "b"))) Tree.NoStmts)
    (Tree.MoreCases (Tree.AnExpr (Tree.Num 2)) Tree.NoStmts
    (Tree.MoreCases Tree.NoExpr (Tree.MoreStmts (Tree.Break None) Tree.NoStmts) Tree.NoCases))))
    Tree.NoStmts

-- `try{throw a}catch(e){}finally{}`
abbrev pub handlers : Symbols
handlers = word w.Try false ∷ mark m.OpenBrace false ∷ word w.Throw false ∷ name (codes "a") false
    ∷ mark m.CloseBrace false ∷ word w.Catch false ∷ mark m.OpenParenthesis false ∷ name
    (codes "e") false ∷ mark m.CloseParenthesis false ∷ mark m.OpenBrace false
    ∷ mark m.CloseBrace false ∷ word w.Finally false ∷ mark m.OpenBrace false
    ∷ mark m.CloseBrace false ∷ end false ∷ []

abbrev pub handlers_tree : Script
handlers_tree = Tree.MoreStmts (Tree.Try (Tree.Block
    (Tree.MoreStmts (Tree.Throw (Tree.Ident (codes "a"))) Tree.NoStmts))
    (Tree.ACatch (codes "e") (Tree.Block Tree.NoStmts)) (Tree.AStmt (Tree.Block Tree.NoStmts)))
    Tree.NoStmts

-- `for(var k in o)r[k]=o[k]||!k`
abbrev pub properties : Symbols
properties = word w.For false ∷ mark m.OpenParenthesis false ∷ word w.Var false ∷ name
    (codes "k") false ∷ word w.In false ∷ name (codes "o") false ∷ mark m.CloseParenthesis false
    ∷ name (codes "r") false ∷ mark m.OpenBracket false ∷ name (codes "k") false
    ∷ mark m.CloseBracket false ∷ mark m.Assign false ∷ name (codes "o") false
    ∷ mark m.OpenBracket false ∷ name (codes "k") false ∷ mark m.CloseBracket false
    ∷ mark m.Or false ∷ mark m.Not false ∷ name (codes "k") false ∷ end false ∷ []

abbrev pub properties_tree : Script
properties_tree = Tree.MoreStmts (Tree.ForIn (Tree.AVar (codes "k") Tree.NoExpr)
    (Tree.Ident (codes "o")) (Tree.Do (Tree.Assign None
    (Tree.Index (Tree.Ident (codes "r")) (Tree.Ident (codes "k")))
    (Tree.Or (Tree.Index (Tree.Ident (codes "o")) (Tree.Ident (codes "k")))
    (Tree.Prefix p.Not (Tree.Ident (codes "k"))))))) Tree.NoStmts

-- `new new a;(new b).c`
abbrev pub news : Symbols
news = word w.New false ∷ word w.New false ∷ name (codes "a") false ∷ mark m.Semicolon false
    ∷ mark m.OpenParenthesis false ∷ word w.New false ∷ name (codes "b") false
    ∷ mark m.CloseParenthesis false ∷ mark m.Dot false ∷ name (codes "c") false ∷ end false ∷ []

abbrev pub news_tree : Script
news_tree = Tree.MoreStmts (Tree.Do (Tree.New (Tree.New (Tree.Ident (codes "a")) Tree.NoExprs)
    Tree.NoExprs)) (Tree.MoreStmts (Tree.Do
    (Tree.Dot (Tree.New (Tree.Ident (codes "b")) Tree.NoExprs) (codes "c"))) Tree.NoStmts)

-- `(function(){})();(function f(a,b){}).c`
abbrev pub functions : Symbols
functions = mark m.OpenParenthesis false ∷ word w.Function false ∷ mark m.OpenParenthesis false
    ∷ mark m.CloseParenthesis false ∷ mark m.OpenBrace false ∷ mark m.CloseBrace false
    ∷ mark m.CloseParenthesis false ∷ mark m.OpenParenthesis false ∷ mark m.CloseParenthesis
    false ∷ mark m.Semicolon false ∷ mark m.OpenParenthesis false ∷ word w.Function false ∷ name
    (codes "f") false ∷ mark m.OpenParenthesis false ∷ name (codes "a") false
    ∷ mark m.Comma false ∷ name (codes "b") false ∷ mark m.CloseParenthesis false
    ∷ mark m.OpenBrace false ∷ mark m.CloseBrace false ∷ mark m.CloseParenthesis false
    ∷ mark m.Dot false ∷ name (codes "c") false ∷ end false ∷ []

abbrev pub functions_tree : Script
functions_tree = Tree.MoreStmts (Tree.Do (Tree.Call (Tree.Function (code None ([]) Tree.NoStmts))
    Tree.NoExprs)) (Tree.MoreStmts (Tree.Do
    (Tree.Dot (Tree.Function (code (Some (codes "f"))
    ((codes "a") ∷ (codes "b") ∷ []) Tree.NoStmts)) (codes "c"))) Tree.NoStmts)

-- `a-b-c;a-(b-c);a?b:c?d:e;a=b=c;(a,b)?c:d`
abbrev pub groups : Symbols
groups = name (codes "a") false ∷ mark m.Minus false ∷ name (codes "b") false ∷ mark m.Minus false
    ∷ name (codes "c") false ∷ mark m.Semicolon false ∷ name (codes "a") false
    ∷ mark m.Minus false ∷ mark m.OpenParenthesis false ∷ name (codes "b") false
    ∷ mark m.Minus false ∷ name (codes "c") false ∷ mark m.CloseParenthesis false
    ∷ mark m.Semicolon false ∷ name (codes "a") false ∷ mark m.Question false ∷ name
    (codes "b") false ∷ mark m.Colon false ∷ name (codes "c") false ∷ mark m.Question false
    ∷ name (codes "d") false ∷ mark m.Colon false ∷ name (codes "e") false
    ∷ mark m.Semicolon false ∷ name (codes "a") false ∷ mark m.Assign false ∷ name
    (codes "b") false ∷ mark m.Assign false ∷ name (codes "c") false ∷ mark m.Semicolon false
    ∷ mark m.OpenParenthesis false ∷ name (codes "a") false ∷ mark m.Comma false ∷ name
    (codes "b") false ∷ mark m.CloseParenthesis false ∷ mark m.Question false ∷ name
    (codes "c") false ∷ mark m.Colon false ∷ name (codes "d") false ∷ end false ∷ []

abbrev pub groups_tree : Script
groups_tree = Tree.MoreStmts (Tree.Do (Tree.Binary b.Subtract
    (Tree.Binary b.Subtract (Tree.Ident (codes "a")) (Tree.Ident (codes "b")))
    (Tree.Ident (codes "c")))) (Tree.MoreStmts
    (Tree.Do (Tree.Binary b.Subtract (Tree.Ident (codes "a"))
    (Tree.Binary b.Subtract (Tree.Ident (codes "b")) (Tree.Ident (codes "c")))))
    (Tree.MoreStmts (Tree.Do (Tree.Cond (Tree.Ident (codes "a")) (Tree.Ident (codes "b"))
    (Tree.Cond (Tree.Ident (codes "c")) (Tree.Ident (codes "d")) (Tree.Ident (codes "e")))))
    (Tree.MoreStmts (Tree.Do (Tree.Assign None (Tree.Ident (codes "a"))
    (Tree.Assign None (Tree.Ident (codes "b")) (Tree.Ident (codes "c")))))
    (Tree.MoreStmts (Tree.Do (Tree.Cond (Tree.Comma (Tree.Ident (codes "a"))
    (Tree.Ident (codes "b"))) (Tree.Ident (codes "c")) (Tree.Ident (codes "d"))))
    Tree.NoStmts))))

-- `function g(){return eval($dl_get(2)).apply(this,arguments);}`
abbrev pub stub : Symbols
stub = word w.Function false ∷ name (codes "g") false ∷ mark m.OpenParenthesis false
    ∷ mark m.CloseParenthesis false ∷ mark m.OpenBrace false ∷ word w.Return false ∷ name
    (codes "eval") false ∷ mark m.OpenParenthesis false ∷ name (codes "$dl_get") false
    ∷ mark m.OpenParenthesis false ∷ number 2 false ∷ mark m.CloseParenthesis false
    ∷ mark m.CloseParenthesis false ∷ mark m.Dot false ∷ name (codes "apply") false
    ∷ mark m.OpenParenthesis false ∷ word w.This false ∷ mark m.Comma false ∷ name
    (codes "arguments") false ∷ mark m.CloseParenthesis false ∷ mark m.Semicolon false
    ∷ mark m.CloseBrace false ∷ end false ∷ []

abbrev pub stub_tree : Script
stub_tree = Tree.MoreStmts (Tree.Declare (code (Some (codes "g")) ([])
    (Tree.MoreStmts (Tree.Return (Tree.AnExpr
    (Tree.Call (Tree.Dot (Tree.Late 2) (codes "apply"))
    (Tree.MoreExprs Tree.This (Tree.MoreExprs (Tree.Ident (codes "arguments")) Tree.NoExprs)))))
    Tree.NoStmts))) Tree.NoStmts

-- the function of `(function(){host.out("two");})`
abbrev pub entry : Func
entry = code None [] (Tree.MoreStmts (Tree.Do
    (Tree.Call (Tree.Dot (Tree.Ident (codes "host")) (codes "out"))
    (Tree.MoreExprs (Tree.Str (codes "two")) Tree.NoExprs))) Tree.NoStmts)

abbrev pub entry_body : Stmts
entry_body = Tree.MoreStmts (Tree.Do (Tree.Call (Tree.Dot (Tree.Ident (codes "host")) (codes "out"))
    (Tree.MoreExprs (Tree.Str (codes "two")) Tree.NoExprs))) Tree.NoStmts
