-- How statements are read (ES3 sections 12 to 14).
use Rattle.std.specs.Prelude.{◌&&◌, ◌||◌, not, Bool, true, false, List, [], ◌∷◌, Option, Some, None}
use Rattle.js_lexer.specs.declared.mark.Mark.TheVariants as m
use Rattle.js_lexer.specs.declared.word.Word.TheVariants as w
use Rattle.js_lexer.specs.declared.token.TokenKind.{TokenKind}
use Rattle.js_lexer.specs.declared.token.TokenKind.TheVariants as k
use Rattle.js_tree.specs.Tree.{Name, Expr, MaybeExpr, Stmt, Stmts, Cases, ForInit, Handler}
use Rattle.js_tree.specs.Tree
use Rattle.js_parser.specs.declared.form.Form.{Form}
use Rattle.js_parser.specs.Symbols.{Symbol, Symbols}
use Rattle.js_parser.specs.Operators.{is_target}
use Rattle.js_parser.specs.Names.{is_reference, is_binding, is_among}
use Rattle.js_parser.specs.Contexts.{Context}
use Rattle.js_parser.specs.Contexts as context
use Rattle.js_parser.specs.Grammar.{code}
use Rattle.js_parser.specs.Rooms.{Room, inside, in_function, fits_node, fits_function}
use Rattle.js_parser.specs.States.{State, done, stuck, comma, rest, declarator, declarators, optional, statement, list, source, clauses, To, guard, fitting, expect, ended, ended_at_once, is_open_parenthesis, is_close_parenthesis, is_open_brace, is_close_brace, is_colon, is_semicolon, is_while, is_end}

abbrev pub stated : Room → To Stmt → Symbols → State
stated room next ts = comma (inside room) true (λ x r. ended (next (Tree.Do x)) r) ts

-- behind its `{`, and with it, a statement in braces
abbrev pub braces : Room → Context → To Stmt → Symbols → State
braces room c next ts =
    fitting (fits_node room) ts (list (inside room) (context.part c)
    (λ ss. expect is_close_brace (next (Tree.Block ss))) ts)

abbrev pub block : Room → Context → To Stmt → Symbols → State
block room c next = expect is_open_brace (braces room c next)

-- the names are some
abbrev pub are_some : List Name → Bool
are_some [] = false
are_some (n ∷ ns) = true

abbrev pub if_by : Room → Context → TokenKind → Expr → Stmt → To Stmt → Symbol → Symbols → State
if_by room c (k.Word w.Else) x body next s ts =
    statement (inside room) (context.part c) (λ other r. next
    (Tree.If x body (Tree.AStmt other)) r) ts
if_by room c _ x body next s ts = next (Tree.If x body Tree.NoStmt) (s ∷ ts)

abbrev pub after_if : Room → Context → Expr → Stmt → To Stmt → Symbols → State
after_if room c x body next [] = next (Tree.If x body Tree.NoStmt) []
after_if room c x body next (s ∷ ts) = if_by room c s.kind x body next s ts

-- the rest of a `for` header and its body, in the room inside the loop and the body's context
abbrev pub for_rest : Room → Context → ForInit → To Stmt → Symbols → State
for_rest room c init next ts =
    expect is_semicolon (optional room (λ test. expect is_semicolon
    (optional room (λ step. expect is_close_parenthesis
    (statement room c (λ body r. next (Tree.For init test step body) r)))))) ts

abbrev pub for_var_by : Room → Context → TokenKind → Name → MaybeExpr → To Stmt → Symbol → Symbols
    → State
for_var_by room c (k.Word w.In) n value next s ts =
    comma room true (λ y. expect is_close_parenthesis
    (statement room c (λ body r. next (Tree.ForIn (Tree.AVar n value) y body) r))) ts
for_var_by room c (k.Mark m.Comma) n value next s ts =
    declarators room false (λ items r. for_rest room c
    (Tree.Vars (Tree.MoreVarItems n value items)) next r) ts
for_var_by room c _ n value next s ts =
    for_rest room c (Tree.Vars (Tree.MoreVarItems n value Tree.NoVarItems)) next (s ∷ ts)

abbrev pub for_var : Room → Context → Name → MaybeExpr → To Stmt → Symbols → State
for_var room c n value next [] = stuck []
for_var room c n value next (s ∷ ts) = for_var_by room c s.kind n value next s ts

abbrev pub for_expression_by : Room → Context → TokenKind → Expr → To Stmt → Symbol → Symbols
    → State
for_expression_by room c (k.Word w.In) x next s ts =
    guard (is_target x) (s ∷ ts) (comma room true
    (λ y. expect is_close_parenthesis (statement room c
    (λ body r. next (Tree.ForIn (Tree.Target x) y body) r))) ts)
for_expression_by room c _ x next s ts = for_rest room c (Tree.First x) next (s ∷ ts)

abbrev pub for_expression : Room → Context → Expr → To Stmt → Symbols → State
for_expression room c x next [] = stuck []
for_expression room c x next (s ∷ ts) = for_expression_by room c s.kind x next s ts

abbrev pub for_by : Room → Context → TokenKind → To Stmt → Symbol → Symbols → State
for_by room c (k.Word w.Var) next s ts =
    declarator room false (λ n value r. for_var room c n value next r) ts
for_by room c (k.Mark m.Semicolon) next s ts = for_rest room c Tree.Nothing next (s ∷ ts)
for_by room c _ next s ts = comma room false (λ x r. for_expression room c x next r) (s ∷ ts)

abbrev pub for_header : Room → Context → To Stmt → Symbols → State
for_header room c next [] = stuck []
for_header room c next (s ∷ ts) = for_by room c s.kind next s ts

-- a `continue` or `break`, which may stand without a label, and with these
abbrev pub jump_by : Form → TokenKind → Bool → Bool → List Name → (Option Name → Stmt) → To Stmt
    → Symbol → Symbols → State
jump_by form (k.Name n) false may names made next s ts =
    guard (is_reference form n && is_among n names) (s ∷ ts) (ended (next (made (Some n))) ts)
jump_by form _ _ may names made next s ts =
    guard may (s ∷ ts) (ended_at_once (next (made None)) (s ∷ ts))

abbrev pub jump : Form → Bool → List Name → (Option Name → Stmt) → To Stmt → Symbols → State
jump form may names made next [] = guard may [] (next (made None) [])
jump form may names made next (s ∷ ts) = jump_by form s.kind s.newline may names made next s ts

abbrev pub return_by : Room → Bool → TokenKind → To Stmt → Symbol → Symbols → State
return_by room true kind next s ts = next (Tree.Return Tree.NoExpr) (s ∷ ts)
return_by room false (k.Mark m.Semicolon) next s ts = next (Tree.Return Tree.NoExpr) ts
return_by room false (k.Mark m.CloseBrace) next s ts = next (Tree.Return Tree.NoExpr) (s ∷ ts)
return_by room false k.End next s ts = next (Tree.Return Tree.NoExpr) (s ∷ ts)
return_by room false _ next s ts =
    comma (inside room) true (λ x r. ended (next (Tree.Return (Tree.AnExpr x))) r) (s ∷ ts)

abbrev pub returned : Room → To Stmt → Symbols → State
returned room next [] = next (Tree.Return Tree.NoExpr) []
returned room next (s ∷ ts) = return_by room s.newline s.kind next s ts

abbrev pub thrown : Room → To Stmt → Symbols → State
thrown room next [] = stuck []
thrown room next (s ∷ ts) =
    guard (not s.newline) (s ∷ ts) (comma (inside room) true (λ x r. ended (next (Tree.Throw x)) r)
    (s ∷ ts))

abbrev pub finally_by : Room → Context → TokenKind → Stmt → Handler → To Stmt → Symbol → Symbols
    → State
finally_by room c (k.Word w.Finally) tried handler next s ts =
    block (inside room) c (λ last r. next (Tree.Try tried handler (Tree.AStmt last)) r) ts
finally_by room c _ tried handler next s ts = next (Tree.Try tried handler Tree.NoStmt) (s ∷ ts)

abbrev pub after_catch : Room → Context → Stmt → Handler → To Stmt → Symbols → State
after_catch room c tried handler next [] = next (Tree.Try tried handler Tree.NoStmt) []
after_catch room c tried handler next (s ∷ ts) = finally_by room c s.kind tried handler next s ts

abbrev pub catch_by : Form → Room → Context → TokenKind → Stmt → To Stmt → Symbol → Symbols → State
catch_by form room c (k.Name n) tried next s ts =
    guard (is_binding form n) (s ∷ ts) (expect is_close_parenthesis
    (block (inside room) c (λ handler r. after_catch room c tried
    (Tree.ACatch n handler) next r)) ts)
catch_by form room c _ tried next s ts = stuck (s ∷ ts)

abbrev pub catch_name : Form → Room → Context → Stmt → To Stmt → Symbols → State
catch_name form room c tried next [] = stuck []
catch_name form room c tried next (s ∷ ts) = catch_by form room c s.kind tried next s ts

abbrev pub try_by : Form → Room → Context → TokenKind → Stmt → To Stmt → Symbol → Symbols → State
try_by form room c (k.Word w.Catch) tried next s ts =
    expect is_open_parenthesis (catch_name form room c tried next) ts
try_by form room c (k.Word w.Finally) tried next s ts =
    block (inside room) c (λ last r. next (Tree.Try tried Tree.NoHandler (Tree.AStmt last)) r) ts
try_by form room c _ tried next s ts = stuck (s ∷ ts)

abbrev pub after_try : Form → Room → Context → Stmt → To Stmt → Symbols → State
after_try form room c tried next [] = stuck []
after_try form room c tried next (s ∷ ts) = try_by form room c s.kind tried next s ts

-- behind a label and its colon; another name than a label's is read as an expression
abbrev pub labelled : Bool → Room → Context → Name → To Stmt → Symbol → Symbol → Symbols → State
labelled true room c n next s t ts =
    guard (not (is_among n c.labels)) (t ∷ ts)
    (fitting (fits_node room) ts (statement (inside room) (context.labelled n c)
    (λ body r. next (Tree.Label n body) r) ts))
labelled false room c n next s t ts = stated room next (s ∷ t ∷ ts)

abbrev pub label_by : Form → Room → Context → TokenKind → Name → To Stmt → Symbol → Symbol → Symbols
    → State
label_by form room c (k.Mark m.Colon) n next s t ts =
    labelled (is_reference form n) room c n next s t ts
label_by form room c _ n next s t ts = stated room next (s ∷ t ∷ ts)

abbrev pub label : Form → Room → Context → Name → To Stmt → Symbol → Symbols → State
label form room c n next s [] = stated room next (s ∷ [])
label form room c n next s (t ∷ ts) = label_by form room c t.kind n next s t ts

abbrev pub statement_by : Form → Room → Context → TokenKind → To Stmt → Symbol → Symbols → State
statement_by form room c (k.Mark m.OpenBrace) next s ts = braces room c next ts
statement_by form room c (k.Word w.Var) next s ts =
    fitting (fits_node room) ts (declarators (inside room) true
    (λ items r. ended (next (Tree.Variables items)) r) ts)
statement_by form room c (k.Mark m.Semicolon) next s ts =
    fitting (fits_node room) ts (next Tree.Empty ts)
statement_by form room c (k.Word w.If) next s ts =
    fitting (fits_node room) ts (expect is_open_parenthesis
    (comma (inside room) true (λ x. expect is_close_parenthesis
    (statement (inside room) (context.part c) (λ body r. after_if room c x body next r)))) ts)
statement_by form room c (k.Word w.Do) next s ts =
    fitting (fits_node room) ts (statement (inside room) (context.loop c)
    (λ body. expect is_while (expect is_open_parenthesis
    (comma (inside room) true (λ x. expect is_close_parenthesis
    (ended (next (Tree.DoWhile body x))))))) ts)
statement_by form room c (k.Word w.While) next s ts =
    fitting (fits_node room) ts (expect is_open_parenthesis
    (comma (inside room) true (λ x. expect is_close_parenthesis
    (statement (inside room) (context.loop c) (λ body r. next (Tree.While x body) r)))) ts)
statement_by form room c (k.Word w.For) next s ts =
    fitting (fits_node room) ts (expect is_open_parenthesis
    (for_header (inside room) (context.loop c) next) ts)
statement_by form room c (k.Word w.Continue) next s ts =
    guard (c.in_loop || are_some c.loops) (s ∷ ts)
    (fitting (fits_node room) ts (jump form c.in_loop c.loops Tree.Continue next ts))
statement_by form room c (k.Word w.Break) next s ts =
    guard (context.may_break c || are_some c.labels) (s ∷ ts)
    (fitting (fits_node room) ts (jump form (context.may_break c) c.labels Tree.Break next ts))
statement_by form room c (k.Word w.Return) next s ts =
    guard c.in_function (s ∷ ts) (fitting (fits_node room) ts (returned room next ts))
statement_by form room c (k.Word w.Switch) next s ts =
    fitting (fits_node room) ts (expect is_open_parenthesis
    (comma (inside room) true (λ x. expect is_close_parenthesis
    (expect is_open_brace (clauses (inside room) (context.clause c) true
    (λ cs. expect is_close_brace (next (Tree.Switch x cs))))))) ts)
statement_by form room c (k.Word w.Throw) next s ts =
    fitting (fits_node room) ts (thrown room next ts)
statement_by form room c (k.Word w.Try) next s ts =
    fitting (fits_node room) ts (block (inside room) (context.part c)
    (λ tried r. after_try form room (context.part c) tried next r) ts)
statement_by form room c (k.Word w.Function) next s ts = stuck (s ∷ ts)
statement_by form room c (k.Name n) next s ts = label form room c n next s ts
statement_by form room c _ next s ts = stated room next (s ∷ ts)

abbrev pub list_by : Room → Context → TokenKind → To Stmts → Symbol → Symbols → State
list_by room c (k.Mark m.CloseBrace) next s ts = next Tree.NoStmts (s ∷ ts)
list_by room c k.End next s ts = next Tree.NoStmts (s ∷ ts)
list_by room c (k.Word w.Case) next s ts = next Tree.NoStmts (s ∷ ts)
list_by room c (k.Word w.Default) next s ts = next Tree.NoStmts (s ∷ ts)
list_by room c _ next s ts =
    statement room c (λ x r. list room c (λ xs o. next (Tree.MoreStmts x xs) o) r) (s ∷ ts)

abbrev pub declared_by : Form → Room → Context → TokenKind → To Stmts → Symbol → Symbols → State
declared_by form room c (k.Name n) next s ts =
    guard (is_binding form n) (s ∷ ts) (rest (in_function room)
    (λ ns body r. source room c (λ xs o. next
    (Tree.MoreStmts (Tree.Declare (code (Some n) ns body)) xs) o) r) ts)
declared_by form room c _ next s ts = stuck (s ∷ ts)

abbrev pub declared : Form → Room → Context → To Stmts → Symbols → State
declared form room c next [] = stuck []
declared form room c next (s ∷ ts) = declared_by form room c s.kind next s ts

abbrev pub source_by : Form → Room → Context → TokenKind → To Stmts → Symbol → Symbols → State
source_by form room c (k.Mark m.CloseBrace) next s ts = next Tree.NoStmts (s ∷ ts)
source_by form room c k.End next s ts = next Tree.NoStmts (s ∷ ts)
source_by form room c (k.Word w.Function) next s ts =
    fitting (fits_function room) ts (declared form room c next ts)
source_by form room c _ next s ts =
    statement room c (λ x r. source room c (λ xs o. next (Tree.MoreStmts x xs) o) r) (s ∷ ts)

abbrev pub clauses_by : Room → Context → Bool → TokenKind → To Cases → Symbol → Symbols → State
clauses_by room c may (k.Word w.Case) next s ts =
    comma room true (λ x. expect is_colon (list room c
    (λ ss r. clauses room c may (λ cs o. next (Tree.MoreCases (Tree.AnExpr x) ss cs) o) r))) ts
clauses_by room c may (k.Word w.Default) next s ts =
    guard may (s ∷ ts) (expect is_colon (list room c
    (λ ss r. clauses room c false (λ cs o. next (Tree.MoreCases Tree.NoExpr ss cs) o) r)) ts)
clauses_by room c may _ next s ts = next Tree.NoCases (s ∷ ts)

-- the end closes a whole script, and nothing stands behind it
abbrev pub finished_by : Stmts → Symbols → State
finished_by ss [] = done ss
finished_by ss (s ∷ ts) = stuck (s ∷ ts)

abbrev pub finished : To Stmts
finished ss [] = stuck []
finished ss (s ∷ ts) = guard (is_end s.kind) (s ∷ ts) (finished_by ss ts)

abbrev pub script : Room → Symbols → State
script room ts = source room context.script finished ts
