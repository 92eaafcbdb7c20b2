-- The rules of statements that the parser has a method for, beside those of the machine.
use Rattle.std.specs.Prelude.{◌&&◌, ◌||◌, not, Bool, true, false, List, [], ◌∷◌, Option, Some, None}
use Rattle.js_lexer.specs.declared.mark.Mark.TheVariants as m
use Rattle.js_lexer.specs.declared.word.Word.TheVariants as w
use Rattle.js_lexer.specs.declared.token.TokenKind.{TokenKind}
use Rattle.js_lexer.specs.declared.token.TokenKind.TheVariants as k
use Rattle.js_tree.specs.Plain.{VarPart}
use Rattle.js_tree.specs.Tree.{Name, Expr, MaybeExpr, Stmt, Cases, VarItems, ForInit, ForTarget}
use Rattle.js_tree.specs.Tree
use Rattle.js_parser.specs.declared.form.Form.{Form}
use Rattle.js_parser.specs.declared.statement_kind.Behind.{Behind}
use Rattle.js_parser.specs.declared.statement_kind.Behind.TheVariants as begun
use Rattle.js_parser.specs.declared.statement_kind.Kind.{Kind}
use Rattle.js_parser.specs.declared.statement_kind.Kind.TheVariants as kind
use Rattle.js_parser.specs.Symbols.{Symbols, behind}
use Rattle.js_parser.specs.Names.{is_reference, is_among}
use Rattle.js_parser.specs.Contexts.{Context}
use Rattle.js_parser.specs.Contexts as context
use Rattle.js_parser.specs.Rooms.{Room, inside, fits_node}
use Rattle.js_parser.specs.Machine as rule
use Rattle.js_parser.specs.StatementPieces.{binding, declarator}
use Rattle.js_parser.specs.Machine.{State, To, stuck, comma, declarators, optional, statement, clauses, guard, fitting, expect, ended, ended_at_once, may_insert, is_semicolon, is_open_parenthesis, is_close_parenthesis, is_open_brace, is_close_brace, is_while, stated, block, braces, are_some, after_if, jump, returned, thrown, after_try, after_catch}

-- ---- ends

-- a statement may end before these
abbrev pub may_end : Symbols → Bool
may_end [] = true
may_end (s ∷ ss) = may_insert s

abbrev pub semicolon_on_line : Symbols → Bool
semicolon_on_line [] = false
semicolon_on_line (s ∷ ss) = is_semicolon s.kind && not s.newline

-- a token is left, and no line terminator stands before it
abbrev pub is_on_line : Symbols → Bool
is_on_line [] = false
is_on_line (s ∷ ss) = not s.newline

-- the name that comes first, where a colon stands behind it
abbrev pub before_colon : TokenKind → TokenKind → Option Name
before_colon (k.Name n) (k.Mark m.Colon) = Some n
before_colon _ _ = None

abbrev pub label_at : Symbols → Option Name
label_at [] = None
label_at (s ∷ []) = None
label_at (s ∷ t ∷ ss) = before_colon s.kind t.kind

-- ---- conditions and choices

abbrev pub condition : Room → To Expr → Symbols → State
condition room next =
    expect is_open_parenthesis (comma (inside room) true
    (λ x. expect is_close_parenthesis (next x)))

abbrev pub if_statement : Room → Context → To Stmt → Symbols → State
if_statement room c next ts =
    fitting (fits_node room) ts (condition room (λ x. statement (inside room) (context.part c)
    (λ body r. after_if room c x body next r)) ts)

abbrev pub cases : Room → Context → To Cases → Symbols → State
cases room c next =
    expect is_open_brace (clauses (inside room) (context.clause c) true
    (λ cs. expect is_close_brace (next cs)))

abbrev pub switch : Room → Context → To Stmt → Symbols → State
switch room c next ts =
    fitting (fits_node room) ts (condition room (λ x. cases room c (λ cs. next (Tree.Switch x cs)))
    ts)

-- ---- loops

abbrev pub do_test : Room → To Expr → Symbols → State
do_test room next = expect is_while (condition room (λ x. ended (next x)))

abbrev pub do_loop : Room → Context → To Stmt → Symbols → State
do_loop room c next ts =
    fitting (fits_node room) ts (statement (inside room) (context.loop c)
    (λ body. do_test room (λ x. next (Tree.DoWhile body x))) ts)

abbrev pub while_loop : Room → Context → To Stmt → Symbols → State
while_loop room c next ts =
    fitting (fits_node room) ts (condition room (λ x. statement (inside room) (context.loop c)
    (λ body r. next (Tree.While x body) r)) ts)

-- what is read behind the first part of a `for` header
pub record ForRest : Type 0 where
  pub test : MaybeExpr
  pub step : MaybeExpr
  pub body : Stmt

-- in the room inside the loop, as the rules of `for` below
abbrev pub for_body : Room → Context → MaybeExpr → MaybeExpr → To ForRest → Symbols → State
for_body room c test step next =
    expect is_close_parenthesis (statement room (context.loop c)
    (λ body r. next (record { test = test; step = step; body = body }) r))

abbrev pub for_step : Room → Context → MaybeExpr → To ForRest → Symbols → State
for_step room c test next =
    expect is_semicolon (optional room (λ step. for_body room c test step next))

abbrev pub for_parts : Room → Context → To ForRest → Symbols → State
for_parts room c next =
    expect is_semicolon (optional room (λ test. for_step room c test next))

-- the loop with this first part
abbrev pub loop_of : ForInit → ForRest → Stmt
loop_of init rest = Tree.For init rest.test rest.step rest.body

-- what is read behind the `in` of a `for-in`
pub record Iteration : Type 0 where
  pub object : Expr
  pub body : Stmt

abbrev pub iteration : Room → Context → To Iteration → Symbols → State
iteration room c next =
    comma room true (λ y. expect is_close_parenthesis (statement room (context.loop c)
    (λ body r. next (record { object = y; body = body }) r)))

abbrev pub for_in : ForTarget → Room → Context → To Stmt → Symbols → State
for_in target room c next = iteration room c (λ i r. next (Tree.ForIn target i.object i.body) r)

abbrev pub a_var : VarPart → ForTarget
a_var v = Tree.AVar v.name v.value

-- the declarators of which this is the first
abbrev pub and_more : VarPart → VarItems → ForInit
and_more v items = Tree.Vars (Tree.MoreVarItems v.name v.value items)

-- behind the comma that stands behind the first declarator of a `for` header
abbrev pub more_variables : VarPart → Room → Context → To Stmt → Symbols → State
more_variables v room c next =
    declarators room false (λ items. for_parts room c
    (λ rest r. next (loop_of (and_more v items) rest) r))

-- behind the first declarator
abbrev pub for_var : VarPart → Room → Context → To Stmt → Symbols → State
for_var v room c next = rule.for_var room (context.loop c) v.name v.value next

-- behind the `var` of a `for` header
abbrev pub for_variables : Room → Context → To Stmt → Symbols → State
for_variables room c next = declarator room false (λ v r. for_var v room c next r)

-- behind the expression that begins a `for` header
abbrev pub for_expression : Expr → Room → Context → To Stmt → Symbols → State
for_expression x room c next = rule.for_expression room (context.loop c) x next

abbrev pub for_first : Room → Context → To Stmt → Symbols → State
for_first room c next = comma room false (λ x r. for_expression x room c next r)

abbrev pub for_header : Room → Context → To Stmt → Symbols → State
for_header room c next = rule.for_header room (context.loop c) next

abbrev pub for_loop : Room → Context → To Stmt → Symbols → State
for_loop room c next ts =
    fitting (fits_node room) ts (expect is_open_parenthesis (for_header (inside room) c next) ts)

-- ---- jumps

-- a label on the line, if there is one
abbrev pub label_by : TokenKind → Bool → Option Name
label_by (k.Name n) false = Some n
label_by _ _ = None

abbrev pub label_on_line : Symbols → Option Name
label_on_line [] = None
label_on_line (s ∷ ss) = label_by s.kind s.newline

-- to this label, which is the first symbol
abbrev pub jump_to : Form → List Name → Name → To (Option Name) → Symbols → State
jump_to form names n next ts =
    guard (is_reference form n && is_among n names) ts (ended (next (Some n)) (behind ts))

-- with no label
abbrev pub no_label : Bool → To (Option Name) → Symbols → State
no_label may next ts = guard may ts (ended_at_once (next None) ts)

abbrev pub jump_by : Form → Bool → List Name → Option Name → To (Option Name) → Symbols → State
jump_by form may names (Some n) next ts = jump_to form names n next ts
jump_by form may names None next ts = no_label may next ts

-- where a `continue` or `break` jumps to
abbrev pub jump_target : Form → Bool → List Name → To (Option Name) → Symbols → State
jump_target form may names next ts = jump_by form may names (label_on_line ts) next ts

abbrev pub break_target : Form → Context → To (Option Name) → Symbols → State
break_target form c next = jump_target form (context.may_break c) c.labels next

-- a `continue`, which is the first symbol
abbrev pub continue_statement : Form → Room → Context → To Stmt → Symbols → State
continue_statement form room c next ts =
    guard (c.in_loop || are_some c.loops) ts (fitting (fits_node room) (behind ts)
    (jump form c.in_loop c.loops Tree.Continue next (behind ts)))

-- a `break`, which is the first symbol
abbrev pub break_statement : Form → Room → Context → To Stmt → Symbols → State
break_statement form room c next ts =
    guard (context.may_break c || are_some c.labels) ts (fitting (fits_node room) (behind ts)
    (jump form (context.may_break c) c.labels Tree.Break next (behind ts)))

-- a `return`, which is the first symbol
abbrev pub return_statement : Room → Context → To Stmt → Symbols → State
return_statement room c next ts =
    guard c.in_function ts (fitting (fits_node room) (behind ts) (returned room next (behind ts)))

abbrev pub return_value : Room → To Stmt → Symbols → State
return_value room next =
    comma (inside room) true (λ x r. ended (next (Tree.Return (Tree.AnExpr x))) r)

abbrev pub throw_value : Room → To Stmt → Symbols → State
throw_value room next = comma (inside room) true (λ x r. ended (next (Tree.Throw x)) r)

abbrev pub throw_statement : Room → To Stmt → Symbols → State
throw_statement room next ts = fitting (fits_node room) ts (thrown room next ts)

-- ---- the short ones

abbrev pub variables : Room → To Stmt → Symbols → State
variables room next ts =
    fitting (fits_node room) ts (declarators (inside room) true
    (λ items r. ended (next (Tree.Variables items)) r) ts)

abbrev pub empty : Room → To Stmt → Symbols → State
empty room next ts = fitting (fits_node room) ts (next Tree.Empty ts)

-- ---- `try`

abbrev pub try_statement : Form → Room → Context → To Stmt → Symbols → State
try_statement form room c next ts =
    fitting (fits_node room) ts (block (inside room) (context.part c)
    (λ tried r. after_try form room (context.part c) tried next r) ts)

-- the name of a `catch`, and its `)`
abbrev pub catch_name : Form → To Name → Symbols → State
catch_name form next = binding form (λ n. expect is_close_parenthesis (next n))

-- behind `catch`
abbrev pub caught : Form → Room → Context → Stmt → To Stmt → Symbols → State
caught form room c tried next =
    expect is_open_parenthesis (rule.catch_name form room (context.part c) tried next)

-- ---- labels

-- behind a label, at its colon
abbrev pub behind_label : Room → Context → Name → To Stmt → Symbols → State
behind_label room c n next ts =
    guard (not (is_among n c.labels)) ts (fitting (fits_node room) (behind ts)
    (statement (inside room) (context.labelled n c) (λ body r. next (Tree.Label n body) r)
    (behind ts)))

abbrev pub label_if : Bool → Room → Context → Name → To Stmt → Symbols → State
label_if true room c n next ts = behind_label room c n next (behind ts)
label_if false room c n next ts = stated room next ts

abbrev pub name_by : Form → Room → Context → Option Name → To Stmt → Symbols → State
name_by form room c None next ts = stated room next ts
name_by form room c (Some n) next ts = label_if (is_reference form n) room c n next ts

-- a statement that begins with a name
abbrev pub name_statement : Form → Room → Context → To Stmt → Symbols → State
name_statement form room c next ts = name_by form room c (label_at ts) next ts

-- ---- every kind

abbrev pub kind_of : TokenKind → Kind
kind_of (k.Mark m.OpenBrace) = kind.Behind begun.Block
kind_of (k.Mark m.Semicolon) = kind.Behind begun.Empty
kind_of (k.Word w.Var) = kind.Behind begun.Variables
kind_of (k.Word w.If) = kind.Behind begun.If
kind_of (k.Word w.Do) = kind.Behind begun.Do
kind_of (k.Word w.While) = kind.Behind begun.While
kind_of (k.Word w.For) = kind.Behind begun.For
kind_of (k.Word w.Continue) = kind.Continue
kind_of (k.Word w.Break) = kind.Break
kind_of (k.Word w.Return) = kind.Return
kind_of (k.Word w.Switch) = kind.Behind begun.Switch
kind_of (k.Word w.Throw) = kind.Behind begun.Throw
kind_of (k.Word w.Try) = kind.Behind begun.Try
kind_of (k.Word w.Function) = kind.Refused
kind_of (k.Name n) = kind.Named
kind_of _ = kind.Expression

abbrev pub kind_at : Symbols → Kind
kind_at [] = kind.Refused
kind_at (s ∷ ss) = kind_of s.kind

-- a statement of this kind, behind its first symbol
abbrev pub behind_first : Behind → Form → Room → Context → To Stmt → Symbols → State
behind_first begun.Block form room c next = braces room c next
behind_first begun.Empty form room c next = empty room next
behind_first begun.Variables form room c next = variables room next
behind_first begun.If form room c next = if_statement room c next
behind_first begun.Do form room c next = do_loop room c next
behind_first begun.While form room c next = while_loop room c next
behind_first begun.For form room c next = for_loop room c next
behind_first begun.Switch form room c next = switch room c next
behind_first begun.Throw form room c next = throw_statement room next
behind_first begun.Try form room c next = try_statement form room c next

-- the same, from its first symbol on
abbrev pub by_kind : Kind → Form → Room → Context → To Stmt → Symbols → State
by_kind kind.Continue form room c next ts = continue_statement form room c next ts
by_kind kind.Break form room c next ts = break_statement form room c next ts
by_kind kind.Return form room c next ts = return_statement room c next ts
by_kind kind.Named form room c next ts = name_statement form room c next ts
by_kind kind.Expression form room c next ts = stated room next ts
by_kind kind.Refused form room c next ts = stuck ts
by_kind (kind.Behind b) form room c next ts = behind_first b form room c next (behind ts)
