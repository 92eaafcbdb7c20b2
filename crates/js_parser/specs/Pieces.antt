-- The rules that the parser has a method for, beside those of the machine: what is read behind a
-- token that was taken, and what stands between two of the machine's states.
use Rattle.std.specs.Prelude.{ℕ, suc, nat_le, ◌==◌, ◌&&◌, if◌then◌else◌, Bool, true, false, [], ◌∷◌, Option, Some, None, length}
use Rattle.std.specs.Fmt.{decimal}
use Rattle.js_lexer.specs.declared.mark.Mark.TheVariants as m
use Rattle.js_lexer.specs.declared.word.Word.TheVariants as w
use Rattle.js_lexer.specs.declared.token.TokenKind.{TokenKind}
use Rattle.js_lexer.specs.declared.token.TokenKind.TheVariants as k
use Rattle.js_tree.specs.declared.tree.BinaryOp.{BinaryOp}
use Rattle.js_tree.specs.declared.tree.BinaryOp.TheVariants as b
use Rattle.js_tree.specs.declared.tree.PrefixOp.{PrefixOp}
use Rattle.js_tree.specs.declared.tree.PostfixOp.{PostfixOp}
use Rattle.js_tree.specs.declared.tree.PostfixOp.TheVariants as q
use Rattle.js_tree.specs.Tree.{Name, Expr, Func}
use Rattle.js_tree.specs.Tree
use Rattle.js_tree.specs.Numbering.{is_function_number}
use Rattle.js_parser.specs.declared.form.Form.{Form}
use Rattle.js_parser.specs.declared.form.Form.TheVariants.{Source, Written}
use Rattle.js_parser.specs.declared.link.Link.{Link}
use Rattle.js_parser.specs.declared.link.Link.TheVariants as link
use Rattle.js_parser.specs.declared.opening.Opening.{Opening}
use Rattle.js_parser.specs.declared.opening.Opening.TheVariants as opening
use Rattle.js_parser.specs.declared.part.Part.{Part}
use Rattle.js_parser.specs.declared.part.Part.TheVariants as part
use Rattle.js_parser.specs.Symbols.{Symbol, Symbols, behind}
use Rattle.js_tree.specs.Levels.{Operator, joined, level}
use Rattle.js_parser.specs.Operators.{may_operate, is_target}
use Rattle.js_parser.specs.Names.{is_eval, is_reference, is_binding, is_property, key_of}
use Rattle.js_parser.specs.Grammar.{code}
use Rattle.js_parser.specs.Rooms.{Room, inside, in_function, fits_node, fits_around, fits_function}
use Rattle.js_parser.specs.Machine.{State, stuck, comma, assign, climb, unary, operand, arguments, elements, pairs, rest, To, guard, fitting, expect, operator_of, after_new, is_open_parenthesis, is_close_parenthesis, is_close_bracket, is_close_brace, is_colon, is_get}

-- how a part of an expression is read
abbrev pub part_rule : Part → Room → Bool → To Expr → Symbols → State
part_rule part.Comma room i = comma room i
part_rule part.Assignment room i = assign room i
part_rule (part.Operation least) room i = climb room i least
part_rule part.Unary room i = unary room
part_rule (part.Operand with_calls) room i = operand room with_calls

-- a function, of this name or none
abbrev pub function_rule : Option Name → Room → To Func → Symbols → State
function_rule name room next = rest room (λ ns body r. next (code name ns body) r)

-- ---- operators

abbrev pub behind_comma : Room → Bool → Expr → To Expr → Symbols → State
behind_comma room i x next ts =
    fitting (fits_around room x) ts (assign (inside room) i (λ y r. next (Tree.Comma x y) r) ts)

abbrev pub conditional : Room → Bool → Expr → To Expr → Symbols → State
conditional room i x next ts =
    fitting (fits_around room x) ts (assign (inside room) true
    (λ y. expect is_colon (assign (inside room) i (λ z r. next (Tree.Cond x y z) r))) ts)

abbrev pub assignment : Option BinaryOp → Room → Bool → Expr → To Expr → Symbols → State
assignment op room i x next ts =
    fitting (fits_around room x) ts (assign (inside room) i (λ y r. next (Tree.Assign op x y) r) ts)

-- the operator of an assignment: None is `=`
abbrev pub assignment_of : TokenKind → Option (Option BinaryOp)
assignment_of (k.Mark m.Assign) = Some None
assignment_of (k.Mark m.TimesAssign) = Some (Some b.Multiply)
assignment_of (k.Mark m.SlashAssign) = Some (Some b.Divide)
assignment_of (k.Mark m.PercentAssign) = Some (Some b.Remainder)
assignment_of (k.Mark m.PlusAssign) = Some (Some b.Add)
assignment_of (k.Mark m.MinusAssign) = Some (Some b.Subtract)
assignment_of (k.Mark m.ShiftLeftAssign) = Some (Some b.ShiftLeft)
assignment_of (k.Mark m.ShiftRightAssign) = Some (Some b.ShiftRight)
assignment_of (k.Mark m.ShiftRightUnsignedAssign) = Some (Some b.ShiftRightUnsigned)
assignment_of (k.Mark m.BitAndAssign) = Some (Some b.BitAnd)
assignment_of (k.Mark m.BitXorAssign) = Some (Some b.BitXor)
assignment_of (k.Mark m.BitOrAssign) = Some (Some b.BitOr)
assignment_of _ = None

-- the first symbol as one of these, if there is one
abbrev pub first_as : {A : Type 0} → (TokenKind → Option A) → Symbols → Option A
first_as kind_as [] = None
first_as kind_as (s ∷ ss) = kind_as s.kind

-- the operator, if it binds as tightly as this level, and may stand there
abbrev pub binding : Bool → ℕ → Option Operator → Option Operator
binding i least None = None
binding i least (Some op) = if nat_le least (level op) && may_operate i op then Some op else None

abbrev pub operator_at : Bool → ℕ → Symbols → Option Operator
operator_at i least ts = binding i least (first_as operator_of ts)

-- what stands behind an operator
abbrev pub right : Operator → Room → Bool → To Expr → Symbols → State
right op room i = climb (inside room) i (suc (level op))

abbrev pub binary : Operator → Room → Bool → Expr → To Expr → Symbols → State
binary op room i x next ts =
    fitting (fits_around room x) ts (right op room i (λ y r. next (joined op x y) r) ts)

-- `++` and `--` before a target
abbrev pub changed : PrefixOp → Room → To Expr → Symbols → State
changed op room next ts =
    fitting (fits_node room) ts (operand (inside room) true
    (λ x r. guard (is_target x) r (next (Tree.Prefix op x) r)) ts)

-- the other prefix operators
abbrev pub prefixed : PrefixOp → Room → To Expr → Symbols → State
prefixed op room next ts =
    fitting (fits_node room) ts (unary (inside room) (λ x r. next (Tree.Prefix op x) r) ts)

-- `++` or `--` on the line
abbrev pub postfix_by : TokenKind → Bool → Option PostfixOp
postfix_by (k.Mark m.PlusPlus) false = Some q.Increment
postfix_by (k.Mark m.MinusMinus) false = Some q.Decrement
postfix_by _ _ = None

abbrev pub postfix_at : Symbols → Option PostfixOp
postfix_at [] = None
postfix_at (s ∷ ss) = postfix_by s.kind s.newline

-- behind `++` or `--` that stands behind a target
abbrev pub postfixed : PostfixOp → Room → Expr → To Expr → Symbols → State
postfixed op room x next ts =
    fitting (fits_around room x) ts (next (Tree.Postfix x op) ts)

-- ---- operands

-- behind `new`
abbrev pub behind_new : Room → Bool → To Expr → Symbols → State
behind_new room c next ts =
    fitting (fits_node room) ts (operand (inside room) false (λ x r. after_new room c x next r) ts)

abbrev pub are_over : Symbols → Bool
are_over [] = true
are_over (s ∷ ss) = false

-- the number of a function, if so many characters are its decimal
abbrev pub entry_number : ℕ → ℕ → Option ℕ
entry_number n characters =
    if characters == length (decimal n) && is_function_number n then Some n else None

-- the number of a function, if a token is one in decimal
abbrev pub entry_of : TokenKind → Bool → Option ℕ
entry_of (k.Number n) in_decimal =
    if in_decimal && is_function_number n then Some n else None
entry_of _ in_decimal = None

abbrev pub late_number_by : Option ℕ → To ℕ → Symbol → Symbols → State
late_number_by None next s ts = stuck (s ∷ ts)
late_number_by (Some n) next s ts = next n ts

abbrev pub late_number : To ℕ → Symbols → State
late_number next [] = stuck []
late_number next (s ∷ ts) = late_number_by (entry_of s.kind s.in_decimal) next s ts

-- behind `eval`
abbrev pub late : Room → To Expr → Symbols → State
late room next ts =
    fitting (fits_node room) ts (expect is_open_parenthesis
    (expect is_get (expect is_open_parenthesis (late_number
    (λ n. expect is_close_parenthesis (expect is_close_parenthesis (next (Tree.Late n))))))) ts)

-- `eval` stands in the form Written alone
abbrev pub late_in : Form → Room → To Expr → Symbols → State
late_in Source room next ts = stuck ts
late_in Written room next ts = late room next (behind ts)

-- a token that is an expression
abbrev pub leaf : Room → Expr → To Expr → Symbols → State
leaf room x next ts = fitting (fits_node room) ts (next x ts)

abbrev pub name_by : Bool → Form → Name → Room → To Expr → Symbols → State
name_by true form n room next ts = late_in form room next ts
name_by false form n room next ts =
    guard (is_reference form n) ts (leaf room (Tree.Ident n) next (behind ts))

-- an expression that begins with this name, which is the first symbol
abbrev pub name : Form → Name → Room → To Expr → Symbols → State
name form n = name_by (is_eval n) form n

-- the name that a token is
abbrev pub name_of : TokenKind → Option Name
name_of (k.Name n) = Some n
name_of _ = None

abbrev pub function_name_by : Form → Option Name → To (Option Name) → Symbol → Symbols → State
function_name_by form (Some n) next s ts =
    guard (is_binding form n) (s ∷ ts) (next (Some n) ts)
function_name_by form None next s ts = next None (s ∷ ts)

-- the name of a function, if it has one
abbrev pub function_name : Form → To (Option Name) → Symbols → State
function_name form next [] = stuck []
function_name form next (s ∷ ts) = function_name_by form (name_of s.kind) next s ts

abbrev pub behind_function : Form → Room → To Expr → Symbols → State
behind_function form room next ts =
    fitting (fits_function room) ts (function_name form (λ name. function_rule name
    (in_function room) (λ f r. next (Tree.Function f) r)) ts)

abbrev pub array : Room → To Expr → Symbols → State
array room next ts =
    fitting (fits_node room) ts (elements (inside room)
    (λ es. expect is_close_bracket (next (Tree.Array es))) ts)

abbrev pub object : Room → To Expr → Symbols → State
object room next ts =
    fitting (fits_node room) ts (pairs (inside room)
    (λ ps. expect is_close_brace (next (Tree.Object ps))) ts)

abbrev pub parenthesised : Room → To Expr → Symbols → State
parenthesised room next = comma room true (λ x. expect is_close_parenthesis (next x))

-- what the first token of an operand opens
abbrev pub opening_of : TokenKind → Option Opening
opening_of (k.Word w.Function) = Some opening.Function
opening_of (k.Mark m.OpenBracket) = Some opening.Array
opening_of (k.Mark m.OpenBrace) = Some opening.Object
opening_of (k.Mark m.OpenParenthesis) = Some opening.Parentheses
opening_of _ = None

-- behind that token
abbrev pub opened : Form → Opening → Room → To Expr → Symbols → State
opened form opening.Function room next ts = behind_function form room next ts
opened form opening.Array room next ts = array room next ts
opened form opening.Object room next ts = object room next ts
opened form opening.Parentheses room next ts = parenthesised room next ts

-- the expression that a token is by itself
abbrev pub leaf_of : TokenKind → Option Expr
leaf_of (k.Word w.This) = Some Tree.This
leaf_of (k.Word w.Null) = Some Tree.Null
leaf_of (k.Word w.True) = Some (Tree.Truth true)
leaf_of (k.Word w.False) = Some (Tree.Truth false)
leaf_of (k.Number n) = Some (Tree.Num n)
leaf_of (k.Str text) = Some (Tree.Str text)
leaf_of _ = None

abbrev pub leaf_by : Option Expr → Room → To Expr → Symbol → Symbols → State
leaf_by None room next s ts = stuck (s ∷ ts)
leaf_by (Some x) room next s ts = leaf room x next ts

abbrev pub leaf_at : Room → To Expr → Symbols → State
leaf_at room next [] = stuck []
leaf_at room next (s ∷ ts) = leaf_by (leaf_of s.kind) room next s ts

abbrev pub primary_by : Form → Option Name → Option Opening → Room → To Expr → Symbols → State
primary_by form (Some n) opens room next ts = name form n room next ts
primary_by form None (Some opens) room next ts = opened form opens room next (behind ts)
primary_by form None None room next ts = leaf_at room next ts

-- an operand other than `new`, without what is linked to it
abbrev pub primary : Form → Room → To Expr → Symbols → State
primary form room next ts =
    primary_by form (first_as name_of ts) (first_as opening_of ts) room next ts

-- ---- links

abbrev pub property_by : Form → Option Name → To Name → Symbols → State
property_by form (Some n) next ts = guard (is_property form n) ts (next n (behind ts))
property_by form None next ts = stuck ts

-- the name behind a dot
abbrev pub property : Form → To Name → Symbols → State
property form next ts = property_by form (first_as name_of ts) next ts

abbrev pub dot : Form → Room → Expr → To Expr → Symbols → State
dot form room x next ts =
    fitting (fits_around room x) ts (property form (λ n r. next (Tree.Dot x n) r) ts)

abbrev pub index : Room → Expr → To Expr → Symbols → State
index room x next ts =
    fitting (fits_around room x) ts (comma (inside room) true
    (λ y. expect is_close_bracket (next (Tree.Index x y))) ts)

abbrev pub call : Room → Expr → To Expr → Symbols → State
call room x next ts =
    fitting (fits_around room x) ts (arguments (inside room)
    (λ xs. expect is_close_parenthesis (next (Tree.Call x xs))) ts)

-- the link that a token begins
abbrev pub link_of : Bool → TokenKind → Option Link
link_of with_calls (k.Mark m.Dot) = Some link.Dot
link_of with_calls (k.Mark m.OpenBracket) = Some link.Index
link_of with_calls (k.Mark m.OpenParenthesis) = if with_calls then Some link.Call else None
link_of with_calls _ = None

-- behind that token
abbrev pub linked : Form → Link → Room → Expr → To Expr → Symbols → State
linked form link.Dot room x next ts = dot form room x next ts
linked form link.Index room x next ts = index room x next ts
linked form link.Call room x next ts = call room x next ts

-- ---- lists

-- what stands behind an item of a list: a comma, which is passed, or the end of the list
abbrev pub separated_by : TokenKind → To Bool → Symbol → Symbols → State
separated_by (k.Mark m.Comma) next s ts = next true ts
separated_by _ next s ts = next false (s ∷ ts)

abbrev pub separated : To Bool → Symbols → State
separated next [] = stuck []
separated next (s ∷ ts) = separated_by s.kind next s ts

abbrev pub key_at : Form → Symbols → Option Name
key_at form ts = first_as (key_of form) ts
