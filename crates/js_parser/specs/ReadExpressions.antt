-- How expressions, functions and declarators are read (ES3 sections 11, 12.2 and 13).
use Rattle.std.specs.Prelude.{if◌then◌else◌, ℕ, suc, nat_le, ◌&&◌, Bool, true, false, List, [], ◌∷◌, ◌++◌, Option, Some, None}
use Rattle.js_lexer.specs.declared.mark.Mark.TheVariants as m
use Rattle.js_lexer.specs.declared.word.Word.TheVariants as w
use Rattle.js_lexer.specs.declared.token.TokenKind.{TokenKind}
use Rattle.js_lexer.specs.declared.token.TokenKind.TheVariants as k
use Rattle.js_lexer.specs.Words.{is_spelled}
use Rattle.js_tree.specs.declared.tree.BinaryOp.{BinaryOp}
use Rattle.js_tree.specs.declared.tree.BinaryOp.TheVariants as b
use Rattle.js_tree.specs.declared.tree.PrefixOp.{PrefixOp}
use Rattle.js_tree.specs.declared.tree.PrefixOp.TheVariants as p
use Rattle.js_tree.specs.declared.tree.PostfixOp.TheVariants as q
use Rattle.js_tree.specs.Tree.{Name, Expr, Exprs, MaybeExpr, Elements, Pairs, Stmts, VarItems}
use Rattle.js_tree.specs.Tree
use Rattle.js_tree.specs.Numbering.{is_function_number}
use Rattle.js_parser.specs.declared.form.Form.{Form}
use Rattle.js_parser.specs.declared.form.Form.TheVariants.{Source, Written}
use Rattle.js_parser.specs.Symbols.{Symbol, Symbols}
use Rattle.js_tree.specs.Levels.{Operator, LogicalOr, LogicalAnd, Operation, joined, level, changes}
use Rattle.js_parser.specs.Operators.{may_operate, is_target}
use Rattle.js_parser.specs.Names.{get_name, is_eval, is_reference, is_binding, is_property, is_distinct}
use Rattle.js_parser.specs.Grammar.{code}
use Rattle.js_parser.specs.Rooms.{Room, inside, in_function, fits_node, fits_around, fits_function}
use Rattle.js_parser.specs.States.{State, stuck, comma, comma_tail, assign, climb, tail, unary, postfix, operand, links, arguments, argument_list, elements, pairs, rest, formal, declarators, To, guard, fitting, expect, is_open_parenthesis, is_close_parenthesis, is_close_bracket, is_close_brace, is_colon}

abbrev pub operator_of : TokenKind → Option Operator
operator_of (k.Mark m.Or) = Some LogicalOr
operator_of (k.Mark m.And) = Some LogicalAnd
operator_of (k.Mark m.BitOr) = Some (Operation b.BitOr)
operator_of (k.Mark m.BitXor) = Some (Operation b.BitXor)
operator_of (k.Mark m.BitAnd) = Some (Operation b.BitAnd)
operator_of (k.Mark m.Equal) = Some (Operation b.Equal)
operator_of (k.Mark m.NotEqual) = Some (Operation b.NotEqual)
operator_of (k.Mark m.StrictEqual) = Some (Operation b.Same)
operator_of (k.Mark m.StrictNotEqual) = Some (Operation b.NotSame)
operator_of (k.Mark m.Less) = Some (Operation b.Less)
operator_of (k.Mark m.Greater) = Some (Operation b.Greater)
operator_of (k.Mark m.LessEqual) = Some (Operation b.LessEqual)
operator_of (k.Mark m.GreaterEqual) = Some (Operation b.GreaterEqual)
operator_of (k.Word w.InstanceOf) = Some (Operation b.InstanceOf)
operator_of (k.Word w.In) = Some (Operation b.In)
operator_of (k.Mark m.ShiftLeft) = Some (Operation b.ShiftLeft)
operator_of (k.Mark m.ShiftRight) = Some (Operation b.ShiftRight)
operator_of (k.Mark m.ShiftRightUnsigned) = Some (Operation b.ShiftRightUnsigned)
operator_of (k.Mark m.Plus) = Some (Operation b.Add)
operator_of (k.Mark m.Minus) = Some (Operation b.Subtract)
operator_of (k.Mark m.Times) = Some (Operation b.Multiply)
operator_of (k.Mark m.Slash) = Some (Operation b.Divide)
operator_of (k.Mark m.Percent) = Some (Operation b.Remainder)
operator_of _ = None

abbrev pub prefix_of : TokenKind → Option PrefixOp
prefix_of (k.Word w.Delete) = Some p.Delete
prefix_of (k.Word w.Void) = Some p.Void
prefix_of (k.Word w.TypeOf) = Some p.TypeOf
prefix_of (k.Mark m.PlusPlus) = Some p.Increment
prefix_of (k.Mark m.MinusMinus) = Some p.Decrement
prefix_of (k.Mark m.Plus) = Some p.Plus
prefix_of (k.Mark m.Minus) = Some p.Minus
prefix_of (k.Mark m.BitNot) = Some p.BitNot
prefix_of (k.Mark m.Not) = Some p.Not
prefix_of _ = None

-- ---- expressions

abbrev pub comma_by : TokenKind → Room → Bool → Expr → To Expr → Symbol → Symbols → State
comma_by (k.Mark m.Comma) room i x next s ts =
    fitting (fits_around room x) ts (assign (inside room) i
    (λ y r. comma_tail room i (Tree.Comma x y) next r) ts)
comma_by _ room i x next s ts = next x (s ∷ ts)

abbrev pub assign_to : Option BinaryOp → Room → Bool → Expr → To Expr → Symbol → Symbols → State
assign_to op room i x next s ts =
    guard (is_target x) (s ∷ ts) (fitting (fits_around room x) ts
    (assign (inside room) i (λ y r. next (Tree.Assign op x y) r) ts))

abbrev pub choice_by : TokenKind → Room → Bool → Expr → To Expr → Symbol → Symbols → State
choice_by (k.Mark m.Question) room i x next s ts =
    fitting (fits_around room x) ts (assign (inside room) true
    (λ y. expect is_colon (assign (inside room) i (λ z r. next (Tree.Cond x y z) r))) ts)
choice_by (k.Mark m.Assign) room i x next s ts = assign_to None room i x next s ts
choice_by (k.Mark m.TimesAssign) room i x next s ts = assign_to (Some b.Multiply) room i x next s ts
choice_by (k.Mark m.SlashAssign) room i x next s ts = assign_to (Some b.Divide) room i x next s ts
choice_by (k.Mark m.PercentAssign) room i x next s ts =
    assign_to (Some b.Remainder) room i x next s ts
choice_by (k.Mark m.PlusAssign) room i x next s ts = assign_to (Some b.Add) room i x next s ts
choice_by (k.Mark m.MinusAssign) room i x next s ts = assign_to (Some b.Subtract) room i x next s ts
choice_by (k.Mark m.ShiftLeftAssign) room i x next s ts =
    assign_to (Some b.ShiftLeft) room i x next s ts
choice_by (k.Mark m.ShiftRightAssign) room i x next s ts =
    assign_to (Some b.ShiftRight) room i x next s ts
choice_by (k.Mark m.ShiftRightUnsignedAssign) room i x next s ts =
    assign_to (Some b.ShiftRightUnsigned) room i x next s ts
choice_by (k.Mark m.BitAndAssign) room i x next s ts = assign_to (Some b.BitAnd) room i x next s ts
choice_by (k.Mark m.BitXorAssign) room i x next s ts = assign_to (Some b.BitXor) room i x next s ts
choice_by (k.Mark m.BitOrAssign) room i x next s ts = assign_to (Some b.BitOr) room i x next s ts
choice_by _ room i x next s ts = next x (s ∷ ts)

abbrev pub tail_by : Option Operator → Room → Bool → ℕ → Expr → To Expr → Symbol → Symbols → State
tail_by None room i least x next s ts = next x (s ∷ ts)
tail_by (Some op) room i least x next s ts =
    if nat_le least (level op) && may_operate i op
    then fitting (fits_around room x) ts (climb (inside room) i (suc (level op))
    (λ y r. tail room i least (joined op x y) next r) ts)
    else next x (s ∷ ts)

-- `++` and `--` stand before a target, the others before any operand
abbrev pub prefix_by : Bool → Room → PrefixOp → To Expr → Symbols → State
prefix_by true room op next ts =
    fitting (fits_node room) ts (operand (inside room) true
    (λ x r. guard (is_target x) r (next (Tree.Prefix op x) r)) ts)
prefix_by false room op next ts =
    fitting (fits_node room) ts (unary (inside room) (λ x r. next (Tree.Prefix op x) r) ts)

abbrev pub unary_by : Option PrefixOp → Room → To Expr → Symbol → Symbols → State
unary_by None room next s ts = operand room true (λ x r. postfix room x next r) (s ∷ ts)
unary_by (Some op) room next s ts = prefix_by (changes op) room op next ts

abbrev pub postfix_by : TokenKind → Bool → Room → Expr → To Expr → Symbol → Symbols → State
postfix_by (k.Mark m.PlusPlus) false room x next s ts =
    guard (is_target x) (s ∷ ts) (fitting (fits_around room x) ts
    (next (Tree.Postfix x q.Increment) ts))
postfix_by (k.Mark m.MinusMinus) false room x next s ts =
    guard (is_target x) (s ∷ ts) (fitting (fits_around room x) ts
    (next (Tree.Postfix x q.Decrement) ts))
postfix_by _ _ room x next s ts = next x (s ∷ ts)

abbrev pub new_by : TokenKind → Room → Bool → Expr → To Expr → Symbol → Symbols → State
new_by (k.Mark m.OpenParenthesis) room c x next s ts =
    arguments (inside room) (λ xs. expect is_close_parenthesis
    (links room c (Tree.New x xs) next)) ts
new_by _ room c x next s ts = next (Tree.New x Tree.NoExprs) (s ∷ ts)

abbrev pub after_new : Room → Bool → Expr → To Expr → Symbols → State
after_new room c x next [] = next (Tree.New x Tree.NoExprs) []
after_new room c x next (s ∷ ts) = new_by s.kind room c x next s ts

-- a token that is an expression, and what is linked to it
abbrev pub leaf : Room → Bool → Expr → To Expr → Symbols → State
leaf room c x next ts = fitting (fits_node room) ts (links room c x next ts)

abbrev pub is_get : TokenKind → Bool
is_get (k.Name n) = is_spelled get_name n
is_get _ = false

abbrev pub late_by : TokenKind → Bool → Room → Bool → To Expr → Symbol → Symbols → State
late_by (k.Number n) in_decimal room c next s ts =
    guard (in_decimal && is_function_number n) (s ∷ ts)
    (expect is_close_parenthesis (expect is_close_parenthesis (links room c (Tree.Late n) next)) ts)
late_by _ in_decimal room c next s ts = stuck (s ∷ ts)

abbrev pub late_number : Room → Bool → To Expr → Symbols → State
late_number room c next [] = stuck []
late_number room c next (s ∷ ts) = late_by s.kind s.in_decimal room c next s ts

-- behind `eval`
abbrev pub late : Room → Bool → To Expr → Symbols → State
late room c next ts =
    fitting (fits_node room) ts (expect is_open_parenthesis
    (expect is_get (expect is_open_parenthesis (late_number room c next))) ts)

-- in the form Written alone
abbrev pub late_in : Form → Room → Bool → To Expr → Symbol → Symbols → State
late_in Source room c next s ts = stuck (s ∷ ts)
late_in Written room c next s ts = late room c next ts

abbrev pub name_by : Bool → Form → Name → Room → Bool → To Expr → Symbol → Symbols → State
name_by true form n room c next s ts = late_in form room c next s ts
name_by false form n room c next s ts =
    guard (is_reference form n) (s ∷ ts) (leaf room c (Tree.Ident n) next ts)

abbrev pub function_by : Form → TokenKind → Room → Bool → To Expr → Symbol → Symbols → State
function_by form (k.Name n) room c next s ts =
    guard (is_binding form n) (s ∷ ts) (rest (in_function room)
    (λ ns body r. links room c (Tree.Function (code (Some n) ns body)) next r) ts)
function_by form _ room c next s ts =
    rest (in_function room) (λ ns body r. links room c (Tree.Function (code None ns body)) next r)
    (s ∷ ts)

abbrev pub function : Form → Room → Bool → To Expr → Symbols → State
function form room c next [] = stuck []
function form room c next (s ∷ ts) = function_by form s.kind room c next s ts

abbrev pub operand_by : Form → TokenKind → Room → Bool → To Expr → Symbol → Symbols → State
operand_by form (k.Word w.New) room c next s ts =
    fitting (fits_node room) ts (operand (inside room) false (λ x r. after_new room c x next r) ts)
operand_by form (k.Word w.This) room c next s ts = leaf room c Tree.This next ts
operand_by form (k.Word w.Null) room c next s ts = leaf room c Tree.Null next ts
operand_by form (k.Word w.True) room c next s ts = leaf room c (Tree.Truth true) next ts
operand_by form (k.Word w.False) room c next s ts = leaf room c (Tree.Truth false) next ts
operand_by form (k.Word w.Function) room c next s ts =
    fitting (fits_function room) ts (function form room c next ts)
operand_by form (k.Name n) room c next s ts = name_by (is_eval n) form n room c next s ts
operand_by form (k.Number n) room c next s ts = leaf room c (Tree.Num n) next ts
operand_by form (k.Str text) room c next s ts = leaf room c (Tree.Str text) next ts
operand_by form (k.Mark m.OpenBracket) room c next s ts =
    fitting (fits_node room) ts (elements (inside room)
    (λ es. expect is_close_bracket (links room c (Tree.Array es) next)) ts)
operand_by form (k.Mark m.OpenBrace) room c next s ts =
    fitting (fits_node room) ts (pairs (inside room)
    (λ ps. expect is_close_brace (links room c (Tree.Object ps) next)) ts)
operand_by form (k.Mark m.OpenParenthesis) room c next s ts =
    comma room true (λ x. expect is_close_parenthesis (links room c x next)) ts
operand_by form _ room c next s ts = stuck (s ∷ ts)

abbrev pub dot_by : Form → TokenKind → Room → Bool → Expr → To Expr → Symbol → Symbols → State
dot_by form (k.Name n) room c x next s ts =
    guard (is_property form n) (s ∷ ts) (links room c (Tree.Dot x n) next ts)
dot_by form _ room c x next s ts = stuck (s ∷ ts)

abbrev pub dot : Form → Room → Bool → Expr → To Expr → Symbols → State
dot form room c x next [] = stuck []
dot form room c x next (s ∷ ts) = dot_by form s.kind room c x next s ts

abbrev pub links_by : Form → TokenKind → Room → Bool → Expr → To Expr → Symbol → Symbols → State
links_by form (k.Mark m.Dot) room c x next s ts =
    fitting (fits_around room x) ts (dot form room c x next ts)
links_by form (k.Mark m.OpenBracket) room c x next s ts =
    fitting (fits_around room x) ts (comma (inside room) true
    (λ y. expect is_close_bracket (links room c (Tree.Index x y) next)) ts)
links_by form (k.Mark m.OpenParenthesis) room true x next s ts =
    fitting (fits_around room x) ts (arguments (inside room)
    (λ xs. expect is_close_parenthesis (links room true (Tree.Call x xs) next)) ts)
links_by form _ room c x next s ts = next x (s ∷ ts)

abbrev pub arguments_by : TokenKind → Room → To Exprs → Symbol → Symbols → State
arguments_by (k.Mark m.CloseParenthesis) room next s ts = next Tree.NoExprs (s ∷ ts)
arguments_by _ room next s ts = argument_list room next (s ∷ ts)

abbrev pub argument_by : TokenKind → Room → Expr → To Exprs → Symbol → Symbols → State
argument_by (k.Mark m.Comma) room x next s ts =
    argument_list room (λ xs r. next (Tree.MoreExprs x xs) r) ts
argument_by _ room x next s ts = next (Tree.MoreExprs x Tree.NoExprs) (s ∷ ts)

abbrev pub after_argument : Room → Expr → To Exprs → Symbols → State
after_argument room x next [] = stuck []
after_argument room x next (s ∷ ts) = argument_by s.kind room x next s ts

abbrev pub element_by : TokenKind → Room → Expr → To Elements → Symbol → Symbols → State
element_by (k.Mark m.Comma) room x next s ts =
    elements room (λ es r. next (Tree.MoreElements (Tree.AnExpr x) es) r) ts
element_by _ room x next s ts = next (Tree.MoreElements (Tree.AnExpr x) Tree.NoElements) (s ∷ ts)

abbrev pub after_element : Room → Expr → To Elements → Symbols → State
after_element room x next [] = stuck []
after_element room x next (s ∷ ts) = element_by s.kind room x next s ts

abbrev pub elements_by : TokenKind → Room → To Elements → Symbol → Symbols → State
elements_by (k.Mark m.CloseBracket) room next s ts = next Tree.NoElements (s ∷ ts)
elements_by (k.Mark m.Comma) room next s ts =
    elements room (λ es r. next (Tree.MoreElements Tree.NoExpr es) r) ts
elements_by _ room next s ts = assign room true (λ x r. after_element room x next r) (s ∷ ts)

abbrev pub pair_by : TokenKind → Room → Name → Expr → To Pairs → Symbol → Symbols → State
pair_by (k.Mark m.Comma) room key x next s ts =
    pairs room (λ ps r. next (Tree.MorePairs key x ps) r) ts
pair_by _ room key x next s ts = next (Tree.MorePairs key x Tree.NoPairs) (s ∷ ts)

abbrev pub after_pair : Room → Name → Expr → To Pairs → Symbols → State
after_pair room key x next [] = stuck []
after_pair room key x next (s ∷ ts) = pair_by s.kind room key x next s ts

abbrev pub pairs_by : Option Name → Room → To Pairs → Symbol → Symbols → State
pairs_by None room next s ts = next Tree.NoPairs (s ∷ ts)
pairs_by (Some key) room next s ts =
    expect is_colon (assign room true (λ x r. after_pair room key x next r)) ts

-- ---- functions and declarators

-- the formals before, with one more
abbrev pub and_formal : List Name → Name → List Name
and_formal before n = before ++ (n ∷ [])

abbrev pub formal_by : TokenKind → List Name → Name → To (List Name) → Symbol → Symbols → State
formal_by (k.Mark m.Comma) before n next s ts =
    formal (and_formal before n) (λ ns r. next (n ∷ ns) r) ts
formal_by _ before n next s ts = next (n ∷ []) (s ∷ ts)

abbrev pub after_formal : List Name → Name → To (List Name) → Symbols → State
after_formal before n next [] = stuck []
after_formal before n next (s ∷ ts) = formal_by s.kind before n next s ts

abbrev pub is_formal : Form → List Name → Name → Bool
is_formal form before n = is_binding form n && is_distinct (and_formal before n)

abbrev pub formals_by : Form → TokenKind → List Name → To (List Name) → Symbol → Symbols → State
formals_by form (k.Name n) before next s ts =
    guard (is_formal form before n) (s ∷ ts) (after_formal before n next ts)
formals_by form _ before next s ts = next [] (s ∷ ts)

abbrev pub one_formal_by : Form → TokenKind → List Name → To (List Name) → Symbol → Symbols → State
one_formal_by form (k.Name n) before next s ts =
    guard (is_formal form before n) (s ∷ ts) (after_formal before n next ts)
one_formal_by form _ before next s ts = stuck (s ∷ ts)

abbrev pub initialiser_by : TokenKind → Room → Bool → Name → (Name → MaybeExpr → Symbols → State)
    → Symbol → Symbols → State
initialiser_by (k.Mark m.Assign) room i n next s ts =
    assign room i (λ x r. next n (Tree.AnExpr x) r) ts
initialiser_by _ room i n next s ts = next n Tree.NoExpr (s ∷ ts)

abbrev pub initialiser : Room → Bool → Name → (Name → MaybeExpr → Symbols → State) → Symbols → State
initialiser room i n next [] = next n Tree.NoExpr []
initialiser room i n next (s ∷ ts) = initialiser_by s.kind room i n next s ts

abbrev pub declarator_by : Form → TokenKind → Room → Bool → (Name → MaybeExpr → Symbols → State)
    → Symbol → Symbols → State
declarator_by form (k.Name n) room i next s ts =
    guard (is_binding form n) (s ∷ ts) (initialiser room i n next ts)
declarator_by form _ room i next s ts = stuck (s ∷ ts)

abbrev pub declarators_by : TokenKind → Room → Bool → Name → MaybeExpr → To VarItems → Symbol
    → Symbols → State
declarators_by (k.Mark m.Comma) room i n value next s ts =
    declarators room i (λ items r. next (Tree.MoreVarItems n value items) r) ts
declarators_by _ room i n value next s ts =
    next (Tree.MoreVarItems n value Tree.NoVarItems) (s ∷ ts)

abbrev pub after_declarator : Room → Bool → Name → MaybeExpr → To VarItems → Symbols → State
after_declarator room i n value next [] = next (Tree.MoreVarItems n value Tree.NoVarItems) []
after_declarator room i n value next (s ∷ ts) = declarators_by s.kind room i n value next s ts

abbrev pub optional_by : TokenKind → Room → To MaybeExpr → Symbol → Symbols → State
optional_by (k.Mark m.Semicolon) room next s ts = next Tree.NoExpr (s ∷ ts)
optional_by (k.Mark m.CloseParenthesis) room next s ts = next Tree.NoExpr (s ∷ ts)
optional_by _ room next s ts = comma room true (λ x r. next (Tree.AnExpr x) r) (s ∷ ts)
