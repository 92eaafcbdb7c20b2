-- Two runs of the machine side by side, a step in an expression, a function or a declarator.
use Rattle.std.proofs.Common.{if◌then◌else◌, ℕ, nat_le, Bool, true, false, ◌&&◌, List, Option, Some, None, refl}
use Rattle.js_lexer.specs.declared.mark.Mark.TheVariants as m
use Rattle.js_lexer.specs.declared.word.Word.TheVariants as w
use Rattle.js_lexer.specs.declared.token.TokenKind.{TokenKind}
use Rattle.js_lexer.specs.declared.token.TokenKind.TheVariants as k
use Rattle.js_tree.specs.declared.tree.BinaryOp.{BinaryOp}
use Rattle.js_tree.specs.declared.tree.BinaryOp.TheVariants as b
use Rattle.js_tree.specs.declared.tree.PrefixOp.{PrefixOp}
use Rattle.js_tree.specs.Tree.{Name, Expr, Exprs, MaybeExpr, Elements, Pairs, VarItems}
use Rattle.js_tree.specs.Numbering.{is_function_number}
use Rattle.js_parser.specs.declared.form.Form.{Form}
use Rattle.js_parser.specs.declared.form.Form.TheVariants.{Source, Written}
use Rattle.js_parser.specs.Symbols.{Symbol, Symbols}
use Rattle.js_tree.specs.Levels.{Operator, level, changes}
use Rattle.js_parser.specs.Operators.{may_operate, is_target}
use Rattle.js_parser.specs.Names.{is_eval, is_reference, is_binding, is_property}
use Rattle.js_parser.specs.Rooms.{Room, fits_node, fits_around, fits_function}
use Rattle.js_parser.specs.Machine.{State, To, guard}
use Rattle.js_parser.specs.Machine as mc
use Rattle.js_parser.proofs.FrontsAlike.{Hole, Rooms, Good, Tail, Taken, stuck, good, on, kept, behind-it, after, passed, refused, guarded, inner, inmost, fits, reading, at-end, expected, comma-alike, comma-tail-alike, assign-alike, climb-alike, tail-alike, unary-alike, postfix-alike, operand-alike, links-alike, arguments-alike, argument-list-alike, elements-alike, pairs-alike, rest-alike, formal-alike, declarators-alike}

-- for each tree that is read
abbrev pub Each : (h : Hole) (A : Type 0) → To A → To A → Type 0
Each h A next also = (x : A) → Good h (next x) (also x)

pub expects : {h : Hole} {f g : Symbols → State} → (test : TokenKind → Bool) → Good h f g → Good h (mc.expect test f) (mc.expect test g)
expects test d = expected test (behind-it d)

pub allows : {h : Hole} {f g : Symbols → State} → (a : Bool) → Good h f g → Good h (λ r. guard a r (f r)) (λ r. guard a r (g r))
allows true d = d
allows false d = good (λ m ts o a. stuck a)

either : {h : Hole} {s : Symbol} {f g u v : Symbols → State} → (a : Bool) → Taken h s f g → Taken h s u v → Taken h s (λ ts. if a then f ts else u ts) (λ ts. if a then g ts else v ts)
either true d e = d
either false d e = e

around : {h : Hole} {room free : Room} {f g : Symbols → State} → Rooms h room free → (x : Expr) → Good h f g → Tail h (λ ts. mc.fitting (fits_around room x) ts (f ts)) (λ ts. mc.fitting (fits_around free x) ts (g ts))
around r x d = fits r (λ room. fits_around room x) refl (behind-it d)

pub node : {h : Hole} {room free : Room} {f g : Symbols → State} → Rooms h room free → Good h f g → Tail h (λ ts. mc.fitting (fits_node room) ts (f ts)) (λ ts. mc.fitting (fits_node free) ts (g ts))
node r d = fits r (λ room. fits_node room) refl (behind-it d)

pub comma-by : {h : Hole} {s : Symbol} {room free : Room} (i : Bool) {next also : To Expr} → (kind : TokenKind) → Rooms h room free → (x : Expr) → Each h Expr next also
    → Taken h s (mc.comma_by kind room i x next s) (mc.comma_by kind free i x also s)
comma-by i (k.Mark m.Comma) r x d = after (around r x (assign-alike (inner r) (λ y. comma-tail-alike r d)))
comma-by i _ r x d = kept (d x)

assign-to : {h : Hole} {s : Symbol} {room free : Room} (i : Bool) {next also : To Expr} → (op : Option BinaryOp) → Rooms h room free → (x : Expr) → Each h Expr next also
    → Taken h s (mc.assign_to op room i x next s) (mc.assign_to op free i x also s)
assign-to i op r x d = guarded (is_target x) (λ e. after (around r x (assign-alike (inner r) (λ y. d _))))

pub choice-by : {h : Hole} {s : Symbol} {room free : Room} (i : Bool) {next also : To Expr} → (kind : TokenKind) → Rooms h room free → (x : Expr) → Each h Expr next also
    → Taken h s (mc.choice_by kind room i x next s) (mc.choice_by kind free i x also s)
choice-by i (k.Mark m.Question) r x d = after (around r x (assign-alike (inner r) (λ y. expects mc.is_colon (assign-alike (inner r) (λ z. d _)))))
choice-by i (k.Mark m.Assign) r x d = assign-to _ None r x d
choice-by i (k.Mark m.TimesAssign) r x d = assign-to _ (Some b.Multiply) r x d
choice-by i (k.Mark m.SlashAssign) r x d = assign-to _ (Some b.Divide) r x d
choice-by i (k.Mark m.PercentAssign) r x d = assign-to _ (Some b.Remainder) r x d
choice-by i (k.Mark m.PlusAssign) r x d = assign-to _ (Some b.Add) r x d
choice-by i (k.Mark m.MinusAssign) r x d = assign-to _ (Some b.Subtract) r x d
choice-by i (k.Mark m.ShiftLeftAssign) r x d = assign-to _ (Some b.ShiftLeft) r x d
choice-by i (k.Mark m.ShiftRightAssign) r x d = assign-to _ (Some b.ShiftRight) r x d
choice-by i (k.Mark m.ShiftRightUnsignedAssign) r x d = assign-to _ (Some b.ShiftRightUnsigned) r x d
choice-by i (k.Mark m.BitAndAssign) r x d = assign-to _ (Some b.BitAnd) r x d
choice-by i (k.Mark m.BitXorAssign) r x d = assign-to _ (Some b.BitXor) r x d
choice-by i (k.Mark m.BitOrAssign) r x d = assign-to _ (Some b.BitOr) r x d
choice-by i _ r x d = kept (d x)

pub tail-by : {h : Hole} {s : Symbol} {room free : Room} {next also : To Expr} → (op : Option Operator) → Rooms h room free → (i : Bool) (least : ℕ) (x : Expr) → Each h Expr next also
    → Taken h s (mc.tail_by op room i least x next s) (mc.tail_by op free i least x also s)
tail-by None r i least x d = kept (d x)
tail-by (Some op) r i least x d = either (nat_le least (level op) && may_operate i op) (after (around r x (climb-alike (inner r) (λ y. tail-alike r d)))) (kept (d x))

prefix-by : {h : Hole} {s : Symbol} {room free : Room} {next also : To Expr} → (c : Bool) → Rooms h room free → (op : PrefixOp) → Each h Expr next also
    → Taken h s (mc.prefix_by c room op next) (mc.prefix_by c free op also)
prefix-by true r op d = after (node r (operand-alike (inner r) (λ x. allows (is_target x) (d _))))
prefix-by false r op d = after (node r (unary-alike (inner r) (λ x. d _)))

pub unary-by : {h : Hole} {s : Symbol} {room free : Room} {next also : To Expr} → (op : Option PrefixOp) → Rooms h room free → Each h Expr next also
    → Taken h s (mc.unary_by op room next s) (mc.unary_by op free also s)
unary-by None r d = kept (operand-alike r (λ x. postfix-alike r d))
unary-by (Some op) r d = prefix-by (changes op) r op d

pub postfix-by : {h : Hole} {s : Symbol} {room free : Room} {next also : To Expr} → (kind : TokenKind) (newline : Bool) → Rooms h room free → (x : Expr) → Each h Expr next also
    → Taken h s (mc.postfix_by kind newline room x next s) (mc.postfix_by kind newline free x also s)
postfix-by (k.Mark m.PlusPlus) false r x d = guarded (is_target x) (λ e. after (around r x (d _)))
postfix-by (k.Mark m.MinusMinus) false r x d = guarded (is_target x) (λ e. after (around r x (d _)))
postfix-by _ _ r x d = kept (d x)

new-by : {h : Hole} {s : Symbol} {room free : Room} (c : Bool) {next also : To Expr} → (kind : TokenKind) → Rooms h room free → (x : Expr) → Each h Expr next also
    → Taken h s (mc.new_by kind room c x next s) (mc.new_by kind free c x also s)
new-by c (k.Mark m.OpenParenthesis) r x d = passed (arguments-alike (inner r) (λ xs. expects mc.is_close_parenthesis (links-alike r d)))
new-by c _ r x d = kept (d _)

after-new : {h : Hole} {room free : Room} (c : Bool) {next also : To Expr} → Rooms h room free → (x : Expr) → Each h Expr next also → Good h (mc.after_new room c x next) (mc.after_new free c x also)
after-new {room = room} {free = free} c {next = next} {also = also} r x d = reading (mc.after_new room c x next) (mc.after_new free c x also) (on (d _) at-end) (λ s. new-by _ s.kind r x d)

leaf : {h : Hole} {room free : Room} (c : Bool) {next also : To Expr} → Rooms h room free → (x : Expr) → Each h Expr next also → Tail h (mc.leaf room c x next) (mc.leaf free c x also)
leaf c r x d = node r (links-alike r d)

late-by : {h : Hole} {s : Symbol} {room free : Room} (c : Bool) {next also : To Expr} → (kind : TokenKind) (in_decimal : Bool) → Rooms h room free → Each h Expr next also
    → Taken h s (mc.late_by kind in_decimal room c next s) (mc.late_by kind in_decimal free c also s)
late-by c (k.Number n) in_decimal r d = guarded (in_decimal && is_function_number n) (λ e. passed (expects mc.is_close_parenthesis (expects mc.is_close_parenthesis (links-alike r d))))
late-by c _ in_decimal r d = refused

late-number : {h : Hole} {room free : Room} (c : Bool) {next also : To Expr} → Rooms h room free → Each h Expr next also → Good h (mc.late_number room c next) (mc.late_number free c also)
late-number {room = room} {free = free} c {next = next} {also = also} r d = reading (mc.late_number room c next) (mc.late_number free c also) (stuck at-end) (λ s. late-by _ s.kind s.in_decimal r d)

late-in : {h : Hole} {s : Symbol} {room free : Room} (c : Bool) {next also : To Expr} → (form : Form) → Rooms h room free → Each h Expr next also → Taken h s (mc.late_in form room c next s) (mc.late_in form free c also s)
late-in c Source r d = refused
late-in c Written r d = after (node r (expects mc.is_open_parenthesis (expects mc.is_get (expects mc.is_open_parenthesis (late-number _ r d)))))

name-by : {h : Hole} {s : Symbol} {room free : Room} (c : Bool) {next also : To Expr} → (a : Bool) (form : Form) (n : Name) → Rooms h room free → Each h Expr next also
    → Taken h s (mc.name_by a form n room c next s) (mc.name_by a form n free c also s)
name-by c true form n r d = late-in _ form r d
name-by c false form n r d = guarded (is_reference form n) (λ e. after (leaf _ r _ d))

function-by : {h : Hole} {s : Symbol} {room free : Room} (c : Bool) {next also : To Expr} → (form : Form) (kind : TokenKind) → Rooms h room free → Each h Expr next also
    → Taken h s (mc.function_by form kind room c next s) (mc.function_by form kind free c also s)
function-by c form (k.Name n) r d = guarded (is_binding form n) (λ e. passed (rest-alike (inmost r) (λ ns body. links-alike r d)))
function-by c form _ r d = kept (rest-alike (inmost r) (λ ns body. links-alike r d))

function : {h : Hole} {room free : Room} (c : Bool) {next also : To Expr} → (form : Form) → Rooms h room free → Each h Expr next also → Good h (mc.function form room c next) (mc.function form free c also)
function {room = room} {free = free} c {next = next} {also = also} form r d =
    reading (mc.function form room c next) (mc.function form free c also) (stuck at-end) (λ s. function-by _ form s.kind r d)

pub operand-by : {h : Hole} {s : Symbol} {room free : Room} (c : Bool) {next also : To Expr} → (form : Form) (kind : TokenKind) → Rooms h room free → Each h Expr next also
    → Taken h s (mc.operand_by form kind room c next s) (mc.operand_by form kind free c also s)
operand-by c form (k.Word w.New) r d = after (node r (operand-alike (inner r) (λ x. after-new _ r x d)))
operand-by c form (k.Word w.This) r d = after (leaf _ r _ d)
operand-by c form (k.Word w.Null) r d = after (leaf _ r _ d)
operand-by c form (k.Word w.True) r d = after (leaf _ r _ d)
operand-by c form (k.Word w.False) r d = after (leaf _ r _ d)
operand-by c form (k.Word w.Function) r d = after (fits r (λ room. fits_function room) refl (behind-it (function _ form r d)))
operand-by c form (k.Name n) r d = name-by _ (is_eval n) form n r d
operand-by c form (k.Number n) r d = after (leaf _ r _ d)
operand-by c form (k.Str text) r d = after (leaf _ r _ d)
operand-by c form (k.Mark m.OpenBracket) r d = after (node r (elements-alike (inner r) (λ es. expects mc.is_close_bracket (links-alike r d))))
operand-by c form (k.Mark m.OpenBrace) r d = after (node r (pairs-alike (inner r) (λ ps. expects mc.is_close_brace (links-alike r d))))
operand-by c form (k.Mark m.OpenParenthesis) r d = passed (comma-alike r (λ x. expects mc.is_close_parenthesis (links-alike r d)))
operand-by c form _ r d = refused

dot-by : {h : Hole} {s : Symbol} {room free : Room} (c : Bool) {next also : To Expr} → (form : Form) (kind : TokenKind) → Rooms h room free → (x : Expr) → Each h Expr next also
    → Taken h s (mc.dot_by form kind room c x next s) (mc.dot_by form kind free c x also s)
dot-by c form (k.Name n) r x d = guarded (is_property form n) (λ e. passed (links-alike r d))
dot-by c form _ r x d = refused

dot : {h : Hole} {room free : Room} (c : Bool) {next also : To Expr} → (form : Form) → Rooms h room free → (x : Expr) → Each h Expr next also → Good h (mc.dot form room c x next) (mc.dot form free c x also)
dot {room = room} {free = free} c {next = next} {also = also} form r x d = reading (mc.dot form room c x next) (mc.dot form free c x also) (stuck at-end) (λ s. dot-by _ form s.kind r x d)

pub links-by : {h : Hole} {s : Symbol} {room free : Room} {next also : To Expr} → (form : Form) (kind : TokenKind) → Rooms h room free → (c : Bool) (x : Expr) → Each h Expr next also
    → Taken h s (mc.links_by form kind room c x next s) (mc.links_by form kind free c x also s)
links-by form (k.Mark m.Dot) r c x d = after (around r x (dot _ form r x d))
links-by form (k.Mark m.OpenBracket) r c x d = after (around r x (comma-alike (inner r) (λ y. expects mc.is_close_bracket (links-alike r d))))
links-by form (k.Mark m.OpenParenthesis) r true x d = after (around r x (arguments-alike (inner r) (λ xs. expects mc.is_close_parenthesis (links-alike r d))))
links-by form _ r c x d = kept (d x)

pub arguments-by : {h : Hole} {s : Symbol} {room free : Room} {next also : To Exprs} → (kind : TokenKind) → Rooms h room free → Each h Exprs next also
    → Taken h s (mc.arguments_by kind room next s) (mc.arguments_by kind free also s)
arguments-by (k.Mark m.CloseParenthesis) r d = kept (d _)
arguments-by _ r d = kept (argument-list-alike r d)

argument-by : {h : Hole} {s : Symbol} {room free : Room} {next also : To Exprs} → (kind : TokenKind) → Rooms h room free → (x : Expr) → Each h Exprs next also
    → Taken h s (mc.argument_by kind room x next s) (mc.argument_by kind free x also s)
argument-by (k.Mark m.Comma) r x d = passed (argument-list-alike r (λ xs. d _))
argument-by _ r x d = kept (d _)

pub after-argument : {h : Hole} {room free : Room} {next also : To Exprs} → Rooms h room free → (x : Expr) → Each h Exprs next also → Good h (mc.after_argument room x next) (mc.after_argument free x also)
after-argument {room = room} {free = free} {next = next} {also = also} r x d = reading (mc.after_argument room x next) (mc.after_argument free x also) (stuck at-end) (λ s. argument-by s.kind r x d)

element-by : {h : Hole} {s : Symbol} {room free : Room} {next also : To Elements} → (kind : TokenKind) → Rooms h room free → (x : Expr) → Each h Elements next also
    → Taken h s (mc.element_by kind room x next s) (mc.element_by kind free x also s)
element-by (k.Mark m.Comma) r x d = passed (elements-alike r (λ es. d _))
element-by _ r x d = kept (d _)

after-element : {h : Hole} {room free : Room} {next also : To Elements} → Rooms h room free → (x : Expr) → Each h Elements next also → Good h (mc.after_element room x next) (mc.after_element free x also)
after-element {room = room} {free = free} {next = next} {also = also} r x d = reading (mc.after_element room x next) (mc.after_element free x also) (stuck at-end) (λ s. element-by s.kind r x d)

pub elements-by : {h : Hole} {s : Symbol} {room free : Room} {next also : To Elements} → (kind : TokenKind) → Rooms h room free → Each h Elements next also
    → Taken h s (mc.elements_by kind room next s) (mc.elements_by kind free also s)
elements-by (k.Mark m.CloseBracket) r d = kept (d _)
elements-by (k.Mark m.Comma) r d = passed (elements-alike r (λ es. d _))
elements-by _ r d = kept (assign-alike r (λ x. after-element r x d))

pair-by : {h : Hole} {s : Symbol} {room free : Room} {next also : To Pairs} → (kind : TokenKind) → Rooms h room free → (key : Name) (x : Expr) → Each h Pairs next also
    → Taken h s (mc.pair_by kind room key x next s) (mc.pair_by kind free key x also s)
pair-by (k.Mark m.Comma) r key x d = passed (pairs-alike r (λ ps. d _))
pair-by _ r key x d = kept (d _)

after-pair : {h : Hole} {room free : Room} {next also : To Pairs} → Rooms h room free → (key : Name) (x : Expr) → Each h Pairs next also → Good h (mc.after_pair room key x next) (mc.after_pair free key x also)
after-pair {room = room} {free = free} {next = next} {also = also} r key x d = reading (mc.after_pair room key x next) (mc.after_pair free key x also) (stuck at-end) (λ s. pair-by s.kind r key x d)

pub pairs-by : {h : Hole} {s : Symbol} {room free : Room} {next also : To Pairs} → (key : Option Name) → Rooms h room free → Each h Pairs next also
    → Taken h s (mc.pairs_by key room next s) (mc.pairs_by key free also s)
pairs-by None r d = kept (d _)
pairs-by (Some key) r d = passed (expects mc.is_colon (assign-alike r (λ x. after-pair r key x d)))

-- ---- functions and declarators

formal-by : {h : Hole} {s : Symbol} {next also : To (List Name)} → (kind : TokenKind) (before : List Name) (n : Name) → Each h (List Name) next also
    → Taken h s (mc.formal_by kind before n next s) (mc.formal_by kind before n also s)
formal-by (k.Mark m.Comma) before n d = passed (formal-alike (λ ns. d _))
formal-by _ before n d = kept (d _)

after-formal : {h : Hole} {next also : To (List Name)} → (before : List Name) (n : Name) → Each h (List Name) next also → Good h (mc.after_formal before n next) (mc.after_formal before n also)
after-formal {next = next} {also = also} before n d = reading (mc.after_formal before n next) (mc.after_formal before n also) (stuck at-end) (λ s. formal-by s.kind before n d)

pub formals-by : {h : Hole} {s : Symbol} {next also : To (List Name)} → (form : Form) (kind : TokenKind) (before : List Name) → Each h (List Name) next also
    → Taken h s (mc.formals_by form kind before next s) (mc.formals_by form kind before also s)
formals-by form (k.Name n) before d = guarded (mc.is_formal form before n) (λ e. passed (after-formal before n d))
formals-by form _ before d = kept (d _)

pub one-formal-by : {h : Hole} {s : Symbol} {next also : To (List Name)} → (form : Form) (kind : TokenKind) (before : List Name) → Each h (List Name) next also
    → Taken h s (mc.one_formal_by form kind before next s) (mc.one_formal_by form kind before also s)
one-formal-by form (k.Name n) before d = guarded (mc.is_formal form before n) (λ e. passed (after-formal before n d))
one-formal-by form _ before d = refused

-- for each name and value
abbrev pub Both : (h : Hole) → (Name → MaybeExpr → Symbols → State) → (Name → MaybeExpr → Symbols → State) → Type 0
Both h next also = (n : Name) (value : MaybeExpr) → Good h (next n value) (also n value)

initialiser-by : {h : Hole} {s : Symbol} {room free : Room} (i : Bool) {next also : Name → MaybeExpr → Symbols → State} → (kind : TokenKind) → Rooms h room free → (n : Name) → Both h next also
    → Taken h s (mc.initialiser_by kind room i n next s) (mc.initialiser_by kind free i n also s)
initialiser-by i (k.Mark m.Assign) r n d = passed (assign-alike r (λ x. d n _))
initialiser-by i _ r n d = kept (d n _)

initialiser : {h : Hole} {room free : Room} (i : Bool) {next also : Name → MaybeExpr → Symbols → State} → Rooms h room free → (n : Name) → Both h next also → Good h (mc.initialiser room i n next) (mc.initialiser free i n also)
initialiser {room = room} {free = free} i {next = next} {also = also} r n d =
    reading (mc.initialiser room i n next) (mc.initialiser free i n also) (on (d n _) at-end) (λ s. initialiser-by _ s.kind r n d)

pub declarator-by : {h : Hole} {s : Symbol} {room free : Room} (i : Bool) {next also : Name → MaybeExpr → Symbols → State} → (form : Form) (kind : TokenKind) → Rooms h room free → Both h next also
    → Taken h s (mc.declarator_by form kind room i next s) (mc.declarator_by form kind free i also s)
declarator-by i form (k.Name n) r d = guarded (is_binding form n) (λ e. passed (initialiser _ r n d))
declarator-by i form _ r d = refused

declarators-by : {h : Hole} {s : Symbol} {room free : Room} (i : Bool) {next also : To VarItems} → (kind : TokenKind) → Rooms h room free → (n : Name) (value : MaybeExpr) → Each h VarItems next also
    → Taken h s (mc.declarators_by kind room i n value next s) (mc.declarators_by kind free i n value also s)
declarators-by i (k.Mark m.Comma) r n value d = passed (declarators-alike r (λ items. d _))
declarators-by i _ r n value d = kept (d _)

pub after-declarator : {h : Hole} {room free : Room} (i : Bool) {next also : To VarItems} → Rooms h room free → (n : Name) (value : MaybeExpr) → Each h VarItems next also
    → Good h (mc.after_declarator room i n value next) (mc.after_declarator free i n value also)
after-declarator {room = room} {free = free} i {next = next} {also = also} r n value d =
    reading (mc.after_declarator room i n value next) (mc.after_declarator free i n value also) (on (d _) at-end) (λ s. declarators-by _ s.kind r n value d)

pub optional-by : {h : Hole} {s : Symbol} {room free : Room} {next also : To MaybeExpr} → (kind : TokenKind) → Rooms h room free → Each h MaybeExpr next also
    → Taken h s (mc.optional_by kind room next s) (mc.optional_by kind free also s)
optional-by (k.Mark m.Semicolon) r d = kept (d _)
optional-by (k.Mark m.CloseParenthesis) r d = kept (d _)
optional-by _ r d = kept (comma-alike r (λ x. d _))
