-- What may be finished is so behind a step in an expression, a function or a declarator.
use Rattle.std.proofs.Common.{if◌then◌else◌, ◌≡◌, ℕ, nat_le, Bool, true, false, ◌&&◌, List, ◌∷◌, ◌++◌, Option, Some, None, refl, subst}
use Rattle.js_lexer.specs.declared.mark.Mark.TheVariants as m
use Rattle.js_lexer.specs.declared.word.Word.TheVariants as w
use Rattle.js_lexer.specs.declared.token.TokenKind.{TokenKind}
use Rattle.js_lexer.specs.declared.token.TokenKind.TheVariants as k
use Rattle.js_tree.specs.declared.tree.BinaryOp.{BinaryOp}
use Rattle.js_tree.specs.declared.tree.BinaryOp.TheVariants as b
use Rattle.js_tree.specs.declared.tree.PrefixOp.{PrefixOp}
use Rattle.js_tree.specs.Tree.{Name, Expr, Exprs, MaybeExpr, Elements, Pairs, VarItems}
use Rattle.js_tree.specs.Numbering.{is_function_number}
use Rattle.js_parser.specs.declared.form.Form.{Form}
use Rattle.js_parser.specs.declared.form.Form.TheVariants.{Source, Written}
use Rattle.js_parser.specs.Symbols.{Symbol, Symbols}
use Rattle.js_tree.specs.Levels.{Operator, level, changes}
use Rattle.js_parser.specs.Operators.{may_operate, is_target}
use Rattle.js_parser.specs.Names.{is_eval, is_reference, is_binding, is_property, is_distinct}
use Rattle.js_parser.specs.Rooms.{Room, unbounded, inside, in_function, fits_node, fits_around, fits_function}
use Rattle.js_parser.specs.Machine.{State, To, guard}
use Rattle.js_parser.specs.Machine as mc
use Rattle.js_parser.proofs.FrontsFinish.{any, closes, linked, splits, Finish, same, passing, f-after-new, f-late-number, f-function, f-dot, f-after-argument, f-after-element, f-after-pair, f-after-formal, f-initialiser, f-after-declarator}
use Rattle.js_parser.proofs.FrontsReady.{Front, Can, Good, Part, Taken, part, stuck, on, fin, fin-part, whole, wide, kept, kept-part, passed, refused, guarded, fits, reading, paren, bracket, brace, colon, open-paren, get, comma-good, comma-tail-good, assign-good, climb-good, tail-good, unary-good, postfix-good, operand-good, links-good, arguments-good, argument-list-good, elements-good, pairs-good, rest-good, formal-good, declarators-good}

-- for each tree that is read
abbrev pub Each : (h : Front) (good : TokenKind → Bool) (A : Type 0) → To A → To A → Type 0
Each h good A next also = (x : A) → Good h good (next x) (also x)

abbrev pub Parts : (h : Front) (c : Bool) → To Expr → To Expr → Type 0
Parts h c next also = (x : Expr) → Part h (linked c) x (next x) (also x)

semicolon-closes : (kind : TokenKind) → mc.is_semicolon kind ≡ true → closes kind ≡ true
semicolon-closes (k.Mark m.Semicolon) h = refl
semicolon-closes _ h = absurd cc

splits-closes : (kind : TokenKind) → splits kind ≡ true → closes kind ≡ true
splits-closes (k.Mark m.Semicolon) h = refl
splits-closes (k.Mark m.CloseParenthesis) h = refl
splits-closes _ h = absurd cc

right : (a c : Bool) → (a && c) ≡ true → c ≡ true
right true c h = h
right false c h = absurd cc

-- the operand of `++` or `--` is a target
targeted : {h : Front} {f g : Symbols → State} → (x : Expr) → Good h closes f g → Part h closes x (λ r. guard (is_target x) r (f r)) (λ r. guard (is_target x) r (g r))
targeted {h = h} {f = f} {g = g} x d = part (λ t r. at (is_target x) t r) (λ e. same (λ kind i. i) (λ s ss o i run. passing (is_target x) (s ∷ ss) e run) (fin d))
  where
    at : (a : Bool) (t : Symbol) (r : Symbols) → Can h (guard a (t ∷ (r ++ h.rest)) (f (t ∷ (r ++ h.rest)))) (λ o. guard a (t ∷ (r ++ o)) (g (t ∷ (r ++ o))))
    at true t r = on d (t ∷ r)
    at false t r = stuck t r

around : {h : Front} {a : TokenKind → Bool} {f g : Symbols → State} → (room : Room) (x : Expr) → Good h a f g → Good h a (λ ts. mc.fitting (fits_around room x) ts (f ts)) g
around room x d = fits room (λ room. fits_around room x) d

pub node : {h : Front} {a : TokenKind → Bool} {f g : Symbols → State} → (room : Room) → Good h a f g → Good h a (λ ts. mc.fitting (fits_node room) ts (f ts)) g
node room d = fits room (λ room. fits_node room) d

either : {h : Front} {s : Symbol} {f g u v : Symbols → State} → (a : Bool) → Taken h s f g → Taken h s u v → Taken h s (λ ts. if a then f ts else u ts) (λ ts. if a then g ts else v ts)
either true d e = d
either false d e = e

pub comma-by : {h : Front} {s : Symbol} (i : Bool) {next also : To Expr} → (kind : TokenKind) → (room : Room) → (x : Expr) → Each h closes Expr next also
    → Taken h s (mc.comma_by kind room i x next s) (mc.comma_by kind unbounded i x also s)
comma-by i (k.Mark m.Comma) room x d = passed (around room x (assign-good (inside room) (λ y. comma-tail-good room d)))
comma-by i _ room x d = kept (d x)

assign-to : {h : Front} {s : Symbol} (i : Bool) {next also : To Expr} → (op : Option BinaryOp) → (room : Room) → (x : Expr) → Each h closes Expr next also
    → Taken h s (mc.assign_to op room i x next s) (mc.assign_to op unbounded i x also s)
assign-to i op room x d = guarded (is_target x) (λ e. passed (around room x (assign-good (inside room) (λ y. d _))))

pub choice-by : {h : Front} {s : Symbol} (i : Bool) {next also : To Expr} → (kind : TokenKind) → (room : Room) → (x : Expr) → Each h closes Expr next also
    → Taken h s (mc.choice_by kind room i x next s) (mc.choice_by kind unbounded i x also s)
choice-by i (k.Mark m.Question) room x d = passed (around room x (assign-good (inside room) (λ y. colon refl (assign-good (inside room) (λ z. d _)))))
choice-by i (k.Mark m.Assign) room x d = assign-to _ None room x d
choice-by i (k.Mark m.TimesAssign) room x d = assign-to _ (Some b.Multiply) room x d
choice-by i (k.Mark m.SlashAssign) room x d = assign-to _ (Some b.Divide) room x d
choice-by i (k.Mark m.PercentAssign) room x d = assign-to _ (Some b.Remainder) room x d
choice-by i (k.Mark m.PlusAssign) room x d = assign-to _ (Some b.Add) room x d
choice-by i (k.Mark m.MinusAssign) room x d = assign-to _ (Some b.Subtract) room x d
choice-by i (k.Mark m.ShiftLeftAssign) room x d = assign-to _ (Some b.ShiftLeft) room x d
choice-by i (k.Mark m.ShiftRightAssign) room x d = assign-to _ (Some b.ShiftRight) room x d
choice-by i (k.Mark m.ShiftRightUnsignedAssign) room x d = assign-to _ (Some b.ShiftRightUnsigned) room x d
choice-by i (k.Mark m.BitAndAssign) room x d = assign-to _ (Some b.BitAnd) room x d
choice-by i (k.Mark m.BitXorAssign) room x d = assign-to _ (Some b.BitXor) room x d
choice-by i (k.Mark m.BitOrAssign) room x d = assign-to _ (Some b.BitOr) room x d
choice-by i _ room x d = kept (d x)

pub tail-by : {h : Front} {s : Symbol} {next also : To Expr} → (op : Option Operator) → (room : Room) → (i : Bool) (least : ℕ) (x : Expr) → Each h closes Expr next also
    → Taken h s (mc.tail_by op room i least x next s) (mc.tail_by op unbounded i least x also s)
tail-by None room i least x d = kept (d x)
tail-by (Some op) room i least x d = either (nat_le least (level op) && may_operate i op) (passed (around room x (climb-good (inside room) (λ y. tail-good room d)))) (kept (d x))

prefix-by : {h : Front} {s : Symbol} {next also : To Expr} → (c : Bool) → (room : Room) → (op : PrefixOp) → Each h closes Expr next also
    → Taken h s (mc.prefix_by c room op next) (mc.prefix_by c unbounded op also)
prefix-by true room op d = passed (node room (operand-good (inside room) (λ x. targeted x (d _))))
prefix-by false room op d = passed (node room (unary-good (inside room) (λ x. d _)))

pub unary-by : {h : Front} {s : Symbol} {next also : To Expr} → (op : Option PrefixOp) → (room : Room) → Each h closes Expr next also
    → Taken h s (mc.unary_by op room next s) (mc.unary_by op unbounded also s)
unary-by None room d = kept (operand-good room (λ x. whole (postfix-good room d)))
unary-by (Some op) room d = prefix-by (changes op) room op d

pub postfix-by : {h : Front} {s : Symbol} {next also : To Expr} → (kind : TokenKind) (newline : Bool) → (room : Room) → (x : Expr) → Each h closes Expr next also
    → Taken h s (mc.postfix_by kind newline room x next s) (mc.postfix_by kind newline unbounded x also s)
postfix-by (k.Mark m.PlusPlus) false room x d = guarded (is_target x) (λ e. passed (around room x (d _)))
postfix-by (k.Mark m.MinusMinus) false room x d = guarded (is_target x) (λ e. passed (around room x (d _)))
postfix-by _ _ room x d = kept (d x)

new-by : {h : Front} {s : Symbol} (c : Bool) {next also : To Expr} → (kind : TokenKind) → (room : Room) → (x : Expr) → Parts h c next also
    → Taken h s (mc.new_by kind room c x next s) (mc.new_by kind unbounded c x also s)
new-by c (k.Mark m.OpenParenthesis) room x d = passed (arguments-good (inside room) (λ xs. paren refl (links-good room d)))
new-by c _ room x d = kept-part (d _)

after-new : {h : Front} (c : Bool) {next also : To Expr} → (room : Room) → (x : Expr) → Parts h c next also → Good h (linked false) (mc.after_new room c x next) (mc.after_new unbounded c x also)
after-new c {next = next} {also = also} room x d = reading (mc.after_new room c x next) (mc.after_new unbounded c x also) (f-after-new (λ x e. fin-part (d x) e)) (λ s. new-by _ s.kind room x d)

leaf : {h : Front} (c : Bool) {next also : To Expr} → (room : Room) → (x : Expr) → Parts h c next also → Good h any (mc.leaf room c x next) (mc.leaf unbounded c x also)
leaf c room x d = node room (links-good room d)

late-by : {h : Front} {s : Symbol} (c : Bool) {next also : To Expr} → (kind : TokenKind) (in_decimal : Bool) → (room : Room) → Parts h c next also
    → Taken h s (mc.late_by kind in_decimal room c next s) (mc.late_by kind in_decimal unbounded c also s)
late-by c (k.Number n) in_decimal room d = guarded (in_decimal && is_function_number n) (λ e. passed (paren {a = any} refl (paren {a = any} refl (links-good room d))))
late-by c _ in_decimal room d = refused

late-number : {h : Front} (c : Bool) {next also : To Expr} → (room : Room) → Parts h c next also → Good h any (mc.late_number room c next) (mc.late_number unbounded c also)
late-number c {next = next} {also = also} room d = reading (mc.late_number room c next) (mc.late_number unbounded c also) (f-late-number (λ x e. fin-part (d x) e)) (λ s. late-by _ s.kind s.in_decimal room d)

late-in : {h : Front} {s : Symbol} (c : Bool) {next also : To Expr} → (form : Form) → (room : Room) → Parts h c next also → Taken h s (mc.late_in form room c next s) (mc.late_in form unbounded c also s)
late-in c Source room d = refused
late-in c Written room d = passed (node room (open-paren {a = any} refl (get {a = any} refl (open-paren {a = any} refl (late-number _ room d)))))

name-by : {h : Front} {s : Symbol} (c : Bool) {next also : To Expr} → (a : Bool) (form : Form) (n : Name) → (room : Room) → Parts h c next also
    → Taken h s (mc.name_by a form n room c next s) (mc.name_by a form n unbounded c also s)
name-by c true form n room d = late-in _ form room d
name-by c false form n room d = guarded (is_reference form n) (λ e. passed (leaf _ room _ d))

function-by : {h : Front} {s : Symbol} (c : Bool) {next also : To Expr} → (form : Form) (kind : TokenKind) → (room : Room) → Parts h c next also
    → Taken h s (mc.function_by form kind room c next s) (mc.function_by form kind unbounded c also s)
function-by c form (k.Name n) room d = guarded (is_binding form n) (λ e. passed (rest-good (in_function room) (λ ns body. links-good room d)))
function-by c form _ room d = kept (rest-good (in_function room) (λ ns body. links-good room d))

function : {h : Front} (c : Bool) {next also : To Expr} → (form : Form) → h.form ≡ form → (room : Room) → Parts h c next also → Good h any (mc.function form room c next) (mc.function form unbounded c also)
function {h = h} c {next = next} {also = also} form is room d =
    reading (mc.function form room c next) (mc.function form unbounded c also) (subst (λ form. Finish h.form any (mc.function form unbounded c also)) is (f-function (λ x e. fin-part (d x) e))) (λ s. function-by _ form s.kind room d)

pub operand-by : {h : Front} {s : Symbol} (c : Bool) {next also : To Expr} → (form : Form) → h.form ≡ form → (kind : TokenKind) → (room : Room) → Parts h c next also
    → Taken h s (mc.operand_by form kind room c next s) (mc.operand_by form kind unbounded c also s)
operand-by c form is (k.Word w.New) room d = passed (node room (operand-good (inside room) (λ x. whole (after-new _ room x d))))
operand-by c form is (k.Word w.This) room d = passed (leaf _ room _ d)
operand-by c form is (k.Word w.Null) room d = passed (leaf _ room _ d)
operand-by c form is (k.Word w.True) room d = passed (leaf _ room _ d)
operand-by c form is (k.Word w.False) room d = passed (leaf _ room _ d)
operand-by c form is (k.Word w.Function) room d = passed (fits room (λ room. fits_function room) (function _ form is room d))
operand-by c form is (k.Name n) room d = name-by _ (is_eval n) form n room d
operand-by c form is (k.Number n) room d = passed (leaf _ room _ d)
operand-by c form is (k.Str text) room d = passed (leaf _ room _ d)
operand-by c form is (k.Mark m.OpenBracket) room d = passed (node room (elements-good (inside room) (λ es. bracket refl (links-good room d))))
operand-by c form is (k.Mark m.OpenBrace) room d = passed (node room (pairs-good (inside room) (λ ps. brace refl (links-good room d))))
operand-by c form is (k.Mark m.OpenParenthesis) room d = passed (comma-good room (λ x. paren refl (links-good room d)))
operand-by c form is _ room d = refused

dot-by : {h : Front} {s : Symbol} (c : Bool) {next also : To Expr} → (form : Form) (kind : TokenKind) → (room : Room) → (x : Expr) → Parts h c next also
    → Taken h s (mc.dot_by form kind room c x next s) (mc.dot_by form kind unbounded c x also s)
dot-by c form (k.Name n) room x d = guarded (is_property form n) (λ e. passed (links-good room d))
dot-by c form _ room x d = refused

dot : {h : Front} (c : Bool) {next also : To Expr} → (form : Form) → h.form ≡ form → (room : Room) → (x : Expr) → Parts h c next also → Good h any (mc.dot form room c x next) (mc.dot form unbounded c x also)
dot {h = h} c {next = next} {also = also} form is room x d = reading (mc.dot form room c x next) (mc.dot form unbounded c x also) (subst (λ form. Finish h.form any (mc.dot form unbounded c x also)) is (f-dot {x = x} (λ x e. fin-part (d x) e))) (λ s. dot-by _ form s.kind room x d)

pub links-by : {h : Front} {s : Symbol} {next also : To Expr} → (form : Form) → h.form ≡ form → (kind : TokenKind) → (room : Room) → (c : Bool) (x : Expr) → Parts h c next also
    → Taken h s (mc.links_by form kind room c x next s) (mc.links_by form kind unbounded c x also s)
links-by form is (k.Mark m.Dot) room c x d = passed (around room x (dot _ form is room x d))
links-by form is (k.Mark m.OpenBracket) room c x d = passed (around room x (comma-good (inside room) (λ y. bracket refl (links-good room d))))
links-by form is (k.Mark m.OpenParenthesis) room true x d = passed (around room x (arguments-good (inside room) (λ xs. paren refl (links-good room d))))
links-by form is _ room c x d = kept-part (d x)

pub arguments-by : {h : Front} {s : Symbol} {next also : To Exprs} → (kind : TokenKind) → (room : Room) → Each h mc.is_close_parenthesis Exprs next also
    → Taken h s (mc.arguments_by kind room next s) (mc.arguments_by kind unbounded also s)
arguments-by (k.Mark m.CloseParenthesis) room d = kept (d _)
arguments-by _ room d = kept (argument-list-good room d)

argument-by : {h : Front} {s : Symbol} {next also : To Exprs} → (kind : TokenKind) → (room : Room) → (x : Expr) → Each h mc.is_close_parenthesis Exprs next also
    → Taken h s (mc.argument_by kind room x next s) (mc.argument_by kind unbounded x also s)
argument-by (k.Mark m.Comma) room x d = passed (argument-list-good room (λ xs. d _))
argument-by _ room x d = kept (d _)

pub after-argument : {h : Front} {next also : To Exprs} → (room : Room) → (x : Expr) → Each h mc.is_close_parenthesis Exprs next also → Good h closes (mc.after_argument room x next) (mc.after_argument unbounded x also)
after-argument {next = next} {also = also} room x d = reading (mc.after_argument room x next) (mc.after_argument unbounded x also) (f-after-argument (λ x. fin (d x))) (λ s. argument-by s.kind room x d)

element-by : {h : Front} {s : Symbol} {next also : To Elements} → (kind : TokenKind) → (room : Room) → (x : Expr) → Each h mc.is_close_bracket Elements next also
    → Taken h s (mc.element_by kind room x next s) (mc.element_by kind unbounded x also s)
element-by (k.Mark m.Comma) room x d = passed (elements-good room (λ es. d _))
element-by _ room x d = kept (d _)

after-element : {h : Front} {next also : To Elements} → (room : Room) → (x : Expr) → Each h mc.is_close_bracket Elements next also → Good h closes (mc.after_element room x next) (mc.after_element unbounded x also)
after-element {next = next} {also = also} room x d = reading (mc.after_element room x next) (mc.after_element unbounded x also) (f-after-element (λ x. fin (d x))) (λ s. element-by s.kind room x d)

pub elements-by : {h : Front} {s : Symbol} {next also : To Elements} → (kind : TokenKind) → (room : Room) → Each h mc.is_close_bracket Elements next also
    → Taken h s (mc.elements_by kind room next s) (mc.elements_by kind unbounded also s)
elements-by (k.Mark m.CloseBracket) room d = kept (d _)
elements-by (k.Mark m.Comma) room d = passed (elements-good room (λ es. d _))
elements-by _ room d = kept (assign-good room (λ x. after-element room x d))

pair-by : {h : Front} {s : Symbol} {next also : To Pairs} → (kind : TokenKind) → (room : Room) → (key : Name) (x : Expr) → Each h mc.is_close_brace Pairs next also
    → Taken h s (mc.pair_by kind room key x next s) (mc.pair_by kind unbounded key x also s)
pair-by (k.Mark m.Comma) room key x d = passed (pairs-good room (λ ps. d _))
pair-by _ room key x d = kept (d _)

after-pair : {h : Front} {next also : To Pairs} → (room : Room) → (key : Name) (x : Expr) → Each h mc.is_close_brace Pairs next also → Good h closes (mc.after_pair room key x next) (mc.after_pair unbounded key x also)
after-pair {next = next} {also = also} room key x d = reading (mc.after_pair room key x next) (mc.after_pair unbounded key x also) (f-after-pair (λ x. fin (d x))) (λ s. pair-by s.kind room key x d)

pub pairs-by : {h : Front} {s : Symbol} {next also : To Pairs} → (key : Option Name) → (room : Room) → Each h mc.is_close_brace Pairs next also
    → Taken h s (mc.pairs_by key room next s) (mc.pairs_by key unbounded also s)
pairs-by None room d = kept (d _)
pairs-by (Some key) room d = passed (colon {a = any} refl (assign-good room (λ x. after-pair room key x d)))

-- ---- functions and declarators

formal-by : {h : Front} {s : Symbol} {next also : To (List Name)} → (kind : TokenKind) (before : List Name) (n : Name) → is_distinct (mc.and_formal before n) ≡ true → Each h mc.is_close_parenthesis (List Name) next also
    → Taken h s (mc.formal_by kind before n next s) (mc.formal_by kind before n also s)
formal-by (k.Mark m.Comma) before n e d = passed (formal-good e (λ ns. d _))
formal-by _ before n e d = kept (d _)

after-formal : {h : Front} {next also : To (List Name)} → (before : List Name) (n : Name) → is_distinct (mc.and_formal before n) ≡ true → Each h mc.is_close_parenthesis (List Name) next also → Good h any (mc.after_formal before n next) (mc.after_formal before n also)
after-formal {next = next} {also = also} before n e d = reading (mc.after_formal before n next) (mc.after_formal before n also) (f-after-formal (λ x. fin (d x))) (λ s. formal-by s.kind before n e d)

pub formals-by : {h : Front} {s : Symbol} {next also : To (List Name)} → (form : Form) (kind : TokenKind) (before : List Name) → Each h mc.is_close_parenthesis (List Name) next also
    → Taken h s (mc.formals_by form kind before next s) (mc.formals_by form kind before also s)
formals-by form (k.Name n) before d = guarded (mc.is_formal form before n) (λ e. passed (after-formal before n (right (is_binding form n) (is_distinct (mc.and_formal before n)) e) d))
formals-by form _ before d = kept (d _)

pub one-formal-by : {h : Front} {s : Symbol} {next also : To (List Name)} → (form : Form) (kind : TokenKind) (before : List Name) → Each h mc.is_close_parenthesis (List Name) next also
    → Taken h s (mc.one_formal_by form kind before next s) (mc.one_formal_by form kind before also s)
one-formal-by form (k.Name n) before d = guarded (mc.is_formal form before n) (λ e. passed (after-formal before n (right (is_binding form n) (is_distinct (mc.and_formal before n)) e) d))
one-formal-by form _ before d = refused

-- for each name and value
abbrev pub Both : (h : Front) → (Name → MaybeExpr → Symbols → State) → (Name → MaybeExpr → Symbols → State) → Type 0
Both h next also = (n : Name) (value : MaybeExpr) → Good h mc.is_semicolon (next n value) (also n value)

initialiser-by : {h : Front} {s : Symbol} (i : Bool) {next also : Name → MaybeExpr → Symbols → State} → (kind : TokenKind) → (room : Room) → (n : Name) → Both h next also
    → Taken h s (mc.initialiser_by kind room i n next s) (mc.initialiser_by kind unbounded i n also s)
initialiser-by i (k.Mark m.Assign) room n d = passed (assign-good room (λ x. wide semicolon-closes (d n _)))
initialiser-by i _ room n d = kept (d n _)

initialiser : {h : Front} (i : Bool) {next also : Name → MaybeExpr → Symbols → State} → (room : Room) → (n : Name) → Both h next also → Good h mc.is_semicolon (mc.initialiser room i n next) (mc.initialiser unbounded i n also)
initialiser i {next = next} {also = also} room n d =
    reading (mc.initialiser room i n next) (mc.initialiser unbounded i n also) (f-initialiser (λ n value. fin (d n value))) (λ s. initialiser-by _ s.kind room n d)

pub declarator-by : {h : Front} {s : Symbol} (i : Bool) {next also : Name → MaybeExpr → Symbols → State} → (form : Form) (kind : TokenKind) → (room : Room) → Both h next also
    → Taken h s (mc.declarator_by form kind room i next s) (mc.declarator_by form kind unbounded i also s)
declarator-by i form (k.Name n) room d = guarded (is_binding form n) (λ e. passed (initialiser _ room n d))
declarator-by i form _ room d = refused

declarators-by : {h : Front} {s : Symbol} (i : Bool) {next also : To VarItems} → (kind : TokenKind) → (room : Room) → (n : Name) (value : MaybeExpr) → Each h mc.is_semicolon VarItems next also
    → Taken h s (mc.declarators_by kind room i n value next s) (mc.declarators_by kind unbounded i n value also s)
declarators-by i (k.Mark m.Comma) room n value d = passed (declarators-good room (λ items. d _))
declarators-by i _ room n value d = kept (d _)

pub after-declarator : {h : Front} (i : Bool) {next also : To VarItems} → (room : Room) → (n : Name) (value : MaybeExpr) → Each h mc.is_semicolon VarItems next also
    → Good h mc.is_semicolon (mc.after_declarator room i n value next) (mc.after_declarator unbounded i n value also)
after-declarator i {next = next} {also = also} room n value d =
    reading (mc.after_declarator room i n value next) (mc.after_declarator unbounded i n value also) (f-after-declarator (λ x. fin (d x))) (λ s. declarators-by _ s.kind room n value d)

pub optional-by : {h : Front} {s : Symbol} {next also : To MaybeExpr} → (kind : TokenKind) → (room : Room) → Each h splits MaybeExpr next also
    → Taken h s (mc.optional_by kind room next s) (mc.optional_by kind unbounded also s)
optional-by (k.Mark m.Semicolon) room d = kept (d _)
optional-by (k.Mark m.CloseParenthesis) room d = kept (d _)
optional-by _ room d = kept (comma-good room (λ x. wide splits-closes (d _)))
