-- Where expressions begin and end.
use Rattle.std.proofs.Common.{◌≡◌, ℕ, ◌≤◌, Bool, true, false, not, ◌&&◌, List, [], ◌∷◌, ◌++◌, Option, Some, None, refl, ap, sym, ◌∙◌, subst, arith}
use Rattle.std.proofs.lemmas.List.{append_assoc}
use Rattle.js_lexer.specs.declared.mark.Mark.{Mark}
use Rattle.js_lexer.specs.declared.mark.Mark.TheVariants as m
use Rattle.js_lexer.specs.declared.word.Word.TheVariants as w
use Rattle.js_lexer.specs.declared.token.TokenKind.{TokenKind}
use Rattle.js_lexer.specs.declared.token.TokenKind.TheVariants as k
use Rattle.js_tree.specs.declared.tree.PrefixOp.{PrefixOp}
use Rattle.js_tree.specs.declared.tree.PrefixOp.TheVariants as p
use Rattle.js_tree.specs.declared.tree.BinaryOp.{BinaryOp}
use Rattle.js_tree.specs.declared.tree.BinaryOp.TheVariants as b
use Rattle.js_tree.specs.declared.tree.PostfixOp.{PostfixOp}
use Rattle.js_tree.specs.declared.tree.PostfixOp.TheVariants as q
use Rattle.js_tree.specs.Tree.{Name, Expr, Exprs, Stmts}
use Rattle.js_parser.specs.declared.form.Form.{Form}
use Rattle.js_parser.specs.Symbols.{Symbol, Symbols, mark, name}
use Rattle.js_tree.specs.Levels.{Operator, LogicalOr, LogicalAnd, Operation, level}
use Rattle.js_parser.specs.Operators.{sign, prefix_sign, postfix_sign, assignment}
use Rattle.js_parser.specs.Ends.{ends_from, ends_changed, is_change}
use Rattle.js_parser.specs.Grammar.{Expression, NewCallee, Arguments, ArgumentList, FunctionRest}
use Rattle.js_parser.specs.Grammar as g
use Rattle.js_parser.proofs.Levels.{is_empty}

-- ---- the last token

pub ends-join : (c : Bool) (u v : Symbols) → ends_from c (u ++ v) ≡ ends_from (ends_from c u) v
ends-join c [] v = refl
ends-join c (s ∷ u) v = ends-join (is_change s.kind) u v

pub ends-any : (c d : Bool) (v : Symbols) → is_empty v ≡ false → ends_from c v ≡ ends_from d v
ends-any c d [] h = cc
ends-any c d (s ∷ v) h = refl

-- the last tokens decide
pub last-of : (u : Symbols) (s : Symbol) (v : Symbols) → is_empty v ≡ false → ends_changed (u ++ (s ∷ v)) ≡ ends_changed v
last-of u s v h = ends-join false u (s ∷ v) ∙ ends-any (is_change s.kind) false v h

-- a token that is neither `++` nor `--` comes last
pub last-plain : (c : Bool) (u : Symbols) (s : Symbol) → is_change s.kind ≡ false → ends_from c (u ++ (s ∷ [])) ≡ false
last-plain c u s h = ends-join c u (s ∷ []) ∙ h

rest-end : {form : Form} {u : Symbols} {ns : List Name} {body : Stmts} (c : Bool) → FunctionRest form u ns body → ends_from c u ≡ false
rest-end c (g.function_rest {u = u} {v = v} a b d e fs r body) =
    ends-join false u (mark m.CloseParenthesis b ∷ (mark m.OpenBrace d ∷ (v ++ (mark m.CloseBrace e ∷ [])))) ∙ last-plain false v (mark m.CloseBrace e) refl

arguments-end : {form : Form} {u : Symbols} {xs : Exprs} (c : Bool) → Arguments form u xs → ends_from c u ≡ false
arguments-end c (g.no_arguments a b) = refl
arguments-end c (g.arguments {u = u} a b xs) = last-plain false u (mark m.CloseParenthesis b) refl

level-low : (op : Operator) → level op ≤ 13
level-low LogicalOr = omega arith
level-low LogicalAnd = omega arith
level-low (Operation b.BitOr) = omega arith
level-low (Operation b.BitXor) = omega arith
level-low (Operation b.BitAnd) = omega arith
level-low (Operation b.Equal) = omega arith
level-low (Operation b.NotEqual) = omega arith
level-low (Operation b.Same) = omega arith
level-low (Operation b.NotSame) = omega arith
level-low (Operation b.Less) = omega arith
level-low (Operation b.Greater) = omega arith
level-low (Operation b.LessEqual) = omega arith
level-low (Operation b.GreaterEqual) = omega arith
level-low (Operation b.InstanceOf) = omega arith
level-low (Operation b.In) = omega arith
level-low (Operation b.ShiftLeft) = omega arith
level-low (Operation b.ShiftRight) = omega arith
level-low (Operation b.ShiftRightUnsigned) = omega arith
level-low (Operation b.Add) = omega arith
level-low (Operation b.Subtract) = omega arith
level-low (Operation b.Multiply) = omega arith
level-low (Operation b.Divide) = omega arith
level-low (Operation b.Remainder) = omega arith

-- an operand does not end with `++` or `--`
mutual
  pub operand-end : {form : Form} {i : Bool} {l : ℕ} {u : Symbols} {x : Expr} → 16 ≤ l → Expression form i l u x → ends_changed u ≡ false
  operand-end le (g.this c h) = refl
  operand-end le (g.identifier c h r) = refl
  operand-end le (g.null c h) = refl
  operand-end le (g.truth c h) = refl
  operand-end le (g.falsehood c h) = refl
  operand-end le (g.numeral d c h) = refl
  operand-end le (g.literal c h) = refl
  operand-end le (g.array {u = u} c d h es) = last-plain false u (mark m.CloseBracket d) refl
  operand-end le (g.object {u = u} c d h ps) = last-plain false u (mark m.CloseBrace d) refl
  operand-end le (g.parenthesised {u = u} c d h x) = last-plain false u (mark m.CloseParenthesis d) refl
  operand-end le (g.function c h f) = rest-end false f
  operand-end le (g.named_function c d h r f) = rest-end false f
  operand-end le (g.late c1 c2 c3 c4 c5 c6 c7 h form n) = refl
  operand-end le (g.dot {n = n} {u = u} o c d h1 h2 h x r) = ends-join false u (mark m.Dot c ∷ (name n d ∷ []))
  operand-end le (g.index {u = u} {v = v} o c d h1 h2 h x y) = ends-join false u (mark m.OpenBracket c ∷ (v ++ (mark m.CloseBracket d ∷ []))) ∙ last-plain false v (mark m.CloseBracket d) refl
  operand-end le (g.call {u = u} {v = v} h x xs) = ends-join false u v ∙ arguments-end (ends_changed u) xs
  operand-end le (g.new {u = u} {v = v} c h x xs) = ends-join false u v ∙ arguments-end (ends_changed u) xs
  operand-end le (g.bare_new c h x) = callee-end x
  operand-end le (g.postfix op h x t) = absurd (omega arith)
  operand-end le (g.prefix op c h n x) = absurd (omega arith)
  operand-end le (g.changed op c h n x t) = absurd (omega arith)
  operand-end le (g.binary op c h m x y) = let low = level-low op in absurd (omega arith)
  operand-end le (g.conditional c d h x y z) = absurd (omega arith)
  operand-end le (g.assign op joint c h a x t y) = absurd (omega arith)
  operand-end le (g.comma c h x y) = absurd (omega arith)

  pub callee-end : {form : Form} {i : Bool} {u : Symbols} {x : Expr} → NewCallee form i u x → ends_changed u ≡ false
  callee-end (g.member x) = operand-end (omega arith) x
  callee-end (g.new_again c x) = callee-end x

-- ---- the first token

-- what begins an operand
abbrev pub begins_operand : TokenKind → Bool
begins_operand (k.Word w.This) = true
begins_operand (k.Word w.Null) = true
begins_operand (k.Word w.True) = true
begins_operand (k.Word w.False) = true
begins_operand (k.Word w.New) = true
begins_operand (k.Word w.Function) = true
begins_operand (k.Name n) = true
begins_operand (k.Number n) = true
begins_operand (k.Str text) = true
begins_operand (k.Mark m.OpenParenthesis) = true
begins_operand (k.Mark m.OpenBracket) = true
begins_operand (k.Mark m.OpenBrace) = true
begins_operand _ = false

-- what begins an expression
abbrev pub begins : TokenKind → Bool
begins (k.Word w.This) = true
begins (k.Word w.Null) = true
begins (k.Word w.True) = true
begins (k.Word w.False) = true
begins (k.Word w.New) = true
begins (k.Word w.Function) = true
begins (k.Word w.Delete) = true
begins (k.Word w.Void) = true
begins (k.Word w.TypeOf) = true
begins (k.Name n) = true
begins (k.Number n) = true
begins (k.Str text) = true
begins (k.Mark m.OpenParenthesis) = true
begins (k.Mark m.OpenBracket) = true
begins (k.Mark m.OpenBrace) = true
begins (k.Mark m.PlusPlus) = true
begins (k.Mark m.MinusMinus) = true
begins (k.Mark m.Plus) = true
begins (k.Mark m.Minus) = true
begins (k.Mark m.BitNot) = true
begins (k.Mark m.Not) = true
begins _ = false

pub record Starts (test : TokenKind → Bool) (u : Symbols) : Type 0 where
  pub head : Symbol
  pub others : Symbols
  pub are : u ≡ head ∷ others
  pub passes : test head.kind ≡ true

pub one : {test : TokenKind → Bool} (s : Symbol) (v : Symbols) → test s.kind ≡ true → Starts test (s ∷ v)
one s v h = record { head = s; others = v; are = refl; passes = h }

pub starts-append : {test : TokenKind → Bool} (u v : Symbols) → Starts test u → Starts test (u ++ v)
starts-append u v h = record { head = h.head; others = h.others ++ v; are = ap (λ t. t ++ v) h.are; passes = h.passes }

prefix-begins : (op : PrefixOp) → begins (prefix_sign op) ≡ true
prefix-begins p.Delete = refl
prefix-begins p.Void = refl
prefix-begins p.TypeOf = refl
prefix-begins p.Increment = refl
prefix-begins p.Decrement = refl
prefix-begins p.Plus = refl
prefix-begins p.Minus = refl
prefix-begins p.BitNot = refl
prefix-begins p.Not = refl

mutual
  pub operand-starts : {form : Form} {i : Bool} {l : ℕ} {u : Symbols} {x : Expr} → 16 ≤ l → Expression form i l u x → Starts begins_operand u
  operand-starts le (g.this c h) = one _ _ refl
  operand-starts le (g.identifier c h r) = one _ _ refl
  operand-starts le (g.null c h) = one _ _ refl
  operand-starts le (g.truth c h) = one _ _ refl
  operand-starts le (g.falsehood c h) = one _ _ refl
  operand-starts le (g.numeral d c h) = one _ _ refl
  operand-starts le (g.literal c h) = one _ _ refl
  operand-starts le (g.array c d h es) = one _ _ refl
  operand-starts le (g.object c d h ps) = one _ _ refl
  operand-starts le (g.parenthesised c d h x) = one _ _ refl
  operand-starts le (g.function c h f) = one _ _ refl
  operand-starts le (g.named_function c d h r f) = one _ _ refl
  operand-starts le (g.late c1 c2 c3 c4 c5 c6 c7 h form n) = one _ _ refl
  operand-starts le (g.dot {u = u} o c d h1 h2 h x r) = starts-append u _ (operand-starts (omega arith) x)
  operand-starts le (g.index {u = u} o c d h1 h2 h x y) = starts-append u _ (operand-starts (omega arith) x)
  operand-starts le (g.call {u = u} h x xs) = starts-append u _ (operand-starts (omega arith) x)
  operand-starts le (g.new c h x xs) = one _ _ refl
  operand-starts le (g.bare_new c h x) = one _ _ refl
  operand-starts le (g.prefix op c h n x) = absurd (omega arith)
  operand-starts le (g.changed op c h n x t) = absurd (omega arith)
  operand-starts le (g.postfix op h x t) = absurd (omega arith)
  operand-starts le (g.binary op c h m x y) = let low = level-low op in absurd (omega arith)
  operand-starts le (g.conditional c d h x y z) = absurd (omega arith)
  operand-starts le (g.assign op joint c h a x t y) = absurd (omega arith)
  operand-starts le (g.comma c h x y) = absurd (omega arith)

  pub callee-starts : {form : Form} {i : Bool} {u : Symbols} {x : Expr} → NewCallee form i u x → Starts begins_operand u
  callee-starts (g.member x) = operand-starts (omega arith) x
  callee-starts (g.new_again c x) = one _ _ refl

pub expression-starts : {form : Form} {i : Bool} {l : ℕ} {u : Symbols} {x : Expr} → Expression form i l u x → Starts begins u
expression-starts (g.this c h) = one _ _ refl
expression-starts (g.identifier c h r) = one _ _ refl
expression-starts (g.null c h) = one _ _ refl
expression-starts (g.truth c h) = one _ _ refl
expression-starts (g.falsehood c h) = one _ _ refl
expression-starts (g.numeral d c h) = one _ _ refl
expression-starts (g.literal c h) = one _ _ refl
expression-starts (g.array c d h es) = one _ _ refl
expression-starts (g.object c d h ps) = one _ _ refl
expression-starts (g.parenthesised c d h x) = one _ _ refl
expression-starts (g.function c h f) = one _ _ refl
expression-starts (g.named_function c d h r f) = one _ _ refl
expression-starts (g.late c1 c2 c3 c4 c5 c6 c7 h form n) = one _ _ refl
expression-starts (g.new c h x xs) = one _ _ refl
expression-starts (g.bare_new c h x) = one _ _ refl
expression-starts (g.dot {u = u} o c d h1 h2 h x r) = starts-append u _ (expression-starts x)
expression-starts (g.index {u = u} o c d h1 h2 h x y) = starts-append u _ (expression-starts x)
expression-starts (g.call {u = u} h x xs) = starts-append u _ (expression-starts x)
expression-starts (g.postfix {u = u} op h x t) = starts-append u _ (expression-starts x)
expression-starts (g.binary {u = u} op c h m x y) = starts-append u _ (expression-starts x)
expression-starts (g.conditional {u = u} c d h x y z) = starts-append u _ (expression-starts x)
expression-starts (g.assign {u = u} op joint c h a x t y) = starts-append u _ (expression-starts x)
expression-starts (g.comma {u = u} c h x y) = starts-append u _ (expression-starts x)
expression-starts (g.prefix op c h n x) = one _ _ (prefix-begins op)
expression-starts (g.changed op c h n x t) = one _ _ (prefix-begins op)

pub argument-starts : {form : Form} {u : Symbols} {xs : Exprs} → ArgumentList form u xs → Starts begins u
argument-starts (g.last_argument x) = expression-starts x
argument-starts (g.argument_and {u = u} {v = v} c x xs) = starts-append u (mark m.Comma c ∷ v) (expression-starts x)

-- ---- no label

abbrev pub is_colon : TokenKind → Bool
is_colon (k.Mark m.Colon) = true
is_colon _ = false

abbrev pub is_name : TokenKind → Bool
is_name (k.Name n) = true
is_name _ = false

abbrev pub colon_first : Symbols → Bool
colon_first [] = false
colon_first (s ∷ ss) = is_colon s.kind

-- no label comes first
abbrev pub no_label : Symbols → Bool
no_label [] = true
no_label (s ∷ ss) = not (is_name s.kind && colon_first ss)

prefix-no-name : (op : PrefixOp) → is_name (prefix_sign op) ≡ false
prefix-no-name p.Delete = refl
prefix-no-name p.Void = refl
prefix-no-name p.TypeOf = refl
prefix-no-name p.Increment = refl
prefix-no-name p.Decrement = refl
prefix-no-name p.Plus = refl
prefix-no-name p.Minus = refl
prefix-no-name p.BitNot = refl
prefix-no-name p.Not = refl

sign-no-colon : (op : Operator) → is_colon (sign op) ≡ false
sign-no-colon LogicalOr = refl
sign-no-colon LogicalAnd = refl
sign-no-colon (Operation b.BitOr) = refl
sign-no-colon (Operation b.BitXor) = refl
sign-no-colon (Operation b.BitAnd) = refl
sign-no-colon (Operation b.Equal) = refl
sign-no-colon (Operation b.NotEqual) = refl
sign-no-colon (Operation b.Same) = refl
sign-no-colon (Operation b.NotSame) = refl
sign-no-colon (Operation b.Less) = refl
sign-no-colon (Operation b.Greater) = refl
sign-no-colon (Operation b.LessEqual) = refl
sign-no-colon (Operation b.GreaterEqual) = refl
sign-no-colon (Operation b.InstanceOf) = refl
sign-no-colon (Operation b.In) = refl
sign-no-colon (Operation b.ShiftLeft) = refl
sign-no-colon (Operation b.ShiftRight) = refl
sign-no-colon (Operation b.ShiftRightUnsigned) = refl
sign-no-colon (Operation b.Add) = refl
sign-no-colon (Operation b.Subtract) = refl
sign-no-colon (Operation b.Multiply) = refl
sign-no-colon (Operation b.Divide) = refl
sign-no-colon (Operation b.Remainder) = refl

postfix-no-colon : (op : PostfixOp) → is_colon (postfix_sign op) ≡ false
postfix-no-colon q.Increment = refl
postfix-no-colon q.Decrement = refl

assignment-no-colon : (op : Option BinaryOp) (joint : Mark) → assignment op ≡ Some joint → is_colon (k.Mark joint) ≡ false
assignment-no-colon None joint h = let f : m.Assign ≡ joint = cc in subst (λ a. is_colon (k.Mark a) ≡ false) f refl
assignment-no-colon (Some b.BitOr) joint h = let f : m.BitOrAssign ≡ joint = cc in subst (λ a. is_colon (k.Mark a) ≡ false) f refl
assignment-no-colon (Some b.BitXor) joint h = let f : m.BitXorAssign ≡ joint = cc in subst (λ a. is_colon (k.Mark a) ≡ false) f refl
assignment-no-colon (Some b.BitAnd) joint h = let f : m.BitAndAssign ≡ joint = cc in subst (λ a. is_colon (k.Mark a) ≡ false) f refl
assignment-no-colon (Some b.Equal) joint h = cc
assignment-no-colon (Some b.NotEqual) joint h = cc
assignment-no-colon (Some b.Same) joint h = cc
assignment-no-colon (Some b.NotSame) joint h = cc
assignment-no-colon (Some b.Less) joint h = cc
assignment-no-colon (Some b.Greater) joint h = cc
assignment-no-colon (Some b.LessEqual) joint h = cc
assignment-no-colon (Some b.GreaterEqual) joint h = cc
assignment-no-colon (Some b.InstanceOf) joint h = cc
assignment-no-colon (Some b.In) joint h = cc
assignment-no-colon (Some b.ShiftLeft) joint h = let f : m.ShiftLeftAssign ≡ joint = cc in subst (λ a. is_colon (k.Mark a) ≡ false) f refl
assignment-no-colon (Some b.ShiftRight) joint h = let f : m.ShiftRightAssign ≡ joint = cc in subst (λ a. is_colon (k.Mark a) ≡ false) f refl
assignment-no-colon (Some b.ShiftRightUnsigned) joint h = let f : m.ShiftRightUnsignedAssign ≡ joint = cc in subst (λ a. is_colon (k.Mark a) ≡ false) f refl
assignment-no-colon (Some b.Add) joint h = let f : m.PlusAssign ≡ joint = cc in subst (λ a. is_colon (k.Mark a) ≡ false) f refl
assignment-no-colon (Some b.Subtract) joint h = let f : m.MinusAssign ≡ joint = cc in subst (λ a. is_colon (k.Mark a) ≡ false) f refl
assignment-no-colon (Some b.Multiply) joint h = let f : m.TimesAssign ≡ joint = cc in subst (λ a. is_colon (k.Mark a) ≡ false) f refl
assignment-no-colon (Some b.Divide) joint h = let f : m.SlashAssign ≡ joint = cc in subst (λ a. is_colon (k.Mark a) ≡ false) f refl
assignment-no-colon (Some b.Remainder) joint h = let f : m.PercentAssign ≡ joint = cc in subst (λ a. is_colon (k.Mark a) ≡ false) f refl

linked-label : (u v t : Symbols) → no_label (u ++ (v ++ t)) ≡ true → no_label ((u ++ v) ++ t) ≡ true
linked-label u v t h = subst (λ r. no_label r ≡ true) (sym (append_assoc u v t)) h

pub expression-no-label : {form : Form} {i : Bool} {l : ℕ} {u : Symbols} {x : Expr} → Expression form i l u x → (t : Symbols) → colon_first t ≡ false → no_label (u ++ t) ≡ true
expression-no-label (g.this c h) t away = refl
expression-no-label (g.identifier c h r) t away = ap not away
expression-no-label (g.null c h) t away = refl
expression-no-label (g.truth c h) t away = refl
expression-no-label (g.falsehood c h) t away = refl
expression-no-label (g.numeral d c h) t away = refl
expression-no-label (g.literal c h) t away = refl
expression-no-label (g.array c d h es) t away = refl
expression-no-label (g.object c d h ps) t away = refl
expression-no-label (g.parenthesised c d h x) t away = refl
expression-no-label (g.function c h f) t away = refl
expression-no-label (g.named_function c d h r f) t away = refl
expression-no-label (g.late c1 c2 c3 c4 c5 c6 c7 h form n) t away = refl
expression-no-label (g.new c h x xs) t away = refl
expression-no-label (g.bare_new c h x) t away = refl
expression-no-label (g.dot {u = u} o c d h1 h2 h x r) t away = linked-label u _ t (expression-no-label x _ refl)
expression-no-label (g.index {u = u} o c d h1 h2 h x y) t away = linked-label u _ t (expression-no-label x _ refl)
expression-no-label (g.call {u = u} h x (g.no_arguments c d)) t away = linked-label u _ t (expression-no-label x _ refl)
expression-no-label (g.call {u = u} h x (g.arguments c d xs)) t away = linked-label u _ t (expression-no-label x _ refl)
expression-no-label (g.postfix {u = u} op h x target) t away = linked-label u _ t (expression-no-label x _ (postfix-no-colon op))
expression-no-label (g.binary {u = u} op c h m x y) t away = linked-label u _ t (expression-no-label x _ (sign-no-colon op))
expression-no-label (g.conditional {u = u} c d h x y z) t away = linked-label u _ t (expression-no-label x _ refl)
expression-no-label (g.assign {u = u} op joint c h a x target y) t away = linked-label u _ t (expression-no-label x _ (assignment-no-colon op joint a))
expression-no-label (g.comma {u = u} c h x y) t away = linked-label u _ t (expression-no-label x _ refl)
expression-no-label (g.prefix {u = u} op c h n x) t away = ap (λ a. not (a && colon_first (u ++ t))) (prefix-no-name op)
expression-no-label (g.changed {u = u} op c h n x target) t away = ap (λ a. not (a && colon_first (u ++ t))) (prefix-no-name op)
