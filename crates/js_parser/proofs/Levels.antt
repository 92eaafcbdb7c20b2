-- Levels of expressions, and what has tokens.
use Rattle.std.proofs.Common.{◌≡◌, ◌≢◌, ℕ, ◌≤◌, Bool, true, false, [], ◌∷◌, ◌++◌, refl, ap, arith, lit≤}
use Rattle.js_tree.specs.declared.tree.BinaryOp.TheVariants as b
use Rattle.js_tree.specs.Tree.{Expr, Exprs, Stmt, VarItems}
use Rattle.js_parser.specs.declared.form.Form.{Form}
use Rattle.js_parser.specs.Symbols.{Symbol, Symbols}
use Rattle.js_tree.specs.Levels.{Operator, LogicalOr, LogicalAnd, Operation, joined}
use Rattle.js_parser.specs.Operators.{may_operate, is_target}
use Rattle.js_parser.specs.Contexts.{Context}
use Rattle.js_parser.specs.Grammar.{Expression, NewCallee, ArgumentList, DeclaratorList, Statement, SourceElement}
use Rattle.js_parser.specs.Grammar as g

-- an expression of a level is one of each lower level
pub lower : {form : Form} {i : Bool} {l o : ℕ} {u : Symbols} {x : Expr} → l ≤ o → Expression form i o u x → Expression form i l u x
lower le (g.this c h) = g.this c (omega arith)
lower le (g.identifier c h r) = g.identifier c (omega arith) r
lower le (g.null c h) = g.null c (omega arith)
lower le (g.truth c h) = g.truth c (omega arith)
lower le (g.falsehood c h) = g.falsehood c (omega arith)
lower le (g.numeral d c h) = g.numeral d c (omega arith)
lower le (g.literal c h) = g.literal c (omega arith)
lower le (g.array c d h es) = g.array c d (omega arith) es
lower le (g.object c d h ps) = g.object c d (omega arith) ps
lower le (g.parenthesised c d h x) = g.parenthesised c d (omega arith) x
lower le (g.function c h f) = g.function c (omega arith) f
lower le (g.named_function c d h r f) = g.named_function c d (omega arith) r f
lower le (g.late c1 c2 c3 c4 c5 c6 c7 h w n) = g.late c1 c2 c3 c4 c5 c6 c7 (omega arith) w n
lower le (g.dot o c d h1 h2 h x r) = g.dot o c d h1 h2 (omega arith) x r
lower le (g.index o c d h1 h2 h x y) = g.index o c d h1 h2 (omega arith) x y
lower le (g.call h x xs) = g.call (omega arith) x xs
lower le (g.new c h x xs) = g.new c (omega arith) x xs
lower le (g.bare_new c h x) = g.bare_new c (omega arith) x
lower le (g.postfix op h x t) = g.postfix op (omega arith) x t
lower le (g.prefix op c h n x) = g.prefix op c (omega arith) n x
lower le (g.changed op c h n x t) = g.changed op c (omega arith) n x t
lower le (g.binary op c h m x y) = g.binary op c (omega arith) m x y
lower le (g.conditional c d h x y z) = g.conditional c d (omega arith) x y z
lower le (g.assign op e c h a x t y) = g.assign op e c (omega arith) a x t y
lower le (g.comma c h x y) = g.comma c (omega arith) x y

-- no operation is a target
joined-target : (op : Operator) (x y : Expr) → is_target (joined op x y) ≡ false
joined-target LogicalOr x y = refl
joined-target LogicalAnd x y = refl
joined-target (Operation op) x y = refl

-- a target stands at level 16, whatever it was read as
pub raise : {form : Form} {i : Bool} {l : ℕ} {u : Symbols} {x : Expr} → Expression form i l u x → is_target x ≡ true → Expression form i 16 u x
raise (g.this c h) t = cc
raise (g.identifier c h r) t = g.identifier c (lit≤ tt) r
raise (g.null c h) t = cc
raise (g.truth c h) t = cc
raise (g.falsehood c h) t = cc
raise (g.numeral d c h) t = cc
raise (g.literal c h) t = cc
raise (g.array c d h es) t = cc
raise (g.object c d h ps) t = cc
raise (g.parenthesised c d h x) t = g.parenthesised c d (lit≤ tt) x
raise (g.function c h f) t = cc
raise (g.named_function c d h r f) t = cc
raise (g.late c1 c2 c3 c4 c5 c6 c7 h w n) t = cc
raise (g.dot o c d h1 h2 h x r) t = g.dot o c d h1 h2 (omega arith) x r
raise (g.index o c d h1 h2 h x y) t = g.index o c d h1 h2 (omega arith) x y
raise (g.call h x xs) t = cc
raise (g.new c h x xs) t = cc
raise (g.bare_new c h x) t = cc
raise (g.postfix op h x r) t = cc
raise (g.prefix op c h n x) t = cc
raise (g.changed op c h n x r) t = cc
raise (g.binary {x = x} {y = y} op c h m v w) t = let e = joined-target op x y in cc
raise (g.conditional c d h x y z) t = cc
raise (g.assign op e c h a x r y) t = cc
raise (g.comma c h x y) t = cc

operates : (i : Bool) (op : Operator) → may_operate i op ≡ true → may_operate true op ≡ true
operates true op h = h
operates false LogicalOr h = refl
operates false LogicalAnd h = refl
operates false (Operation b.In) h = cc
operates false (Operation _) h = h

-- the operator `in` may stand where it does not
mutual
  pub widen : {form : Form} {i : Bool} {l : ℕ} {u : Symbols} {x : Expr} → Expression form i l u x → Expression form true l u x
  widen (g.this c h) = g.this c h
  widen (g.identifier c h r) = g.identifier c h r
  widen (g.null c h) = g.null c h
  widen (g.truth c h) = g.truth c h
  widen (g.falsehood c h) = g.falsehood c h
  widen (g.numeral d c h) = g.numeral d c h
  widen (g.literal c h) = g.literal c h
  widen (g.array c d h es) = g.array c d h es
  widen (g.object c d h ps) = g.object c d h ps
  widen (g.parenthesised c d h x) = g.parenthesised c d h x
  widen (g.function c h f) = g.function c h f
  widen (g.named_function c d h r f) = g.named_function c d h r f
  widen (g.late c1 c2 c3 c4 c5 c6 c7 h w n) = g.late c1 c2 c3 c4 c5 c6 c7 h w n
  widen (g.dot o c d h1 h2 h x r) = g.dot o c d h1 h2 h (widen x) r
  widen (g.index o c d h1 h2 h x y) = g.index o c d h1 h2 h (widen x) y
  widen (g.call h x xs) = g.call h (widen x) xs
  widen (g.new c h x xs) = g.new c h (widen x) xs
  widen (g.bare_new c h x) = g.bare_new c h (widen-callee x)
  widen (g.postfix op h x t) = g.postfix op h (widen x) t
  widen (g.prefix op c h n x) = g.prefix op c h n (widen x)
  widen (g.changed op c h n x t) = g.changed op c h n (widen x) t
  widen {i = i} (g.binary op c h m x y) = g.binary op c h (operates i op m) (widen x) (widen y)
  widen (g.conditional c d h x y z) = g.conditional c d h (widen x) y (widen z)
  widen (g.assign op e c h a x t y) = g.assign op e c h a (widen x) t (widen y)
  widen (g.comma c h x y) = g.comma c h (widen x) (widen y)

  widen-callee : {form : Form} {i : Bool} {u : Symbols} {x : Expr} → NewCallee form i u x → NewCallee form true u x
  widen-callee (g.member x) = g.member (widen x)
  widen-callee (g.new_again c x) = g.new_again c (widen-callee x)

-- ---- tokens

abbrev pub is_empty : Symbols → Bool
is_empty [] = true
is_empty (s ∷ ss) = false

-- more tokens follow
pub more : (u : Symbols) (s : Symbol) (v : Symbols) → is_empty (u ++ (s ∷ v)) ≡ false
more [] s v = refl
more (t ∷ u) s v = refl

pub some : (u v : Symbols) → is_empty u ≡ false → is_empty (u ++ v) ≡ false
some [] v h = cc
some (t ∷ u) v h = refl

pub expression-tokens : {form : Form} {i : Bool} {l : ℕ} {u : Symbols} {x : Expr} → Expression form i l u x → is_empty u ≡ false
expression-tokens (g.this c h) = refl
expression-tokens (g.identifier c h r) = refl
expression-tokens (g.null c h) = refl
expression-tokens (g.truth c h) = refl
expression-tokens (g.falsehood c h) = refl
expression-tokens (g.numeral d c h) = refl
expression-tokens (g.literal c h) = refl
expression-tokens (g.array c d h es) = refl
expression-tokens (g.object c d h ps) = refl
expression-tokens (g.parenthesised c d h x) = refl
expression-tokens (g.function c h f) = refl
expression-tokens (g.named_function c d h r f) = refl
expression-tokens (g.late c1 c2 c3 c4 c5 c6 c7 h w n) = refl
expression-tokens (g.dot {u = u} o c d h1 h2 h x r) = more u _ _
expression-tokens (g.index {u = u} o c d h1 h2 h x y) = more u _ _
expression-tokens (g.call {u = u} {v = v} h x xs) = some u v (expression-tokens x)
expression-tokens (g.new c h x xs) = refl
expression-tokens (g.bare_new c h x) = refl
expression-tokens (g.postfix {u = u} op h x t) = more u _ _
expression-tokens (g.prefix op c h n x) = refl
expression-tokens (g.changed op c h n x t) = refl
expression-tokens (g.binary {u = u} op c h m x y) = more u _ _
expression-tokens (g.conditional {u = u} c d h x y z) = more u _ _
expression-tokens (g.assign {u = u} op e c h a x t y) = more u _ _
expression-tokens (g.comma {u = u} c h x y) = more u _ _

argument-tokens : {form : Form} {u : Symbols} {xs : Exprs} → ArgumentList form u xs → is_empty u ≡ false
argument-tokens (g.last_argument x) = expression-tokens x
argument-tokens (g.argument_and {u = u} c x xs) = more u _ _

declarator-tokens : {form : Form} {i : Bool} {u : Symbols} {items : VarItems} → DeclaratorList form i u items → is_empty u ≡ false
declarator-tokens (g.last_declarator (g.bare c r)) = refl
declarator-tokens (g.last_declarator (g.initialised c d r x)) = refl
declarator-tokens (g.declarator_and {u = u} c x xs) = more u _ _

statement-tokens : {form : Form} {c : Context} {u : Symbols} {next : Symbol} {s : Stmt} → Statement form c u next s → is_empty u ≡ false
statement-tokens (g.block (g.braces c d ss)) = refl
statement-tokens (g.variables c xs ends) = refl
statement-tokens (g.empty c) = refl
statement-tokens (g.expression {u = u} {v = v} x h1 h2 ends) = some u v (expression-tokens x)
statement-tokens (g.if c d f x s h) = refl
statement-tokens (g.if_else c d f h x s other) = refl
statement-tokens (g.do_while c d f h s x ends) = refl
statement-tokens (g.while c d f x s) = refl
statement-tokens (g.for c d f h j init test step s) = refl
statement-tokens (g.for_in c d f h x t y s) = refl
statement-tokens (g.for_var_in c d f h j x y s) = refl
statement-tokens (g.continue c h ends) = refl
statement-tokens (g.continue_to c r h ends) = refl
statement-tokens (g.break c h ends) = refl
statement-tokens (g.break_from c r h ends) = refl
statement-tokens (g.return c h ends) = refl
statement-tokens (g.return_value c h x first ends) = refl
statement-tokens (g.switch c d f h j x cs) = refl
statement-tokens (g.label c d r away s) = refl
statement-tokens (g.throw c x first ends) = refl
statement-tokens (g.try_catch c d f h j s r handler) = refl
statement-tokens (g.try_finally c d s last) = refl
statement-tokens (g.try_catch_finally c d f h j o s r handler last) = refl

element-tokens : {form : Form} {c : Context} {u : Symbols} {next : Symbol} {s : Stmt} → SourceElement form c u next s → is_empty u ≡ false
element-tokens (g.statement s) = statement-tokens s
element-tokens (g.declaration c d r f) = refl

not_empty : (u : Symbols) → is_empty u ≡ false → u ≢ []
not_empty u h e = let f = ap is_empty e in cc

pub expression-any : (form : Form) (i : Bool) (l : ℕ) (u : Symbols) (x : Expr) → Expression form i l u x → u ≢ []
expression-any form i l u x d = not_empty u (expression-tokens d)

pub argument-any : (form : Form) (u : Symbols) (xs : Exprs) → ArgumentList form u xs → u ≢ []
argument-any form u xs d = not_empty u (argument-tokens d)

pub declarator-any : (form : Form) (i : Bool) (u : Symbols) (items : VarItems) → DeclaratorList form i u items → u ≢ []
declarator-any form i u items d = not_empty u (declarator-tokens d)

pub element-any : (form : Form) (c : Context) (u : Symbols) (next : Symbol) (s : Stmt) → SourceElement form c u next s → u ≢ []
element-any form c u next s d = not_empty u (element-tokens d)
