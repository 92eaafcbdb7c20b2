-- How statements end, and where the operator `in` stands.
use Rattle.std.proofs.Common.{◌≡◌, ℕ, Bool, true, false, ◌||◌, [], ◌∷◌, ◌++◌, refl, ap, sym, subst, arith}
use Rattle.js_lexer.specs.declared.mark.Mark.TheVariants as m
use Rattle.js_lexer.specs.declared.word.Word.TheVariants as w
use Rattle.js_lexer.specs.declared.token.TokenKind.{TokenKind}
use Rattle.js_lexer.specs.declared.token.TokenKind.TheVariants as k
use Rattle.js_tree.specs.declared.tree.BinaryOp.TheVariants as b
use Rattle.js_tree.specs.Tree.{Expr, Stmt}
use Rattle.js_tree.specs.Tree
use Rattle.js_parser.specs.declared.form.Form.{Form}
use Rattle.js_parser.specs.Symbols.{Symbol, Symbols, mark}
use Rattle.js_tree.specs.Levels.{Operator, LogicalOr, LogicalAnd, Operation, joined, is_in_operation}
use Rattle.js_parser.specs.Operators.{may_operate}
use Rattle.js_parser.specs.Contexts.{Context}
use Rattle.js_parser.specs.Ends.{Ends, reach, kind_reach, ends_changed}
use Rattle.js_parser.specs.Ends as e
use Rattle.js_parser.specs.Grammar.{Expression, Statement}
use Rattle.js_parser.specs.Grammar as g
use Rattle.js_parser.specs.Laws.{ends_in_if, goes_on, ends_with_semicolon, begins_in_parentheses}

-- ---- `else`

pub nearest : {form : Form} {c : Context} {u : Symbols} {next : Symbol} {s : Stmt} → Statement form c u next s → next.kind ≡ k.Word w.Else → ends_in_if s ≡ false
nearest (g.block (g.braces b d ss)) is = refl
nearest (g.variables b xs ends) is = refl
nearest (g.empty b) is = refl
nearest (g.expression x h1 h2 ends) is = refl
nearest (g.if b d f x s other) is = absurd (other is)
nearest (g.if_else b d f h x s other) is = nearest other is
nearest (g.do_while b d f h s x ends) is = refl
nearest (g.while b d f x s) is = nearest s is
nearest (g.for b d f h j init test step s) is = nearest s is
nearest (g.for_in b d f h x t y s) is = nearest s is
nearest (g.for_var_in b d f h j x y s) is = nearest s is
nearest (g.continue b h ends) is = refl
nearest (g.continue_to b r h ends) is = refl
nearest (g.break b h ends) is = refl
nearest (g.break_from b r h ends) is = refl
nearest (g.return b h ends) is = refl
nearest (g.return_value b h x first ends) is = refl
nearest (g.switch b d f h j x cs) is = refl
nearest (g.label b d r away s) is = nearest s is
nearest (g.throw b x first ends) is = refl
nearest (g.try_catch b d f h j s r handler) is = refl
nearest (g.try_finally b d s last) is = refl
nearest (g.try_catch_finally b d f h j o s r handler last) is = refl

-- ---- inserted semicolons

abbrev expression_of : Stmt → Bool
expression_of (Tree.Do x) = true
expression_of _ = false

ends-written : (u : Symbols) (newline : Bool) → ends_with_semicolon (u ++ (mark m.Semicolon newline ∷ [])) ≡ true
ends-written [] newline = refl
ends-written (s ∷ []) newline = refl
ends-written (s ∷ t ∷ u) newline = ends-written (t ∷ u) newline

or-left : (a c : Bool) → a ≡ true → (a || c) ≡ true
or-left true c h = refl
or-left false c h = cc

or-right : (a c : Bool) → c ≡ true → (a || c) ≡ true
or-right true c h = refl
or-right false c h = h

append-none : (u : Symbols) → u ++ [] ≡ u
append-none [] = refl
append-none (s ∷ u) = ap (λ v. s ∷ v) (append-none u)

changed : (b newline : Bool) (kind : TokenKind) → goes_on kind ≡ true → kind_reach b newline kind ≡ 0 → b ≡ true
changed true newline kind h r = refl
changed false newline (k.Mark m.OpenParenthesis) h r = absurd (omega arith)
changed false newline (k.Mark m.OpenBracket) h r = absurd (omega arith)
changed false newline (k.Mark m.Plus) h r = absurd (omega arith)
changed false newline (k.Mark m.Minus) h r = absurd (omega arith)
changed false newline (k.Mark m.Slash) h r = absurd (omega arith)
changed false newline (k.Mark _) h r = cc
changed false newline (k.Word w) h r = cc
changed false newline (k.Name n) h r = cc
changed false newline (k.Number n) h r = cc
changed false newline (k.Str text) h r = cc
changed false newline k.End h r = cc

ended : (u v : Symbols) (next : Symbol) → Ends (reach u next) next v → goes_on next.kind ≡ true → (ends_with_semicolon (u ++ v) || ends_changed (u ++ v)) ≡ true
ended u v next (e.written newline) h = or-left (ends_with_semicolon (u ++ v)) (ends_changed (u ++ v)) (ends-written u newline)
ended u v next (e.at_brace r) h = let f = ap goes_on r in cc
ended u v next (e.at_end r) h = let f = ap goes_on r in cc
ended u v next (e.at_line line r other) h =
    or-right (ends_with_semicolon (u ++ v)) (ends_changed (u ++ v)) (subst (λ v. ends_changed v ≡ true) (sym (append-none u)) (changed (ends_changed u) next.newline next.kind h r))

inserted : {form : Form} {c : Context} {u : Symbols} {next : Symbol} {s : Stmt} → Statement form c u next s → expression_of s ≡ true → goes_on next.kind ≡ true
    → (ends_with_semicolon u || ends_changed u) ≡ true
inserted (g.block (g.braces b d ss)) is h = cc
inserted (g.variables b xs ends) is h = cc
inserted (g.empty b) is h = cc
inserted (g.expression {next = next} {u = u} {v = v} x h1 h2 ends) is h = ended u v next ends h
inserted (g.if b d f x s other) is h = cc
inserted (g.if_else b d f j x s other) is h = cc
inserted (g.do_while b d f j s x ends) is h = cc
inserted (g.while b d f x s) is h = cc
inserted (g.for b d f j o init test step s) is h = cc
inserted (g.for_in b d f j x t y s) is h = cc
inserted (g.for_var_in b d f j o x y s) is h = cc
inserted (g.continue b j ends) is h = cc
inserted (g.continue_to b r j ends) is h = cc
inserted (g.break b j ends) is h = cc
inserted (g.break_from b r j ends) is h = cc
inserted (g.return b j ends) is h = cc
inserted (g.return_value b j x first ends) is h = cc
inserted (g.switch b d f j o x cs) is h = cc
inserted (g.label b d r away s) is h = cc
inserted (g.throw b x first ends) is h = cc
inserted (g.try_catch b d f j o s r handler) is h = cc
inserted (g.try_finally b d s last) is h = cc
inserted (g.try_catch_finally b d f j o p s r handler last) is h = cc

pub none_inserted : (form : Form) (c : Context) (u : Symbols) (next : Symbol) (x : Expr) → Statement form c u next (Tree.Do x) → goes_on next.kind ≡ true
    → (ends_with_semicolon u || ends_changed u) ≡ true
none_inserted form c u next x d h = inserted d refl h

-- ---- `in`

not-operated : (i : Bool) (op : Operator) (x y : Expr) → i ≡ false → may_operate i op ≡ true → is_in_operation (joined op x y) ≡ true → ⊥
not-operated i LogicalOr x y away may is = cc
not-operated i LogicalAnd x y away may is = cc
not-operated i (Operation b.In) x y away may is = cc
not-operated i (Operation _) x y away may is = cc

in-parentheses : {form : Form} {i : Bool} {l : ℕ} {u : Symbols} {x : Expr} → Expression form i l u x → i ≡ false → is_in_operation x ≡ true → begins_in_parentheses u ≡ true
in-parentheses (g.this c h) away is = cc
in-parentheses (g.identifier c h r) away is = cc
in-parentheses (g.null c h) away is = cc
in-parentheses (g.truth c h) away is = cc
in-parentheses (g.falsehood c h) away is = cc
in-parentheses (g.numeral d c h) away is = cc
in-parentheses (g.literal c h) away is = cc
in-parentheses (g.array c d h es) away is = cc
in-parentheses (g.object c d h ps) away is = cc
in-parentheses (g.parenthesised c d h x) away is = refl
in-parentheses (g.function c h f) away is = cc
in-parentheses (g.named_function c d h r f) away is = cc
in-parentheses (g.late c1 c2 c3 c4 c5 c6 c7 h w n) away is = cc
in-parentheses (g.dot o c d h1 h2 h x r) away is = cc
in-parentheses (g.index o c d h1 h2 h x y) away is = cc
in-parentheses (g.call h x xs) away is = cc
in-parentheses (g.new c h x xs) away is = cc
in-parentheses (g.bare_new c h x) away is = cc
in-parentheses (g.postfix op h x t) away is = cc
in-parentheses (g.prefix op c h n x) away is = cc
in-parentheses (g.changed op c h n x t) away is = cc
in-parentheses {i = i} (g.binary {x = x} {y = y} op c h may v w) away is = absurd (not-operated i op x y away may is)
in-parentheses (g.conditional c d h x y z) away is = cc
in-parentheses (g.assign op eq c h a x t y) away is = cc
in-parentheses (g.comma c h x y) away is = cc

pub in_parentheses : (form : Form) (l : ℕ) (u : Symbols) (x : Expr) → Expression form false l u x → is_in_operation x ≡ true → begins_in_parentheses u ≡ true
in_parentheses form l u x d is = in-parentheses d refl is
