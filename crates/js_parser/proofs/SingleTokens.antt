-- Expressions of one token.
use Rattle.std.proofs.Common.{◌≡◌, ℕ, Bool, true, false, [], ◌∷◌, ◌++◌, refl, ap, sym, ◌∙◌}
use Rattle.js_lexer.specs.declared.word.Word.TheVariants as w
use Rattle.js_lexer.specs.declared.token.TokenKind.{TokenKind}
use Rattle.js_lexer.specs.declared.token.TokenKind.TheVariants as k
use Rattle.js_tree.specs.Tree.{Expr}
use Rattle.js_tree.specs.Tree
use Rattle.js_parser.specs.declared.form.Form.{Form}
use Rattle.js_parser.specs.Symbols.{Symbol, Symbols, first, end}
use Rattle.js_parser.specs.Grammar.{Expression, NewCallee}
use Rattle.js_parser.specs.Grammar as g
use Rattle.js_parser.proofs.Levels.{is_empty, more, some, expression-tokens}

-- the tree of a token
abbrev leaf : TokenKind → Expr
leaf (k.Name n) = Tree.Ident n
leaf (k.Number n) = Tree.Num n
leaf (k.Str text) = Tree.Str text
leaf (k.Word w.Null) = Tree.Null
leaf (k.Word w.True) = Tree.Truth true
leaf (k.Word w.False) = Tree.Truth false
leaf _ = Tree.This

abbrev tail : Symbols → Symbols
tail [] = []
tail (s ∷ ss) = ss

alone : (u v : Symbols) → u ≡ v → leaf (first v (end false)).kind ≡ leaf (first u (end false)).kind
alone u v e = ap (λ t. leaf (first t (end false)).kind) (sym e)

-- more than one token
longer : (s t : Symbol) (u : Symbols) → is_empty u ≡ false → t ∷ u ≡ s ∷ [] → ⊥
longer s t u h e = let f = ap (λ v. is_empty (tail v)) e in cc

two : (s : Symbol) (u : Symbols) (t : Symbol) (v : Symbols) → is_empty u ≡ false → u ++ (t ∷ v) ≡ s ∷ [] → ⊥
two s [] t v h e = cc
two s (a ∷ u) t v h e = longer s a (u ++ (t ∷ v)) (more u t v) e

callee-tokens : {form : Form} {i : Bool} {u : Symbols} {x : Expr} → NewCallee form i u x → is_empty u ≡ false
callee-tokens (g.member x) = expression-tokens x
callee-tokens (g.new_again c x) = refl

leaf-is : {form : Form} {i : Bool} {l : ℕ} {u : Symbols} {x : Expr} → Expression form i l u x → (s : Symbol) → u ≡ s ∷ [] → leaf s.kind ≡ x
leaf-is (g.this c h) s e = alone _ (s ∷ []) e
leaf-is (g.identifier c h r) s e = alone _ (s ∷ []) e
leaf-is (g.null c h) s e = alone _ (s ∷ []) e
leaf-is (g.truth c h) s e = alone _ (s ∷ []) e
leaf-is (g.falsehood c h) s e = alone _ (s ∷ []) e
leaf-is (g.numeral d c h) s e = alone _ (s ∷ []) e
leaf-is (g.literal c h) s e = alone _ (s ∷ []) e
leaf-is (g.array {u = u} c d h es) s e = absurd (longer s _ _ (more u _ _) e)
leaf-is (g.object {u = u} c d h ps) s e = absurd (longer s _ _ (more u _ _) e)
leaf-is (g.parenthesised {u = u} c d h x) s e = absurd (longer s _ _ (more u _ _) e)
leaf-is (g.function c h (g.function_rest b d f j fs r body)) s e = absurd (longer s _ _ refl e)
leaf-is (g.named_function c d h r f) s e = absurd (longer s _ _ refl e)
leaf-is (g.late c1 c2 c3 c4 c5 c6 c7 h form n) s e = absurd (longer s _ _ refl e)
leaf-is (g.dot {u = u} o c d h1 h2 h x r) s e = absurd (two s u _ _ (expression-tokens x) e)
leaf-is (g.index {u = u} o c d h1 h2 h x y) s e = absurd (two s u _ _ (expression-tokens x) e)
leaf-is (g.call {u = u} h x (g.no_arguments b c)) s e = absurd (two s u _ _ (expression-tokens x) e)
leaf-is (g.call {u = u} h x (g.arguments b c xs)) s e = absurd (two s u _ _ (expression-tokens x) e)
leaf-is (g.new {u = u} {v = v} c h x xs) s e = absurd (longer s _ _ (some u v (expression-tokens x)) e)
leaf-is (g.bare_new c h x) s e = absurd (longer s _ _ (callee-tokens x) e)
leaf-is (g.postfix {u = u} op h x t) s e = absurd (two s u _ _ (expression-tokens x) e)
leaf-is (g.prefix op c h n x) s e = absurd (longer s _ _ (expression-tokens x) e)
leaf-is (g.changed op c h n x t) s e = absurd (longer s _ _ (expression-tokens x) e)
leaf-is (g.binary {u = u} op c h m x y) s e = absurd (two s u _ _ (expression-tokens x) e)
leaf-is (g.conditional {u = u} c d h x y z) s e = absurd (two s u _ _ (expression-tokens x) e)
leaf-is (g.assign {u = u} op joint c h a x t y) s e = absurd (two s u _ _ (expression-tokens x) e)
leaf-is (g.comma {u = u} c h x y) s e = absurd (two s u _ _ (expression-tokens x) e)

pub one_tree : {form : Form} {i j : Bool} {l o : ℕ} {s : Symbol} {x y : Expr} → Expression form i l (s ∷ []) x → Expression form j o (s ∷ []) y → x ≡ y
one_tree {s = s} d e = sym (leaf-is d s refl) ∙ leaf-is e s refl
