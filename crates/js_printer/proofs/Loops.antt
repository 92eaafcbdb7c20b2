-- One more item of a list is written.
use Rattle.std.proofs.Common.{◌≡◌, ℕ, ◌+◌, ◌<◌, Bool, true, false, List, [], ◌∷◌, ◌++◌, length, drop, get_or, Option, Some, None, refl, ap, sym, ◌∙◌}
use Rattle.std.proofs.lemmas.List.{at_drop_more, append_assoc}
use Rattle.js_lexer.specs.declared.mark.Mark.TheVariants as m
use Rattle.js_lexer.specs.declared.token.TokenKind.TheVariants as k
use Rattle.js_tree.specs.declared.tree.Case.{Case}
use Rattle.js_tree.specs.declared.tree.Expr.{Expr}
use Rattle.js_tree.specs.Tree as plain
use Rattle.js_tree.specs.Tree.{Name}
use Rattle.js_tree.specs.Plain as view
use Rattle.js_tree.specs.Plain.{PairPart, VarPart, CasePart}
use Rattle.js_tree.specs.Parts as trees
use Rattle.js_printer.specs.declared.writer.Printer.{Printer}
use Rattle.js_printer.specs.Printed as printed
use Rattle.js_printer.specs.Printed.{Kinds}
use Rattle.js_printer.specs.Parts as parts
use Rattle.js_printer.specs.Parts.{comma}
use Rattle.js_printer.specs.Written.{all_written}
use Rattle.js_printer.proofs.Writing.{all_written_append}

here : {A : Type 0} (es xs : List A) (i : ℕ) (x : A) → xs ≡ es → i < length xs → x ≡ get_or xs i x → drop i xs ≡ x ∷ drop (i + 1) es
here es xs i x same lt at =
    at_drop_more (λ t. t) xs i x lt ∙ ap (λ y. y ∷ drop (i + 1) xs) (sym at) ∙ ap (λ t. x ∷ drop (i + 1) t) same

-- `f` gives the tokens of the items that are left, where an item is before them or none
pub next_item : {A : Type 0} (f : Bool → List A → Kinds) (all p p1 p2 : Printer) (es xs : List A) (i : ℕ) (b n : Bool) (x : A) (u : Kinds)
    → f b (x ∷ drop (i + 1) es) ≡ comma b ++ (u ++ f n (drop (i + 1) es))
    → xs ≡ es → i < length xs → x ≡ get_or xs i x
    → all_written p (f b (drop i es)) ≡ all
    → p1 ≡ all_written p (comma b) → p2 ≡ all_written p1 u
    → all_written p2 (f n (drop (i + 1) es)) ≡ all
next_item f all p p1 p2 es xs i b n x u step same lt at before first second =
    let rest = f n (drop (i + 1) es) in
    ap (λ q. all_written q rest) second ∙ sym (all_written_append p1 u rest)
    ∙ ap (λ q. all_written q (u ++ rest)) first ∙ sym (all_written_append p (comma b) (u ++ rest))
    ∙ ap (all_written p) (sym step)
    ∙ ap (λ t. all_written p (f b t)) (sym (here es xs i x same lt at) ∙ ap (drop i) same) ∙ before

-- ---- what is left by one item

pub exprs_step : (b : Bool) (x : Expr) (es : List Expr) → parts.exprs_left b (trees.exprs (x ∷ es)) ≡ comma b ++ (parts.operand true 2 x ++ parts.exprs_left true (trees.exprs es))
exprs_step true x es = refl
exprs_step false x es = refl

behind_some : (x : plain.Expr) (es : plain.Elements) → printed.other_elements (plain.AnExpr x) es ≡ printed.other_elements (plain.AnExpr plain.Null) es
behind_some x plain.NoElements = refl
behind_some x (plain.MoreElements next es) = refl

behind_hole : (es : plain.Elements) → printed.other_elements plain.NoExpr es ≡ k.Mark m.Comma ∷ printed.elements es
behind_hole plain.NoElements = refl
behind_hole (plain.MoreElements next es) = refl

element_step : (b : Bool) (x : Expr) (es : List (Option Expr)) → parts.elements_left b (trees.elements (Some x ∷ es)) ≡ comma b ++ (parts.operand true 2 x ++ parts.elements_left true (trees.elements es))
element_step true x es =
    ap (λ t. k.Mark m.Comma ∷ (parts.operand true 2 x ++ t)) (behind_some (view.expr x) (trees.elements es))
element_step false x es =
    ap (λ t. parts.operand true 2 x ++ t) (behind_some (view.expr x) (trees.elements es))

hole_step : (b : Bool) (es : List (Option Expr)) → parts.elements_left b (trees.elements (None ∷ es)) ≡ comma b ++ ((k.Mark m.Comma ∷ []) ++ parts.elements_left false (trees.elements es))
hole_step true es = ap (λ t. k.Mark m.Comma ∷ t) (behind_hole (trees.elements es))
hole_step false es = behind_hole (trees.elements es)

pub pairs_step : (b : Bool) (x : PairPart) (ps : List PairPart) → parts.pairs_left b (view.pairs (x ∷ ps)) ≡ comma b ++ (parts.pair_part x ++ parts.pairs_left true (view.pairs ps))
pairs_step true x ps = refl
pairs_step false x ps = refl

pub var_items_step : (b : Bool) (x : VarPart) (vs : List VarPart) (i : Bool) → parts.var_items_left b (view.var_items (x ∷ vs)) i ≡ comma b ++ (parts.var_part x i ++ parts.var_items_left true (view.var_items vs) i)
var_items_step true x vs i = refl
var_items_step false x vs i = refl

names_first : (n : Name) (ns : List Name) → printed.names (n ∷ ns) ≡ k.Name n ∷ parts.names_behind ns
names_first n [] = refl
names_first n (o ∷ ns) = ap (λ t. k.Name n ∷ (k.Mark m.Comma ∷ t)) (names_first o ns)

pub names_step : (b : Bool) (n : Name) (ns : List Name) → parts.names_left b (n ∷ ns) ≡ comma b ++ ((k.Name n ∷ []) ++ parts.names_left true ns)
names_step true n ns = refl
names_step false n ns = names_first n ns

pub cases_step : (x : Case) (cs : List Case) → parts.cases (x ∷ cs) ≡ parts.case x ++ parts.cases cs
cases_step x cs =
    sym (append_assoc (printed.case_head (trees.case x).test) (k.Mark m.Colon ∷ printed.stmts (trees.case x).body) (parts.cases cs))

pub hole_left : (b n : Bool) (x : Option Expr) (es : List (Option Expr)) → x ≡ None → n ≡ false
    → parts.elements_left b (trees.elements (x ∷ es)) ≡ comma b ++ ((k.Mark m.Comma ∷ []) ++ parts.elements_left n (trees.elements es))
hole_left b n x es h l =
    ap (λ o. parts.elements_left b (trees.elements (o ∷ es))) h ∙ hole_step b es
    ∙ ap (λ next. comma b ++ ((k.Mark m.Comma ∷ []) ++ parts.elements_left next (trees.elements es))) (sym l)

pub element_left : (b n : Bool) (x : Option Expr) (y : Expr) (es : List (Option Expr)) → x ≡ Some y → n ≡ true
    → parts.elements_left b (trees.elements (x ∷ es)) ≡ comma b ++ (parts.operand true 2 y ++ parts.elements_left n (trees.elements es))
element_left b n x y es h l =
    ap (λ o. parts.elements_left b (trees.elements (o ∷ es))) h ∙ element_step b y es
    ∙ ap (λ next. comma b ++ (parts.operand true 2 y ++ parts.elements_left next (trees.elements es))) (sym l)
