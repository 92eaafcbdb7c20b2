-- Lists of trees whose functions get numbers: their parts are walked, as `Walks` has it, and the
-- functions in such a list are those in its parts.
use Rattle.std.proofs.Common.{◌≡◌, ℕ, ◌+◌, List, [], ◌∷◌, ◌++◌, length, map, Option, Some, None}
use Rattle.std.proofs.Common.{refl, ap, sym, ◌∙◌, arith, append_assoc}
use Rattle.std.proofs.lemmas.List.{length-append}
use Rattle.js_tree.specs.Tree as plain
use Rattle.js_tree.specs.declared.tree.Expr.{Expr}
use Rattle.js_tree.specs.Parts as parts
use Rattle.js_tree.specs.Plain as view
use Rattle.js_tree.specs.Plain.{PairPart, VarPart, CasePart}
use Rattle.js_tree.specs.Numbering.{in_expr, in_exprs, in_maybe_expr, in_elements, in_pairs}
use Rattle.js_tree.specs.Numbering.{in_stmt, in_stmts, in_var_items, in_cases, functions}
use Rattle.js_tree.specs.Renumbering as renumbered
use Rattle.js_tree.specs.Renumbering.{behind, counted}
use Rattle.js_tree.proofs.Walks.{walked, all_inside}

behind_both : (n : ℕ) (fs gs : List plain.Func) → behind (behind n fs) gs ≡ behind n (fs ++ gs)
behind_both n fs gs = omega (arith, length-append fs gs)

-- ---- the parts with their numbers, and the functions in them

abbrev pub pair_given : ℕ → PairPart → PairPart
pair_given n p = record { key = p.key; value = renumbered.expr counted n p.value }

abbrev pub pair_inside : PairPart → List plain.Func
pair_inside p = in_expr p.value

abbrev pub item_given : ℕ → VarPart → VarPart
item_given n v = record { name = v.name; value = renumbered.maybe_expr counted n v.value }

abbrev pub item_inside : VarPart → List plain.Func
item_inside v = in_maybe_expr v.value

abbrev pub case_given : ℕ → CasePart → CasePart
case_given n c = record {
  test = renumbered.maybe_expr counted n c.test;
  body = renumbered.stmts counted (behind n (in_maybe_expr c.test)) c.body;
}

abbrev pub case_inside : CasePart → List plain.Func
case_inside c = in_maybe_expr c.test ++ in_stmts c.body

-- ---- what has the parts of one with its numbers is that one

abbrev pair_of : plain.Name → plain.Expr → PairPart
pair_of key value = record { key = key; value = value }

abbrev item_of : plain.Name → plain.MaybeExpr → VarPart
item_of name value = record { name = name; value = value }

abbrev case_of : plain.MaybeExpr → plain.Stmts → CasePart
case_of test body = record { test = test; body = body }

pub pair_is : (n : ℕ) (new old : PairPart) → new.key ≡ old.key
    → new.value ≡ renumbered.expr counted n old.value → new ≡ pair_given n old
pair_is n new old key value =
    ap (λ k. pair_of k new.value) key ∙ ap (pair_of old.key) value

pub item_is : (n : ℕ) (new old : VarPart) → new.name ≡ old.name
    → new.value ≡ renumbered.maybe_expr counted n old.value → new ≡ item_given n old
item_is n new old name value =
    ap (λ k. item_of k new.value) name ∙ ap (item_of old.name) value

pub case_is : (n : ℕ) (new old : CasePart) → new.test ≡ renumbered.maybe_expr counted n old.test
    → new.body ≡ renumbered.stmts counted (behind n (in_maybe_expr old.test)) old.body
    → new ≡ case_given n old
case_is n new old test body =
    ap (λ k. case_of k new.body) test
    ∙ ap (case_of (renumbered.maybe_expr counted n old.test)) body

-- ---- lists with their numbers are those of the parts with theirs

pub exprs_walked : (n : ℕ) (es : List plain.Expr)
    → renumbered.exprs counted n (view.exprs es) ≡ view.exprs (walked (renumbered.expr counted) in_expr n es)
exprs_walked n [] = refl
exprs_walked n (e ∷ es) = ap (plain.MoreExprs (renumbered.expr counted n e)) (exprs_walked (behind n (in_expr e)) es)

-- array literals, of elements that may be missing
abbrev elements_of : List plain.MaybeExpr → plain.Elements
elements_of [] = plain.NoElements
elements_of (e ∷ es) = plain.MoreElements e (elements_of es)

elements_again : (es : List (Option Expr)) → parts.elements es ≡ elements_of (map parts.maybe_expr es)
elements_again [] = refl
elements_again (e ∷ es) = ap (plain.MoreElements (parts.maybe_expr e)) (elements_again es)

of_walked : (n : ℕ) (es : List plain.MaybeExpr)
    → renumbered.elements counted n (elements_of es)
    ≡ elements_of (walked (renumbered.maybe_expr counted) in_maybe_expr n es)
of_walked n [] = refl
of_walked n (e ∷ es) =
    ap (plain.MoreElements (renumbered.maybe_expr counted n e)) (of_walked (behind n (in_maybe_expr e)) es)

pub elements_walked : (n : ℕ) (new old : List (Option Expr))
    → map parts.maybe_expr new
    ≡ walked (renumbered.maybe_expr counted) in_maybe_expr n (map parts.maybe_expr old)
    → parts.elements new ≡ renumbered.elements counted n (parts.elements old)
elements_walked n new old are =
    elements_again new ∙ ap elements_of are ∙ sym (of_walked n (map parts.maybe_expr old))
    ∙ ap (renumbered.elements counted n) (sym (elements_again old))

pub pairs_walked : (n : ℕ) (ps : List PairPart)
    → renumbered.pairs counted n (view.pairs ps) ≡ view.pairs (walked pair_given pair_inside n ps)
pairs_walked n [] = refl
pairs_walked n (p ∷ ps) =
    ap (plain.MorePairs p.key (renumbered.expr counted n p.value)) (pairs_walked (behind n (in_expr p.value)) ps)

pub stmts_walked : (n : ℕ) (ss : List plain.Stmt)
    → renumbered.stmts counted n (view.stmts ss) ≡ view.stmts (walked (renumbered.stmt counted) in_stmt n ss)
stmts_walked n [] = refl
stmts_walked n (s ∷ ss) = ap (plain.MoreStmts (renumbered.stmt counted n s)) (stmts_walked (behind n (in_stmt s)) ss)

pub var_items_walked : (n : ℕ) (vs : List VarPart)
    → renumbered.var_items counted n (view.var_items vs) ≡ view.var_items (walked item_given item_inside n vs)
var_items_walked n [] = refl
var_items_walked n (v ∷ vs) =
    ap (plain.MoreVarItems v.name (renumbered.maybe_expr counted n v.value)) (var_items_walked (behind n (in_maybe_expr v.value)) vs)

pub cases_walked : (n : ℕ) (cs : List CasePart)
    → renumbered.cases counted n (view.cases cs) ≡ view.cases (walked case_given case_inside n cs)
cases_walked n [] = refl
cases_walked n (c ∷ cs) =
    let m = behind n (in_maybe_expr c.test) in
    let test = renumbered.maybe_expr counted n c.test in
    let more : plain.Cases → plain.Cases = plain.MoreCases test (renumbered.stmts counted m c.body) in
    ap (λ k. more (renumbered.cases counted k (view.cases cs))) (behind_both n (in_maybe_expr c.test) (in_stmts c.body))
    ∙ ap more (cases_walked (behind n (case_inside c)) cs)

-- ---- the functions in lists are those in the parts

pub in_exprs_parts : (es : List plain.Expr) → in_exprs (view.exprs es) ≡ all_inside in_expr es
in_exprs_parts [] = refl
in_exprs_parts (e ∷ es) = ap (λ fs. in_expr e ++ fs) (in_exprs_parts es)

pub in_elements_parts : (es : List (Option Expr))
    → in_elements (parts.elements es) ≡ all_inside in_maybe_expr (map parts.maybe_expr es)
in_elements_parts [] = refl
in_elements_parts (e ∷ es) = ap (λ fs. in_maybe_expr (parts.maybe_expr e) ++ fs) (in_elements_parts es)

pub in_pairs_parts : (ps : List PairPart) → in_pairs (view.pairs ps) ≡ all_inside pair_inside ps
in_pairs_parts [] = refl
in_pairs_parts (p ∷ ps) = ap (λ fs. in_expr p.value ++ fs) (in_pairs_parts ps)

pub in_stmts_parts : (ss : List plain.Stmt) → in_stmts (view.stmts ss) ≡ all_inside in_stmt ss
in_stmts_parts [] = refl
in_stmts_parts (s ∷ ss) = ap (λ fs. in_stmt s ++ fs) (in_stmts_parts ss)

pub in_var_items_parts : (vs : List VarPart) → in_var_items (view.var_items vs) ≡ all_inside item_inside vs
in_var_items_parts [] = refl
in_var_items_parts (v ∷ vs) = ap (λ fs. in_maybe_expr v.value ++ fs) (in_var_items_parts vs)

pub in_cases_parts : (cs : List CasePart) → in_cases (view.cases cs) ≡ all_inside case_inside cs
in_cases_parts [] = refl
in_cases_parts (c ∷ cs) =
    sym (append_assoc (in_maybe_expr c.test) (in_stmts c.body) (in_cases (view.cases cs)))
    ∙ ap (λ fs. (in_maybe_expr c.test ++ in_stmts c.body) ++ fs) (in_cases_parts cs)
