-- What a cursor stands for at an item whose parts are kept apart.
use Rattle.std.proofs.Common.{◌≡◌, ◌<◌, ℕ, suc, ◌+◌, List, ◌∷◌, length, map, drop, sym, ap, ◌∙◌, subst, arith}
use Rattle.std.specs.Prelude.{get_or}
use Rattle.std.proofs.Math.Seq.{drop-cons}
use Rattle.std.proofs.lemmas.List.{drop-map}
use Rattle.js_tree.specs.declared.tree.Pair.{Pair}
use Rattle.js_tree.specs.declared.tree.Case.{Case}
use Rattle.js_tree.specs.declared.tree.VarItem.{VarItem}
use Rattle.js_tree.specs.Tree.{MorePairs, MoreVarItems, MoreCases}
use Rattle.js_tree.specs.Plain as view
use Rattle.js_tree.specs.Parts as parts
use Rattle.js_code.specs.declared.exprs.PairCode.{PairCode}
use Rattle.js_code.specs.declared.stmts.VarCode.{VarCode}
use Rattle.js_code.specs.declared.stmts.CaseCode.{CaseCode}
use Rattle.js_code.specs.View.{pair_of, var_item_of, case_of}
use Rattle.js_code.specs.Nodes.{pair_is, var_item_is, case_is}
use Rattle.js_code.specs.Cursors.{pairs_from, var_items_from, cases_from}

drop_at
    : {X : Type 0} (xs : List X) (i : ℕ) (x : X) → i < length xs → x ≡ get_or xs i x
    → drop i xs ≡ x ∷ drop (i + 1) xs
drop_at xs i x h e =
    let n : suc i ≡ i + 1 = omega arith in
    drop-cons xs i x h
    ∙ (ap (λ k. get_or xs i x ∷ drop k xs) n ∙ ap (λ y. y ∷ drop (i + 1) xs) (sym e))

mapped_at
    : {X Y : Type 0} (f : X → Y) (xs : List X) (i : ℕ) (x : X) → i < length xs
    → x ≡ get_or xs i x → drop i (map f xs) ≡ f x ∷ drop (i + 1) (map f xs)
mapped_at f xs i x h e =
    drop-map f i xs
    ∙ (ap (map f) (drop_at xs i x h e) ∙ ap (λ l. f x ∷ l) (sym (drop-map f (i + 1) xs)))

pub pair_at
    : (items : List PairCode) (ps : List Pair) (i : ℕ) (p : PairCode) → map pair_of items ≡ ps
    → i < length items → p ≡ get_or items i p
    → pairs_from ps i ≡ MorePairs p.key (view.expr p.value) (pairs_from ps (i + 1))
pair_at items ps i p same h e =
    let at_item : pairs_from (map pair_of items) i
    ≡ MorePairs p.key (view.expr p.value) (pairs_from (map pair_of items) (i + 1)) =
    ap parts.pairs (mapped_at pair_of items i p h e)
    ∙ ap (λ (q : view.PairPart).
    MorePairs q.key q.value (pairs_from (map pair_of items) (i + 1))) (pair_is p)
    in
    subst (λ (l : List Pair).
    pairs_from l i ≡ MorePairs p.key (view.expr p.value) (pairs_from l (i + 1))) same at_item

pub var_item_at
    : (items : List VarCode) (vs : List VarItem) (i : ℕ) (v : VarCode)
    → map var_item_of items ≡ vs → i < length items → v ≡ get_or items i v
    → var_items_from vs i
    ≡ MoreVarItems v.name (parts.maybe_expr v.value) (var_items_from vs (i + 1))
var_item_at items vs i v same h e =
    let at_item : var_items_from (map var_item_of items) i
    ≡ MoreVarItems v.name (parts.maybe_expr v.value)
    (var_items_from (map var_item_of items) (i + 1)) =
    ap parts.var_items (mapped_at var_item_of items i v h e)
    ∙ ap (λ (q : view.VarPart).
    MoreVarItems q.name q.value (var_items_from (map var_item_of items) (i + 1))) (var_item_is v)
    in
    subst (λ (l : List VarItem).
    var_items_from l i ≡ MoreVarItems v.name (parts.maybe_expr v.value) (var_items_from l (i + 1)))
    same at_item

pub clause_at
    : (items : List CaseCode) (cs : List Case) (i : ℕ) (c : CaseCode) → map case_of items ≡ cs
    → i < length items → c ≡ get_or items i c
    → cases_from cs i
    ≡ MoreCases (parts.maybe_expr c.test) (view.body c.body) (cases_from cs (i + 1))
clause_at items cs i c same h e =
    let at_item : cases_from (map case_of items) i
    ≡ MoreCases (parts.maybe_expr c.test) (view.body c.body)
    (cases_from (map case_of items) (i + 1)) =
    ap parts.cases (mapped_at case_of items i c h e)
    ∙ ap (λ (q : view.CasePart).
    MoreCases q.test q.body (cases_from (map case_of items) (i + 1))) (case_is c)
    in
    subst (λ (l : List Case).
    cases_from l i
    ≡ MoreCases (parts.maybe_expr c.test) (view.body c.body) (cases_from l (i + 1))) same at_item
