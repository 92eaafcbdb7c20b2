-- The functions of a script, one by one.
use Rattle.std.proofs.Common.{◌≡◌, ℕ, zero, suc, ◌+◌, List, [], ◌∷◌, ◌++◌, drop, map, Some, refl, sym, ap, ◌∙◌, subst, arith, Bool, true, false}
use Rattle.std.specs.Prelude.{slice_get, ◌&&◌}
use Rattle.std.specs.List.{list_all}
use Rattle.js_tree.specs.Tree
use Rattle.js_tree.specs.Tree.{Func}
use Rattle.first_grammar.specs.First.{statement_tree}
use Rattle.first_grammar.specs.declared.script.FirstStatement.TheVariants.{Call, Out}
use Rattle.first_grammar.specs.declared.script.FirstStatement.{FirstStatement}
use Rattle.first_grammar.specs.declared.script.FirstBody.{FirstBody}
use Rattle.first_grammar.specs.declared.script.FirstBody.TheVariants as body
use Rattle.first_grammar.specs.declared.script.FirstFunction.{FirstFunction}
use Rattle.first_grammar.specs.declared.script.FirstItem.{FirstItem}
use Rattle.first_grammar.specs.declared.script.FirstItem.TheVariants as item
use Rattle.play.specs.declared.manifest.ClusterLine.{ClusterLine}
use Rattle.play.specs.declared.manifest.Manifest.{Manifest}
use Rattle.play.specs.declared.table.Function.{Function}
use Rattle.play.specs.Program.{declared}
use Rattle.play.specs.Site.{site_tree, numbered, numbers_after, others_of, is_listed, stub_numbers, plain_count, with_plain, with_stub}
use Rattle.play.specs.Machine.{func_of, BodyIs, BodiesAre}
use Rattle.play.proofs.ListLemmas.{passed_one}
use Rattle.play.proofs.TableLemmas.{none_some, some_one}

drop_at : (xs : List FirstItem) (i : ℕ) (x : FirstItem) → slice_get xs i ≡ Some x → drop i xs ≡ x ∷ drop (i + 1) xs
drop_at [] i x h = absurd (none_some h)
drop_at (y ∷ ys) zero x h = ap (λ z. z ∷ ys) (some_one h)
drop_at (y ∷ ys) (suc i) x h =
    let k : suc i + 1 ≡ suc (i + 1) = omega arith in
    drop_at ys i x h ∙ ap (λ n. x ∷ drop n (y ∷ ys)) (sym k)

drop_others : (n : ℕ) (ns : List ℕ) → others_of (drop n ns) ≡ drop (n + 1) ns
drop_others n ns = others (drop n ns) ∙ sym (passed_one n ns)
  where
    others : (l : List ℕ) → others_of l ≡ drop 1 l
    others [] = refl
    others (x ∷ xs) = refl

append_last : (fs : List Function) (g : Function) (rest : List Func) → map func_of (fs ++ g ∷ []) ++ rest ≡ map func_of fs ++ (func_of g ∷ rest)
append_last [] g rest = refl
append_last (f ∷ fs) g rest = ap (λ l. func_of f ∷ l) (append_last fs g rest)

more : (ns : List ℕ) (items : List FirstItem) (i : ℕ) (fs : List Function) (g : Function) (f : FirstFunction) (all : List Func) → slice_get items i ≡ Some (item.Function f)
    → map func_of fs ++ declared (site_tree ns (drop i items)) ≡ all → func_of g ≡ numbered ns f.name f.body
    → map func_of (fs ++ g ∷ []) ++ declared (site_tree (numbers_after ns f.body) (drop (i + 1) items)) ≡ all
more ns items i fs g f all at are is =
    append_last fs g (declared (site_tree (numbers_after ns f.body) (drop (i + 1) items)))
    ∙ (ap (λ x. map func_of fs ++ (x ∷ declared (site_tree (numbers_after ns f.body) (drop (i + 1) items)))) is
    ∙ (ap (λ l. map func_of fs ++ declared (site_tree ns l)) (sym (drop_at items i (item.Function f) at)) ∙ are))

-- a plain function takes the next number
pub more_plain : (plain : List ℕ) (items : List FirstItem) (next i : ℕ) (fs : List Function) (g : Function) (f : FirstFunction) (ss : List FirstStatement) (all : List Func) → slice_get items i ≡ Some (item.Function f) → f.body ≡ body.Statements ss
    → map func_of fs ++ declared (site_tree (drop next plain) (drop i items)) ≡ all → func_of g ≡ numbered (drop next plain) f.name f.body
    → map func_of (fs ++ g ∷ []) ++ declared (site_tree (drop (next + 1) plain) (drop (i + 1) items)) ≡ all
more_plain plain items next i fs g f ss all at b are is =
    ap (λ ns. map func_of (fs ++ g ∷ []) ++ declared (site_tree ns (drop (i + 1) items))) (sym (ap (numbers_after (drop next plain)) b ∙ drop_others next plain))
    ∙ more (drop next plain) items i fs g f all at are is

-- a stub takes none
pub more_stub : (plain : List ℕ) (items : List FirstItem) (next i : ℕ) (fs : List Function) (g : Function) (f : FirstFunction) (k : ℕ) (all : List Func) → slice_get items i ≡ Some (item.Function f) → f.body ≡ body.Stub k
    → map func_of fs ++ declared (site_tree (drop next plain) (drop i items)) ≡ all → func_of g ≡ numbered (drop next plain) f.name f.body
    → map func_of (fs ++ g ∷ []) ++ declared (site_tree (drop next plain) (drop (i + 1) items)) ≡ all
more_stub plain items next i fs g f k all at b are is =
    ap (λ ns. map func_of (fs ++ g ∷ []) ++ declared (site_tree ns (drop (i + 1) items))) (sym (ap (numbers_after (drop next plain)) b))
    ∙ more (drop next plain) items i fs g f all at are is

pub bodies_more : (m : Manifest) (fs : List Function) (g : Function) → BodiesAre m fs → BodyIs m g.number g.body → BodiesAre m (fs ++ g ∷ [])
bodies_more m [] g are is zero f at = subst (λ (x : Function). BodyIs m x.number x.body) (some_one at) is
bodies_more m [] g are is (suc i) f at = absurd (none_some at)
bodies_more m (x ∷ xs) g are is zero f at = are 0 f at
bodies_more m (x ∷ xs) g are is (suc i) f at = bodies_more m xs g (λ j. are (suc j)) is i f at

pub count_plain : (items : List FirstItem) (next i all : ℕ) (f : FirstFunction) (ss : List FirstStatement) → slice_get items i ≡ Some (item.Function f) → f.body ≡ body.Statements ss
    → next + plain_count (drop i items) ≡ all → (next + 1) + plain_count (drop (i + 1) items) ≡ all
count_plain items next i all f ss at b h =
    let q = ap plain_count (drop_at items i (item.Function f) at) ∙ ap (λ x. with_plain x (plain_count (drop (i + 1) items))) b in
    omega (arith, q, h)

pub count_stub : (items : List FirstItem) (next i all : ℕ) (f : FirstFunction) (k : ℕ) → slice_get items i ≡ Some (item.Function f) → f.body ≡ body.Stub k
    → next + plain_count (drop i items) ≡ all → next + plain_count (drop (i + 1) items) ≡ all
count_stub items next i all f k at b h =
    let q = ap plain_count (drop_at items i (item.Function f) at) ∙ ap (λ x. with_plain x (plain_count (drop (i + 1) items))) b in
    omega (arith, q, h)

pub listed_rest : (cs : List ClusterLine) (items : List FirstItem) (i : ℕ) (f : FirstFunction) → slice_get items i ≡ Some (item.Function f)
    → list_all (is_listed cs) (stub_numbers (drop i items)) ≡ true → list_all (is_listed cs) (stub_numbers (drop (i + 1) items)) ≡ true
listed_rest cs items i f at h =
    of_body f.body (ap (λ l. list_all (is_listed cs) (stub_numbers l)) (sym (drop_at items i (item.Function f) at)) ∙ h)
  where
    both : (a b : Bool) → a && b ≡ true → b ≡ true
    both true b h = h
    both false b h = cc

    of_body : (x : FirstBody) → list_all (is_listed cs) (with_stub x (stub_numbers (drop (i + 1) items))) ≡ true → list_all (is_listed cs) (stub_numbers (drop (i + 1) items)) ≡ true
    of_body (body.Statements ss) h = h
    of_body (body.Stub k) h = both (is_listed cs k) (list_all (is_listed cs) (stub_numbers (drop (i + 1) items))) h

-- a statement declares nothing
pub past_statement : (plain : List ℕ) (items : List FirstItem) (next i : ℕ) (fs : List Function) (s : FirstStatement) (all : List Func) → slice_get items i ≡ Some (item.Statement s)
    → map func_of fs ++ declared (site_tree (drop next plain) (drop i items)) ≡ all → map func_of fs ++ declared (site_tree (drop next plain) (drop (i + 1) items)) ≡ all
past_statement plain items next i fs s all at are =
    ap (λ l. map func_of fs ++ l) (sym (ap (λ l. declared (site_tree (drop next plain) l)) (drop_at items i (item.Statement s) at) ∙ none s (site_tree (drop next plain) (drop (i + 1) items)))) ∙ are
  where
    none : (s : FirstStatement) (rest : Tree.Stmts) → declared (Tree.MoreStmts (statement_tree s) rest) ≡ declared rest
    none (Call x) rest = refl
    none (Out text) rest = refl

pub count_statement : (items : List FirstItem) (next i all : ℕ) (s : FirstStatement) → slice_get items i ≡ Some (item.Statement s)
    → next + plain_count (drop i items) ≡ all → next + plain_count (drop (i + 1) items) ≡ all
count_statement items next i all s at h =
    ap (λ l. next + l) (sym (ap plain_count (drop_at items i (item.Statement s) at))) ∙ h

pub listed_statement : (cs : List ClusterLine) (items : List FirstItem) (i : ℕ) (s : FirstStatement) → slice_get items i ≡ Some (item.Statement s)
    → list_all (is_listed cs) (stub_numbers (drop i items)) ≡ true → list_all (is_listed cs) (stub_numbers (drop (i + 1) items)) ≡ true
listed_statement cs items i s at h = ap (λ l. list_all (is_listed cs) (stub_numbers l)) (sym (drop_at items i (item.Statement s) at)) ∙ h

-- the lemmas of one more function
pub ruleset one_more = (more_plain, more_stub, bodies_more)
