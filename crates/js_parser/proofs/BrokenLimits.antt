-- A limit that breaks in a script breaks in one of its statements.
use Rattle.std.proofs.Common.{◌≡◌, ℕ, ◌≤◌, ◌⊎◌, inl, inr, nat_le, Bool, true, false, [], ◌∷◌, ◌++◌, length, refl, ap, sym, ◌∙◌, subst, arith}
use Rattle.std.proofs.lemmas.List.{append-nil, append_assoc}
use Rattle.std.proofs.lemmas.Bool.{leb-true, leb-false}
use Rattle.std.proofs.Math.Nat.{le-max_left, le-max_right, max-le, le_trans}
use Rattle.js_tree.specs.Tree.{Script, Stmts}
use Rattle.js_tree.specs.Tree
use Rattle.js_parser.specs.declared.form.Form.{Form}
use Rattle.js_parser.specs.declared.form.Limits.{Limits}
use Rattle.js_parser.specs.Symbols.{Symbol, Symbols, first, end}
use Rattle.js_parser.specs.Contexts as context
use Rattle.js_parser.specs.Grammar.{SourceElement, SourceElements}
use Rattle.js_parser.specs.Grammar as g
use Rattle.js_tree.specs.Heights.{stmt_height}
use Rattle.js_tree.specs.Depth.{depth, nesting, by_nodes, by_functions}
use Rattle.js_parser.specs.Accepted.{IsUnlimited, Keeps, IsOverAt, most_open, opened, functions_in}
use Rattle.js_parser.specs.Laws.{open_behind}
use Rattle.js_parser.proofs.Counts.{source}
use Rattle.js_parser.proofs.NoFault.{and_then, first-join, joined}

-- ---- parts that keep the limits are a whole that does

depth-join : (k : ℕ) (ss others : Stmts) → depth ss ≤ k → depth others ≤ k → depth (and_then ss others) ≤ k
depth-join k Tree.NoStmts others h i = i
depth-join k (Tree.MoreStmts s ss) others h i = max-le (le_trans (le-max_left (stmt_height by_nodes s) (depth ss)) h) (depth-join k ss others (le_trans (le-max_right (stmt_height by_nodes s) (depth ss)) h) i)

nesting-join : (k : ℕ) (ss others : Stmts) → nesting ss ≤ k → nesting others ≤ k → nesting (and_then ss others) ≤ k
nesting-join k Tree.NoStmts others h i = i
nesting-join k (Tree.MoreStmts s ss) others h i = max-le (le_trans (le-max_left (stmt_height by_functions s) (nesting ss)) h) (nesting-join k ss others (le_trans (le-max_right (stmt_height by_functions s) (nesting ss)) h) i)

open-join : (k n : ℕ) (u v : Symbols) → most_open n u ≤ k → most_open (open_behind n u) v ≤ k → most_open n (u ++ v) ≤ k
open-join k n [] v h i = i
open-join k n (s ∷ u) v h i =
    max-le (le_trans (le-max_left n (most_open (opened s.kind n) u)) h) (open-join k (opened s.kind n) u v (le_trans (le-max_right n (most_open (opened s.kind n) u)) h) i)

then-none : (ss : Stmts) → and_then ss Tree.NoStmts ≡ ss
then-none Tree.NoStmts = refl
then-none (Tree.MoreStmts s ss) = ap (λ t. Tree.MoreStmts s t) (then-none ss)

then-assoc : (ss others more : Stmts) → and_then (and_then ss others) more ≡ and_then ss (and_then others more)
then-assoc Tree.NoStmts others more = refl
then-assoc (Tree.MoreStmts s ss) others more = ap (λ t. Tree.MoreStmts s t) (then-assoc ss others more)

within : (n k : ℕ) (b : Bool) → nat_le n k ≡ b → (n ≤ k) ⊎ (n ≤ k → ⊥)
within n k true h = inl (leb-true n k h)
within n k false h = inr (λ i. let less = leb-false n k h in absurd (omega arith))

-- either it keeps the limits or it does not
decided : (limits : Limits) (u : Symbols) (ss : Stmts) → Keeps limits u ss ⊎ (Keeps limits u ss → ⊥)
decided limits u ss = at (within (depth ss) limits.depth (nat_le (depth ss) limits.depth) refl) (within (nesting ss) limits.nesting (nat_le (nesting ss) limits.nesting) refl)
    (within (most_open 0 u) limits.brackets (nat_le (most_open 0 u) limits.brackets) refl)
  where
    at : ((depth ss ≤ limits.depth) ⊎ (depth ss ≤ limits.depth → ⊥)) → ((nesting ss ≤ limits.nesting) ⊎ (nesting ss ≤ limits.nesting → ⊥))
        → ((most_open 0 u ≤ limits.brackets) ⊎ (most_open 0 u ≤ limits.brackets → ⊥)) → Keeps limits u ss ⊎ (Keeps limits u ss → ⊥)
    at (inl a) (inl b) (inl c) = inl (record { not_too_deep = a; not_too_nested = b; not_too_many_open = c })
    at (inr a) b c = inr (λ keeps. a keeps.not_too_deep)
    at (inl a) (inr b) c = inr (λ keeps. b keeps.not_too_nested)
    at (inl a) (inl b) (inr c) = inr (λ keeps. c keeps.not_too_many_open)

both-keep : {form : Form} {next : Symbol} (limits : Limits) (u v : Symbols) (ss others : Stmts) → SourceElements form context.script u next ss → Keeps limits u ss → Keeps limits v others → Keeps limits (u ++ v) (and_then ss others)
both-keep limits u v ss others d h i = record {
  not_too_deep = depth-join limits.depth ss others h.not_too_deep i.not_too_deep;
  not_too_nested = nesting-join limits.nesting ss others h.not_too_nested i.not_too_nested;
  not_too_many_open = open-join limits.brackets 0 u v h.not_too_many_open (subst (λ n. most_open n v ≤ limits.brackets) (sym ((source d).closed 0)) i.not_too_many_open);
}

-- ---- the first that does not

find : {form : Form} (limits : Limits) (tokens before : Symbols) (trees : Stmts) (newline : Bool) (middle : Symbol) {u : Symbols} {last : Symbol} {ss : Stmts} → functions_in tokens ≤ limits.functions
    → SourceElements form context.script before middle trees → Keeps limits before trees → SourceElements form context.script u last ss → last ≡ end newline → middle ≡ first u (end newline)
    → tokens ≡ before ++ (u ++ (end newline ∷ [])) → (Keeps limits (before ++ u) (and_then trees ss) → ⊥) → (n : ℕ) × IsOverAt form limits tokens n
find limits tokens before trees newline middle few db kb g.no_source l m whole away =
    absurd (away (subst (λ t. Keeps limits t (and_then trees Tree.NoStmts)) (sym (append-nil before)) (subst (λ t. Keeps limits before t) (sym (then-none trees)) kb)))
find {form = form} limits tokens before trees newline middle few db kb (g.source_and {next = last} {u = u} {v = v} {s = s} {ss = ss} d ds) l m whole away =
    at (decided limits u (Tree.MoreStmts s Tree.NoStmts))
    (λ keeps. find limits tokens (before ++ u) (and_then trees (Tree.MoreStmts s Tree.NoStmts)) newline (first v (end newline)) few longer (both-keep limits before u trees (Tree.MoreStmts s Tree.NoStmts) so_far kb keeps) ds l refl parts still)
  where
    element : SourceElement form context.script u (first v (end newline)) s
    element = subst (λ n. SourceElement form context.script u (first v n) s) l d

    others : SourceElements form context.script v (end newline) ss
    others = subst (λ n. SourceElements form context.script v n ss) l ds

    so_far : SourceElements form context.script before (first (u ++ v) (end newline)) trees
    so_far = subst (λ n. SourceElements form context.script before n trees) m db

    longer : SourceElements form context.script (before ++ u) (first v (end newline)) (and_then trees (Tree.MoreStmts s Tree.NoStmts))
    longer = joined u (first v (end newline)) so_far (first-join u v (end newline))
        (subst (λ t. SourceElements form context.script t (first v (end newline)) (Tree.MoreStmts s Tree.NoStmts)) (append-nil u) (g.source_and {v = []} element g.no_source))

    parts : tokens ≡ (before ++ u) ++ (v ++ (end newline ∷ []))
    parts = whole ∙ ap (λ t. before ++ t) (append_assoc u v (end newline ∷ [])) ∙ sym (append_assoc before u (v ++ (end newline ∷ [])))

    still : Keeps limits ((before ++ u) ++ v) (and_then (and_then trees (Tree.MoreStmts s Tree.NoStmts)) ss) → ⊥
    still h = away (subst (λ t. Keeps limits t (and_then trees (Tree.MoreStmts s ss))) (append_assoc before u v) (subst (λ t. Keeps limits ((before ++ u) ++ v) t) (then-assoc trees (Tree.MoreStmts s Tree.NoStmts) ss) h))

    at : Keeps limits u (Tree.MoreStmts s Tree.NoStmts) ⊎ (Keeps limits u (Tree.MoreStmts s Tree.NoStmts) → ⊥) → (Keeps limits u (Tree.MoreStmts s Tree.NoStmts) → (n : ℕ) × IsOverAt form limits tokens n) → (n : ℕ) × IsOverAt form limits tokens n
    at (inl keeps) again = again keeps
    at (inr breaks) again = (
      length before,
      record {
        before = before;
        element = u;
        after = v;
        newline = newline;
        trees = trees;
        tree = s;
        other_trees = ss;
        whole = whole ∙ ap (λ t. before ++ t) (append_assoc u v (end newline ∷ []));
        stands = refl;
        derives_before = so_far;
        derives = element;
        derives_after = others;
        few_functions = few;
        keeps_before = kb;
        breaks = breaks;
      },
    )

pub somewhere : (form : Form) (limits : Limits) (tokens : Symbols) (tree : Script) → IsUnlimited form limits.functions tokens tree → (Keeps limits tokens tree → ⊥) → (n : ℕ) × IsOverAt form limits tokens n
somewhere form limits tokens tree h away = let d = h.derives in
    find limits tokens [] Tree.NoStmts d.newline (first d.elements (end d.newline)) h.few_functions g.no_source (record { not_too_deep = omega arith; not_too_nested = omega arith; not_too_many_open = omega arith }) d.derived refl refl d.whole
    (λ keeps. away (subst (λ t. Keeps limits t tree) (sym d.whole) (subst (λ t. Keeps limits (d.elements ++ (end d.newline ∷ [])) t) (then-none tree)
    (both-keep limits d.elements (end d.newline ∷ []) tree Tree.NoStmts d.derived keeps (record { not_too_deep = omega arith; not_too_nested = omega arith; not_too_many_open = omega arith })))))
