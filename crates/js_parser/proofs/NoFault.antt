-- An accepted script has no fault.
use Rattle.std.proofs.Common.{◌≡◌, ℕ, ◌≤◌, List, [], ◌∷◌, ◌++◌, length, max, refl, ap, sym, ◌∙◌, subst, arith}
use Rattle.std.proofs.lemmas.List.{append_assoc}
use Rattle.std.proofs.Math.Nat.{le-max_left, le-max_right, max-le, le_trans}
use Rattle.js_lexer.specs.declared.token.Token.{Token}
use Rattle.js_tree.specs.Tree.{Script, Stmt, Stmts}
use Rattle.js_tree.specs.Tree
use Rattle.js_parser.specs.declared.form.Form.{Form}
use Rattle.js_parser.specs.declared.form.Limits.{Limits}
use Rattle.js_parser.specs.Symbols.{Symbol, Symbols, symbols, first, end}
use Rattle.js_parser.specs.Contexts.{Context}
use Rattle.js_parser.specs.Grammar.{SourceElement, SourceElements}
use Rattle.js_parser.specs.Grammar as g
use Rattle.js_tree.specs.Heights.{stmt_height}
use Rattle.js_tree.specs.Depth.{depth, nesting, by_nodes, by_functions}
use Rattle.js_parser.specs.Accepted.{Derives, Accepted, IsOverAt, most_open, opened}
use Rattle.js_parser.specs.Fault.{Fault, Answer, breaking, over, spent}
use Rattle.js_parser.specs.Laws.{open_behind}
use Rattle.js_parser.proofs.Counts.{source}
use Rattle.js_parser.proofs.BreakingTokens.{not_broken}
use Rattle.js_parser.proofs.OneTree.{one_tree}

abbrev pub and_then : Stmts → Stmts → Stmts
and_then Tree.NoStmts others = others
and_then (Tree.MoreStmts s ss) others = Tree.MoreStmts s (and_then ss others)

pub first-join : (u v : Symbols) (next : Symbol) → first (u ++ v) next ≡ first u (first v next)
first-join [] v next = refl
first-join (s ∷ u) v next = refl

-- elements, and then elements
pub joined : {form : Form} {c : Context} {u : Symbols} {middle : Symbol} {ss others : Stmts} (v : Symbols) (next : Symbol) → SourceElements form c u middle ss → middle ≡ first v next → SourceElements form c v next others
    → SourceElements form c (u ++ v) next (and_then ss others)
joined v next g.no_source h e = e
joined {form = form} {c = c} {middle = middle} {others = others} w next (g.source_and {u = u} {v = v} {s = s} {ss = ss} d ds) h e =
    subst (λ t. SourceElements form c t next (Tree.MoreStmts s (and_then ss others))) (sym (append_assoc u v w))
    (g.source_and (subst (λ n. SourceElement form c u n s) (ap (first v) h ∙ sym (first-join v w next)) d) (joined w next ds h e))

-- ---- limits of a whole and of its parts

depth-part : (ss others : Stmts) (s : Stmt) → stmt_height by_nodes s ≤ depth (and_then ss (Tree.MoreStmts s others))
depth-part Tree.NoStmts others s = le-max_left (stmt_height by_nodes s) (depth others)
depth-part (Tree.MoreStmts t ss) others s = le_trans (depth-part ss others s) (le-max_right (stmt_height by_nodes t) (depth (and_then ss (Tree.MoreStmts s others))))

nesting-part : (ss others : Stmts) (s : Stmt) → stmt_height by_functions s ≤ nesting (and_then ss (Tree.MoreStmts s others))
nesting-part Tree.NoStmts others s = le-max_left (stmt_height by_functions s) (nesting others)
nesting-part (Tree.MoreStmts t ss) others s = le_trans (nesting-part ss others s) (le-max_right (stmt_height by_functions t) (nesting (and_then ss (Tree.MoreStmts s others))))

open-front : (n : ℕ) (u v : Symbols) → most_open n u ≤ most_open n (u ++ v)
open-front n [] v = at v
  where
    at : (v : Symbols) → n ≤ most_open n v
    at [] = omega arith
    at (s ∷ v) = le-max_left n (most_open (opened s.kind n) v)
open-front n (s ∷ u) v = max-mono n (open-front (opened s.kind n) u v)
  where
    max-mono : (n : ℕ) {a b : ℕ} → a ≤ b → max n a ≤ max n b
    max-mono n {a} {b} h = max-le (le-max_left n b) (le_trans h (le-max_right n b))

open-behind : (n : ℕ) (u v : Symbols) → most_open (open_behind n u) v ≤ most_open n (u ++ v)
open-behind n [] v = omega arith
open-behind n (s ∷ u) v = le_trans (open-behind (opened s.kind n) u v) (le-max_right n (most_open (opened s.kind n) (u ++ v)))

-- ---- no fault

-- a limit breaks in no part of what keeps them
kept : (form : Form) (limits : Limits) (tokens : Symbols) (tree : Script) (n : ℕ) → Accepted form limits tokens tree → IsOverAt form limits tokens n → ⊥
kept form limits tokens tree n a o =
    let d : Derives form tokens (and_then o.trees (Tree.MoreStmts o.tree o.other_trees)) = record {
      elements = o.before ++ (o.element ++ o.after);
      newline = o.newline;
      whole = o.whole ∙ sym (append_assoc o.before (o.element ++ o.after) (end o.newline ∷ []) ∙ ap (λ t. o.before ++ t) (append_assoc o.element o.after (end o.newline ∷ [])));
      derived = joined (o.element ++ o.after) (end o.newline) o.derives_before refl (g.source_and o.derives o.derives_after);
    } in
    let same = one_tree form tokens tree (and_then o.trees (Tree.MoreStmts o.tree o.other_trees)) a.unlimited.derives d in
    let deep = a.keeps.not_too_deep in let nested = a.keeps.not_too_nested in let open_most = a.keeps.not_too_many_open in
    let deeper = depth-part o.trees o.other_trees o.tree in let nesteds = nesting-part o.trees o.other_trees o.tree in
    let closed = (source o.derives_before).closed 0 in
    let e = ap (most_open 0) o.whole in
    let f = open-behind 0 o.before (o.element ++ (o.after ++ (end o.newline ∷ []))) in
    let g = ap (λ n. most_open n (o.element ++ (o.after ++ (end o.newline ∷ [])))) closed in
    let h = open-front 0 o.element (o.after ++ (end o.newline ∷ [])) in
    o.breaks (record {
      not_too_deep = max-le (le_trans deeper (subst (λ t. depth t ≤ limits.depth) same deep)) (omega arith);
      not_too_nested = max-le (le_trans nesteds (subst (λ t. nesting t ≤ limits.nesting) same nested)) (omega arith);
      not_too_many_open = omega (arith, e, f, g, h, open_most);
    })

pub no_fault : (form : Form) (limits : Limits) (tokens : List Token) (tree : Script) (told : Answer) → Accepted form limits (symbols tokens) tree → Fault form limits tokens told → ⊥
no_fault form limits tokens tree told a (breaking used token b e) = not_broken form limits.functions tokens used token tree a.unlimited b
no_fault form limits tokens tree told a (over before rest token whole o) = kept form limits (symbols tokens) tree (length before) a o
no_fault form limits tokens tree told a (spent used spent_front between before rest broken token more b e1 s e2 o) = not_broken form limits.functions tokens used broken tree a.unlimited b
