-- What is left of the functions that give numbers: lists are walked as `Walks` says, and an array
-- literal has elements that may be missing.
use Rattle.std.proofs.Common.{◌≡◌, ℕ, Option, ◌<◌, ◌≤◌, ◌++◌, length, map, ap, sym, refl, ◌∙◌, arith, rules}
use Rattle.js_tree.specs.declared.tree.Expr.{Expr}
use Rattle.js_tree.specs.declared.tree.Expr as nodes
use Rattle.js_tree.specs.declared.tree.Expr.TheBlock.{the_data}
use Rattle.js_tree.specs.declared.tree.Expr.TheShapes.{weighed-Expr-Array-0-at-1}
use Rattle.std.proofs.lemmas.List.{length-append}
use Rattle.js_tree.specs.Numbering.{in_expr, in_stmt, in_maybe_expr, in_stmts}
use Rattle.js_tree.specs.Plain as view
use Rattle.js_tree.specs.Parts as parts
use Rattle.js_tree.specs.Renumbering as renumbered
use Rattle.js_tree.specs.Renumbering.{behind, counted}
use Rattle.js_tree.specs.Tree as plain
use Rattle.js_tree.proofs.tree.Expr.TheLaws.{the_size as expr_size}
use Rattle.js_tree.proofs.tree.Stmt.TheLaws.{the_size as stmt_size}
use Rattle.js_tree.proofs.tree.Pair.TheLaws.{the_size as pair_size}
use Rattle.js_tree.proofs.tree.VarItem.TheLaws.{the_size as item_size}
use Rattle.js_tree.proofs.tree.Case.TheLaws.{the_size as case_size}
use Rattle.js_tree.proofs.PlainNodes.{array_node}
use Rattle.js_tree.proofs.Walks.{all_inside, goes_on, fits, no_larger, all_items, last_place}
use Rattle.js_tree.proofs.TreeLists.{pair_inside, item_inside, case_inside}
use Rattle.js_tree.proofs.TreeLists.{pair_is, item_is, case_is}
use Rattle.js_tree.proofs.TreeLists.{exprs_walked, elements_walked, pairs_walked, stmts_walked}
use Rattle.js_tree.proofs.TreeLists.{var_items_walked, cases_walked}
use Rattle.js_tree.proofs.TreeLists.{in_exprs_parts, in_elements_parts, in_pairs_parts}
use Rattle.js_tree.proofs.TreeLists.{in_stmts_parts, in_var_items_parts, in_cases_parts}
use Rattle.js_tree.proofs.numbers.+number.Goals as goal

pub number_expr-returns-in-Array-clause-tree : goal.number_expr-returns-in-Array-clause-tree
number_expr-returns-in-Array-clause-tree t c = search (rules, nodes.the_lemmas, array_node)

-- ---- exprs

pub number_exprs-number_expr-next-requires : goal.number_exprs-number_expr-next-requires
number_exprs-number_expr-next-requires t c =
    let whole = map view.expr c.args.exprs.now in
    let item = c.get_mut.ensures.value in
    let within = ap length (in_exprs_parts whole) in
    let all : behind c.args.next (all_inside in_expr whole) < 4294967296 = omega (arith, within) in
    let smaller = no_larger _ _ _ expr_size _ _ _ _ _ _ c.loop-at.invariant item in
    (search (rules, smaller), fits _ _ _ _ _ _ _ _ _ _ c.loop-at.invariant item all)

pub number_exprs-loop-at-preserved : goal.number_exprs-loop-at-preserved
number_exprs-loop-at-preserved t c =
    goes_on _ _ _ _ _ _ _ _ _ _ _ _ c.loop-at.invariant c.get_mut.ensures.value
    c.number_expr-next.ensures.tree refl c.number_expr-next.ensures.next

pub number_exprs-returns-clause-tree : goal.number_exprs-returns-clause-tree
number_exprs-returns-clause-tree t c =
    let same = ap length c.items-at-end.ensures in
    let end : length c.loop-at.exprs ≤ c.loop-at.at = omega (arith, same) in
    ap view.exprs (all_items _ _ _ _ _ _ _ _ c.loop-at.invariant end)
    ∙ sym (exprs_walked c.args.next (map view.expr c.args.exprs.now))

pub number_exprs-returns-clause-next : goal.number_exprs-returns-clause-next
number_exprs-returns-clause-next t c =
    let same = ap length c.items-at-end.ensures in
    let end : length c.loop-at.exprs ≤ c.loop-at.at = omega (arith, same) in
    last_place _ _ _ _ _ _ _ _ c.loop-at.invariant end
    ∙ ap (behind c.args.next) (sym (in_exprs_parts (map view.expr c.args.exprs.now)))

-- ---- pairs

pub number_pairs-number_pair-next-requires : goal.number_pairs-number_pair-next-requires
number_pairs-number_pair-next-requires t c =
    let whole = map parts.pair c.args.pairs.now in
    let item = c.get_mut.ensures.value in
    let within = ap length (in_pairs_parts whole) in
    let all : behind c.args.next (all_inside pair_inside whole) < 4294967296 = omega (arith, within) in
    let smaller = no_larger _ _ _ pair_size _ _ _ _ _ _ c.loop-at.invariant item in
    (search (rules, smaller), fits _ _ _ _ _ _ _ _ _ _ c.loop-at.invariant item all)

pub number_pairs-loop-at-preserved : goal.number_pairs-loop-at-preserved
number_pairs-loop-at-preserved t c =
    goes_on _ _ _ _ _ _ _ _ _ _ _ _ c.loop-at.invariant c.get_mut.ensures.value
    (pair_is _ _ _ c.number_pair-next.ensures.key c.number_pair-next.ensures.value) refl c.number_pair-next.ensures.next

pub number_pairs-returns-clause-tree : goal.number_pairs-returns-clause-tree
number_pairs-returns-clause-tree t c =
    let same = ap length c.items-at-end.ensures in
    let end : length c.loop-at.pairs ≤ c.loop-at.at = omega (arith, same) in
    ap view.pairs (all_items _ _ _ _ _ _ _ _ c.loop-at.invariant end)
    ∙ sym (pairs_walked c.args.next (map parts.pair c.args.pairs.now))

pub number_pairs-returns-clause-next : goal.number_pairs-returns-clause-next
number_pairs-returns-clause-next t c =
    let same = ap length c.items-at-end.ensures in
    let end : length c.loop-at.pairs ≤ c.loop-at.at = omega (arith, same) in
    last_place _ _ _ _ _ _ _ _ c.loop-at.invariant end
    ∙ ap (behind c.args.next) (sym (in_pairs_parts (map parts.pair c.args.pairs.now)))

-- ---- stmts

pub number_stmts-number_stmt-next-requires : goal.number_stmts-number_stmt-next-requires
number_stmts-number_stmt-next-requires t c =
    let whole = map view.stmt c.args.stmts.now in
    let item = c.get_mut.ensures.value in
    let within = ap length (in_stmts_parts whole) in
    let all : behind c.args.next (all_inside in_stmt whole) < 4294967296 = omega (arith, within) in
    let smaller = no_larger _ _ _ stmt_size _ _ _ _ _ _ c.loop-at.invariant item in
    (search (rules, smaller), fits _ _ _ _ _ _ _ _ _ _ c.loop-at.invariant item all)

pub number_stmts-loop-at-preserved : goal.number_stmts-loop-at-preserved
number_stmts-loop-at-preserved t c =
    goes_on _ _ _ _ _ _ _ _ _ _ _ _ c.loop-at.invariant c.get_mut.ensures.value
    c.number_stmt-next.ensures.tree refl c.number_stmt-next.ensures.next

pub number_stmts-returns-clause-tree : goal.number_stmts-returns-clause-tree
number_stmts-returns-clause-tree t c =
    let same = ap length c.items-at-end.ensures in
    let end : length c.loop-at.stmts ≤ c.loop-at.at = omega (arith, same) in
    ap view.stmts (all_items _ _ _ _ _ _ _ _ c.loop-at.invariant end)
    ∙ sym (stmts_walked c.args.next (map view.stmt c.args.stmts.now))

pub number_stmts-returns-clause-next : goal.number_stmts-returns-clause-next
number_stmts-returns-clause-next t c =
    let same = ap length c.items-at-end.ensures in
    let end : length c.loop-at.stmts ≤ c.loop-at.at = omega (arith, same) in
    last_place _ _ _ _ _ _ _ _ c.loop-at.invariant end
    ∙ ap (behind c.args.next) (sym (in_stmts_parts (map view.stmt c.args.stmts.now)))

-- ---- var_items

pub number_var_items-number_var_item-next-requires : goal.number_var_items-number_var_item-next-requires
number_var_items-number_var_item-next-requires t c =
    let whole = map parts.var_item c.args.items.now in
    let item = c.get_mut.ensures.value in
    let within = ap length (in_var_items_parts whole) in
    let all : behind c.args.next (all_inside item_inside whole) < 4294967296 = omega (arith, within) in
    let smaller = no_larger _ _ _ item_size _ _ _ _ _ _ c.loop-at.invariant item in
    (search (rules, smaller), fits _ _ _ _ _ _ _ _ _ _ c.loop-at.invariant item all)

pub number_var_items-loop-at-preserved : goal.number_var_items-loop-at-preserved
number_var_items-loop-at-preserved t c =
    goes_on _ _ _ _ _ _ _ _ _ _ _ _ c.loop-at.invariant c.get_mut.ensures.value
    (item_is _ _ _ c.number_var_item-next.ensures.name c.number_var_item-next.ensures.value) refl c.number_var_item-next.ensures.next

pub number_var_items-returns-clause-tree : goal.number_var_items-returns-clause-tree
number_var_items-returns-clause-tree t c =
    let same = ap length c.items-at-end.ensures in
    let end : length c.loop-at.items ≤ c.loop-at.at = omega (arith, same) in
    ap view.var_items (all_items _ _ _ _ _ _ _ _ c.loop-at.invariant end)
    ∙ sym (var_items_walked c.args.next (map parts.var_item c.args.items.now))

pub number_var_items-returns-clause-next : goal.number_var_items-returns-clause-next
number_var_items-returns-clause-next t c =
    let same = ap length c.items-at-end.ensures in
    let end : length c.loop-at.items ≤ c.loop-at.at = omega (arith, same) in
    last_place _ _ _ _ _ _ _ _ c.loop-at.invariant end
    ∙ ap (behind c.args.next) (sym (in_var_items_parts (map parts.var_item c.args.items.now)))

-- ---- cases

pub number_cases-number_case-next-requires : goal.number_cases-number_case-next-requires
number_cases-number_case-next-requires t c =
    let whole = map parts.case c.args.cases.now in
    let item = c.get_mut.ensures.value in
    let within = ap length (in_cases_parts whole) in
    let all : behind c.args.next (all_inside case_inside whole) < 4294967296 = omega (arith, within) in
    let smaller = no_larger _ _ _ case_size _ _ _ _ _ _ c.loop-at.invariant item in
    (search (rules, smaller), fits _ _ _ _ _ _ _ _ _ _ c.loop-at.invariant item all)

pub number_cases-loop-at-preserved : goal.number_cases-loop-at-preserved
number_cases-loop-at-preserved t c =
    goes_on _ _ _ _ _ _ _ _ _ _ _ _ c.loop-at.invariant c.get_mut.ensures.value
    (case_is _ _ _ c.number_case-next.ensures.test c.number_case-next.ensures.body) refl c.number_case-next.ensures.next

pub number_cases-returns-clause-tree : goal.number_cases-returns-clause-tree
number_cases-returns-clause-tree t c =
    let same = ap length c.items-at-end.ensures in
    let end : length c.loop-at.cases ≤ c.loop-at.at = omega (arith, same) in
    ap view.cases (all_items _ _ _ _ _ _ _ _ c.loop-at.invariant end)
    ∙ sym (cases_walked c.args.next (map parts.case c.args.cases.now))

pub number_cases-returns-clause-next : goal.number_cases-returns-clause-next
number_cases-returns-clause-next t c =
    let same = ap length c.items-at-end.ensures in
    let end : length c.loop-at.cases ≤ c.loop-at.at = omega (arith, same) in
    last_place _ _ _ _ _ _ _ _ c.loop-at.invariant end
    ∙ ap (behind c.args.next) (sym (in_cases_parts (map parts.case c.args.cases.now)))

-- ---- elements

abbrev element_size : Option Expr → ℕ
element_size = weighed-Expr-Array-0-at-1.weight the_data expr_size

pub number_elements-number_maybe_expr-next-requires : goal.number_elements-number_maybe_expr-next-requires
number_elements-number_maybe_expr-next-requires t c =
    let whole = map parts.maybe_expr c.args.elements.now in
    let item = c.get_mut.ensures.value in
    let within = ap length (in_elements_parts c.args.elements.now) in
    let all : behind c.args.next (all_inside in_maybe_expr whole) < 4294967296 = omega (arith, within) in
    let smaller = no_larger _ _ _ element_size _ _ _ _ _ _ c.loop-at.invariant item in
    (search (rules, smaller), fits _ _ _ _ _ _ _ _ _ _ c.loop-at.invariant item all)

pub number_elements-loop-at-preserved : goal.number_elements-loop-at-preserved
number_elements-loop-at-preserved t c =
    goes_on _ _ _ _ _ _ _ _ _ _ _ _ c.loop-at.invariant c.get_mut.ensures.value
    c.number_maybe_expr-next.ensures.tree refl c.number_maybe_expr-next.ensures.next

pub number_elements-returns-clause-tree : goal.number_elements-returns-clause-tree
number_elements-returns-clause-tree t c =
    let same = ap length c.items-at-end.ensures in
    let end : length c.loop-at.elements ≤ c.loop-at.at = omega (arith, same) in
    elements_walked c.args.next c.loop-at.elements c.args.elements.now
    (all_items _ _ _ _ _ _ _ _ c.loop-at.invariant end)

pub number_elements-returns-clause-next : goal.number_elements-returns-clause-next
number_elements-returns-clause-next t c =
    let same = ap length c.items-at-end.ensures in
    let end : length c.loop-at.elements ≤ c.loop-at.at = omega (arith, same) in
    last_place _ _ _ _ _ _ _ _ c.loop-at.invariant end
    ∙ ap (behind c.args.next) (sym (in_elements_parts c.args.elements.now))
