-- The items before the place have their numbers, and `next` comes next.
use Rattle.js_tree.specs.Numbering.{in_expr, in_maybe_expr, in_stmt}
use Rattle.js_tree.specs.Parts as parts
use Rattle.js_tree.specs.Plain as view
use Rattle.js_tree.specs.Renumbering as renumbered
use Rattle.js_tree.specs.Renumbering.{counted}
use Rattle.js_tree.proofs.Walks.{Done}
use Rattle.js_tree.proofs.TreeLists.{pair_given, pair_inside, item_given, item_inside, case_given}
use Rattle.js_tree.proofs.TreeLists.{case_inside}
use Rattle.js_tree.proofs.numbers.+number.Given as goal

abbrev pub invariant-number_exprs-loop-at : goal.invariant-number_exprs-loop-at
invariant-number_exprs-loop-at l = Done view.expr (renumbered.expr counted) in_expr l.initial.next l.initial.exprs l.exprs l.at l.next

abbrev pub invariant-number_elements-loop-at : goal.invariant-number_elements-loop-at
invariant-number_elements-loop-at l = Done parts.maybe_expr (renumbered.maybe_expr counted) in_maybe_expr l.initial.next l.initial.elements l.elements l.at l.next

abbrev pub invariant-number_pairs-loop-at : goal.invariant-number_pairs-loop-at
invariant-number_pairs-loop-at l = Done parts.pair pair_given pair_inside l.initial.next l.initial.pairs l.pairs l.at l.next

abbrev pub invariant-number_stmts-loop-at : goal.invariant-number_stmts-loop-at
invariant-number_stmts-loop-at l = Done view.stmt (renumbered.stmt counted) in_stmt l.initial.next l.initial.stmts l.stmts l.at l.next

abbrev pub invariant-number_var_items-loop-at : goal.invariant-number_var_items-loop-at
invariant-number_var_items-loop-at l = Done parts.var_item item_given item_inside l.initial.next l.initial.items l.items l.at l.next

abbrev pub invariant-number_cases-loop-at : goal.invariant-number_cases-loop-at
invariant-number_cases-loop-at l = Done parts.case case_given case_inside l.initial.next l.initial.cases l.cases l.at l.next
