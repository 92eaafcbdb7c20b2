use Rattle.std.proofs.Common.{◌≡◌, take}
use Rattle.js_tree.proofs.equality.+same.Given as goal

abbrev pub invariant-same_exprs-loop-at : goal.invariant-same_exprs-loop-at
invariant-same_exprs-loop-at l = take l.at l.left ≡ take l.at l.right

abbrev pub invariant-same_elements-loop-at : goal.invariant-same_elements-loop-at
invariant-same_elements-loop-at l = take l.at l.left ≡ take l.at l.right

abbrev pub invariant-same_pairs-loop-at : goal.invariant-same_pairs-loop-at
invariant-same_pairs-loop-at l = take l.at l.left ≡ take l.at l.right

abbrev pub invariant-same_stmts-loop-at : goal.invariant-same_stmts-loop-at
invariant-same_stmts-loop-at l = take l.at l.left ≡ take l.at l.right

abbrev pub invariant-same_var_items-loop-at : goal.invariant-same_var_items-loop-at
invariant-same_var_items-loop-at l = take l.at l.left ≡ take l.at l.right

abbrev pub invariant-same_cases-loop-at : goal.invariant-same_cases-loop-at
invariant-same_cases-loop-at l = take l.at l.left ≡ take l.at l.right
