use Rattle.std.proofs.Common.{◌≡◌, take}
use Rattle.js_tree.proofs.copy.+copy.Given as goal

abbrev pub invariant-copy_exprs-loop-expr : goal.invariant-copy_exprs-loop-expr
invariant-copy_exprs-loop-expr l = l.copy ≡ take l.expr-index l.exprs

abbrev pub invariant-copy_elements-loop-element : goal.invariant-copy_elements-loop-element
invariant-copy_elements-loop-element l = l.copy ≡ take l.element-index l.elements

abbrev pub invariant-copy_pairs-loop-pair : goal.invariant-copy_pairs-loop-pair
invariant-copy_pairs-loop-pair l = l.copy ≡ take l.pair-index l.pairs

abbrev pub invariant-copy_stmts-loop-stmt : goal.invariant-copy_stmts-loop-stmt
invariant-copy_stmts-loop-stmt l = l.copy ≡ take l.stmt-index l.stmts

abbrev pub invariant-copy_var_items-loop-item : goal.invariant-copy_var_items-loop-item
invariant-copy_var_items-loop-item l = l.copy ≡ take l.item-index l.items

abbrev pub invariant-copy_cases-loop-case : goal.invariant-copy_cases-loop-case
invariant-copy_cases-loop-case l = l.copy ≡ take l.case-index l.cases
