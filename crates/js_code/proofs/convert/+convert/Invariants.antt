use Rattle.std.proofs.Common.{◌≡◌, map, take}
use Rattle.js_code.specs.View.{case_of, pair_of, var_item_of}
use Rattle.js_code.proofs.convert.+convert.Given as goal

abbrev pub invariant-code_of_stmts-loop-stmt : goal.invariant-code_of_stmts-loop-stmt
invariant-code_of_stmts-loop-stmt l = l.items.items ≡ take l.stmt-index l.stmts

abbrev pub invariant-code_of_exprs-loop-expr : goal.invariant-code_of_exprs-loop-expr
invariant-code_of_exprs-loop-expr l = l.items.items ≡ take l.expr-index l.exprs

abbrev pub invariant-code_of_elements-loop-element : goal.invariant-code_of_elements-loop-element
invariant-code_of_elements-loop-element l = l.items.items ≡ take l.element-index l.elements

abbrev pub invariant-code_of_pairs-loop-pair : goal.invariant-code_of_pairs-loop-pair
invariant-code_of_pairs-loop-pair l = map pair_of l.items.items ≡ take l.pair-index l.pairs

abbrev pub invariant-code_of_var_items-loop-item : goal.invariant-code_of_var_items-loop-item
invariant-code_of_var_items-loop-item l =
    map var_item_of l.items.items ≡ take l.item-index l.var_items

abbrev pub invariant-code_of_cases-loop-case : goal.invariant-code_of_cases-loop-case
invariant-code_of_cases-loop-case l = map case_of l.items.items ≡ take l.case-index l.cases
