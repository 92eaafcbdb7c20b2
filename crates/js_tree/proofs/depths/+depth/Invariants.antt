use Rattle.std.proofs.Common.{◌≡◌, drop, max}
use Rattle.js_tree.specs.Depth.{by_nodes, told}
use Rattle.js_tree.specs.Heights as heights
use Rattle.js_tree.specs.Parts as parts
use Rattle.js_tree.specs.Plain as view
use Rattle.js_tree.proofs.depths.+depth.Given as goal

abbrev pub invariant-exprs_depth-loop-expr : goal.invariant-exprs_depth-loop-expr
invariant-exprs_depth-loop-expr l = told (heights.exprs_height by_nodes (parts.exprs l.exprs)) ≡ max l.most (told (heights.exprs_height by_nodes (parts.exprs (drop l.expr-index l.exprs))))

abbrev pub invariant-elements_depth-loop-element : goal.invariant-elements_depth-loop-element
invariant-elements_depth-loop-element l = told (heights.elements_height by_nodes (parts.elements l.elements)) ≡ max l.most (told (heights.elements_height by_nodes (parts.elements (drop l.element-index l.elements))))

abbrev pub invariant-pairs_depth-loop-pair : goal.invariant-pairs_depth-loop-pair
invariant-pairs_depth-loop-pair l = told (heights.pairs_height by_nodes (parts.pairs l.pairs)) ≡ max l.most (told (heights.pairs_height by_nodes (parts.pairs (drop l.pair-index l.pairs))))

abbrev pub invariant-stmts_depth-loop-stmt : goal.invariant-stmts_depth-loop-stmt
invariant-stmts_depth-loop-stmt l = told (heights.stmts_height by_nodes (view.body l.stmts)) ≡ max l.most (told (heights.stmts_height by_nodes (view.body (drop l.stmt-index l.stmts))))

abbrev pub invariant-var_items_depth-loop-item : goal.invariant-var_items_depth-loop-item
invariant-var_items_depth-loop-item l = told (heights.var_items_height by_nodes (parts.var_items l.items)) ≡ max l.most (told (heights.var_items_height by_nodes (parts.var_items (drop l.item-index l.items))))

abbrev pub invariant-cases_depth-loop-case : goal.invariant-cases_depth-loop-case
invariant-cases_depth-loop-case l = told (heights.cases_height by_nodes (parts.cases l.cases)) ≡ max l.most (told (heights.cases_height by_nodes (parts.cases (drop l.case-index l.cases))))
