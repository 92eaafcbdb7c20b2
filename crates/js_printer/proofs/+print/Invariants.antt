use Rattle.std.proofs.Common.{◌≡◌, drop}
use Rattle.js_tree.specs.Parts as trees
use Rattle.js_printer.specs.Parts as parts
use Rattle.js_printer.specs.Written.{all_written}
use Rattle.js_printer.proofs.+print.Given as goal

abbrev pub invariant-expressions::write_elements-loop-element :
    goal.invariant-expressions::write_elements-loop-element
invariant-expressions::write_elements-loop-element l =
    all_written l.printer (parts.elements_left l.is_behind (trees.elements (drop l.element-index l.elements)))
    ≡ all_written l.initial.printer (parts.elements l.elements)

abbrev pub invariant-expressions::write_exprs-loop-expr :
    goal.invariant-expressions::write_exprs-loop-expr
invariant-expressions::write_exprs-loop-expr l =
    all_written l.printer (parts.exprs_left l.is_behind (trees.exprs (drop l.expr-index l.exprs)))
    ≡ all_written l.initial.printer (parts.exprs l.exprs)

abbrev pub invariant-expressions::write_pairs-loop-pair :
    goal.invariant-expressions::write_pairs-loop-pair
invariant-expressions::write_pairs-loop-pair l =
    all_written l.printer (parts.pairs_left l.is_behind (trees.pairs (drop l.pair-index l.pairs)))
    ≡ all_written l.initial.printer (parts.pairs l.pairs)

abbrev pub invariant-statements::write_stmts-loop-stmt :
    goal.invariant-statements::write_stmts-loop-stmt
invariant-statements::write_stmts-loop-stmt l =
    all_written l.printer (parts.stmts (drop l.stmt-index l.stmts)) ≡ all_written l.initial.printer (parts.stmts l.stmts)

abbrev pub invariant-statements::write_var_items-loop-item :
    goal.invariant-statements::write_var_items-loop-item
invariant-statements::write_var_items-loop-item l =
    all_written l.printer (parts.var_items_left l.is_behind (trees.var_items (drop l.item-index l.items)) l.with_in)
    ≡ all_written l.initial.printer (parts.var_items l.items l.with_in)

abbrev pub invariant-statements::write_cases-loop-case :
    goal.invariant-statements::write_cases-loop-case
invariant-statements::write_cases-loop-case l =
    all_written l.printer (parts.cases (drop l.case-index l.cases)) ≡ all_written l.initial.printer (parts.cases l.cases)
