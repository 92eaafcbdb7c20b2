use Rattle.std.proofs.Common.{◌≡◌, drop}
use Rattle.js_parser.specs.Fitting as spec
use Rattle.js_parser.proofs.fits.+fits.Given as goal

abbrev pub invariant-cases_fit-loop-case : goal.invariant-cases_fit-loop-case
invariant-cases_fit-loop-case l = spec.cases_fit l.cases l.most ≡ spec.cases_fit (drop l.case-index l.cases) l.most

abbrev pub invariant-elements_fit-loop-element : goal.invariant-elements_fit-loop-element
invariant-elements_fit-loop-element l = spec.elements_fit l.elements l.most ≡ spec.elements_fit (drop l.element-index l.elements) l.most

abbrev pub invariant-exprs_fit-loop-expr : goal.invariant-exprs_fit-loop-expr
invariant-exprs_fit-loop-expr l = spec.exprs_fit l.exprs l.most ≡ spec.exprs_fit (drop l.expr-index l.exprs) l.most

abbrev pub invariant-pairs_fit-loop-pair : goal.invariant-pairs_fit-loop-pair
invariant-pairs_fit-loop-pair l = spec.pairs_fit l.pairs l.most ≡ spec.pairs_fit (drop l.pair-index l.pairs) l.most

abbrev pub invariant-stmts_fit-loop-stmt : goal.invariant-stmts_fit-loop-stmt
invariant-stmts_fit-loop-stmt l = spec.stmts_fit l.stmts l.most ≡ spec.stmts_fit (drop l.stmt-index l.stmts) l.most

abbrev pub invariant-var_items_fit-loop-item : goal.invariant-var_items_fit-loop-item
invariant-var_items_fit-loop-item l = spec.var_items_fit l.items l.most ≡ spec.var_items_fit (drop l.item-index l.items) l.most
