use Rattle.std.proofs.Common.{nat_le, sym, ap, ◌∙◌, arith}
use Rattle.js_tree.specs.Plain as view
use Rattle.js_tree.specs.Depth.{by_nodes}
use Rattle.js_tree.specs.Heights as heights
use Rattle.js_parser.proofs.Fitting.{array_fits, if_fits, for_fits}
use Rattle.js_parser.proofs.fits.+fits.Goals as goal

pub expr_fits-returns-in-Array : goal.expr_fits-returns-in-Array
expr_fits-returns-in-Array t c =
    c.elements_fit.ensures
    ∙ sym (array_fits c.in-Array.elements c.args.most c.in-Some.inside (omega arith))
    ∙ ap (λ e. nat_le (heights.expr_height by_nodes (view.expr e)) c.args.most) (sym c.in-Array.is)

pub stmt_fits-returns-then-stmt_fits : goal.stmt_fits-returns-then-stmt_fits
stmt_fits-returns-then-stmt_fits t c =
    let most = c.args.most in
    let inside = c.in-Some.inside in
    let test = sym c.if-expr_fits.true ∙ c.expr_fits.ensures in
    let then = sym c.if-stmt_fits.true
    ∙ c.stmt_fits.ensures
    ∙ ap (λ s. nat_le (heights.stmt_height by_nodes (view.stmt s)) inside) c.get.ensures in
    c.maybe_stmt_fits.ensures
    ∙ sym (if_fits c.in-If.test c.in-If.then c.in-If.other most inside (omega arith) test then)
    ∙ ap (λ s. nat_le (heights.stmt_height by_nodes (view.stmt s)) most) (sym c.in-If.is)

pub stmt_fits-returns-then-maybe_expr_fits-2 : goal.stmt_fits-returns-then-maybe_expr_fits-2
stmt_fits-returns-then-maybe_expr_fits-2 t c =
    let most = c.args.most in
    let inside = c.in-Some.inside in
    let first = sym c.if-for_init_fits.true ∙ c.for_init_fits.ensures in
    let test = sym c.if-maybe_expr_fits.true ∙ c.maybe_expr_fits.ensures in
    let next = sym c.if-maybe_expr_fits-2.true ∙ c.maybe_expr_fits-then-maybe_expr_fits.ensures in
    c.stmt_fits-then-maybe_expr_fits-2.ensures
    ∙ ap (λ s. nat_le (heights.stmt_height by_nodes (view.stmt s)) inside) c.get-then-maybe_expr_fits-2.ensures
    ∙ sym (for_fits c.in-For.first c.in-For.test c.in-For.next c.in-For.body most inside (omega arith) first test next)
    ∙ ap (λ s. nat_le (heights.stmt_height by_nodes (view.stmt s)) most) (sym c.in-For.is)
