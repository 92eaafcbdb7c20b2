use Rattle.std.proofs.Common.{◌≡◌, ap, ◌∙◌, arith}
use Rattle.js_tree.specs.Depth.{by_nodes}
use Rattle.js_tree.specs.Heights as heights
use Rattle.js_tree.specs.Plain as view
use Rattle.js_tree.proofs.PlainNodes.{array_node, for_node, try_node}
use Rattle.js_tree.proofs.depths.+depth.Goals as goal

pub expr_depth-returns-in-Array : goal.expr_depth-returns-in-Array
expr_depth-returns-in-Array t c =
    let node = ap view.expr c.in-Array.is ∙ array_node c.in-Array.elements in
    let height = ap (heights.expr_height by_nodes) node in
    omega arith

pub stmt_depth-returns-in-For : goal.stmt_depth-returns-in-For
stmt_depth-returns-in-For t c =
    let node = ap view.stmt c.in-For.is ∙ for_node c.in-For.first c.in-For.test c.in-For.next c.in-For.body in
    let height = ap (heights.stmt_height by_nodes) node in
    omega (arith, ap (λ s. heights.stmt_height by_nodes (view.stmt s)) c.get-in-For.ensures)

pub stmt_depth-returns-in-Try : goal.stmt_depth-returns-in-Try
stmt_depth-returns-in-Try t c =
    let node = ap view.stmt c.in-Try.is ∙ try_node c.in-Try.block c.in-Try.handler c.in-Try.last in
    let height = ap (heights.stmt_height by_nodes) node in
    omega (arith, ap (λ s. heights.stmt_height by_nodes (view.stmt s)) c.get-in-Try.ensures)
