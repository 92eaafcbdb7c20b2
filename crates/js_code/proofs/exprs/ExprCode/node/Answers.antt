use Rattle.std.proofs.Common.{ap, sym, ◌∙◌, subst}
use Rattle.js_tree.specs.Plain as view
use Rattle.js_code.specs.Costs.{CostFits}
use Rattle.js_code.specs.View.{expr_node_tree}
use Rattle.js_code.specs.Nodes.{expr_node_is}
use Rattle.js_code.proofs.exprs.ExprCode.node.Goals as goal

pub returns-clause-tree : goal.returns-clause-tree
returns-clause-tree c =
    ap view.expr (sym c.self.view_is)
    ∙ (expr_node_is c.self.inside.node.value ∙ ap expr_node_tree (sym c.deref.ensures))

pub returns-clause-cost : goal.returns-clause-cost
returns-clause-cost c = subst CostFits (sym c.deref.ensures) c.self.invariant
