use Rattle.js_tree.specs.Plain as view
use Rattle.js_code.proofs.ToldCosts.{prefix_kept}
use Rattle.js_code.proofs.exprs.ExprNode.prefix.Goals as goal

pub returns-clause-cost : goal.returns-clause-cost
returns-clause-cost c =
    prefix_kept
    c.args.op (view.expr c.args.operand) c.cost.result c.prefix_cost-cost.result
    c.prefix_cost-cost.ensures c.cost.ensures.exactly
