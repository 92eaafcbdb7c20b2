use Rattle.js_tree.specs.Plain as view
use Rattle.js_code.proofs.ToldCosts.{binary_kept}
use Rattle.js_code.proofs.exprs.ExprNode.binary.Goals as goal

pub returns-clause-cost : goal.returns-clause-cost
returns-clause-cost c =
    binary_kept
    c.args.op (view.expr c.args.left) (view.expr c.args.right) c.cost.result c.cost-2.result c.binary_cost-cost.result
    c.binary_cost-cost.ensures c.cost.ensures.exactly c.cost-2.ensures.exactly
