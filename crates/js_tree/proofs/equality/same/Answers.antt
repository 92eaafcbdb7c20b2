use Rattle.std.proofs.Common.{ap, sym, ◌∙◌}
use Rattle.js_tree.specs.Plain as view
use Rattle.js_tree.proofs.Injective.{equal_trees}
use Rattle.js_tree.proofs.equality.same.Goals as goal

pub returns : goal.returns
returns c =
    let left = c.items.ensures in
    let right = c.items-2.ensures in (
      (λ is. ap view.body (sym left ∙ c.same_stmts.ensures.0 is ∙ right)),
      (λ same. c.same_stmts.ensures.1 (left ∙ equal_trees c.args.left.now.body c.args.right.now.body same ∙ sym right)),
    )
