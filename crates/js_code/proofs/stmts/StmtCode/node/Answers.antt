use Rattle.std.proofs.Common.{ap, sym, ◌∙◌}
use Rattle.js_tree.specs.Plain as view
use Rattle.js_code.specs.View.{stmt_node_tree}
use Rattle.js_code.specs.Nodes.{stmt_node_is}
use Rattle.js_code.proofs.stmts.StmtCode.node.Goals as goal

pub returns : goal.returns
returns c =
    ap view.stmt (sym c.self.view_is)
    ∙ (stmt_node_is c.self.inside.node.value ∙ ap stmt_node_tree (sym c.deref.ensures))
