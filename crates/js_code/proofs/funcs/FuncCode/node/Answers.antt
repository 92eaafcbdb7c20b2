use Rattle.std.proofs.Common.{ap, sym, ◌∙◌}
use Rattle.js_tree.specs.Plain as view
use Rattle.js_code.specs.View.{func_node_tree}
use Rattle.js_code.specs.Nodes.{func_node_is}
use Rattle.js_code.proofs.funcs.FuncCode.node.Goals as goal

pub returns : goal.returns
returns c =
    ap view.func (sym c.self.view_is)
    ∙ (func_node_is c.self.inside.node.value ∙ ap func_node_tree (sym c.deref.ensures))
