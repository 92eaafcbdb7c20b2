use Rattle.std.proofs.Common.{ap, ◌∙◌, arith}
use Rattle.std.specs.Prelude.{reverse}
use Rattle.js_machine.specs.Stacks.{without}
use Rattle.js_machine.proofs.StackLists.{cut_stack}
use Rattle.js_machine.proofs.stacks.Values.forget.Goals as goal

pub returns : goal.returns
returns c =
    ap reverse c.truncate.ensures.items
    ∙ (cut_stack c.self.inside.items.items c.args.n c.saturating_sub-left.result (grind (arith, c.saturating_sub-left.ensures, c.len.ensures))
    ∙ ap (without c.args.n) c.self.view_is)
