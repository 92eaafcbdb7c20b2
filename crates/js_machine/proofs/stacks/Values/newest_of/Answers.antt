use Rattle.std.proofs.Common.{◌∙◌, ◌-◌, ◌≤◌, length, take, drop, ap, arith, length-drop}
use Rattle.std.specs.Prelude.{reverse}
use Rattle.std.proofs.lemmas.List.{take_all}
use Rattle.js_machine.proofs.StackLists.{newest_cut}
use Rattle.js_machine.proofs.stacks.Values.newest_of.Goals as goal

pub returns : goal.returns
returns c =
    let from = c.saturating_sub-from.result in
    let xs = c.self.inside.items.items in
    let all : length (drop from xs) ≤ length xs - from = grind (arith, length-drop from xs) in
    ap (λ ys. take (length ys - from) (drop from ys)) c.deref.ensures.value
    ∙ (take_all (length xs - from) (drop from xs) all
    ∙ (newest_cut xs c.args.n from (grind (arith, c.saturating_sub-from.ensures, c.len.ensures))
    ∙ ap (λ vs. reverse (take c.args.n vs)) c.self.view_is))
