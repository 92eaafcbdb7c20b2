use Rattle.std.proofs.Common.{◌≡◌, ap, ◌∙◌, take, arith}
use Rattle.std.specs.Prelude.{map}
use Rattle.std.proofs.lemmas.Grind.{common_steps}
use Rattle.js_tree.specs.Plain as plain
use Rattle.first_grammar.specs.First as first
use Rattle.first_grammar.proofs.Trees.{items_tree_is}
use Rattle.first_grammar.proofs.tree.items.Goals as goal

pub returns : goal.returns
returns c =
    let whole : take c.loop-one.one-index c.args.items.now ≡ c.args.items.now = grind (arith, common_steps) in
    ap plain.stmts (c.loop-one.invariant ∙ ap (map first.item_tree) whole) ∙ items_tree_is c.args.items.now
