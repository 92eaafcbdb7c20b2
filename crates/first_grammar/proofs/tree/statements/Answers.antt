use Rattle.std.proofs.Common.{◌≡◌, ap, ◌∙◌, take, arith}
use Rattle.std.specs.Prelude.{map}
use Rattle.std.proofs.lemmas.Grind.{common_steps}
use Rattle.js_tree.specs.Plain as plain
use Rattle.first_grammar.specs.First as first
use Rattle.first_grammar.proofs.Trees.{statements_tree_is}
use Rattle.first_grammar.proofs.tree.statements.Goals as goal

pub returns : goal.returns
returns c =
    let whole : take c.loop-one.one-index c.args.statements.now ≡ c.args.statements.now = grind (arith, common_steps) in
    ap plain.stmts (c.loop-one.invariant ∙ ap (map first.statement_tree) whole) ∙ statements_tree_is c.args.statements.now
