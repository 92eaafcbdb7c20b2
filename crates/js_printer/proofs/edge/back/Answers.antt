use Rattle.std.proofs.Common.{◌∙◌}
use Rattle.js_printer.proofs.Edges.{back_last}
use Rattle.js_printer.proofs.edge.back.Goals as goal

pub returns-in-Some : goal.returns-in-Some
returns-in-Some c =
    c.edge_at.ensures.value
    ∙ back_last c.args.text.now _ _ c.in-Some.c _ _ c.utf8.text c.edge_at.ensures.scalar c.chars-characters.ensures.rest c.in-Some.ensures.steps c.next.ensures.steps.2 c.is_none.ensures
