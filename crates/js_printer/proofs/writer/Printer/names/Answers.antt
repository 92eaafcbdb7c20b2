use Rattle.std.proofs.Common.{true, [], ◌∷◌}
use Rattle.js_lexer.specs.declared.token.TokenKind.TheVariants as k
use Rattle.js_printer.specs.Parts as parts
use Rattle.js_printer.proofs.Loops.{next_item, names_step}
use Rattle.js_printer.proofs.writer.Printer.names.Goals as goal

pub loop-name-preserved : goal.loop-name-preserved
loop-name-preserved c =
    next_item parts.names_left _ _ _ _ _ _ _ _ true _ (k.Name c.name-item.result ∷ []) (names_step _ _ _) c.items-name-items.ensures c.loop-name-test.true c.name-item.is c.loop-name.invariant c.in_ok-comma.ensures c.in_ok-name.ensures
