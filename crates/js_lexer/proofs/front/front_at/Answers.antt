use Rattle.std.proofs.Common.{sym, ◌∙◌}
use Rattle.js_lexer.proofs.Stands.{other_stands}
use Rattle.js_lexer.proofs.front.front_at.Goals as goal

pub returns-else-is_quote : goal.returns-else-is_quote
returns-else-is_quote c =
    other_stands c.front_by.result c.args.c c.args.rest.now c.args.text.now c.requires (sym c.is_quote.ensures ∙ c.if-is_quote.false) c.front_by.ensures
