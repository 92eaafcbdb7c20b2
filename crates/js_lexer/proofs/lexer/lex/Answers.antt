use Rattle.std.proofs.Common.{arith, ap, ◌∙◌, length}
use Rattle.std.proofs.lemmas.Str.{encodes-chars}
use Rattle.std.proofs.Math.Utf8.{encodes}
use Rattle.js_lexer.proofs.lexer.lex.Goals as goal

pub tokens_of-requires : goal.tokens_of-requires
tokens_of-requires c =
    let bytes = ap (λ cs. length (encodes cs)) (c.deref.ensures.value ∙ c.in_ok-characters.ensures) ∙ ap length (encodes-chars c.args.text.now c.utf8.text) in
    omega (arith, bytes, c.requires)
