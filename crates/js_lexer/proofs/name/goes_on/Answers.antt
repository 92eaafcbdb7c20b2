use Rattle.std.proofs.Common.{sym, ◌∙◌}
use Rattle.js_lexer.proofs.Names.{goes_off, goes_further}
use Rattle.js_lexer.proofs.name.goes_on.Goals as goal

pub returns-then-not-continues_name : goal.returns-then-not-continues_name
returns-then-not-continues_name c =
    sym (sym c.loop-c.invariant ∙ goes_off c.loop-c.rest.now c.in-Some.c c.in-Some.length c.continues_name.result (sym c.character_at.ensures.value ∙ c.in-Some.is) c.continues_name.ensures c.if-not-continues_name.true)

pub loop-c-preserved : goal.loop-c-preserved
loop-c-preserved c =
    goes_further c.loop-c.rest.now c.split_at.result.1.now c.in-Some.c c.in-Some.length c.continues_name.result (sym c.character_at.ensures.value ∙ c.in-Some.is) c.continues_name.ensures c.if-not-continues_name.false c.split_at.ensures.back
    ∙ c.loop-c.invariant
