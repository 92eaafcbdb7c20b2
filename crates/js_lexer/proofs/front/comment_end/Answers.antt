use Rattle.std.proofs.Common.{sym, ◌∙◌, ap, arith}
use Rattle.js_lexer.specs.Fronts.{closes_comment}
use Rattle.js_lexer.proofs.Fronts.{rest_of}
use Rattle.js_lexer.proofs.Comments.{comment_end_on}
use Rattle.js_lexer.proofs.front.comment_end.Goals as goal

pub loop-i-preserved : goal.loop-i-preserved
loop-i-preserved c =
    comment_end_on c.args.text.now c.loop-i.i (omega arith)
    (ap closes_comment (sym (rest_of c.args.text.now c.loop-i.i)) ∙ sym c.closes_comment.ensures.value ∙ c.if-closes_comment.false)
    c.loop-i.invariant
