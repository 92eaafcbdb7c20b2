use Rattle.std.proofs.Common.{◌≡◌, drop}
use Rattle.js_lexer.specs.Fronts.{comment_end}
use Rattle.js_lexer.proofs.Comments.{shifted}
use Rattle.js_lexer.proofs.front.comment_end.Given as goal

abbrev pub invariant-loop-i : goal.invariant-loop-i
invariant-loop-i l = comment_end l.text ≡ shifted l.i (comment_end (drop l.i l.text))
