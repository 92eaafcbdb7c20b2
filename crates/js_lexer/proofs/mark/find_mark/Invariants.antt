use Rattle.std.proofs.Common.{◌≡◌, drop}
use Rattle.std.specs.List.{find}
use Rattle.js_lexer.specs.Characters.{begins}
use Rattle.js_lexer.specs.Marks.{spelling}
use Rattle.js_lexer.proofs.mark.find_mark.Given as goal

abbrev pub invariant-loop-mark : goal.invariant-loop-mark
invariant-loop-mark l = find (λ mark. begins (spelling mark) l.text) (drop l.mark-index l.marks) ≡ find (λ mark. begins (spelling mark) l.text) l.marks
