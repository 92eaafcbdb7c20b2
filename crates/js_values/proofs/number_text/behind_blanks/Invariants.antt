use Rattle.std.proofs.Common.{◌≡◌, drop}
use Rattle.js_values.specs.NumberTexts.{behind, is_blank}
use Rattle.js_values.proofs.number_text.behind_blanks.Given as goal

abbrev pub invariant-loop-i : goal.invariant-loop-i
invariant-loop-i l = behind is_blank (drop l.i l.text) ≡ behind is_blank l.text
