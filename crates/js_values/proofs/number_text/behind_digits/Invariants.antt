use Rattle.std.proofs.Common.{◌≡◌, drop}
use Rattle.js_values.specs.NumberTexts.{behind, is_digit}
use Rattle.js_values.proofs.number_text.behind_digits.Given as goal

abbrev pub invariant-loop-i : goal.invariant-loop-i
invariant-loop-i l = behind is_digit (drop l.i l.text) ≡ behind is_digit l.text
