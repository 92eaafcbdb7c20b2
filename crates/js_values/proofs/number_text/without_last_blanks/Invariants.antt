use Rattle.std.proofs.Common.{◌≡◌, ◌≤◌, length, take}
use Rattle.js_values.specs.NumberTexts as spec
use Rattle.js_values.proofs.number_text.without_last_blanks.Given as goal

abbrev pub invariant-loop-end : goal.invariant-loop-end
invariant-loop-end l =
    (l.end ≤ length l.text) × (spec.without_last_blanks (take l.end l.text) ≡ spec.without_last_blanks l.text)

abbrev pub decreases-loop-end : goal.decreases-loop-end
decreases-loop-end l = l.end
