use Rattle.std.proofs.Common.{◌≡◌, ◌∙◌, ◌≤◌, get_or, length, drop, sym, arith, length-drop}
use Rattle.std.proofs.lemmas.Grind.{common_steps}
use Rattle.text_reader.proofs.Numbers.{next_too_great, zero_first, none_there, all_read}
use Rattle.text_reader.proofs.numeral.number_of.Goals as goal
use Rattle.text_reader.proofs.numeral.number_of.Goals.{else-digits-eq48-via-then-digits-eq48+else-digits-gt1, else-digits-eq48-via-else-digits-eq48}

pub returns-then-is_empty : goal.returns-then-is_empty
returns-then-is_empty c = grind (arith, common_steps, none_there)

pub returns-then-digits-gt1 : goal.returns-then-digits-gt1
returns-then-digits-gt1 c = sym (zero_first c.args.digits.now c.if-digits-eq48.true c.if-digits-gt1.true)

pub returns-in_err-checked_mul : goal.returns-in_err-checked_mul
returns-in_err-checked_mul c =
    let over = rw c.in_err-checked_mul.was at c.checked_mul.ensures in
    let e = next_too_great c.args.digits.now c.loop-digit.value c.loop-digit.digit-index (omega arith) c.loop-digit.invariant.completes (omega arith) in
    c.from_residual.ensures ∙ sym e

pub returns-in_err-value : goal.returns-in_err-value
returns-in_err-value c =
    let fits = rw c.in_ok-checked_mul.was at c.checked_mul.ensures in
    let over = rw c.in_err-value.was at c.checked_add.ensures in
    let e = next_too_great c.args.digits.now c.loop-digit.value c.loop-digit.digit-index (omega arith) c.loop-digit.invariant.completes (omega (arith, fits.1)) in
    c.from_residual-in_err-value.ensures ∙ sym e

pub returns : goal.returns
returns c =
    let ds = c.args.digits.now in
    let rest = drop c.loop-digit.digit-index ds in
    let some : 1 ≤ length ds = grind (arith, common_steps) in
    let one : get_or ds 0 0 ≡ 48 → length ds ≤ 1 =
    λ e. elim c.else-digits-eq48.branch [
      | else-digits-eq48-via-then-digits-eq48+else-digits-gt1 w ↦ w.if-digits-gt1.false
      | else-digits-eq48-via-else-digits-eq48 w ↦ absurd (w.if-digits-eq48.false e)
    ] in
    let none : length rest ≡ 0 = omega (arith, length-drop c.loop-digit.digit-index ds) in
    sym (all_read ds rest c.loop-digit.value some one c.loop-digit.invariant.small none c.loop-digit.invariant.completes)
