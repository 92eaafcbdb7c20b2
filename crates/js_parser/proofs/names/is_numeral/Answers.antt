use Rattle.std.proofs.Common.{◌+◌, ◌*◌, refl, sym, ◌∙◌, arith}
use Rattle.js_parser.proofs.Numerals.{is_a_digit, is_over, is_at_zero, goes_further}
use Rattle.js_parser.proofs.names.is_numeral.Goals.{then-number-eq0-via-then-number-eq0, then-number-eq0-via-else-number-eq0+then-number-gt-LAST_FUNCTION_NUMBER}
use Rattle.js_parser.proofs.names.is_numeral.Goals as goal

pub returns-then-number-eq0 : goal.returns-then-number-eq0
returns-then-number-eq0 c =
    let n = c.loop-unit.number in
    let v = c.in-Some.digit in
    let i = c.loop-unit.unit-index in
    let ds = c.args.digits.now in
    let digit = is_a_digit _ _ c.in-Some.ensures in
    sym (c.loop-unit.invariant.same
    ∙ elim c.then-number-eq0.branch [
      | then-number-eq0-via-then-number-eq0 w ↦ is_at_zero n v (10 * n + v) i ds (omega arith) digit refl w.if-number-eq0.true
      | then-number-eq0-via-else-number-eq0+then-number-gt-LAST_FUNCTION_NUMBER w ↦ is_over n v (10 * n + v) i ds (omega arith) digit refl w.if-number-gt-LAST_FUNCTION_NUMBER.true
    ])

pub loop-unit-preserved : goal.loop-unit-preserved
loop-unit-preserved c =
    let n = c.loop-unit.number in
    let v = c.in-Some.digit in
    let digit = is_a_digit _ _ c.in-Some.ensures in
    record {
      same = c.loop-unit.invariant.same
          ∙ goes_further n v (10 * n + v) c.loop-unit.unit-index c.args.digits.now (omega arith) digit refl (omega arith);
      small = omega arith;
    }
