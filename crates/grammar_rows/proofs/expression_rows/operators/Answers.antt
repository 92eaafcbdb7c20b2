use Rattle.grammar_rows.proofs.texts.OperatorsTexts as text
use Rattle.grammar_rows.proofs.expression_rows.operators.Goals as goal

pub returns-clause-or : goal.returns-clause-or
returns-clause-or c = text.or

pub returns-clause-or_below : goal.returns-clause-or_below
returns-clause-or_below c = text.or_below

pub returns-clause-and : goal.returns-clause-and
returns-clause-and c = text.and

pub returns-clause-and_below : goal.returns-clause-and_below
returns-clause-and_below c = text.and_below

pub returns-clause-bit_or : goal.returns-clause-bit_or
returns-clause-bit_or c = text.bit_or

pub returns-clause-bit_or_below : goal.returns-clause-bit_or_below
returns-clause-bit_or_below c = text.bit_or_below

pub returns-clause-bit_xor : goal.returns-clause-bit_xor
returns-clause-bit_xor c = text.bit_xor

pub returns-clause-bit_xor_below : goal.returns-clause-bit_xor_below
returns-clause-bit_xor_below c = text.bit_xor_below

pub returns-clause-bit_and : goal.returns-clause-bit_and
returns-clause-bit_and c = text.bit_and

pub returns-clause-bit_and_below : goal.returns-clause-bit_and_below
returns-clause-bit_and_below c = text.bit_and_below

pub returns-clause-equal : goal.returns-clause-equal
returns-clause-equal c = text.equal

pub returns-clause-equal_below : goal.returns-clause-equal_below
returns-clause-equal_below c = text.equal_below

pub returns-clause-not_equal : goal.returns-clause-not_equal
returns-clause-not_equal c = text.not_equal

pub returns-clause-not_equal_below : goal.returns-clause-not_equal_below
returns-clause-not_equal_below c = text.not_equal_below

pub returns-clause-strict_equal : goal.returns-clause-strict_equal
returns-clause-strict_equal c = text.strict_equal

pub returns-clause-strict_equal_below : goal.returns-clause-strict_equal_below
returns-clause-strict_equal_below c = text.strict_equal_below

pub returns-clause-strict_not_equal : goal.returns-clause-strict_not_equal
returns-clause-strict_not_equal c = text.strict_not_equal

pub returns-clause-strict_not_equal_below : goal.returns-clause-strict_not_equal_below
returns-clause-strict_not_equal_below c = text.strict_not_equal_below

pub returns-clause-less : goal.returns-clause-less
returns-clause-less c = text.less

pub returns-clause-less_below : goal.returns-clause-less_below
returns-clause-less_below c = text.less_below

pub returns-clause-greater : goal.returns-clause-greater
returns-clause-greater c = text.greater

pub returns-clause-greater_below : goal.returns-clause-greater_below
returns-clause-greater_below c = text.greater_below

pub returns-clause-less_equal : goal.returns-clause-less_equal
returns-clause-less_equal c = text.less_equal

pub returns-clause-less_equal_below : goal.returns-clause-less_equal_below
returns-clause-less_equal_below c = text.less_equal_below

pub returns-clause-greater_equal : goal.returns-clause-greater_equal
returns-clause-greater_equal c = text.greater_equal

pub returns-clause-greater_equal_below : goal.returns-clause-greater_equal_below
returns-clause-greater_equal_below c = text.greater_equal_below

pub returns-clause-instance_of : goal.returns-clause-instance_of
returns-clause-instance_of c = text.instance_of

pub returns-clause-instance_of_below : goal.returns-clause-instance_of_below
returns-clause-instance_of_below c = text.instance_of_below

pub returns-clause-within : goal.returns-clause-within
returns-clause-within c = text.within

pub returns-clause-within_below : goal.returns-clause-within_below
returns-clause-within_below c = text.within_below

pub returns-clause-shift_left : goal.returns-clause-shift_left
returns-clause-shift_left c = text.shift_left

pub returns-clause-shift_left_below : goal.returns-clause-shift_left_below
returns-clause-shift_left_below c = text.shift_left_below

pub returns-clause-shift_right : goal.returns-clause-shift_right
returns-clause-shift_right c = text.shift_right

pub returns-clause-shift_right_below : goal.returns-clause-shift_right_below
returns-clause-shift_right_below c = text.shift_right_below

pub returns-clause-shift_right_unsigned : goal.returns-clause-shift_right_unsigned
returns-clause-shift_right_unsigned c = text.shift_right_unsigned

pub returns-clause-shift_right_unsigned_below : goal.returns-clause-shift_right_unsigned_below
returns-clause-shift_right_unsigned_below c = text.shift_right_unsigned_below

pub returns-clause-plus : goal.returns-clause-plus
returns-clause-plus c = text.plus

pub returns-clause-plus_below : goal.returns-clause-plus_below
returns-clause-plus_below c = text.plus_below

pub returns-clause-minus : goal.returns-clause-minus
returns-clause-minus c = text.minus

pub returns-clause-minus_below : goal.returns-clause-minus_below
returns-clause-minus_below c = text.minus_below

pub returns-clause-times : goal.returns-clause-times
returns-clause-times c = text.times

pub returns-clause-slash : goal.returns-clause-slash
returns-clause-slash c = text.slash

pub returns-clause-percent : goal.returns-clause-percent
returns-clause-percent c = text.percent
