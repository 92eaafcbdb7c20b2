use Rattle.std.proofs.Common.{refl}
use Rattle.std.specs.Fmt.{digits}
use Rattle.grammar_rows.proofs.limit_rows.in_decimal.Goals as goal

pub returns-clause-one_digit : goal.returns-clause-one_digit
unfolding digits
returns-clause-one_digit c = refl

pub returns-clause-five_digits : goal.returns-clause-five_digits
unfolding digits
returns-clause-five_digits c = refl

pub returns-clause-hexadecimal : goal.returns-clause-hexadecimal
unfolding digits
returns-clause-hexadecimal c = refl

pub returns-clause-wide_hexadecimal : goal.returns-clause-wide_hexadecimal
unfolding digits
returns-clause-wide_hexadecimal c = refl
