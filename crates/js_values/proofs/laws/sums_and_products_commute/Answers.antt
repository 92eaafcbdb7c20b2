use Rattle.js_values.proofs.NumberLaws.{sums_commute, products_commute}
use Rattle.js_values.proofs.laws.sums_and_products_commute.Goals as goal

pub returns : goal.returns
returns c = record { sums = sums_commute; products = products_commute }
