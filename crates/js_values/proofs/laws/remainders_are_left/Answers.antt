use Rattle.js_values.proofs.NumberLaws as proved
use Rattle.js_values.proofs.laws.remainders_are_left.Goals as goal

pub returns : goal.returns
returns c = proved.remainders_are_left
