use Rattle.js_values.proofs.NumberLaws as proved
use Rattle.js_values.proofs.laws.quotients_are_exact.Goals as goal

pub returns : goal.returns
returns c = proved.quotients_are_exact
