use Rattle.js_values.proofs.NumberLaws as proved
use Rattle.js_values.proofs.laws.integers_agree.Goals as goal

pub returns : goal.returns
returns c = record { each_other = proved.integers_agree; number = proved.integers_are_modular; fit = proved.integers_fit }
