use Rattle.js_values.proofs.EqualityLaws as proved
use Rattle.js_values.proofs.laws.equality_is_symmetric.Goals as goal

pub returns : goal.returns
returns c = record { loose = proved.equality_is_symmetric; strict = proved.strict_equality_is_symmetric }
