use Rattle.js_values.proofs.TextLaws as proved
use Rattle.js_values.proofs.laws.texts_read_back.Goals as goal

pub returns : goal.returns
returns c = record { in_a_radix = proved.texts_read_back; in_ten = proved.decimals_read_back }
