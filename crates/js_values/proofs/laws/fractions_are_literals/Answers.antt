use Rattle.js_values.proofs.GrammarLaws.{fractional_sound, fractional_complete}
use Rattle.js_values.proofs.laws.fractions_are_literals.Goals as goal

pub returns : goal.returns
returns c text = (fractional_sound text, fractional_complete text)
