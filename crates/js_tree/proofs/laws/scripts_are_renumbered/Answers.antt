use Rattle.js_tree.proofs.RenumberedScripts.{numbered, as_many, alike, only}
use Rattle.js_tree.proofs.laws.scripts_are_renumbered.Goals as goal

pub returns-clause-numbered : goal.returns-clause-numbered
returns-clause-numbered c = numbered

pub returns-clause-as_many : goal.returns-clause-as_many
returns-clause-as_many c = as_many

pub returns-clause-alike : goal.returns-clause-alike
returns-clause-alike c = alike

pub returns-clause-only : goal.returns-clause-only
returns-clause-only c = only
