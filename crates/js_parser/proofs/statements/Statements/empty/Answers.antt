use Rattle.std.proofs.Common.{sym, ◌∙◌}
use Rattle.js_tree.specs.Plain.{stmt}
use Rattle.js_parser.specs.Machine.{here}
use Rattle.js_parser.proofs.Runs.{fitted}
use Rattle.js_parser.proofs.Steps.{made, no_room}
use Rattle.js_parser.proofs.statements.Statements.empty.Goals as goal

pub returns-then-not-fits_node-clause-reads : goal.returns-then-not-fits_node-clause-reads
returns-then-not-fits_node-clause-reads g c next = no_room _ (sym c.fits_node.ensures ∙ c.if-not-fits_node.true)

pub returns-clause-reads : goal.returns-clause-reads
returns-clause-reads g c next = made stmt next _ _ _ c.empty.ensures (fitted _ (sym c.fits_node.ensures ∙ c.if-not-fits_node.false) here)
