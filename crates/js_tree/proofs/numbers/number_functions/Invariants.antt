-- The scripts before the place have their numbers.
use Rattle.js_tree.specs.Numbering.{in_stmts}
use Rattle.js_tree.specs.Plain as view
use Rattle.js_tree.specs.Renumbering as renumbered
use Rattle.js_tree.specs.Renumbering.{counted}
use Rattle.js_tree.proofs.Walks.{Done}
use Rattle.js_tree.proofs.numbers.number_functions.Given as goal

abbrev pub invariant-loop-at : goal.invariant-loop-at
invariant-loop-at l =
    Done view.script (renumbered.stmts counted) in_stmts l.initial.next l.initial.scripts.items l.scripts.items l.at
    l.next
