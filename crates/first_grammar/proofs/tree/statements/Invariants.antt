use Rattle.std.proofs.Common.{◌≡◌, take}
use Rattle.std.specs.Prelude.{map}
use Rattle.js_tree.specs.Plain as plain
use Rattle.first_grammar.specs.First as first
use Rattle.first_grammar.proofs.tree.statements.Given as goal

abbrev pub invariant-loop-one : goal.invariant-loop-one
invariant-loop-one l = map plain.stmt l.tree ≡ map first.statement_tree (take l.one-index l.statements)
