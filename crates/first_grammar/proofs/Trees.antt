-- The trees of a list, one by one.
use Rattle.std.proofs.Common.{◌≡◌, List, [], ◌∷◌, refl, ap}
use Rattle.std.specs.Prelude.{map}
use Rattle.js_tree.specs.Tree.{MoreStmts}
use Rattle.js_tree.specs.Plain.{stmts}
use Rattle.first_grammar.specs.declared.script.FirstStatement.{FirstStatement}
use Rattle.first_grammar.specs.declared.script.FirstItem.{FirstItem}
use Rattle.first_grammar.specs.First.{statement_tree, statements_tree, item_tree, items_tree}

pub statements_tree_is : (ss : List FirstStatement) → stmts (map statement_tree ss) ≡ statements_tree ss
statements_tree_is [] = refl
statements_tree_is (s ∷ ss) = ap (MoreStmts (statement_tree s)) (statements_tree_is ss)

pub items_tree_is : (is : List FirstItem) → stmts (map item_tree is) ≡ items_tree is
items_tree_is [] = refl
items_tree_is (i ∷ is) = ap (MoreStmts (item_tree i)) (items_tree_is is)
