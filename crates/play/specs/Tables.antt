-- How a table is made of a manifest and the items of its script.
use Rattle.std.specs.Prelude.{◌≡◌, List, [], ◌∷◌, None, length, map, replicate}
use Rattle.first_grammar.specs.declared.script.FirstStatement.{FirstStatement}
use Rattle.first_grammar.specs.declared.script.FirstItem.{FirstItem}
use Rattle.first_grammar.specs.declared.script.FirstItem.TheVariants as item
use Rattle.first_grammar.specs.declared.script.FirstEntry.{FirstEntry}
use Rattle.play.specs.declared.manifest.Manifest.{Manifest}
use Rattle.play.specs.declared.table.Entry.{Entry}
use Rattle.play.specs.declared.table.Table.{Table}
use Rattle.play.specs.Site.{site_tree}
use Rattle.play.specs.Program.{declared}
use Rattle.play.specs.Machine.{func_of, IsSound}

-- the statements of a script, without its functions
abbrev pub statements_of : List FirstItem → List FirstStatement
statements_of [] = []
statements_of (item.Statement s ∷ is) = s ∷ statements_of is
statements_of (item.Function f ∷ is) = statements_of is

abbrev pub loaded_entry : FirstEntry → Entry
loaded_entry e = record { number = e.number; code = e.body }

-- the table of a manifest and a script's items, of whose clusters none is here
pub record Builds (m : Manifest) (items : List FirstItem) (t : Table) : Type 0 where
  pub manifest : t.manifest ≡ m
  pub sound : IsSound t
  pub functions : map func_of t.functions ≡ declared (site_tree m.plain items)
  pub none : t.loaded ≡ replicate (length m.clusters) None
