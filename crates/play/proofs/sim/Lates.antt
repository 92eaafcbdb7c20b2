-- The entries of a site's files are late functions of their numbers.
use Rattle.std.proofs.Common.{◌≡◌, ℕ, List, [], ◌∷◌, Option, Some, None, Bool, true, false, cond, sym}
use Rattle.std.specs.Prelude.{nat_eq}
use Rattle.dl_ports.specs.Files.{Files}
use Rattle.js_tree.specs.Tree.{Func, Code}
use Rattle.js_tree.specs.declared.tree.Role.TheVariants.{Late}
use Rattle.first_grammar.specs.First.{statements_tree}
use Rattle.first_grammar.specs.declared.script.FirstStatement.{FirstStatement}
use Rattle.first_grammar.specs.declared.script.FirstEntry.{FirstEntry}
use Rattle.play.specs.declared.manifest.ClusterLine.{ClusterLine}
use Rattle.play.specs.declared.manifest.Manifest.{Manifest}
use Rattle.play.specs.Site.{ClusterFile, Absent, Refused, Accepted, cluster_file, line_of, late_function, entry_among, entry_in, entry_by, entries}
use Rattle.play.specs.Laws.{IsLate}
use Rattle.play.proofs.TableLemmas.{none_some, some_one}

abbrev LateOf : ℕ → Func → Type 0
LateOf k f = (body : List FirstStatement) × (f ≡ Code k None [] (statements_tree body) Late)

among_late : (es : List FirstEntry) (k : ℕ) (f : Func) → entry_among es k ≡ Some f → LateOf k f
among_late [] k f e = absurd (none_some e)
among_late (x ∷ es) k f e = by (nat_eq x.number k) e (among_late es k f)
  where
    by : (b : Bool) → cond b (Some (late_function k x)) (entry_among es k) ≡ Some f → (entry_among es k ≡ Some f → LateOf k f) → LateOf k f
    by true q h = (x.body, sym (some_one q))
    by false q h = h q

file_late : (c : ClusterFile) (k : ℕ) (f : Func) → entry_in c k ≡ Some f → LateOf k f
file_late Absent k f e = absurd (none_some e)
file_late Refused k f e = absurd (none_some e)
file_late (Accepted es) k f e = among_late es k f e

module _ (files : Files) (folder : List ℕ) where
  line_late : (o : Option ClusterLine) (k : ℕ) (f : Func) → entry_by files folder o k ≡ Some f → LateOf k f
  line_late None k f e = absurd (none_some e)
  line_late (Some c) k f e = file_late (cluster_file files folder c) k f e

  pub entries_late : (m : Manifest) → IsLate (entries files folder m)
  entries_late m = record { each = λ k f e. line_late (line_of m.clusters k) k f e }
