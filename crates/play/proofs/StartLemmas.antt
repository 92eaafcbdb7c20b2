-- A script that begins: what is to come for the machine is the whole answer.
use Rattle.std.proofs.Common.{◌≡◌, ℕ, zero, suc, ◌+◌, List, [], ◌∷◌, length, map, Some, None, refl, sym, ap, ◌∙◌, arith, false}
use Rattle.std.specs.Prelude.{slice_get, replicate}
use Rattle.dl_ports.specs.Files.{Files}
use Rattle.js_tree.specs.Tree.{Func}
use Rattle.first_grammar.specs.First.{statements_tree}
use Rattle.first_grammar.specs.declared.script.FirstItem.{FirstItem}
use Rattle.first_grammar.specs.declared.script.FirstItem.TheVariants as item
use Rattle.play.specs.declared.manifest.ClusterLine.{ClusterLine}
use Rattle.play.specs.declared.manifest.Manifest.{Manifest}
use Rattle.play.specs.declared.table.Table.{Table}
use Rattle.play.specs.declared.table.Entry.{Entry}
use Rattle.play.specs.declared.clock.Clock.{Clock}
use Rattle.play.specs.Value.{Env, global_env}
use Rattle.play.specs.Program.{statements, begin_statement, declared, after_script}
use Rattle.first_grammar.specs.First.{statement_tree}
use Rattle.play.specs.Run.{State, Trace, run}
use Rattle.play.specs.Page.{written}
use Rattle.play.specs.Site.{site_tree, entries, numbers_after}
use Rattle.play.specs.Loader
use Rattle.play.specs.Loader.{fresh}
use Rattle.play.specs.Walk.{Ended, RanOut, Broke, walk, end_of}
use Rattle.play.specs.Manifest.{cluster_numbers}
use Rattle.play.specs.Played.{Answered, Walked, Reports, LacksFile, RefusesFile, reads, cluster_of, cluster_names, file_of, answer_of, for_script, site_run}
use Rattle.play.specs.Tables.{statements_of, Builds}
use Rattle.play.specs.Machine.{func_of, statuses, answer_after, begun, trace_of}
use Rattle.play.specs.Answers.{site_left, SiteAgrees}
use Rattle.play.proofs.TableLemmas.{none_some}

answer_same : (folder : List ℕ) (e : Walked) → answer_of folder e ≡ answer_after folder [] e
answer_same folder (Reports lines (Ended n)) = refl
answer_same folder (Reports lines (RanOut n)) = refl
answer_same folder (Reports lines Broke) = refl
answer_same folder (LacksFile c) = refl
answer_same folder (RefusesFile c) = refl

none_loaded : (cs : List ClusterLine) → statuses cs (replicate (length cs) None) ≡ map (λ c. (c, Loader.Absent)) (cluster_numbers cs)
none_loaded [] = refl
none_loaded (c ∷ cs) = ap (λ l. (c.cluster, Loader.Absent) ∷ l) (none_loaded cs)

same_statements : (ns : List ℕ) (items : List FirstItem) (env : Env) → statements (site_tree ns items) env ≡ statements (statements_tree (statements_of items)) env
same_statements ns [] env = refl
same_statements ns (item.Statement s ∷ is) env = ap (begin_statement (statement_tree s) env) (same_statements ns is env)
same_statements ns (item.Function f ∷ is) env = same_statements (numbers_after ns f.body) is env

none_here : (n i : ℕ) (es : List Entry) → slice_get (replicate n None) i ≡ Some (Some es) → ⊥
none_here zero i es h = none_some h
none_here (suc n) zero es h = let q : None ≡ Some es = cc in none_some q
none_here (suc n) (suc i) es h = none_here n i es h

state_at : List Func → ℕ → ℕ → State
state_at fs b s = record { functions = fs; errors = 0; passed = []; beats = b; steps = s }

answered : Files → List ℕ → Manifest → Loader.Loader → Trace → Answered
answered files folder m l trace = record {
  answer = answer_after folder [] (reads (file_of files folder m) (walk (cluster_of m) l trace) (end_of trace));
  asked = cluster_names folder (file_of files folder m) (walk (cluster_of m) l trace);
}

module _ (files : Files) (folder : List ℕ) (m : Manifest) (items : List FirstItem) (t : Table) (b : Builds m items t) where
  runs : (clock : Clock) (n : ℕ) → clock.steps ≡ 1 → clock.beats ≡ 0 → n ≡ clock.left + 1 → site_run files folder m items n ≡ trace_of (entries files folder m) t (begun (statements_of items) clock)
  unfolding state_at
  runs clock n steps beats left =
      let e = entries files folder m in
      let tree = site_tree m.plain items in
      let k : n ≡ suc clock.left = omega (arith, left) in
      ap (written e tree) k
      ∙ (ap (λ p. run e clock.left p (after_script ∷ []) (state_at (declared tree) 0 1)) (same_statements m.plain items global_env)
      ∙ (ap (λ fs. run e clock.left (statements (statements_tree (statements_of items)) global_env) (after_script ∷ []) (state_at fs 0 1)) (sym b.functions)
      ∙ (ap (λ x. run e clock.left (statements (statements_tree (statements_of items)) global_env) (after_script ∷ []) (state_at (map func_of t.functions) x 1)) (sym beats)
      ∙ ap (λ x. run e clock.left (statements (statements_tree (statements_of items)) global_env) (after_script ∷ []) (state_at (map func_of t.functions) clock.beats x)) (sym steps))))

  loads_none : fresh (cluster_numbers m.clusters) ≡ record { table = statuses m.clusters t.loaded; waited = None; background = false }
  loads_none =
      ap (λ l. record { table = l; waited = None; background = false }) (sym (none_loaded m.clusters))
      ∙ ap (λ ls. record { table = statuses m.clusters ls; waited = None; background = false }) (sym b.none)

  pub started : (clock : Clock) (n : ℕ) → clock.steps ≡ 1 → clock.beats ≡ 0 → n ≡ clock.left + 1 → for_script files folder n m (Some items) ≡ site_left files folder t (begun (statements_of items) clock)
  unfolding answered
  started clock n steps beats left =
      let l0 = fresh (cluster_numbers m.clusters) in
      let trace = site_run files folder m items n in
      let e = reads (file_of files folder m) (walk (cluster_of m) l0 trace) (end_of trace) in
      ap (λ z. record { answer = z; asked = cluster_names folder (file_of files folder m) (walk (cluster_of m) l0 trace) }) (answer_same folder e)
      ∙ (ap (answered files folder m l0) (runs clock n steps beats left)
      ∙ (ap (λ l. answered files folder m l (trace_of (entries files folder m) t (begun (statements_of items) clock))) loads_none
      ∙ ap (λ w. answered files folder w (record { table = statuses w.clusters t.loaded; waited = None; background = false }) (trace_of (entries files folder w) t (begun (statements_of items) clock))) (sym b.manifest)))

  pub none_agree : SiteAgrees files folder t
  none_agree = record { here = λ i es j e at in_es. absurd (none_here (length m.clusters) i es (ap (λ ls. slice_get ls i) (sym b.none) ∙ at)) }
