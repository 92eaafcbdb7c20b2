-- The headline: the report of a site that puts back shows the host calls and the uncaught exceptions of its original.
use Rattle.std.specs.Prelude.{◌≡◌, ◌+◌, ◌*◌, ◌≤◌, ℕ, List, [], ◌∷◌, ◌++◌, Some}
use Rattle.std.specs.List.{flat_map}
use Rattle.dl_ports.specs.Files.{Files}
use Rattle.js_tree.specs.Tree.{Script}
use Rattle.first_grammar.specs.declared.script.FirstItem.{FirstItem}
use Rattle.play.specs.declared.manifest.Manifest.{Manifest}
use Rattle.play.specs.declared.outcome.End.{End}
use Rattle.play.specs.declared.outcome.End.TheVariants as end
use Rattle.play.specs.Run.{Mark, Called, Uncaught, Idle, Entered, Needed}
use Rattle.play.specs.Page.{original}
use Rattle.play.specs.Report.{Line, CallLine, UncaughtLine, lines_text, ended_text, out_of_steps_text}
use Rattle.play.specs.ManifestReader.{read_manifest}
use Rattle.play.specs.Site.{manifest_name, script_name, read_script_file, site_tree, stub_numbers, entries}
use Rattle.play.specs.PutBack.{PutsBack}
use Rattle.play.specs.Laws.{seen, ending, Ended, IsPrefix}

-- the host calls and the uncaught exceptions among a report's lines
abbrev pub call_line : Line → List Line → List Line
call_line (CallLine name args) ls = CallLine name args ∷ ls
call_line (UncaughtLine v) ls = UncaughtLine v ∷ ls
call_line _ ls = ls

abbrev pub calls : List Line → List Line
calls [] = []
calls (l ∷ ls) = call_line l (calls ls)

-- and among the marks of a run
abbrev pub call_mark : Mark → List Line → List Line
call_mark (Called name args) ls = CallLine name args ∷ ls
call_mark (Uncaught v) ls = UncaughtLine v ∷ ls
call_mark (Idle beat) ls = ls
call_mark (Entered number beat) ls = ls
call_mark (Needed number) ls = ls

abbrev pub marked_calls : List Mark → List Line
marked_calls [] = []
marked_calls (m ∷ ms) = call_mark m (marked_calls ms)

-- those of the original script under n steps, in which is no stub, no loader and no cluster
abbrev pub original_calls : Script → ℕ → List Line
original_calls script n = marked_calls (seen (original script n))

-- the site's files are accepted, and put back to this script
pub record PutsBackTo (files : Files) (folder : List ℕ) (script : Script) : Type 0 where
  pub manifest_bytes : List ℕ
  pub manifest_at : files (manifest_name folder) ≡ Some manifest_bytes
  pub manifest : Manifest
  pub manifest_is : read_manifest manifest_bytes ≡ Some manifest
  pub script_bytes : List ℕ
  pub script_at : files (script_name folder) ≡ Some script_bytes
  pub items : List FirstItem
  pub items_are : read_script_file manifest script_bytes ≡ Some items
  pub back : PutsBack (entries files folder manifest) (flat_map (λ c. c.entries) manifest.clusters) (stub_numbers items) (site_tree manifest.plain items) script

abbrev pub end_text : End → ℕ → List ℕ
end_text end.Ended steps = ended_text steps
end_text end.OutOfSteps steps = out_of_steps_text steps

-- the script's own run comes to its end within so many steps
abbrev pub EndsWithin : Script → ℕ → Type 0
EndsWithin script m = ending (original script m) ≡ Ended

-- the calls that the report shows are the original's under n steps where it ended, and a front of
-- them otherwise; those that the original shows under m steps are a front of them, where n is
-- 32 m + 32 at the least; and where the original ends within these m steps, so has the report
pub record ShowsOriginal (report : List ℕ) (e : End) (script : Script) (n : ℕ) : Type 0 where
  pub lines : List Line
  pub steps : ℕ
  pub report_is : report ≡ lines_text lines ++ end_text e steps
  pub whole : e ≡ end.Ended → calls lines ≡ original_calls script n
  pub within : IsPrefix (calls lines) (original_calls script n)
  pub reached : (m : ℕ) → 32 * m + 32 ≤ n → IsPrefix (original_calls script m) (calls lines)
  pub ends : (m : ℕ) → 32 * m + 32 ≤ n → EndsWithin script m → e ≡ end.Ended
