-- Laziness: a report has the lines of its original's marks, as clusters come; and which lines these are, in plain terms.
use Rattle.std.specs.Prelude.{◌≡◌, ◌+◌, ◌*◌, ◌≤◌, ℕ, List, [], ◌∷◌, ◌++◌, Option, Some, None, cond, nat_eq}
use Rattle.std.specs.List.{list_any}
use Rattle.js_tree.specs.Tree.{Script}
use Rattle.play.specs.declared.manifest.Manifest.{Manifest}
use Rattle.play.specs.declared.outcome.End.{End}
use Rattle.play.specs.declared.outcome.End.TheVariants as end
use Rattle.play.specs.Run.{Mark, Called, Uncaught, Idle, Entered, Needed}
use Rattle.play.specs.Page.{original}
use Rattle.play.specs.Report.{Line, CallLine, UncaughtLine, IdleLine, WaitLine, AskLine, HereLine, lines_text}
use Rattle.play.specs.Played.{site_lines}
use Rattle.play.specs.Headline.{EndsWithin, end_text}
use Rattle.play.specs.Laws.{IsPrefix}

-- the walk over the marks of the original run under n steps
abbrev pub original_lines : Manifest → Script → ℕ → List Line
original_lines m script n = site_lines m (original script n)

-- the report's lines but the last are those of the original's marks under n steps where it ended,
-- and a front of them otherwise; those of its marks under fewer steps are a front of them, where n
-- is 32 times them and 32 at the least; and where the original ends within these, so has the report
pub record ShowsLoads (m : Manifest) (report : List ℕ) (e : End) (script : Script) (n : ℕ) : Type 0 where
  pub lines : List Line
  pub steps : ℕ
  pub report_is : report ≡ lines_text lines ++ end_text e steps
  pub whole : e ≡ end.Ended → lines ≡ original_lines m script n
  pub within : IsPrefix lines (original_lines m script n)
  pub reached : (fewer : ℕ) → 32 * fewer + 32 ≤ n → IsPrefix (original_lines m script fewer) lines
  pub ends : (fewer : ℕ) → 32 * fewer + 32 ≤ n → EndsWithin script fewer → e ≡ end.Ended

-- ---- the same lines without a loader

-- the cluster that an entry waits for: that of its function, where it has not come
abbrev pub waits_for : List ℕ → Option ℕ → Option ℕ
waits_for come None = None
waits_for come (Some c) = cond (list_any (nat_eq c) come) None (Some c)

-- a cluster that is waited for is asked for, and comes
abbrev pub wait_lines : Option ℕ → List Line
wait_lines None = []
wait_lines (Some c) = WaitLine c ∷ AskLine c ∷ HereLine c ∷ []

abbrev pub and_come : Option ℕ → List ℕ → List ℕ
and_come None come = come
and_come (Some c) come = c ∷ come

-- the lines of marks, where cluster tells of a function's number the cluster of its entry, and come are those that have come: the page waits for a cluster
-- exactly where a function is entered whose entry is in it while it has not come
abbrev pub lazy_lines : (ℕ → Option ℕ) → List ℕ → List Mark → List Line
lazy_lines cluster come [] = []
lazy_lines cluster come (Called name args ∷ marks) = CallLine name args ∷ lazy_lines cluster come marks
lazy_lines cluster come (Uncaught v ∷ marks) = UncaughtLine v ∷ lazy_lines cluster come marks
lazy_lines cluster come (Idle beat ∷ marks) = IdleLine ∷ lazy_lines cluster come marks
lazy_lines cluster come (Entered number beat ∷ marks) =
    wait_lines (waits_for come (cluster number)) ++ lazy_lines cluster (and_come (waits_for come (cluster number)) come) marks
lazy_lines cluster come (Needed number ∷ marks) = lazy_lines cluster come marks
