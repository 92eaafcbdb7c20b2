-- The report of a site that puts back shows the original's calls.
use Rattle.std.proofs.Common.{◌≡◌, ℕ, List, [], ◌∷◌, ◌++◌, map, Option, Some, None, Bool, true, false, refl, sym, ap, ◌∙◌, subst, ◌⊎◌, inl, inr}
use Rattle.std.specs.Prelude.{cond, if◌then◌else◌, Result, Ok, Err, IfOk}
use Rattle.dl_ports.specs.Files.{Files}
use Rattle.js_tree.specs.Tree.{Script}
use Rattle.play.specs.declared.outcome.End.{End}
use Rattle.play.specs.declared.outcome.Outcome.{Outcome}
use Rattle.play.specs.declared.outcome.FirstError.{FirstError}
use Rattle.dl_ports.specs.Stores.{AskedNames}
use Rattle.play.specs.Answers.{Meets}
use Rattle.play.specs.declared.outcome.End.TheVariants as end
use Rattle.play.specs.declared.outcome.FirstFile.TheVariants as first
use Rattle.play.specs.Run.{Mark, Called, Uncaught, Idle, Entered, Needed, Trace, Say, End as Finish, OutOfSteps, IsStuck}
use Rattle.play.specs.Page.{original}
use Rattle.play.specs.Site.{ClusterFile, Absent, Refused, Accepted, entries, site_tree}
use Rattle.play.specs.Loader
use Rattle.play.specs.Report.{Line, CallLine, UncaughtLine, IdleLine, EventLine, WaitLine, AskLine, HereLine, LostLine, CutLine, lines_text}
use Rattle.play.specs.Loader.{Moved, step, fills, effect, needed, arrived, status_of, moves, ask_all, to_ask}
use Rattle.play.specs.Walk
use Rattle.play.specs.Walk.{RunEnd, walk, end_of, moved_by, request, requested, arrives}
use Rattle.play.specs.Manifest.{cluster_numbers}
use Rattle.play.specs.Played.{Gives, Refuses, Walked, Reports, LacksFile, RefusesFile, with_line, comes, reads, answer_of, cluster_of, file_of, site_run, site_lines, site_played, for_script, for_script_file, for_manifest, for_manifest_file, for_folder, played, is_page}
use Rattle.play.specs.Laws
use Rattle.play.specs.Laws.{seen, with_mark, ending, IsPrefix, Joined}
use Rattle.play.specs.Headline.{call_line, calls, call_mark, marked_calls, original_calls, PutsBackTo, end_text, ShowsOriginal}
use Rattle.play.specs.Laziness.{original_lines, ShowsLoads, lazy_lines}
use Rattle.play.proofs.LazinessLemmas.{site_lazy, lazy_prefix}
use Rattle.play.proofs.sim.Lates.{entries_late}
use Rattle.play.proofs.sim.Back.{script_back}
use Rattle.play.proofs.sim.Whole.{prefix_same, same_prefix, joined}

-- ---- the calls of lines

line_on : (l : Line) (xs ys : List Line) → call_line l (xs ++ ys) ≡ call_line l xs ++ ys
line_on (CallLine name args) xs ys = refl
line_on (UncaughtLine v) xs ys = refl
line_on IdleLine xs ys = refl
line_on (EventLine k) xs ys = refl
line_on (WaitLine c) xs ys = refl
line_on (AskLine c) xs ys = refl
line_on (HereLine c) xs ys = refl
line_on (LostLine c) xs ys = refl
line_on (CutLine c) xs ys = refl

calls_on : (xs ys : List Line) → calls (xs ++ ys) ≡ calls xs ++ calls ys
calls_on [] ys = refl
calls_on (x ∷ xs) ys = ap (call_line x) (calls_on xs ys) ∙ line_on x (calls xs) (calls ys)

asks_none : (cs : List ℕ) → calls (map AskLine cs) ≡ []
asks_none [] = refl
asks_none (c ∷ cs) = asks_none cs

fills_none : (window : ℕ) (m : Moved) → calls m.lines ≡ [] → calls (fills window m).lines ≡ []
fills_none window m h = by m.loader.background
  where
    by : (b : Bool) → calls (cond b (moves (ask_all m.loader.table (to_ask window m.loader.table)) m.loader.waited true (m.lines ++ map AskLine (to_ask window m.loader.table))) m).lines ≡ []
    by true = calls_on m.lines (map AskLine (to_ask window m.loader.table)) ∙ (ap (λ l. l ++ calls (map AskLine (to_ask window m.loader.table))) h ∙ asks_none (to_ask window m.loader.table))
    by false = h

need_none : (l : Loader.Loader) (c : ℕ) (st : Loader.Status) → calls (needed l c st).lines ≡ []
need_none l c Loader.Here = refl
need_none l c Loader.Asked = refl
need_none l c Loader.Absent = refl

arrive_none : (l : Loader.Loader) (c : ℕ) (st : Loader.Status) → calls (arrived l c st).lines ≡ []
arrive_none l c Loader.Here = refl
arrive_none l c Loader.Asked = refl
arrive_none l c Loader.Absent = refl

arrives_none : (m : Moved) (c : ℕ) → calls m.lines ≡ [] → calls (arrives m c).lines ≡ []
arrives_none m c h =
    calls_on m.lines (step 0 m.loader (Loader.Arrive c)).lines
    ∙ (ap (λ l. l ++ calls (step 0 m.loader (Loader.Arrive c)).lines) h
    ∙ fills_none 0 (effect m.loader (Loader.Arrive c)) (arrive_none m.loader c (status_of m.loader.table c)))

requested_none : (l : Loader.Loader) (c : ℕ) (st : Loader.Status) → calls (requested l c st).lines ≡ []
requested_none l c Loader.Here = refl
requested_none l c Loader.Asked = arrives_none (step 0 l (Loader.Need c)) c (fills_none 0 (effect l (Loader.Need c)) (need_none l c (status_of l.table c)))
requested_none l c Loader.Absent = arrives_none (step 0 l (Loader.Need c)) c (fills_none 0 (effect l (Loader.Need c)) (need_none l c (status_of l.table c)))

request_none : (l : Loader.Loader) (o : Option ℕ) → calls (request l o).lines ≡ []
request_none l None = refl
request_none l (Some c) = requested_none l c (status_of l.table c)

moved_calls : (cluster : ℕ → Option ℕ) (l : Loader.Loader) (mark : Mark) (rest : List Line) → calls (moved_by cluster l mark).lines ++ rest ≡ call_mark mark rest
moved_calls cluster l (Called name args) rest = refl
moved_calls cluster l (Uncaught v) rest = refl
moved_calls cluster l (Idle b) rest = ap (λ x. x ++ rest) (fills_none 0 (effect l Loader.Idle) refl)
moved_calls cluster l (Entered k b) rest = ap (λ x. x ++ rest) (request_none l (cluster k))
moved_calls cluster l (Needed k) rest = ap (λ x. x ++ rest) (request_none l (cluster k))

seen_calls : (mark : Mark) (ms : List Mark) → call_mark mark (marked_calls ms) ≡ marked_calls (with_mark mark ms)
seen_calls (Called name args) ms = refl
seen_calls (Uncaught v) ms = refl
seen_calls (Idle b) ms = refl
seen_calls (Entered k b) ms = refl
seen_calls (Needed k) ms = refl

walk_calls : (cluster : ℕ → Option ℕ) (l : Loader.Loader) (t : Trace) → calls (walk cluster l t) ≡ marked_calls (seen t)
walk_calls cluster l (Say mark steps rest) =
    calls_on (moved_by cluster l mark).lines (walk cluster (moved_by cluster l mark).loader rest)
    ∙ (ap (λ x. calls (moved_by cluster l mark).lines ++ x) (walk_calls cluster (moved_by cluster l mark).loader rest)
    ∙ (moved_calls cluster l mark (marked_calls (seen rest)) ∙ seen_calls mark (seen rest)))
walk_calls cluster l (Finish o s) = refl
walk_calls cluster l (OutOfSteps s) = refl
walk_calls cluster l (IsStuck s) = refl

mark_on : (m : Mark) (xs ys : List Line) → call_mark m (xs ++ ys) ≡ call_mark m xs ++ ys
mark_on (Called name args) xs ys = refl
mark_on (Uncaught v) xs ys = refl
mark_on (Idle b) xs ys = refl
mark_on (Entered k b) xs ys = refl
mark_on (Needed k) xs ys = refl

marked_on : (xs ys : List Mark) → marked_calls (xs ++ ys) ≡ marked_calls xs ++ marked_calls ys
marked_on [] ys = refl
marked_on (x ∷ xs) ys = ap (call_mark x) (marked_on xs ys) ∙ mark_on x (marked_calls xs) (marked_calls ys)

prefix_calls : (xs ys : List Mark) → IsPrefix xs ys → IsPrefix (marked_calls xs) (marked_calls ys)
prefix_calls xs ys p = record { rest = marked_calls p.rest; is = sym (marked_on xs p.rest) ∙ ap marked_calls p.is }

-- ---- what was read

abbrev NoReport : Walked → Type 0
NoReport (Reports lines e) = ⊥
NoReport (LacksFile c) = Unit {0}
NoReport (RefusesFile c) = Unit {0}

no_line : (l : Line) (x : Walked) → NoReport x → NoReport (with_line l x)
no_line l (Reports lines e) h = absurd h
no_line l (LacksFile c) h = tt
no_line l (RefusesFile c) h = tt

with_on : (l : Line) (lines : List Line) (e : RunEnd) (x : Walked) → (x ≡ Reports lines e) ⊎ NoReport x → (with_line l x ≡ Reports (l ∷ lines) e) ⊎ NoReport (with_line l x)
with_on l lines e x (inl q) = inl (ap (with_line l) q)
with_on l lines e x (inr q) = inr (no_line l x q)

here_on : (c : ℕ) (f : ClusterFile) (lines : List Line) (e : RunEnd) (x : Walked) → (x ≡ Reports lines e) ⊎ NoReport x → (comes c f x ≡ Reports (HereLine c ∷ lines) e) ⊎ NoReport (comes c f x)
here_on c Absent lines e x h = inr tt
here_on c Refused lines e x h = inr tt
here_on c (Accepted es) lines e x h = with_on (HereLine c) lines e x h

reads_all : (file : ℕ → ClusterFile) (lines : List Line) (e : RunEnd) → (reads file lines e ≡ Reports lines e) ⊎ NoReport (reads file lines e)
reads_all file [] e = inl refl
reads_all file (CallLine name args ∷ ls) e = with_on (CallLine name args) ls e (reads file ls e) (reads_all file ls e)
reads_all file (UncaughtLine v ∷ ls) e = with_on (UncaughtLine v) ls e (reads file ls e) (reads_all file ls e)
reads_all file (IdleLine ∷ ls) e = with_on IdleLine ls e (reads file ls e) (reads_all file ls e)
reads_all file (EventLine k ∷ ls) e = with_on (EventLine k) ls e (reads file ls e) (reads_all file ls e)
reads_all file (WaitLine c ∷ ls) e = with_on (WaitLine c) ls e (reads file ls e) (reads_all file ls e)
reads_all file (AskLine c ∷ ls) e = with_on (AskLine c) ls e (reads file ls e) (reads_all file ls e)
reads_all file (HereLine c ∷ ls) e = here_on c (file c) ls e (reads file ls e) (reads_all file ls e)
reads_all file (LostLine c ∷ ls) e = with_on (LostLine c) ls e (reads file ls e) (reads_all file ls e)
reads_all file (CutLine c ∷ ls) e = with_on (CutLine c) ls e (reads file ls e) (reads_all file ls e)

-- a report is that of all lines, and its end that of the run
record Whole (lines : List Line) (x : RunEnd) (report : List ℕ) (e : End) : Type 0 where
  steps : ℕ
  report_is : report ≡ lines_text lines ++ end_text e steps
  ends : e ≡ end.Ended → Laws.without_steps x ≡ Laws.Ended
  ended : Laws.without_steps x ≡ Laws.Ended → e ≡ end.Ended

whole_of : (folder : List ℕ) (lines : List Line) (x : RunEnd) (report : List ℕ) (e : End) → answer_of folder (Reports lines x) ≡ Gives report e → Whole lines x report e
whole_of folder lines (Walk.Ended n) report end.Ended h = record { steps = n; report_is = cc; ends = λ q. refl; ended = λ q. refl }
whole_of folder lines (Walk.Ended n) report end.OutOfSteps h = cc
whole_of folder lines (Walk.RanOut n) report end.Ended h = cc
whole_of folder lines (Walk.RanOut n) report end.OutOfSteps h = record { steps = n; report_is = cc; ends = λ q. cc; ended = λ q. cc }
whole_of folder lines Walk.Broke report e h = cc

given : (folder : List ℕ) (x : Walked) (report : List ℕ) (e : End) → NoReport x → answer_of folder x ≡ Gives report e → ⊥
given folder (Reports lines y) report e n h = n
given folder (LacksFile c) report e n h = cc
given folder (RefusesFile c) report e n h = cc

read_whole : (folder : List ℕ) (file : ℕ → ClusterFile) (lines : List Line) (x : RunEnd) (report : List ℕ) (e : End) → answer_of folder (reads file lines x) ≡ Gives report e → Whole lines x report e
read_whole folder file lines x report e h = by (reads_all file lines x)
  where
    by : (reads file lines x ≡ Reports lines x) ⊎ NoReport (reads file lines x) → Whole lines x report e
    by (inl q) = whole_of folder lines x report e (ap (answer_of folder) (sym q) ∙ h)
    by (inr q) = absurd (given folder (reads file lines x) report e q h)

-- ---- the headline, and laziness

script_joined : (files : Files) (folder : List ℕ) (script : Script) (p : PutsBackTo files folder script) → Joined (entries files folder p.manifest) (site_tree p.manifest.plain p.items) script
script_joined files folder script p =
    let es = entries files folder p.manifest in
    joined es script (site_tree p.manifest.plain p.items) (script_back es (entries_late files folder p.manifest) p.manifest.plain p.items script p.back.original_is)

pub originals_are_lazy : (files : Files) (folder : List ℕ) (script : Script) (p : PutsBackTo files folder script) (n : ℕ) → original_lines p.manifest script n ≡ lazy_lines (cluster_of p.manifest) [] (seen (original script n))
originals_are_lazy files folder script p n = site_lazy p.manifest (original script n) ((script_joined files folder script p).needs n).1

ended_ran : Laws.Ended ≡ Laws.RanOut → ⊥
ended_ran q = cc

module _ (files : Files) (folder : List ℕ) (n : ℕ) (script : Script) (p : PutsBackTo files folder script) (report : List ℕ) (e : End) where
  trace : Trace
  trace = site_run files folder p.manifest p.items n

  unfolded : (for_folder files folder n).answer ≡ answer_of folder (site_played files folder p.manifest trace)
  unfolding trace
  unfolded =
      ap (λ o. (for_manifest_file files folder n o).answer) p.manifest_at
      ∙ (ap (λ o. (for_manifest files folder n o).answer) p.manifest_is
      ∙ (ap (λ o. (for_script_file files folder n p.manifest o).answer) p.script_at
      ∙ ap (λ o. (for_script files folder n p.manifest o).answer) p.items_are))

  pub folder_shows : (for_folder files folder n).answer ≡ Gives report e → ShowsOriginal report e script n
  unfolding trace
  folder_shows h =
      let j = script_joined files folder script p in
      let w = read_whole folder (file_of files folder p.manifest) (site_lines p.manifest trace) (end_of trace) report e (sym unfolded ∙ h) in
      let c = walk_calls (cluster_of p.manifest) (Loader.fresh (cluster_numbers p.manifest.clusters)) trace in
      record {
        lines = site_lines p.manifest trace;
        steps = w.steps;
        report_is = w.report_is;
        whole = λ q. c ∙ ap marked_calls (j.whole n (λ r. ended_ran (sym (w.ends q) ∙ r))).0;
        within = subst (λ x. IsPrefix x (original_calls script n)) (sym c) (prefix_calls (seen trace) (seen (original script n)) (j.within n));
        reached = λ m le. subst (λ x. IsPrefix (original_calls script m) x) (sym c) (prefix_calls (seen (original script m)) (seen trace) (j.reached m n le));
        ends = λ m le q. w.ended (j.reached_end m n le (λ r. ended_ran (sym q ∙ r))).0;
      }

  pub folder_loads : (for_folder files folder n).answer ≡ Gives report e → ShowsLoads p.manifest report e script n
  unfolding trace
  folder_loads h =
      let j = script_joined files folder script p in
      let w = read_whole folder (file_of files folder p.manifest) (site_lines p.manifest trace) (end_of trace) report e (sym unfolded ∙ h) in
      let lines_are = site_lazy p.manifest trace (j.needs n).0 in
      record {
        lines = site_lines p.manifest trace;
        steps = w.steps;
        report_is = w.report_is;
        whole = λ q. lines_are ∙ (ap (lazy_lines (cluster_of p.manifest) []) (j.whole n (λ r. ended_ran (sym (w.ends q) ∙ r))).0 ∙ sym (originals_are_lazy files folder script p n));
        within = same_prefix lines_are (prefix_same (lazy_prefix (cluster_of p.manifest) [] (seen trace) (seen (original script n)) (j.within n)) (sym (originals_are_lazy files folder script p n)));
        reached = λ m le. same_prefix (originals_are_lazy files folder script p m) (prefix_same (lazy_prefix (cluster_of p.manifest) [] (seen (original script m)) (seen trace) (j.reached m n le)) (sym lines_are));
        ends = λ m le q. w.ended (j.reached_end m n le (λ r. ended_ran (sym q ∙ r))).0;
      }

pub played_shows : (files : Files) (folder page : List ℕ) (n : ℕ) (script : Script) → PutsBackTo files folder script → (report : List ℕ) (e : End) → (played files folder page n).answer ≡ Gives report e → ShowsOriginal report e script n
played_shows files folder page n script p report e h = by (is_page page) refl h
  where
    by : (b : Bool) → is_page page ≡ b → (if b then for_folder files folder n else (record { answer = Refuses first.Page; asked = [] })).answer ≡ Gives report e → ShowsOriginal report e script n
    by true q h = folder_shows files folder n script p report e h
    by false q h = cc

pub played_loads : (files : Files) (folder page : List ℕ) (n : ℕ) (script : Script) (p : PutsBackTo files folder script) (report : List ℕ) (e : End) → (played files folder page n).answer ≡ Gives report e → ShowsLoads p.manifest report e script n
played_loads files folder page n script p report e h = by (is_page page) refl h
  where
    by : (b : Bool) → is_page page ≡ b → (if b then for_folder files folder n else (record { answer = Refuses first.Page; asked = [] })).answer ≡ Gives report e → ShowsLoads p.manifest report e script n
    by true q h = folder_loads files folder n script p report e h
    by false q h = cc

pub folder_result : (files : Files) (folder : List ℕ) (n : ℕ) (script : Script) → PutsBackTo files folder script → (before now : AskedNames) (result : Result Outcome FirstError) → Meets (for_folder files folder n) before now result → IfOk result (λ o. ShowsOriginal o.report o.end script n)
folder_result files folder n script p before now (Ok o) m = folder_shows files folder n script p o.report o.end m.0
folder_result files folder n script p before now (Err x) m = tt

pub folder_result_loads : (files : Files) (folder : List ℕ) (n : ℕ) (script : Script) (p : PutsBackTo files folder script) (before now : AskedNames) (result : Result Outcome FirstError) → Meets (for_folder files folder n) before now result → IfOk result (λ o. ShowsLoads p.manifest o.report o.end script n)
folder_result_loads files folder n script p before now (Ok o) m = folder_loads files folder n script p o.report o.end m.0
folder_result_loads files folder n script p before now (Err x) m = tt
