-- What holds of every run.
use Rattle.std.specs.Prelude.{◌≡◌, ◌≢◌, ℕ, suc, ◌+◌, ◌-◌, ◌^◌, ◌≤◌, ◌<◌, nat_le, List, [], ◌++◌}
use Rattle.std.specs.Prelude.{take_while, length}
use Rattle.js_values.specs.declared.reason.Reason.{Reason}
use Rattle.js_values.specs.declared.reason.Reason.TheVariants.{LongText}
use Rattle.js_values.specs.declared.value.Value.{Value}
use Rattle.js_calls.specs.Apply as calls
use Rattle.js_tree.specs.Tree.{Func, Script}
use Rattle.js_machine.specs.Asks.{Program, Node, Env, Outcome, Stop}
use Rattle.js_machine.specs.State.{State}
use Rattle.js_machine.specs.Programs.{program}
use Rattle.js_machine.specs.Applying.{values_from}
use Rattle.js_machine.specs.Conversions.{text_or_stop}
use Rattle.js_machine.specs.Run.{World, Mark, Trace, Say, End, Stopped, NoEntry, Stack, pop, due}
use Rattle.js_machine.specs.Run.{run}
use Rattle.js_machine.specs.Run as run_of
use Rattle.js_machine.specs.Page.{Page, page_run}
use Rattle.js_machine.specs.Logs.{timed_marks, marks_of, ending_of, OutOfSteps}

-- ---- steps never fall and never pass the budget

-- the marks and the end have steps from the first on to the most; they never fall, and the run is
-- out of steps at the most alone
pub data Rises : ℕ → ℕ → Trace → Type 0 where
  says : {first most steps : ℕ} {mark : Mark} {rest : Trace}
      → first ≤ steps → Rises steps most rest → Rises first most (Say mark steps rest)
  ends : {first most : ℕ} {o : Outcome} {s : State}
      → first ≤ s.steps → s.steps ≤ most → Rises first most (End o s)
  stops : {first most : ℕ} {reason : Reason} {s : State}
      → first ≤ s.steps → s.steps ≤ most → Rises first most (Stopped reason s)
  has_no_entry : {first most : ℕ} {s : State}
      → first ≤ s.steps → s.steps ≤ most → Rises first most (NoEntry s)
  runs_out : {first most : ℕ} {s : State}
      → first ≤ s.steps → s.steps ≡ most → Rises first most (run_of.OutOfSteps s)

abbrev pub StepsRise : Type 0
StepsRise =
    (world : World) (n : ℕ) (p : Program) (ks : Stack) (s : State)
    → Rises s.steps (n + s.steps) (run world n p ks s)

-- ---- a run under fewer steps is a cut of the run under more

-- where the one is out of steps at the most, what the other has from there on comes later; else
-- they are alike
pub data IsCut : ℕ → Trace → Trace → Type 0 where
  same_mark : {most steps : ℕ} {mark : Mark} {rest more : Trace}
      → steps ≤ most → IsCut most rest more → IsCut most (Say mark steps rest) (Say mark steps more)
  same_end : {most : ℕ} {o : Outcome} {s : State} → IsCut most (End o s) (End o s)
  same_stop : {most : ℕ} {reason : Reason} {s : State}
      → IsCut most (Stopped reason s) (Stopped reason s)
  same_need : {most : ℕ} {s : State} → IsCut most (NoEntry s) (NoEntry s)
  same_out : {most : ℕ} {s : State}
      → IsCut most (run_of.OutOfSteps s) (run_of.OutOfSteps s)
  cut : {most top : ℕ} {s : State} {more : Trace}
      → Rises (suc most) top more → IsCut most (run_of.OutOfSteps s) more

abbrev pub RunsGrow : Type 0
RunsGrow =
    (world : World) (n m : ℕ) (p : Program) (ks : Stack) (s : State) → n ≤ m
    → IsCut (n + s.steps) (run world n p ks s) (run world m p ks s)

abbrev pub IsPrefixOf : {A : Type 0} → List A → List A → Type 0
IsPrefixOf {A = A} xs ys = (rest : List A) × (xs ++ rest ≡ ys)

-- for the run of a page, original or written
pub record PageGrows (entries : List (ℕ × Func)) (all : List Script) (page : Page) (n m : ℕ)
    : Type 0 where
  pub marks : IsPrefixOf (marks_of (page_run entries all page n))
      (marks_of (page_run entries all page m))
  -- each mark carries the steps at which it was made: under n steps there are just those of more
  -- that came within n
  pub times : timed_marks (page_run entries all page n)
      ≡ take_while (λ mark. nat_le mark.1 n) (timed_marks (page_run entries all page m))
  -- an end other than out of steps stays
  pub stays : ending_of (page_run entries all page n) ≢ OutOfSteps
      → page_run entries all page n ≡ page_run entries all page m

abbrev pub PagesGrow : Type 0
PagesGrow =
    (entries : List (ℕ × Func)) (all : List Script) (page : Page) (n m : ℕ) → n ≤ m
    → PageGrows entries all page n m

abbrev pub PagesRise : Type 0
PagesRise =
    (entries : List (ℕ × Func)) (all : List Script) (page : Page) (n : ℕ)
    → Rises 0 n (page_run entries all page n)

-- ---- the meaning of a node is that of its parts

-- of a node under so many steps
abbrev pub mean : World → Node → Env → State → ℕ → Trace
mean world node env s n = due world n (program node env) [] s

-- what waits goes on from where a run ended, where so many steps are allowed from the beginning on
abbrev pub resume : World → ℕ → Stack → Trace → Trace
resume world total ks (Say mark steps rest) = Say mark steps (resume world total ks rest)
resume world total ks (End o s) = pop world (due world (total - s.steps)) ks o s
resume world total ks (run_of.OutOfSteps s) = run_of.OutOfSteps s
resume world total ks (Stopped reason s) = Stopped reason s
resume world total ks (NoEntry s) = NoEntry s

-- under a stack a node runs as it does alone, and what waits goes on from its end
abbrev pub NodesHaveParts : Type 0
NodesHaveParts =
    (world : World) (node : Node) (env : Env) (s : State) (n : ℕ) (ks : Stack)
    → due world n (program node env) ks s
    ≡ resume world (n + s.steps) ks (mean world node env s n)

-- ---- the list of `apply`

abbrev pub with_steps : ℕ → State → State
with_steps count s = record s { steps = count + s.steps }

-- so many steps are taken, and then the values are read as js_calls has them
abbrev pub ListsAreApplied : Type 0
ListsAreApplied =
    (world : World) (n count index o : ℕ) (known : List Value) (k : List Value → Program)
    (ks : Stack) (s : State)
    → run world (count + n) (values_from count index o known k) ks s
    ≡ run world n (k (known ++ calls.values_from s.heap s.scopes o index count)) ks
    (with_steps count s)

-- ---- long texts

pub record LongTextsStop : Type 0 where
  pub stops : (text : List ℕ) (k : List ℕ → Program) → 2 ^ 26 < length text
      → text_or_stop text k ≡ Stop LongText
  pub goes_on : (text : List ℕ) (k : List ℕ → Program) → length text ≤ 2 ^ 26
      → text_or_stop text k ≡ k text
