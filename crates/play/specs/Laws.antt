-- Cuts, marks and ends of runs, and the law that joins the original run of a script and its written run.
use Rattle.std.specs.Prelude.{◌≡◌, ◌≢◌, ℕ, ◌+◌, ◌-◌, ◌*◌, ◌≤◌, List, [], ◌∷◌, ◌++◌, Option, Some, None, slice_get}
use Rattle.js_tree.specs.Tree.{Name, Func, Code, Script}
use Rattle.js_tree.specs.declared.tree.Role.TheVariants.{Late}
use Rattle.first_grammar.specs.First.{statements_tree}
use Rattle.first_grammar.specs.declared.script.FirstStatement.{FirstStatement}
use Rattle.play.specs.Value.{Outcome, Shown, Env}
use Rattle.play.specs.Program.{Node, program}
use Rattle.play.specs.Run.{State, Mark, Called, Uncaught, Idle, Entered, Needed, Trace, Say, End, OutOfSteps, IsStuck, Stack, pop, due}
use Rattle.play.specs.Page.{written, original}
use Rattle.play.specs.Walk
use Rattle.play.specs.Walk.{RunEnd, end_of}

-- ---- growth

-- the one run is the other, up to where it ran out of steps
pub data IsCut : Trace → Trace → Type 0 where
  cut : {s : State} {t : Trace} → IsCut (OutOfSteps s) t
  same_end : {o : Outcome} {s : State} → IsCut (End o s) (End o s)
  same_stuck : {s : State} → IsCut (IsStuck s) (IsStuck s)
  said : {m : Mark} {i : ℕ} {t t' : Trace} → IsCut t t' → IsCut (Say m i t) (Say m i t')

-- ---- parts

-- the meaning of a node under n steps
abbrev pub mean : (ℕ → Option Func) → Node → Env → State → ℕ → Trace
mean entries node env s n = due entries n (program entries node env) [] s

-- goes on from where a run ended, where total steps are allowed from the beginning on
abbrev pub resume : (ℕ → Option Func) → ℕ → Stack → Trace → Trace
resume entries total ks (Say m i t) = Say m i (resume entries total ks t)
resume entries total ks (End o s) = pop entries (due entries (total - s.steps)) ks o s
resume entries total ks (OutOfSteps s) = OutOfSteps s
resume entries total ks (IsStuck s) = IsStuck s

-- ---- marks and ends

-- the marks but Needed, which an original does not make
abbrev pub with_mark : Mark → List Mark → List Mark
with_mark (Called name args) ms = Called name args ∷ ms
with_mark (Uncaught v) ms = Uncaught v ∷ ms
with_mark (Idle beat) ms = Idle beat ∷ ms
with_mark (Entered number beat) ms = Entered number beat ∷ ms
with_mark (Needed number) ms = ms

abbrev pub seen : Trace → List Mark
seen (Say m i t) = with_mark m (seen t)
seen (End o s) = []
seen (OutOfSteps s) = []
seen (IsStuck s) = []

-- the steps taken when each of these marks was made
abbrev pub with_time : Mark → ℕ → List ℕ → List ℕ
with_time (Called name args) i is = i ∷ is
with_time (Uncaught v) i is = i ∷ is
with_time (Idle beat) i is = i ∷ is
with_time (Entered number beat) i is = i ∷ is
with_time (Needed number) i is = is

abbrev pub times : Trace → List ℕ
times (Say m i t) = with_time m i (times t)
times (End o s) = []
times (OutOfSteps s) = []
times (IsStuck s) = []

-- how a run ends, without its steps, which differ between the two runs
pub data EndKind : Type 0 where
  Ended : EndKind
  RanOut : EndKind
  Broke : EndKind

abbrev pub without_steps : RunEnd → EndKind
without_steps (Walk.Ended steps) = Ended
without_steps (Walk.RanOut steps) = RanOut
without_steps Walk.Broke = Broke

abbrev pub ending : Trace → EndKind
ending t = without_steps (end_of t)

pub record IsPrefix {A : Type 0} (xs ys : List A) : Type 0 where
  pub rest : List A
  pub is : xs ++ rest ≡ ys

-- each Needed stands right behind the entry of its number
pub data NeedsFollow : Trace → Type 0 where
  ended : {o : Outcome} {s : State} → NeedsFollow (End o s)
  ran_out : {s : State} → NeedsFollow (OutOfSteps s)
  stuck : {s : State} → NeedsFollow (IsStuck s)
  called : {name : Name} {args : List Shown} {i : ℕ} {t : Trace} → NeedsFollow t → NeedsFollow (Say (Called name args) i t)
  uncaught : {v : Shown} {i : ℕ} {t : Trace} → NeedsFollow t → NeedsFollow (Say (Uncaught v) i t)
  idle : {b i : ℕ} {t : Trace} → NeedsFollow t → NeedsFollow (Say (Idle b) i t)
  entered : {k b i : ℕ} {t : Trace} → NeedsFollow t → NeedsFollow (Say (Entered k b) i t)
  needed : {k b i j : ℕ} {t : Trace} → NeedsFollow t → NeedsFollow (Say (Entered k b) i (Say (Needed k) j t))

-- ---- the two runs

-- each entry that is there is a late function of its number, with statements of the first grammar
pub record IsLate (entries : ℕ → Option Func) : Type 0 where
  pub each : (k : ℕ) (f : Func) → entries k ≡ Some f → (body : List FirstStatement) × (f ≡ Code k None [] (statements_tree body) Late)

-- what joins the run of a written script and that of its original
pub record Joined (entries : ℕ → Option Func) (written_script original_script : Script) : Type 0 where
  -- a run under more steps goes on from a run under fewer
  pub grows : (n m : ℕ) → n ≤ m → IsCut (written entries written_script n) (written entries written_script m) × IsCut (original original_script n) (original original_script m)
  -- what the written run shows under n steps, the original shows under n steps
  pub within : (n : ℕ) → IsPrefix (seen (written entries written_script n)) (seen (original original_script n))
  -- where the written run did not run out of steps, it shows all and both ended
  pub whole : (n : ℕ) → ending (written entries written_script n) ≢ RanOut
      → (seen (written entries written_script n) ≡ seen (original original_script n)) × (ending (written entries written_script n) ≡ Ended) × (ending (original original_script n) ≡ Ended)
  -- what the original shows under m steps, the written run shows under 32 * m + 32
  pub reached : (m n : ℕ) → 32 * m + 32 ≤ n → IsPrefix (seen (original original_script m)) (seen (written entries written_script n))
  -- where the original did not run out of steps, both ended
  pub reached_end : (m n : ℕ) → 32 * m + 32 ≤ n → ending (original original_script m) ≢ RanOut → (ending (written entries written_script n) ≡ Ended) × (ending (original original_script m) ≡ Ended)
  -- a mark of the original at o steps stands in the written run at r steps
  pub timely : (m n i o r : ℕ) → slice_get (times (original original_script m)) i ≡ Some o → slice_get (times (written entries written_script n)) i ≡ Some r → (o ≤ r) × (r ≤ 32 * o + 32)
  pub needs : (n : ℕ) → NeedsFollow (written entries written_script n) × NeedsFollow (original original_script n)
