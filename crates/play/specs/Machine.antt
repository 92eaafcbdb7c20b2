-- What is left of a run, by what the machine holds.
use Rattle.std.specs.Prelude.{◌≡◌, ℕ, zero, suc, ◌+◌, List, false, [], ◌∷◌, ◌++◌, length, map, Option, Some, None, slice_get, slice_set}
use Rattle.js_tree.specs.Tree
use Rattle.js_tree.specs.declared.tree.Role.TheVariants.{Plain, Stub, Late}
use Rattle.first_grammar.specs.First.{statements_tree, stub_tree}
use Rattle.first_grammar.specs.declared.script.FirstStatement.{FirstStatement}
use Rattle.play.specs.declared.manifest.ClusterLine.{ClusterLine}
use Rattle.play.specs.declared.manifest.Manifest.{Manifest}
use Rattle.play.specs.declared.table.Body.{Body}
use Rattle.play.specs.declared.table.Body.TheVariants as body
use Rattle.play.specs.declared.table.Function.{Function}
use Rattle.play.specs.declared.table.Entry.{Entry}
use Rattle.play.specs.declared.table.EntryPlace.{EntryPlace}
use Rattle.play.specs.declared.table.Table.{Table}
use Rattle.play.specs.declared.table.Frame.{Frame}
use Rattle.play.specs.declared.table.Frame.TheVariants as frame
use Rattle.play.specs.declared.machine.Machine.{Machine}
use Rattle.play.specs.declared.machine.Halt.{Halt}
use Rattle.play.specs.declared.clock.Clock.{Clock}
use Rattle.play.specs.declared.machine.Halt.TheVariants as halt
use Rattle.play.specs.declared.outcome.End.{End}
use Rattle.play.specs.Manifest.{IsManifest}
use Rattle.play.specs.Value.{Undefined, Global, Closure, NoValues, Chain, GlobalScope, FunctionScope, Normal, Env}
use Rattle.play.specs.Program.{Program, Ret, statements, on_value, after_statement, gives, returns, finish, after_script}
use Rattle.play.specs.Run.{Entered, State, Trace, Say, Stack, function_named, run}
use Rattle.play.specs.Site.{line_of, ClusterFile, cluster_name}
use Rattle.play.specs.Loader
use Rattle.play.specs.Walk.{Ended, RanOut, Broke, walk, end_of}
use Rattle.play.specs.Report.{line_text, lines_text, ended_text, out_of_steps_text, WaitLine, AskLine, HereLine}
use Rattle.play.specs.declared.outcome.End.TheVariants as end
use Rattle.play.specs.Played.{Answer, Gives, Lacks, Refuses, Broken, Answered, Walked, Reports, LacksFile, RefusesFile, reads, cluster_of, cluster_names}
use Rattle.play.specs.declared.outcome.FirstFile.TheVariants as first

-- ---- trees of the code

abbrev pub body_code : ℕ → ℕ → Body → Tree.Func
body_code number name (body.Statements code) = Tree.Code number (Some (name ∷ [])) [] (statements_tree code) Plain
body_code number name (body.Stub place) = Tree.Code number (Some (name ∷ [])) [] (stub_tree number) Stub

abbrev pub func_of : Function → Tree.Func
func_of f = body_code f.number f.name f.body

abbrev pub entry_func : Entry → Tree.Func
entry_func e = Tree.Code e.number None [] (statements_tree e.code) Late

abbrev pub entry_number : Entry → ℕ
entry_number e = e.number

-- ---- programs of the places

-- a chain of so many functions' scopes, none of which has arguments
abbrev pub chain_at : ℕ → Chain
chain_at zero = GlobalScope
chain_at (suc d) = FunctionScope NoValues (chain_at d)

abbrev pub env_at : ℕ → Env
env_at d = record { chain = chain_at d; this = Global }

abbrev pub rest_program : List FirstStatement → ℕ → Program
rest_program ss d = statements (statements_tree ss) (env_at d)

-- what waits in a frame, innermost first
abbrev pub waits_with : Frame → Stack → Stack
waits_with (frame.Call p) ks =
    finish ∷ Ret ∷ on_value gives ∷ after_statement (rest_program p.rest p.depth) ∷ ks
waits_with (frame.Late p) ks =
    finish ∷ Ret ∷ Ret ∷ on_value returns ∷ after_statement (Ret (Normal Undefined)) ∷ finish ∷ Ret ∷ on_value gives ∷ after_statement (rest_program p.rest p.depth) ∷ ks

-- the frames, the newest of which is last, over what waits below them
abbrev pub onto : Stack → List Frame → Stack
onto ks [] = ks
onto ks (f ∷ fs) = onto (waits_with f ks) fs

abbrev pub stack : List Frame → Stack
stack fs = onto (after_script ∷ []) fs

-- ---- the state and the rest of the run

abbrev pub state_of : List Function → ℕ → ℕ → State
state_of functions beats steps = record { functions = map func_of functions; errors = 0; passed = []; beats = beats; steps = steps }

-- where a body's statements are to run next
abbrev pub trace_at : (ℕ → Option Tree.Func) → ℕ → List FirstStatement → ℕ → List Frame → State → Trace
trace_at entries left ss d fs s = run entries left (rest_program ss d) (stack fs) s

-- ---- the loader

abbrev pub status : Option (List Entry) → Loader.Status
status None = Loader.Absent
status (Some es) = Loader.Here

abbrev pub statuses : List ClusterLine → List (Option (List Entry)) → Loader.Statuses
statuses [] ls = []
statuses (c ∷ cs) [] = (c.cluster, Loader.Absent) ∷ statuses cs []
statuses (c ∷ cs) (l ∷ ls) = (c.cluster, status l) ∷ statuses cs ls

abbrev pub loader_of : Table → Loader.Loader
loader_of t = record { table = statuses t.manifest.clusters t.loaded; waited = None; background = false }

-- ---- the answer, where a report was begun

abbrev pub answer_after : List ℕ → List ℕ → Walked → Answer
answer_after folder report (Reports lines (Ended n)) = Gives (report ++ (lines_text lines ++ ended_text n)) end.Ended
answer_after folder report (Reports lines (RanOut n)) = Gives (report ++ (lines_text lines ++ out_of_steps_text n)) end.OutOfSteps
answer_after folder report (Reports lines Broke) = Broken
answer_after folder report (LacksFile c) = Lacks (cluster_name folder c)
answer_after folder report (RefusesFile c) = Refuses (first.Cluster c)

-- what is still to come of the answer and of the names asked, for a rest of a run
abbrev pub left_for : List ℕ → (ℕ → ClusterFile) → Table → List ℕ → Trace → Answered
left_for folder file t report trace = record {
  answer = answer_after folder report (reads file (walk (cluster_of t.manifest) (loader_of t) trace) (end_of trace));
  asked = cluster_names folder file (walk (cluster_of t.manifest) (loader_of t) trace);
}

-- ---- what holds of a table

-- the function that a letter names, by its place
abbrev pub NameIs : List Function → ℕ → Option ℕ → Type 0
NameIs fs x None = function_named (map func_of fs) (x ∷ []) ≡ None
NameIs fs x (Some i) =
    (f : Function) × (slice_get fs i ≡ Some f) × (function_named (map func_of fs) (x ∷ []) ≡ Some (Closure (func_of f) GlobalScope))

-- the names of functions, by their letters
pub record NamesAre (fs : List Function) (names : List (Option ℕ)) : Type 0 where
  pub all : length names ≡ 256
  pub are : (x : ℕ) (o : Option ℕ) → slice_get names x ≡ Some o → NameIs fs x o

-- a stub's cluster is at its place, lists the stub's number, and has it at the entry's place
pub record StubIs (m : Manifest) (number : ℕ) (place : EntryPlace) : Type 0 where
  pub line : ClusterLine
  pub line_at : slice_get m.clusters place.cluster ≡ Some line
  pub listed : line_of m.clusters number ≡ Some line
  pub entry_at : slice_get line.entries place.entry ≡ Some number

-- no entry has the number of a plain function
abbrev pub BodyIs : Manifest → ℕ → Body → Type 0
BodyIs m number (body.Statements code) = line_of m.clusters number ≡ None
BodyIs m number (body.Stub place) = StubIs m number place

abbrev pub BodiesAre : Manifest → List Function → Type 0
BodiesAre m fs = (i : ℕ) (f : Function) → slice_get fs i ≡ Some f → BodyIs m f.number f.body

pub record IsSound (t : Table) : Type 0 where
  pub all_loaded : length t.loaded ≡ length t.manifest.clusters
  pub names : NamesAre t.functions t.names
  pub bodies : BodiesAre t.manifest t.functions
  pub loaded : (i : ℕ) (line : ClusterLine) (es : List Entry) → slice_get t.manifest.clusters i ≡ Some line → slice_get t.loaded i ≡ Some (Some es) → map (λ e. e.number) es ≡ line.entries
  pub form : IsManifest t.manifest

-- the entries that are here have these functions
pub record Agrees (entries : ℕ → Option Tree.Func) (t : Table) : Type 0 where
  pub here : (i : ℕ) (es : List Entry) (j : ℕ) (e : Entry) → slice_get t.loaded i ≡ Some (Some es) → slice_get es j ≡ Some e → entries e.number ≡ Some (entry_func e)

-- the table with the entries of one more cluster
abbrev pub with_entries : Table → ℕ → List Entry → Table
with_entries t place es = record { manifest = t.manifest; functions = t.functions; names = t.names; loaded = slice_set t.loaded place (Some es) }

-- the lines of a cluster that is needed and comes at once
abbrev pub arrived_report : List ℕ → ℕ → List ℕ
arrived_report report c =
    ((report ++ line_text (WaitLine c)) ++ line_text (AskLine c))
    ++ line_text (HereLine c)

abbrev pub with_arrival : Machine → ℕ → Machine
with_arrival m c = record m { report = arrived_report m.report c }

-- ---- the machine

abbrev pub trace_of : (ℕ → Option Tree.Func) → Table → Machine → Trace
trace_of entries t m = trace_at entries m.clock.left m.place.rest m.place.depth m.frames (state_of t.functions m.clock.beats m.clock.steps)

-- the machine of a script that begins, by its statements, with its first step taken
abbrev pub begun : List FirstStatement → Clock → Machine
begun ss clock = record { place = record { rest = ss; depth = 0 }; frames = []; clock = clock; report = [] }

-- what is still to come for a machine
abbrev pub left_of : (ℕ → Option Tree.Func) → List ℕ → (ℕ → ClusterFile) → Table → Machine → Answered
left_of entries folder file t m = left_for folder file t m.report (trace_of entries t m)

-- what is still to come stays the same
pub record Keeps (t : Table) (old new : Machine) : Type 0 where
  pub same : (entries : ℕ → Option Tree.Func) (folder : List ℕ) (file : ℕ → ClusterFile) → Agrees entries t → left_of entries folder file t new ≡ left_of entries folder file t old

-- nothing is to come but the end of the report
abbrev pub Ends : Table → Machine → Machine → (ℕ → List ℕ) → End → Type 0
Ends t old new text e =
    (entries : ℕ → Option Tree.Func) (folder : List ℕ) (file : ℕ → ClusterFile) → Agrees entries t
    → left_of entries folder file t old ≡ record { answer = Gives (new.report ++ text new.clock.steps) e; asked = [] }

-- the next mark is the entry of a stub whose cluster, at this place, is not here
pub record NeedsNext (t : Table) (m : Machine) (place : ℕ) : Type 0 where
  pub number : ℕ
  pub line : ClusterLine
  pub line_at : slice_get t.manifest.clusters place ≡ Some line
  pub listed : line_of t.manifest.clusters number ≡ Some line
  pub absent : slice_get t.loaded place ≡ Some None
  pub enters : (entries : ℕ → Option Tree.Func) → (b : ℕ) × (i : ℕ) × (rest : Trace) × (trace_of entries t m ≡ Say (Entered number b) i rest)

abbrev pub Halts : Table → Machine → Machine → Halt → Type 0
Halts t old new halt.Ended = Ends t old new ended_text end.Ended
Halts t old new halt.OutOfSteps = Ends t old new out_of_steps_text end.OutOfSteps
Halts t old new (halt.Needs place) = Keeps t old new × NeedsNext t new place

-- what a turn of the machine leaves
abbrev pub Turns : Table → Machine → Machine → Option Halt → Type 0
Turns t old new None = Keeps t old new
Turns t old new (Some h) = Halts t old new h

-- for the measure of a run
abbrev pub work : Machine → ℕ
work m = m.clock.left + m.clock.left + length m.frames
