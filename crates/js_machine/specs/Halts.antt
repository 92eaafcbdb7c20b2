-- How the run of a task ends, and in which state.
use Rattle.std.specs.Prelude.{◌≡◌, ℕ, ◌-◌, List, [], ◌∷◌, ◌++◌, length, reverse, Option, Some, None}
use Rattle.js_values.specs.declared.value.ObjectId.{ObjectId}
use Rattle.js_values.specs.declared.value.Value.{Value}
use Rattle.js_values.specs.declared.value.Value.TheVariants as value
use Rattle.exceptions_core.specs.declared.completion.Completion.{Completion}
use Rattle.exceptions_core.specs.declared.completion.Completion.TheVariants as completion
use Rattle.object_heap.specs.Objects.{Heap}
use Rattle.js_tree.specs.declared.tree.Stmt.{Stmt}
use Rattle.js_tree.specs.Plain as view
use Rattle.js_tree.specs.Tree.{Script}
use Rattle.js_machine.specs.declared.frame.Unbuilt.{Unbuilt}
use Rattle.js_machine.specs.declared.frame.Control.TheVariants as control
use Rattle.js_machine.specs.declared.frame.Over.{Over}
use Rattle.js_machine.specs.declared.machine.Machine.{Machine}
use Rattle.js_machine.specs.declared.task.Halt.{Halt}
use Rattle.js_machine.specs.declared.task.Halt.TheVariants as halt
use Rattle.js_machine.specs.declared.task.Task.{Task}
use Rattle.js_machine.specs.declared.task.Task.TheVariants as tasks
use Rattle.js_machine.specs.declared.hosts.HostCall.{HostCall}
use Rattle.js_machine.specs.Asks.{Enter, Outcome, Gives, Ends, Ret}
use Rattle.js_machine.specs.Entries.{enter_script}
use Rattle.js_machine.specs.Given.{Answers, Asked, Goes, after}
use Rattle.js_machine.specs.NotBuilt.{IsNotBuilt}
use Rattle.js_machine.specs.Page.{script_env}
use Rattle.js_machine.specs.References.{global_value}
use Rattle.js_machine.specs.Rest.{Left, Outside, at, entering, over_control, rest, running}
use Rattle.js_machine.specs.Rest.{starting, state, thrown}
use Rattle.js_machine.specs.Run.{Trace, End, OutOfSteps, Stopped}

-- what was thrown and not caught
abbrev pub thrown_by : Completion → Option Value
thrown_by completion.Normal = None
thrown_by (completion.Break label) = None
thrown_by (completion.Continue label) = None
thrown_by (completion.Return v) = None
thrown_by (completion.Throw v) = Some v

abbrev pub uncaught : Outcome → Option Value
uncaught (Gives v) = None
uncaught (Ends c) = thrown_by c

-- the run of a script, from where the machine stands
unfoldable pub in_script : Script → Left
in_script script = starting (enter_script script script_env)

-- the run ends so, in the machine's state; or it goes on with what is not built yet
abbrev pub HaltsIn : Halt → Trace → Machine → Outside → Type 0
HaltsIn halt.Ended t m out = (o : Outcome) × ((t ≡ End o (state m out)) × (uncaught o ≡ None))
HaltsIn (halt.Uncaught v) t m out = t ≡ End (thrown v) (state m out)
HaltsIn halt.OutOfSteps t m out = t ≡ OutOfSteps (state m out)
HaltsIn (halt.Stopped reason) t m out = t ≡ Stopped reason (state m out)
-- no function is entered yet
HaltsIn halt.LateFailed t m out = ⊥
HaltsIn halt.Unbuilt t m out =
    (what : Unbuilt) × ((t ≡ at (rest (control.Unbuilt what)) m out) × IsNotBuilt what m)

-- the same where the machine stands, since it does not go on
unfoldable pub HaltsAs : Halt → Over → Machine → Type 0
HaltsAs halt over m =
    (t : Trace) (out : Outside) → t ≡ at (rest (over_control over)) m out → HaltsIn halt t m out

-- the arguments of a call above its `this`, the newest first
abbrev pub called_with : List Value → List Value
called_with arguments = reverse arguments ++ global_value ∷ []

-- the call of a function of a page, from where the machine stands
abbrev pub in_call : ObjectId → List Value → Left
in_call f arguments = running (Enter (value.Object f) global_value arguments Ret)

-- a function that is entered with its arguments above the global object is called so
abbrev pub CallsAreEntered : Type 0
CallsAreEntered =
    (f : ObjectId) (arguments : List Value) (n : ℕ) (heap : Heap) (hosts : List HostCall)
    (beats steps : ℕ) (out : Outside)
    → entering (length arguments) f n [] (called_with arguments) heap hosts beats steps out
    ≡ in_call f arguments n [] [] heap hosts beats steps out

-- a script is set as the task
abbrev pub Starts : Script → Machine → Machine → Type 0
Starts script old new = (code : List Stmt)
    × ((view.body code ≡ script) × (new ≡ record old { task = Some (tasks.Script code) }))

-- the call of a function is set as the task
abbrev pub StartsCall : ObjectId → List Value → Machine → Machine → Type 0
StartsCall f arguments old new = new ≡ record old {
  task = Some (tasks.Call (length arguments) f (called_with arguments));
}

-- what a task runs, and the values that it finds, the newest first
abbrev pub in_task : Task → Left
in_task (tasks.Script code) = in_script (view.body code)
in_task (tasks.Call count f vs) = entering count f

abbrev pub stack_of : Task → List Value
stack_of (tasks.Script code) = []
stack_of (tasks.Call count f vs) = vs

-- the run of a task within so many steps, those before included, from one machine to another,
-- and what was asked before and behind it
abbrev pub RunsFrom : Task → ℕ → Machine → List Asked → Halt → Machine → List Asked → Type 0
RunsFrom task budget old given halt new given' =
    (asked : List Asked) × ((given' ≡ given ++ asked) × ((out : Outside) → Answers asked out →
    (t : Trace) × (Goes asked out
    (in_task task (budget - old.clock.0) [] (stack_of task) old.heap old.hosts old.beats old.clock.0 out) t
    × HaltsIn halt t new (after asked out))))

abbrev pub RunsTask : Option Task → ℕ → Machine → List Asked → Halt → Machine → List Asked → Type 0
RunsTask None budget old given halt new given' = ⊥
RunsTask (Some task) budget old given halt new given' = RunsFrom task budget old given halt new given'

-- the run of the task that is set
unfoldable pub RunsTo : ℕ → Machine → List Asked → Halt → Machine → List Asked → Type 0
RunsTo budget old given halt new given' = RunsTask old.task budget old given halt new given'
