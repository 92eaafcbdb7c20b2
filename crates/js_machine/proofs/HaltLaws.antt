-- How a run ended, by why the machine does not go on.
use Rattle.std.proofs.Common.{subst, ◌≡◌, ℕ, ◌-◌, List, [], refl, sym, ap, ◌∙◌}
use Rattle.std.specs.Prelude.{Option, Some, None}
use Rattle.js_values.specs.declared.reason.Reason.{Reason}
use Rattle.js_values.specs.declared.value.Value.{Value}
use Rattle.exceptions_core.specs.declared.completion.Completion.TheVariants as completion
use Rattle.js_machine.specs.declared.frame.Control.{Control}
use Rattle.js_machine.specs.declared.frame.End.TheVariants as end
use Rattle.js_machine.specs.declared.frame.Over.{Over}
use Rattle.js_machine.specs.declared.frame.Over.TheVariants as over
use Rattle.js_machine.specs.declared.frame.Unbuilt.{Unbuilt}
use Rattle.js_machine.specs.declared.machine.Machine.{Machine}
use Rattle.js_machine.specs.declared.task.Halt.{Halt}
use Rattle.js_machine.specs.declared.task.Halt.TheVariants as halt
use Rattle.js_machine.specs.declared.task.Task.{Task}
use Rattle.js_machine.specs.Asks.{Gives, Ends}
use Rattle.js_machine.specs.Given.{Asked, LeadsTo, after}
use Rattle.js_machine.specs.Halts.{HaltsAs, RunsTask, RunsTo, in_task, stack_of}
use Rattle.js_machine.specs.NotBuilt.{IsNotBuilt}
use Rattle.js_machine.specs.Rest.{Outside, Same, at, over_control, rest, thrown}
use Rattle.js_machine.specs.Run.{End}
use Rattle.js_machine.specs.Rest as spec
use Rattle.js_machine.specs.Stacks.{top}
use Rattle.js_machine.proofs.GivenLaws.{goes_from, goes_to}

module _ (m : Machine) where
  pub gave : HaltsAs halt.Ended (over.End end.Gave) m
  unfolding HaltsAs rest
  gave = λ t out h. (Gives (top m.values), (h, refl))

  pub done : HaltsAs halt.Ended (over.End end.Done) m
  unfolding HaltsAs rest
  done = λ t out h. (Ends completion.Normal, (h, refl))

  pub broke : HaltsAs halt.Ended (over.End end.Broke) m
  unfolding HaltsAs rest
  broke = λ t out h. (Ends (completion.Break None), (h, refl))

  pub continued : HaltsAs halt.Ended (over.End end.Continued) m
  unfolding HaltsAs rest
  continued = λ t out h. (Ends (completion.Continue None), (h, refl))

  pub threw : (v : Value) → v ≡ top m.values → HaltsAs (halt.Uncaught v) (over.End end.Threw) m
  unfolding HaltsAs rest
  threw v e = λ t out h. h ∙ ap (λ w. End (thrown w) (spec.state m out)) (sym e)

  pub out_of_steps : HaltsAs halt.OutOfSteps (over.End end.OutOfSteps) m
  unfolding HaltsAs rest
  out_of_steps = λ t out h. h

  pub stopped : (reason : Reason) → HaltsAs (halt.Stopped reason) (over.End (end.Stopped reason)) m
  unfolding HaltsAs rest
  stopped reason = λ t out h. h

  pub not_built : (what : Unbuilt) → IsNotBuilt what m → HaltsAs halt.Unbuilt (over.Unbuilt what) m
  unfolding HaltsAs
  not_built what is = λ t out h. (what, (h, is))

-- a run goes from its start to where the machine is over
pub run_halts : (task : Task) (budget : ℕ) (old start entered stopped new : Machine) (next : Control) (why : Over) (h : Halt) (given told : List Asked)
    → old.task ≡ Some task
    → start.clock ≡ (old.clock.0, budget - old.clock.0) → start.frames ≡ [] → start.heap ≡ old.heap → start.hosts ≡ old.hosts → start.beats ≡ old.beats
    → Same (in_task task) (record start { values = stack_of task }) next entered → LeadsTo (rest next) entered given (over_control why) stopped told → new ≡ record stopped { task = None } → HaltsAs h why new → RunsTo budget old given h new told
unfolding HaltsAs RunsTo
run_halts task budget old start entered stopped new next why h given told set clock frames heap hosts beats enters goes is halts =
    let P : Option Task → Type 0 = λ t. RunsTask t budget old given h new told in
    let asks = goes.0 in
    let left = in_task task in
    let vs = stack_of task in
    subst P (sym set) (
      asks,
      (
        goes.1.0,
        λ out answers.
            let first = left (budget - old.clock.0) [] vs old.heap old.hosts old.beats old.clock.0 out in
            let last = at (rest (over_control why)) new (after asks out) in (
              last,
              (
                goes_from asks out first (at (rest next) entered out) last
                    (ap (λ c. left c.1 [] vs old.heap old.hosts old.beats c.0 out) (sym clock)
                    ∙ ap (λ fs. left start.clock.1 fs vs old.heap old.hosts old.beats start.clock.0 out) (sym frames)
                    ∙ ap (λ k. left start.clock.1 start.frames vs k old.hosts old.beats start.clock.0 out) (sym heap)
                    ∙ ap (λ k. left start.clock.1 start.frames vs start.heap k old.beats start.clock.0 out) (sym hosts)
                    ∙ ap (λ k. left start.clock.1 start.frames vs start.heap start.hosts k start.clock.0 out) (sym beats)
                    ∙ enters out)
                    (goes_to asks out (at (rest next) entered out) (at (rest (over_control why)) stopped (after asks out)) last
                    (goes.1.1 out answers) (sym (ap (λ m. at (rest (over_control why)) m (after asks out)) is))),
                halts last (after asks out) refl,
              ),
            ),
      ),
    )

-- ---- the cases of one call each

pub ruleset halt_laws = (gave, done, broke, continued, threw, out_of_steps, stopped, not_built)
