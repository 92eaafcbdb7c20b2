use native.Mathlib.Omega.{arith}
use Rattle.std.proofs.Common.{◌≡◌, refl, List, ◌∷◌, [], true}
use Rattle.js_machine.specs.Given.{Asked, Needed}
use Rattle.js_machine.specs.Halts.{RunsTo, in_script}
use Rattle.machine_rows.proofs.halt_rows.runs_of_tasks.Goals as goal

pub returns-clause-ends : goal.returns-clause-ends
unfolding RunsTo in_script
returns-clause-ends c = λ m. ([], (refl, λ out answers. (_, (refl, (_, (refl, refl))))))

pub returns-clause-out_of_steps : goal.returns-clause-out_of_steps
unfolding RunsTo in_script
returns-clause-out_of_steps c = λ m. ([], (refl, λ out answers. (_, (refl, refl))))

pub returns-clause-keeps_what_was_asked : goal.returns-clause-keeps_what_was_asked
unfolding RunsTo in_script
returns-clause-keeps_what_was_asked c = λ m. ([], (refl, λ out answers. (_, (refl, (_, (refl, refl))))))

pub returns-clause-forgets : goal.returns-clause-forgets
unfolding RunsTo
returns-clause-forgets c = λ m run.
    let e : ◌≡◌ {A = List Asked} [] (Needed 7 true ∷ run.0) = run.1.0 in
    grind arith

pub returns-clause-no_task : goal.returns-clause-no_task
unfolding RunsTo
returns-clause-no_task c = λ m x. x

pub returns-clause-calls_the_host : goal.returns-clause-calls_the_host
unfolding RunsTo in_script
returns-clause-calls_the_host c = λ m.
    (_, (refl, λ out answers. (_, ((_, ((3, refl), refl)), (_, (refl, refl))))))

pub returns-clause-throws : goal.returns-clause-throws
unfolding RunsTo in_script
returns-clause-throws c = λ m. ([], (refl, λ out answers. (_, (refl, refl))))
