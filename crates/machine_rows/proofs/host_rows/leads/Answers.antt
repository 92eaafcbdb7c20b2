use Rattle.std.proofs.Common.{refl, ◌∷◌, [], true}
use Rattle.js_machine.specs.Given.{Called, Needed}
use Rattle.js_machine.specs.Rest.{rest}
use Rattle.machine_rows.specs.Samples.{whole}
use Rattle.machine_rows.specs.Writing.{a}
use Rattle.machine_rows.proofs.host_rows.leads.Goals as goal

pub returns-clause-need : goal.returns-clause-need
unfolding rest
returns-clause-need c = λ m. (Needed 7 true ∷ [], (refl, λ out answers. (_, ((m.clock.0, refl), refl))))

pub returns-clause-call : goal.returns-clause-call
unfolding rest
returns-clause-call c = λ v m. (
  Called a (whole 7 ∷ []) v ∷ [],
  (
    refl,
    λ out answers.
        (_, ((m.clock.0, refl), rw answers.0)),
  ),
)
