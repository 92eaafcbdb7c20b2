use native.Mathlib.Omega.{arith}
use Rattle.std.proofs.Common.{refl}
use Rattle.js_machine.specs.declared.frame.Unbuilt.TheVariants as unbuilt
use Rattle.js_machine.specs.Halts.{HaltsAs}
use Rattle.js_machine.specs.Rest.{rest}
use Rattle.machine_rows.specs.Asking.{fresh}
use Rattle.machine_rows.proofs.halt_rows.halts_of_ends.Goals as goal

pub returns-clause-gave : goal.returns-clause-gave
unfolding HaltsAs rest
returns-clause-gave c = λ m t out h. (_, (h, refl))

pub returns-clause-broke : goal.returns-clause-broke
unfolding HaltsAs rest
returns-clause-broke c = λ m t out h. (_, (h, refl))

pub returns-clause-threw : goal.returns-clause-threw
unfolding HaltsAs rest
returns-clause-threw c = λ m t out h. h

pub returns-clause-stopped : goal.returns-clause-stopped
unfolding HaltsAs rest
returns-clause-stopped c = λ m t out h. h

pub returns-clause-out_of_steps : goal.returns-clause-out_of_steps
unfolding HaltsAs rest
returns-clause-out_of_steps c = λ m t out h. h

pub returns-clause-not_built : goal.returns-clause-not_built
unfolding HaltsAs rest
returns-clause-not_built c = λ m t out h. (unbuilt.Enter 0 (record { 0 = 13 }), (h, refl))

pub returns-clause-not_ended : goal.returns-clause-not_ended
unfolding HaltsAs rest
returns-clause-not_ended c = λ m is. let ended = is _ fresh refl in grind arith

pub returns-clause-not_out_of_steps : goal.returns-clause-not_out_of_steps
unfolding HaltsAs rest
returns-clause-not_out_of_steps c = λ m is. let ended = is _ fresh refl in grind arith

pub returns-clause-not_thrown : goal.returns-clause-not_thrown
unfolding HaltsAs rest
returns-clause-not_thrown c = λ m is. let ended = is _ fresh refl in grind arith
