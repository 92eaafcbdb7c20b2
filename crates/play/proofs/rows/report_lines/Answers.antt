use Rattle.std.specs.Prelude.{refl}
use Rattle.std.specs.Fmt.{digits}
use Rattle.play.proofs.rows.report_lines.Goals as goal

pub returns-clause-call : goal.returns-clause-call
unfolding digits
returns-clause-call c = refl

pub returns-clause-call_of_nothing : goal.returns-clause-call_of_nothing
unfolding digits
returns-clause-call_of_nothing c = refl

pub returns-clause-quoted : goal.returns-clause-quoted
unfolding digits
returns-clause-quoted c = refl

pub returns-clause-uncaught : goal.returns-clause-uncaught
unfolding digits
returns-clause-uncaught c = refl

pub returns-clause-uncaught_text : goal.returns-clause-uncaught_text
unfolding digits
returns-clause-uncaught_text c = refl

pub returns-clause-idle : goal.returns-clause-idle
unfolding digits
returns-clause-idle c = refl

pub returns-clause-event : goal.returns-clause-event
unfolding digits
returns-clause-event c = refl

pub returns-clause-wait : goal.returns-clause-wait
unfolding digits
returns-clause-wait c = refl

pub returns-clause-ask : goal.returns-clause-ask
unfolding digits
returns-clause-ask c = refl

pub returns-clause-here : goal.returns-clause-here
unfolding digits
returns-clause-here c = refl

pub returns-clause-lost : goal.returns-clause-lost
unfolding digits
returns-clause-lost c = refl

pub returns-clause-cut : goal.returns-clause-cut
unfolding digits
returns-clause-cut c = refl

pub returns-clause-ended : goal.returns-clause-ended
unfolding digits
returns-clause-ended c = refl

pub returns-clause-out_of_steps : goal.returns-clause-out_of_steps
unfolding digits
returns-clause-out_of_steps c = refl

pub returns-clause-in_order : goal.returns-clause-in_order
unfolding digits
returns-clause-in_order c = refl
