use Rattle.play.proofs.WorkedReports as worked
use Rattle.play.proofs.rows.example_reports.Goals as goal

pub returns-clause-shown : goal.returns-clause-shown
returns-clause-shown c = worked.shows

pub returns-clause-call_more : goal.returns-clause-call_more
returns-clause-call_more c = worked.call_more

pub returns-clause-call_less : goal.returns-clause-call_less
returns-clause-call_less c = worked.call_less

pub returns-clause-other_order : goal.returns-clause-other_order
returns-clause-other_order c = worked.other_order

pub returns-clause-uncaught_more : goal.returns-clause-uncaught_more
returns-clause-uncaught_more c = worked.uncaught_more

pub returns-clause-not_a_front : goal.returns-clause-not_a_front
returns-clause-not_a_front c = worked.not_a_front

pub returns-clause-no_call_yet : goal.returns-clause-no_call_yet
returns-clause-no_call_yet c = worked.no_call_yet

pub returns-clause-out_of_steps : goal.returns-clause-out_of_steps
returns-clause-out_of_steps c = worked.out_of_steps
