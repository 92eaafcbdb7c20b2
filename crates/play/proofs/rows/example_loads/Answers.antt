use Rattle.play.proofs.WorkedReports as worked
use Rattle.play.proofs.rows.example_loads.Goals as goal

pub returns-clause-shown : goal.returns-clause-shown
returns-clause-shown c = worked.loads

pub returns-clause-early_wait : goal.returns-clause-early_wait
returns-clause-early_wait c = worked.loads_early

pub returns-clause-late_wait : goal.returns-clause-late_wait
returns-clause-late_wait c = worked.loads_late

pub returns-clause-no_wait : goal.returns-clause-no_wait
returns-clause-no_wait c = worked.loads_none

pub returns-clause-second_wait : goal.returns-clause-second_wait
returns-clause-second_wait c = worked.loads_second

pub returns-clause-not_a_front : goal.returns-clause-not_a_front
returns-clause-not_a_front c = worked.loads_not_a_front

pub returns-clause-no_line_yet : goal.returns-clause-no_line_yet
returns-clause-no_line_yet c = worked.loads_not_yet

pub returns-clause-out_of_steps : goal.returns-clause-out_of_steps
returns-clause-out_of_steps c = worked.loads_out_of_steps
