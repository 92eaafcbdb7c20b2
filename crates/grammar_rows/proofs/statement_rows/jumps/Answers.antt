use Rattle.grammar_rows.proofs.texts.JumpsTexts as text
use Rattle.grammar_rows.proofs.statement_rows.jumps.Goals as goal

pub returns-clause-returns : goal.returns-clause-returns
returns-clause-returns c = text.returns

pub returns-clause-no_return : goal.returns-clause-no_return
returns-clause-no_return c = text.no_return

pub returns-clause-no_return_in_blocks : goal.returns-clause-no_return_in_blocks
returns-clause-no_return_in_blocks c = text.no_return_in_blocks

pub returns-clause-no_return_behind : goal.returns-clause-no_return_behind
returns-clause-no_return_behind c = text.no_return_behind

pub returns-clause-continues : goal.returns-clause-continues
returns-clause-continues c = text.continues

pub returns-clause-continues_inside : goal.returns-clause-continues_inside
returns-clause-continues_inside c = text.continues_inside

pub returns-clause-continues_in_tries : goal.returns-clause-continues_in_tries
returns-clause-continues_in_tries c = text.continues_in_tries

pub returns-clause-no_continue : goal.returns-clause-no_continue
returns-clause-no_continue c = text.no_continue

pub returns-clause-no_continue_in_switches : goal.returns-clause-no_continue_in_switches
returns-clause-no_continue_in_switches c = text.no_continue_in_switches

pub returns-clause-no_continue_in_functions : goal.returns-clause-no_continue_in_functions
returns-clause-no_continue_in_functions c = text.no_continue_in_functions

pub returns-clause-no_continue_behind : goal.returns-clause-no_continue_behind
returns-clause-no_continue_behind c = text.no_continue_behind

pub returns-clause-no_continue_in_header : goal.returns-clause-no_continue_in_header
returns-clause-no_continue_in_header c = text.no_continue_in_header

pub returns-clause-breaks : goal.returns-clause-breaks
returns-clause-breaks c = text.breaks

pub returns-clause-breaks_inside : goal.returns-clause-breaks_inside
returns-clause-breaks_inside c = text.breaks_inside

pub returns-clause-no_break : goal.returns-clause-no_break
returns-clause-no_break c = text.no_break

pub returns-clause-no_break_in_choices : goal.returns-clause-no_break_in_choices
returns-clause-no_break_in_choices c = text.no_break_in_choices

pub returns-clause-no_break_in_functions : goal.returns-clause-no_break_in_functions
returns-clause-no_break_in_functions c = text.no_break_in_functions

pub returns-clause-no_break_behind : goal.returns-clause-no_break_behind
returns-clause-no_break_behind c = text.no_break_behind
