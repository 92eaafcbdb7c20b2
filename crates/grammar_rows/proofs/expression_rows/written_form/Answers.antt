use Rattle.grammar_rows.proofs.texts.WrittenFormTexts as text
use Rattle.grammar_rows.proofs.expression_rows.written_form.Goals as goal

pub returns-clause-late : goal.returns-clause-late
returns-clause-late c = text.late

pub returns-clause-new_late : goal.returns-clause-new_late
returns-clause-new_late c = text.new_late

pub returns-clause-no_zero : goal.returns-clause-no_zero
returns-clause-no_zero c = text.no_zero

pub returns-clause-no_wider : goal.returns-clause-no_wider
returns-clause-no_wider c = text.no_wider

pub returns-clause-in_hexadecimal : goal.returns-clause-in_hexadecimal
returns-clause-in_hexadecimal c = text.in_hexadecimal

pub returns-clause-no_name : goal.returns-clause-no_name
returns-clause-no_name c = text.no_name

pub returns-clause-one_number : goal.returns-clause-one_number
returns-clause-one_number c = text.one_number

pub returns-clause-only_get : goal.returns-clause-only_get
returns-clause-only_get c = text.only_get

pub returns-clause-only_called : goal.returns-clause-only_called
returns-clause-only_called c = text.only_called

pub returns-clause-no_text : goal.returns-clause-no_text
returns-clause-no_text c = text.no_text

pub returns-clause-get_is_called : goal.returns-clause-get_is_called
returns-clause-get_is_called c = text.get_is_called

pub returns-clause-both_closed : goal.returns-clause-both_closed
returns-clause-both_closed c = text.both_closed

pub returns-clause-no_target : goal.returns-clause-no_target
returns-clause-no_target c = text.no_target

pub returns-clause-no_get_alone : goal.returns-clause-no_get_alone
returns-clause-no_get_alone c = text.no_get_alone

pub returns-clause-not_in_source : goal.returns-clause-not_in_source
returns-clause-not_in_source c = text.not_in_source

pub returns-clause-cells : goal.returns-clause-cells
returns-clause-cells c = text.cells

pub returns-clause-bound_cells : goal.returns-clause-bound_cells
returns-clause-bound_cells c = text.bound_cells

pub returns-clause-cell_zero : goal.returns-clause-cell_zero
returns-clause-cell_zero c = text.cell_zero

pub returns-clause-cell_with_zero : goal.returns-clause-cell_with_zero
returns-clause-cell_with_zero c = text.cell_with_zero

pub returns-clause-wider_cell : goal.returns-clause-wider_cell
returns-clause-wider_cell c = text.wider_cell

pub returns-clause-cell_without_number : goal.returns-clause-cell_without_number
returns-clause-cell_without_number c = text.cell_without_number

pub returns-clause-cell_with_letter : goal.returns-clause-cell_with_letter
returns-clause-cell_with_letter c = text.cell_with_letter

pub returns-clause-other_own_name : goal.returns-clause-other_own_name
returns-clause-other_own_name c = text.other_own_name

pub returns-clause-own_member : goal.returns-clause-own_member
returns-clause-own_member c = text.own_member

pub returns-clause-own_key : goal.returns-clause-own_key
returns-clause-own_key c = text.own_key

pub returns-clause-own_text_as_key : goal.returns-clause-own_text_as_key
returns-clause-own_text_as_key c = text.own_text_as_key

pub returns-clause-cell_in_source : goal.returns-clause-cell_in_source
returns-clause-cell_in_source c = text.cell_in_source

pub returns-clause-cell_member_in_source : goal.returns-clause-cell_member_in_source
returns-clause-cell_member_in_source c = text.cell_member_in_source

pub returns-clause-cell_key_in_source : goal.returns-clause-cell_key_in_source
returns-clause-cell_key_in_source c = text.cell_key_in_source

pub returns-clause-text_key_in_source : goal.returns-clause-text_key_in_source
returns-clause-text_key_in_source c = text.text_key_in_source

pub returns-clause-own_text : goal.returns-clause-own_text
returns-clause-own_text c = text.own_text
