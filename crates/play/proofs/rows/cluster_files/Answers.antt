use Rattle.std.specs.Prelude.{refl}
use Rattle.std.specs.Fmt.{digits}
use Rattle.text_reader.specs.Reader as text
use Rattle.first_grammar.specs.FirstReader as first
use Rattle.play.proofs.rows.cluster_files.Goals as goal

pub returns-clause-first_line : goal.returns-clause-first_line
unfolding digits text.skip text.ended text.one text.run text.number_of text.decimal first.number first.statement first.statements first.body first.function first.item first.items first.script first.entry first.entries first.read_script first.read_cluster text.many text.list_after text.behind text.up_to
returns-clause-first_line c = refl

pub returns-clause-later_line : goal.returns-clause-later_line
unfolding digits text.skip text.ended text.one text.run text.number_of text.decimal first.number first.statement first.statements first.body first.function first.item first.items first.script first.entry first.entries first.read_script first.read_cluster text.many text.list_after text.behind text.up_to
returns-clause-later_line c = refl

pub returns-clause-no_line : goal.returns-clause-no_line
unfolding digits text.skip text.ended text.one text.run text.number_of text.decimal first.number first.statement first.statements first.body first.function first.item first.items first.script first.entry first.entries first.read_script first.read_cluster text.many text.list_after text.behind text.up_to
returns-clause-no_line c = refl

pub returns-clause-missing : goal.returns-clause-missing
unfolding digits text.skip text.ended text.one text.run text.number_of text.decimal first.number first.statement first.statements first.body first.function first.item first.items first.script first.entry first.entries first.read_script first.read_cluster text.many text.list_after text.behind text.up_to
returns-clause-missing c = refl

pub returns-clause-of_another : goal.returns-clause-of_another
unfolding digits text.skip text.ended text.one text.run text.number_of text.decimal first.number first.statement first.statements first.body first.function first.item first.items first.script first.entry first.entries first.read_script first.read_cluster text.many text.list_after text.behind text.up_to
returns-clause-of_another c = refl

pub returns-clause-accepted : goal.returns-clause-accepted
unfolding digits text.skip text.ended text.one text.run text.number_of text.decimal first.number first.statement first.statements first.body first.function first.item first.items first.script first.entry first.entries first.read_script first.read_cluster text.many text.list_after text.behind text.up_to
returns-clause-accepted c = refl

pub returns-clause-shorter : goal.returns-clause-shorter
unfolding digits text.skip text.ended text.one text.run text.number_of text.decimal first.number first.statement first.statements first.body first.function first.item first.items first.script first.entry first.entries first.read_script first.read_cluster text.many text.list_after text.behind text.up_to
returns-clause-shorter c = refl

pub returns-clause-longer : goal.returns-clause-longer
unfolding digits text.skip text.ended text.one text.run text.number_of text.decimal first.number first.statement first.statements first.body first.function first.item first.items first.script first.entry first.entries first.read_script first.read_cluster text.many text.list_after text.behind text.up_to
returns-clause-longer c = refl

pub returns-clause-other_entry : goal.returns-clause-other_entry
unfolding digits text.skip text.ended text.one text.run text.number_of text.decimal first.number first.statement first.statements first.body first.function first.item first.items first.script first.entry first.entries first.read_script first.read_cluster text.many text.list_after text.behind text.up_to
returns-clause-other_entry c = refl

pub returns-clause-entry_less : goal.returns-clause-entry_less
unfolding digits text.skip text.ended text.one text.run text.number_of text.decimal first.number first.statement first.statements first.body first.function first.item first.items first.script first.entry first.entries first.read_script first.read_cluster text.many text.list_after text.behind text.up_to
returns-clause-entry_less c = refl

pub returns-clause-not_of_grammar : goal.returns-clause-not_of_grammar
unfolding digits text.skip text.ended text.one text.run text.number_of text.decimal first.number first.statement first.statements first.body first.function first.item first.items first.script first.entry first.entries first.read_script first.read_cluster text.many text.list_after text.behind text.up_to
returns-clause-not_of_grammar c = refl

pub returns-clause-second_entry : goal.returns-clause-second_entry
unfolding digits text.skip text.ended text.one text.run text.number_of text.decimal first.number first.statement first.statements first.body first.function first.item first.items first.script first.entry first.entries first.read_script first.read_cluster text.many text.list_after text.behind text.up_to
returns-clause-second_entry c = refl

pub returns-clause-of_no_entry : goal.returns-clause-of_no_entry
unfolding digits text.skip text.ended text.one text.run text.number_of text.decimal first.number first.statement first.statements first.body first.function first.item first.items first.script first.entry first.entries first.read_script first.read_cluster text.many text.list_after text.behind text.up_to
returns-clause-of_no_entry c = refl
