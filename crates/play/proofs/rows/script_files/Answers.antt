use Rattle.std.specs.Prelude.{refl}
use Rattle.std.specs.Fmt.{digits}
use Rattle.text_reader.specs.Reader as text
use Rattle.first_grammar.specs.FirstReader as first
use Rattle.play.proofs.rows.script_files.Goals as goal

pub returns-clause-fits : goal.returns-clause-fits
unfolding digits text.skip text.ended text.one text.run text.number_of text.decimal first.number first.statement first.statements first.body first.function first.item first.items first.script first.entry first.entries first.read_script first.read_cluster text.many text.list_after text.behind text.up_to
returns-clause-fits c = refl

pub returns-clause-listed_later : goal.returns-clause-listed_later
unfolding digits text.skip text.ended text.one text.run text.number_of text.decimal first.number first.statement first.statements first.body first.function first.item first.items first.script first.entry first.entries first.read_script first.read_cluster text.many text.list_after text.behind text.up_to
returns-clause-listed_later c = refl

pub returns-clause-shorter : goal.returns-clause-shorter
unfolding digits text.skip text.ended text.one text.run text.number_of text.decimal first.number first.statement first.statements first.body first.function first.item first.items first.script first.entry first.entries first.read_script first.read_cluster text.many text.list_after text.behind text.up_to
returns-clause-shorter c = refl

pub returns-clause-longer : goal.returns-clause-longer
unfolding digits text.skip text.ended text.one text.run text.number_of text.decimal first.number first.statement first.statements first.body first.function first.item first.items first.script first.entry first.entries first.read_script first.read_cluster text.many text.list_after text.behind text.up_to
returns-clause-longer c = refl

pub returns-clause-number_less : goal.returns-clause-number_less
unfolding digits text.skip text.ended text.one text.run text.number_of text.decimal first.number first.statement first.statements first.body first.function first.item first.items first.script first.entry first.entries first.read_script first.read_cluster text.many text.list_after text.behind text.up_to
returns-clause-number_less c = refl

pub returns-clause-number_more : goal.returns-clause-number_more
unfolding digits text.skip text.ended text.one text.run text.number_of text.decimal first.number first.statement first.statements first.body first.function first.item first.items first.script first.entry first.entries first.read_script first.read_cluster text.many text.list_after text.behind text.up_to
returns-clause-number_more c = refl

pub returns-clause-not_listed : goal.returns-clause-not_listed
unfolding digits text.skip text.ended text.one text.run text.number_of text.decimal first.number first.statement first.statements first.body first.function first.item first.items first.script first.entry first.entries first.read_script first.read_cluster text.many text.list_after text.behind text.up_to
returns-clause-not_listed c = refl

pub returns-clause-no_cluster : goal.returns-clause-no_cluster
unfolding digits text.skip text.ended text.one text.run text.number_of text.decimal first.number first.statement first.statements first.body first.function first.item first.items first.script first.entry first.entries first.read_script first.read_cluster text.many text.list_after text.behind text.up_to
returns-clause-no_cluster c = refl

pub returns-clause-not_of_grammar : goal.returns-clause-not_of_grammar
unfolding digits text.skip text.ended text.one text.run text.number_of text.decimal first.number first.statement first.statements first.body first.function first.item first.items first.script first.entry first.entries first.read_script first.read_cluster text.many text.list_after text.behind text.up_to
returns-clause-not_of_grammar c = refl

pub returns-clause-stubs_in_order : goal.returns-clause-stubs_in_order
unfolding digits text.skip text.ended text.one text.run text.number_of text.decimal first.number first.statement first.statements first.body first.function first.item first.items first.script first.entry first.entries first.read_script first.read_cluster text.many text.list_after text.behind text.up_to
returns-clause-stubs_in_order c = refl

pub returns-clause-numbers_in_order : goal.returns-clause-numbers_in_order
unfolding digits text.skip text.ended text.one text.run text.number_of text.decimal first.number first.statement first.statements first.body first.function first.item first.items first.script first.entry first.entries first.read_script first.read_cluster text.many text.list_after text.behind text.up_to
returns-clause-numbers_in_order c = refl
