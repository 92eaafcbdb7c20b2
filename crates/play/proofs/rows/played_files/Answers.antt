use Rattle.std.specs.Prelude.{refl}
use Rattle.std.specs.Fmt.{digits}
use Rattle.text_reader.specs.Reader as text
use Rattle.first_grammar.specs.FirstReader as first
use Rattle.play.specs.ManifestReader as manifest
use Rattle.play.proofs.rows.played_files.Goals as goal

pub returns-clause-both : goal.returns-clause-both
unfolding digits text.skip text.ended text.one text.run text.number_of text.decimal first.number first.statement first.statements first.body first.function first.item first.items first.script first.entry first.entries first.read_script first.read_cluster manifest.numbers manifest.entry manifest.entries manifest.cluster manifest.clusters manifest.manifest manifest.has_lines_of_form manifest.is_manifest manifest.read_manifest text.many text.list_after text.behind text.up_to
returns-clause-both c = refl

pub returns-clause-not_needed : goal.returns-clause-not_needed
unfolding digits text.skip text.ended text.one text.run text.number_of text.decimal first.number first.statement first.statements first.body first.function first.item first.items first.script first.entry first.entries first.read_script first.read_cluster manifest.numbers manifest.entry manifest.entries manifest.cluster manifest.clusters manifest.manifest manifest.has_lines_of_form manifest.is_manifest manifest.read_manifest text.many text.list_after text.behind text.up_to
returns-clause-not_needed c = refl

pub returns-clause-none : goal.returns-clause-none
unfolding digits text.skip text.ended text.one text.run text.number_of text.decimal first.number first.statement first.statements first.body first.function first.item first.items first.script first.entry first.entries first.read_script first.read_cluster manifest.numbers manifest.entry manifest.entries manifest.cluster manifest.clusters manifest.manifest manifest.has_lines_of_form manifest.is_manifest manifest.read_manifest text.many text.list_after text.behind text.up_to
returns-clause-none c = refl

pub returns-clause-second_lacks : goal.returns-clause-second_lacks
unfolding digits text.skip text.ended text.one text.run text.number_of text.decimal first.number first.statement first.statements first.body first.function first.item first.items first.script first.entry first.entries first.read_script first.read_cluster manifest.numbers manifest.entry manifest.entries manifest.cluster manifest.clusters manifest.manifest manifest.has_lines_of_form manifest.is_manifest manifest.read_manifest text.many text.list_after text.behind text.up_to
returns-clause-second_lacks c = refl

pub returns-clause-cluster_refused : goal.returns-clause-cluster_refused
unfolding digits text.skip text.ended text.one text.run text.number_of text.decimal first.number first.statement first.statements first.body first.function first.item first.items first.script first.entry first.entries first.read_script first.read_cluster manifest.numbers manifest.entry manifest.entries manifest.cluster manifest.clusters manifest.manifest manifest.has_lines_of_form manifest.is_manifest manifest.read_manifest text.many text.list_after text.behind text.up_to
returns-clause-cluster_refused c = refl

pub returns-clause-second_refused : goal.returns-clause-second_refused
unfolding digits text.skip text.ended text.one text.run text.number_of text.decimal first.number first.statement first.statements first.body first.function first.item first.items first.script first.entry first.entries first.read_script first.read_cluster manifest.numbers manifest.entry manifest.entries manifest.cluster manifest.clusters manifest.manifest manifest.has_lines_of_form manifest.is_manifest manifest.read_manifest text.many text.list_after text.behind text.up_to
returns-clause-second_refused c = refl

pub returns-clause-script_refused : goal.returns-clause-script_refused
unfolding digits text.skip text.ended text.one text.run text.number_of text.decimal first.number first.statement first.statements first.body first.function first.item first.items first.script first.entry first.entries first.read_script first.read_cluster manifest.numbers manifest.entry manifest.entries manifest.cluster manifest.clusters manifest.manifest manifest.has_lines_of_form manifest.is_manifest manifest.read_manifest text.many text.list_after text.behind text.up_to
returns-clause-script_refused c = refl

pub returns-clause-no_script : goal.returns-clause-no_script
unfolding digits text.skip text.ended text.one text.run text.number_of text.decimal first.number first.statement first.statements first.body first.function first.item first.items first.script first.entry first.entries first.read_script first.read_cluster manifest.numbers manifest.entry manifest.entries manifest.cluster manifest.clusters manifest.manifest manifest.has_lines_of_form manifest.is_manifest manifest.read_manifest text.many text.list_after text.behind text.up_to
returns-clause-no_script c = refl

pub returns-clause-manifest_refused : goal.returns-clause-manifest_refused
unfolding digits text.skip text.ended text.one text.run text.number_of text.decimal first.number first.statement first.statements first.body first.function first.item first.items first.script first.entry first.entries first.read_script first.read_cluster manifest.numbers manifest.entry manifest.entries manifest.cluster manifest.clusters manifest.manifest manifest.has_lines_of_form manifest.is_manifest manifest.read_manifest text.many text.list_after text.behind text.up_to
returns-clause-manifest_refused c = refl

pub returns-clause-no_manifest : goal.returns-clause-no_manifest
unfolding digits text.skip text.ended text.one text.run text.number_of text.decimal first.number first.statement first.statements first.body first.function first.item first.items first.script first.entry first.entries first.read_script first.read_cluster manifest.numbers manifest.entry manifest.entries manifest.cluster manifest.clusters manifest.manifest manifest.has_lines_of_form manifest.is_manifest manifest.read_manifest text.many text.list_after text.behind text.up_to
returns-clause-no_manifest c = refl

pub returns-clause-page_refused : goal.returns-clause-page_refused
unfolding digits text.skip text.ended text.one text.run text.number_of text.decimal first.number first.statement first.statements first.body first.function first.item first.items first.script first.entry first.entries first.read_script first.read_cluster manifest.numbers manifest.entry manifest.entries manifest.cluster manifest.clusters manifest.manifest manifest.has_lines_of_form manifest.is_manifest manifest.read_manifest text.many text.list_after text.behind text.up_to
returns-clause-page_refused c = refl

pub returns-clause-no_page : goal.returns-clause-no_page
unfolding digits text.skip text.ended text.one text.run text.number_of text.decimal first.number first.statement first.statements first.body first.function first.item first.items first.script first.entry first.entries first.read_script first.read_cluster manifest.numbers manifest.entry manifest.entries manifest.cluster manifest.clusters manifest.manifest manifest.has_lines_of_form manifest.is_manifest manifest.read_manifest text.many text.list_after text.behind text.up_to
returns-clause-no_page c = refl

pub returns-clause-page_first : goal.returns-clause-page_first
unfolding digits text.skip text.ended text.one text.run text.number_of text.decimal first.number first.statement first.statements first.body first.function first.item first.items first.script first.entry first.entries first.read_script first.read_cluster manifest.numbers manifest.entry manifest.entries manifest.cluster manifest.clusters manifest.manifest manifest.has_lines_of_form manifest.is_manifest manifest.read_manifest text.many text.list_after text.behind text.up_to
returns-clause-page_first c = refl

pub returns-clause-page_refused_first : goal.returns-clause-page_refused_first
unfolding digits text.skip text.ended text.one text.run text.number_of text.decimal first.number first.statement first.statements first.body first.function first.item first.items first.script first.entry first.entries first.read_script first.read_cluster manifest.numbers manifest.entry manifest.entries manifest.cluster manifest.clusters manifest.manifest manifest.has_lines_of_form manifest.is_manifest manifest.read_manifest text.many text.list_after text.behind text.up_to
returns-clause-page_refused_first c = refl
