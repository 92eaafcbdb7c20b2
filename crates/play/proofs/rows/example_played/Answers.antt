use Rattle.std.specs.Prelude.{refl}
use Rattle.std.specs.Fmt.{digits}
use Rattle.text_reader.specs.Reader as text
use Rattle.first_grammar.specs.FirstReader as first
use Rattle.play.specs.ManifestReader as manifest
use Rattle.play.proofs.rows.example_played.Goals as goal

pub returns-clause-whole : goal.returns-clause-whole
unfolding digits text.skip text.ended text.one text.run text.number_of text.decimal first.number first.statement first.statements first.body first.function first.item first.items first.script first.entry first.entries first.read_script first.read_cluster manifest.numbers manifest.entry manifest.entries manifest.cluster manifest.clusters manifest.manifest manifest.has_lines_of_form manifest.is_manifest manifest.read_manifest text.many text.list_after text.behind text.up_to
returns-clause-whole c = refl

pub returns-clause-before_the_cluster : goal.returns-clause-before_the_cluster
unfolding digits text.skip text.ended text.one text.run text.number_of text.decimal first.number first.statement first.statements first.body first.function first.item first.items first.script first.entry first.entries first.read_script first.read_cluster manifest.numbers manifest.entry manifest.entries manifest.cluster manifest.clusters manifest.manifest manifest.has_lines_of_form manifest.is_manifest manifest.read_manifest text.many text.list_after text.behind text.up_to
returns-clause-before_the_cluster c = refl

pub returns-clause-no_cluster : goal.returns-clause-no_cluster
unfolding digits text.skip text.ended text.one text.run text.number_of text.decimal first.number first.statement first.statements first.body first.function first.item first.items first.script first.entry first.entries first.read_script first.read_cluster manifest.numbers manifest.entry manifest.entries manifest.cluster manifest.clusters manifest.manifest manifest.has_lines_of_form manifest.is_manifest manifest.read_manifest text.many text.list_after text.behind text.up_to
returns-clause-no_cluster c = refl
