use Rattle.std.specs.Prelude.{refl}
use Rattle.std.specs.Fmt.{digits}
use Rattle.text_reader.specs.Reader as text
use Rattle.play.specs.ManifestReader as manifest
use Rattle.play.proofs.rows.manifest_texts.Goals as goal

pub returns-clause-least : goal.returns-clause-least
unfolding digits text.skip text.ended text.run text.number_of text.decimal manifest.numbers manifest.entry manifest.entries manifest.cluster manifest.clusters manifest.manifest manifest.has_lines_of_form manifest.is_manifest manifest.read_manifest text.many text.list_after text.behind text.up_to
returns-clause-least c = refl

pub returns-clause-numbers : goal.returns-clause-numbers
unfolding digits text.skip text.ended text.run text.number_of text.decimal manifest.numbers manifest.entry manifest.entries manifest.cluster manifest.clusters manifest.manifest manifest.has_lines_of_form manifest.is_manifest manifest.read_manifest text.many text.list_after text.behind text.up_to
returns-clause-numbers c = refl

pub returns-clause-clusters : goal.returns-clause-clusters
unfolding digits text.skip text.ended text.run text.number_of text.decimal manifest.numbers manifest.entry manifest.entries manifest.cluster manifest.clusters manifest.manifest manifest.has_lines_of_form manifest.is_manifest manifest.read_manifest text.many text.list_after text.behind text.up_to
returns-clause-clusters c = refl

pub returns-clause-long_script : goal.returns-clause-long_script
unfolding digits text.skip text.ended text.run text.number_of text.decimal manifest.numbers manifest.entry manifest.entries manifest.cluster manifest.clusters manifest.manifest manifest.has_lines_of_form manifest.is_manifest manifest.read_manifest text.many text.list_after text.behind text.up_to
returns-clause-long_script c = refl

pub returns-clause-number_zero : goal.returns-clause-number_zero
unfolding digits text.skip text.ended text.run text.number_of text.decimal manifest.numbers manifest.entry manifest.entries manifest.cluster manifest.clusters manifest.manifest manifest.has_lines_of_form manifest.is_manifest manifest.read_manifest text.many text.list_after text.behind text.up_to
returns-clause-number_zero c = refl

pub returns-clause-great_number : goal.returns-clause-great_number
unfolding digits text.skip text.ended text.run text.number_of text.decimal manifest.numbers manifest.entry manifest.entries manifest.cluster manifest.clusters manifest.manifest manifest.has_lines_of_form manifest.is_manifest manifest.read_manifest text.many text.list_after text.behind text.up_to
returns-clause-great_number c = refl

pub returns-clause-no_numbers : goal.returns-clause-no_numbers
unfolding digits text.skip text.ended text.run text.number_of text.decimal manifest.numbers manifest.entry manifest.entries manifest.cluster manifest.clusters manifest.manifest manifest.has_lines_of_form manifest.is_manifest manifest.read_manifest text.many text.list_after text.behind text.up_to
returns-clause-no_numbers c = refl

pub returns-clause-comma_last : goal.returns-clause-comma_last
unfolding digits text.skip text.ended text.run text.number_of text.decimal manifest.numbers manifest.entry manifest.entries manifest.cluster manifest.clusters manifest.manifest manifest.has_lines_of_form manifest.is_manifest manifest.read_manifest text.many text.list_after text.behind text.up_to
returns-clause-comma_last c = refl

pub returns-clause-spaced : goal.returns-clause-spaced
unfolding digits text.skip text.ended text.run text.number_of text.decimal manifest.numbers manifest.entry manifest.entries manifest.cluster manifest.clusters manifest.manifest manifest.has_lines_of_form manifest.is_manifest manifest.read_manifest text.many text.list_after text.behind text.up_to
returns-clause-spaced c = refl

pub returns-clause-zero_before : goal.returns-clause-zero_before
unfolding digits text.skip text.ended text.run text.number_of text.decimal manifest.numbers manifest.entry manifest.entries manifest.cluster manifest.clusters manifest.manifest manifest.has_lines_of_form manifest.is_manifest manifest.read_manifest text.many text.list_after text.behind text.up_to
returns-clause-zero_before c = refl

pub returns-clause-sign : goal.returns-clause-sign
unfolding digits text.skip text.ended text.run text.number_of text.decimal manifest.numbers manifest.entry manifest.entries manifest.cluster manifest.clusters manifest.manifest manifest.has_lines_of_form manifest.is_manifest manifest.read_manifest text.many text.list_after text.behind text.up_to
returns-clause-sign c = refl

pub returns-clause-other_script : goal.returns-clause-other_script
unfolding digits text.skip text.ended text.run text.number_of text.decimal manifest.numbers manifest.entry manifest.entries manifest.cluster manifest.clusters manifest.manifest manifest.has_lines_of_form manifest.is_manifest manifest.read_manifest text.many text.list_after text.behind text.up_to
returns-clause-other_script c = refl

pub returns-clause-no_end : goal.returns-clause-no_end
unfolding digits text.skip text.ended text.run text.number_of text.decimal manifest.numbers manifest.entry manifest.entries manifest.cluster manifest.clusters manifest.manifest manifest.has_lines_of_form manifest.is_manifest manifest.read_manifest text.many text.list_after text.behind text.up_to
returns-clause-no_end c = refl

pub returns-clause-cut_end : goal.returns-clause-cut_end
unfolding digits text.skip text.ended text.run text.number_of text.decimal manifest.numbers manifest.entry manifest.entries manifest.cluster manifest.clusters manifest.manifest manifest.has_lines_of_form manifest.is_manifest manifest.read_manifest text.many text.list_after text.behind text.up_to
returns-clause-cut_end c = refl

pub returns-clause-behind_the_end : goal.returns-clause-behind_the_end
unfolding digits text.skip text.ended text.run text.number_of text.decimal manifest.numbers manifest.entry manifest.entries manifest.cluster manifest.clusters manifest.manifest manifest.has_lines_of_form manifest.is_manifest manifest.read_manifest text.many text.list_after text.behind text.up_to
returns-clause-behind_the_end c = refl

pub returns-clause-carriage_return : goal.returns-clause-carriage_return
unfolding digits text.skip text.ended text.run text.number_of text.decimal manifest.numbers manifest.entry manifest.entries manifest.cluster manifest.clusters manifest.manifest manifest.has_lines_of_form manifest.is_manifest manifest.read_manifest text.many text.list_after text.behind text.up_to
returns-clause-carriage_return c = refl

pub returns-clause-other_form : goal.returns-clause-other_form
unfolding digits text.skip text.ended text.run text.number_of text.decimal manifest.numbers manifest.entry manifest.entries manifest.cluster manifest.clusters manifest.manifest manifest.has_lines_of_form manifest.is_manifest manifest.read_manifest text.many text.list_after text.behind text.up_to
returns-clause-other_form c = refl

pub returns-clause-other_site : goal.returns-clause-other_site
unfolding digits text.skip text.ended text.run text.number_of text.decimal manifest.numbers manifest.entry manifest.entries manifest.cluster manifest.clusters manifest.manifest manifest.has_lines_of_form manifest.is_manifest manifest.read_manifest text.many text.list_after text.behind text.up_to
returns-clause-other_site c = refl

pub returns-clause-empty : goal.returns-clause-empty
unfolding digits text.skip text.ended text.run text.number_of text.decimal manifest.numbers manifest.entry manifest.entries manifest.cluster manifest.clusters manifest.manifest manifest.has_lines_of_form manifest.is_manifest manifest.read_manifest text.many text.list_after text.behind text.up_to
returns-clause-empty c = refl
