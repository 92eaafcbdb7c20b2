use Rattle.std.specs.Prelude.{refl}
use Rattle.std.specs.Fmt.{digits}
use Rattle.text_reader.specs.Reader as text
use Rattle.play.specs.ManifestReader as manifest
use Rattle.play.proofs.rows.manifest_clusters.Goals as goal

pub returns-clause-no_entry : goal.returns-clause-no_entry
unfolding digits text.skip text.ended text.run text.number_of text.decimal manifest.numbers manifest.entry manifest.entries manifest.cluster manifest.clusters manifest.manifest manifest.has_lines_of_form manifest.is_manifest manifest.read_manifest text.many text.list_after text.behind text.up_to
returns-clause-no_entry c = refl

pub returns-clause-cluster_zero : goal.returns-clause-cluster_zero
unfolding digits text.skip text.ended text.run text.number_of text.decimal manifest.numbers manifest.entry manifest.entries manifest.cluster manifest.clusters manifest.manifest manifest.has_lines_of_form manifest.is_manifest manifest.read_manifest text.many text.list_after text.behind text.up_to
returns-clause-cluster_zero c = refl

pub returns-clause-great_cluster : goal.returns-clause-great_cluster
unfolding digits text.skip text.ended text.run text.number_of text.decimal manifest.numbers manifest.entry manifest.entries manifest.cluster manifest.clusters manifest.manifest manifest.has_lines_of_form manifest.is_manifest manifest.read_manifest text.many text.list_after text.behind text.up_to
returns-clause-great_cluster c = refl

pub returns-clause-long_cluster : goal.returns-clause-long_cluster
unfolding digits text.skip text.ended text.run text.number_of text.decimal manifest.numbers manifest.entry manifest.entries manifest.cluster manifest.clusters manifest.manifest manifest.has_lines_of_form manifest.is_manifest manifest.read_manifest text.many text.list_after text.behind text.up_to
returns-clause-long_cluster c = refl

pub returns-clause-entry_zero : goal.returns-clause-entry_zero
unfolding digits text.skip text.ended text.run text.number_of text.decimal manifest.numbers manifest.entry manifest.entries manifest.cluster manifest.clusters manifest.manifest manifest.has_lines_of_form manifest.is_manifest manifest.read_manifest text.many text.list_after text.behind text.up_to
returns-clause-entry_zero c = refl

pub returns-clause-greatest_entry : goal.returns-clause-greatest_entry
unfolding digits text.skip text.ended text.run text.number_of text.decimal manifest.numbers manifest.entry manifest.entries manifest.cluster manifest.clusters manifest.manifest manifest.has_lines_of_form manifest.is_manifest manifest.read_manifest text.many text.list_after text.behind text.up_to
returns-clause-greatest_entry c = refl

pub returns-clause-great_entry : goal.returns-clause-great_entry
unfolding digits text.skip text.ended text.run text.number_of text.decimal manifest.numbers manifest.entry manifest.entries manifest.cluster manifest.clusters manifest.manifest manifest.has_lines_of_form manifest.is_manifest manifest.read_manifest text.many text.list_after text.behind text.up_to
returns-clause-great_entry c = refl

pub returns-clause-entries_fall : goal.returns-clause-entries_fall
unfolding digits text.skip text.ended text.run text.number_of text.decimal manifest.numbers manifest.entry manifest.entries manifest.cluster manifest.clusters manifest.manifest manifest.has_lines_of_form manifest.is_manifest manifest.read_manifest text.many text.list_after text.behind text.up_to
returns-clause-entries_fall c = refl

pub returns-clause-clusters_fall : goal.returns-clause-clusters_fall
unfolding digits text.skip text.ended text.run text.number_of text.decimal manifest.numbers manifest.entry manifest.entries manifest.cluster manifest.clusters manifest.manifest manifest.has_lines_of_form manifest.is_manifest manifest.read_manifest text.many text.list_after text.behind text.up_to
returns-clause-clusters_fall c = refl

pub returns-clause-cluster_again : goal.returns-clause-cluster_again
unfolding digits text.skip text.ended text.run text.number_of text.decimal manifest.numbers manifest.entry manifest.entries manifest.cluster manifest.clusters manifest.manifest manifest.has_lines_of_form manifest.is_manifest manifest.read_manifest text.many text.list_after text.behind text.up_to
returns-clause-cluster_again c = refl

pub returns-clause-entry_again : goal.returns-clause-entry_again
unfolding digits text.skip text.ended text.run text.number_of text.decimal manifest.numbers manifest.entry manifest.entries manifest.cluster manifest.clusters manifest.manifest manifest.has_lines_of_form manifest.is_manifest manifest.read_manifest text.many text.list_after text.behind text.up_to
returns-clause-entry_again c = refl

pub returns-clause-plain_again : goal.returns-clause-plain_again
unfolding digits text.skip text.ended text.run text.number_of text.decimal manifest.numbers manifest.entry manifest.entries manifest.cluster manifest.clusters manifest.manifest manifest.has_lines_of_form manifest.is_manifest manifest.read_manifest text.many text.list_after text.behind text.up_to
returns-clause-plain_again c = refl

pub returns-clause-number_again : goal.returns-clause-number_again
unfolding digits text.skip text.ended text.run text.number_of text.decimal manifest.numbers manifest.entry manifest.entries manifest.cluster manifest.clusters manifest.manifest manifest.has_lines_of_form manifest.is_manifest manifest.read_manifest text.many text.list_after text.behind text.up_to
returns-clause-number_again c = refl

pub returns-clause-entry_first : goal.returns-clause-entry_first
unfolding digits text.skip text.ended text.run text.number_of text.decimal manifest.numbers manifest.entry manifest.entries manifest.cluster manifest.clusters manifest.manifest manifest.has_lines_of_form manifest.is_manifest manifest.read_manifest text.many text.list_after text.behind text.up_to
returns-clause-entry_first c = refl

pub returns-clause-other_mark : goal.returns-clause-other_mark
unfolding digits text.skip text.ended text.run text.number_of text.decimal manifest.numbers manifest.entry manifest.entries manifest.cluster manifest.clusters manifest.manifest manifest.has_lines_of_form manifest.is_manifest manifest.read_manifest text.many text.list_after text.behind text.up_to
returns-clause-other_mark c = refl
