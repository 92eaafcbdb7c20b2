-- Texts that are read by computing.
use Rattle.std.specs.Prelude.{◌≡◌, refl, Some, [], ◌∷◌}
use Rattle.text_reader.specs.Reader.{skip, ended, one, run, number_of, decimal, many, list_after, behind, up_to}
use Rattle.first_grammar.specs.FirstReader.{number, statement, statements, body, function, item, items, script, entry, entries, read_script, read_cluster}
use Rattle.std.specs.Fmt.{digits}
use Rattle.play.specs.ManifestReader as m
use Rattle.play.specs.ManifestReader.{read_manifest}
use Rattle.std.proofs.Common.{rules}
use Rattle.play.specs.Headline.{PutsBackTo}
use Rattle.play.specs.PutBack.{back}
use Rattle.play.specs.Site.{read_script_file, Accepted, cluster_file, entries as entries_of}
use Rattle.play.specs.declared.outcome.End.TheVariants as end
use Rattle.play.specs.Played.{Gives, played}
use Rattle.play.specs.Rows as rows
use Rattle.play.specs.RowsHeadline as headline

pub example_manifest : read_manifest rows.manifest_bytes ≡ Some rows.manifest
unfolding skip ended run digits number_of decimal m.numbers m.entry m.entries m.cluster m.clusters m.manifest m.has_lines_of_form m.is_manifest m.read_manifest many list_after behind up_to
example_manifest = refl

pub example_script : read_script_file rows.manifest rows.script_bytes ≡ Some rows.items
unfolding skip ended one run number_of decimal digits number statement statements body function item items script read_script many list_after behind up_to
example_script = refl

pub example_cluster : cluster_file rows.files rows.folder (record { cluster = 1; bytes = 33; entries = 2 ∷ [] }) ≡ Accepted (rows.entry ∷ [])
unfolding skip ended one run number_of decimal digits number statement statements entry entries read_cluster many list_after behind up_to
example_cluster = refl

pub original_is : back (entries_of rows.files rows.folder rows.manifest) rows.script ≡ Some rows.original_script
unfolding skip ended one run digits number_of decimal number statement statements entry entries read_cluster many list_after behind up_to
original_is = refl

abbrev pub puts_back : PutsBackTo rows.files rows.folder rows.original_script
puts_back = record {
  manifest_bytes = rows.manifest_bytes;
  manifest_at = refl;
  manifest = rows.manifest;
  manifest_is = example_manifest;
  script_bytes = rows.script_bytes;
  script_at = refl;
  items = rows.items;
  items_are = example_script;
  back = record { original_is = original_is; once = search rules; numbered = (refl, (refl, tt)) };
}

pub played_whole : (played rows.files rows.folder headline.page 10000000).answer ≡ Gives headline.report end.Ended
unfolding skip ended one run digits number_of decimal m.numbers m.entry m.entries m.cluster m.clusters m.manifest m.has_lines_of_form m.is_manifest m.read_manifest number statement statements body function item items script entry entries read_script read_cluster many list_after behind up_to
played_whole = refl

pub example_entry : entries_of rows.files rows.folder rows.manifest 2 ≡ rows.entry_two 2
unfolding skip ended one run digits number_of decimal number statement statements entry entries read_cluster many list_after behind up_to
example_entry = refl
