use Rattle.std.proofs.Common.{◌≡◌, true}
use Rattle.std.proofs.lemmas.List.Elements.{All-same}
use Rattle.first_grammar.specs.First.{IsFunctionNumber}
use Rattle.play.specs.ManifestReader.{has_lines_of_form}
use Rattle.play.proofs.ManifestForm.{all_function_numbers}
use Rattle.play.proofs.manifest.form.is_manifest.Goals as goal

pub is_distinct-requires : goal.is_distinct-requires
is_distinct-requires c =
    let m = c.args.manifest.now in
    let kept : has_lines_of_form m ≡ true = cc in
    All-same IsFunctionNumber _ _ c.in_ok-all_numbers.ensures (all_function_numbers m kept)
