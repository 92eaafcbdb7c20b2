use Rattle.std.proofs.Common.{◌≡◌, drop}
use Rattle.play.specs.Manifest.{cluster_numbers}
use Rattle.play.specs.ManifestReader.{rises}
use Rattle.play.proofs.manifest.form.clusters_rise.Given as goal

abbrev pub invariant-loop-line : goal.invariant-loop-line
invariant-loop-line l = rises l.before (cluster_numbers (drop l.line-index l.clusters)) ≡ rises 0 (cluster_numbers l.clusters)
