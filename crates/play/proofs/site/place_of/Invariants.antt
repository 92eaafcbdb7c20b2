use Rattle.std.proofs.Common.{◌≡◌, drop}
use Rattle.play.specs.Site.{line_of}
use Rattle.play.proofs.site.place_of.Given as goal

abbrev pub invariant-loop-cluster : goal.invariant-loop-cluster
invariant-loop-cluster l = line_of (drop l.cluster l.manifest.clusters) l.number ≡ line_of l.manifest.clusters l.number
