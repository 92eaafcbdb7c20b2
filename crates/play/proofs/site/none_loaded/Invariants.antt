use Rattle.std.proofs.Common.{◌≡◌, None, replicate}
use Rattle.play.proofs.site.none_loaded.Given as goal

abbrev pub invariant-loop-cluster : goal.invariant-loop-cluster
invariant-loop-cluster l = l.loaded ≡ replicate l._cluster None
