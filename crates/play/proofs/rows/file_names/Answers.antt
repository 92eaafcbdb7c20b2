use Rattle.std.specs.Prelude.{refl}
use Rattle.std.specs.Fmt.{digits}
use Rattle.play.proofs.rows.file_names.Goals as goal

pub returns-clause-manifest : goal.returns-clause-manifest
unfolding digits
returns-clause-manifest c = refl

pub returns-clause-with_slash : goal.returns-clause-with_slash
unfolding digits
returns-clause-with_slash c = refl

pub returns-clause-script : goal.returns-clause-script
unfolding digits
returns-clause-script c = refl

pub returns-clause-cluster : goal.returns-clause-cluster
unfolding digits
returns-clause-cluster c = refl

pub returns-clause-last_cluster : goal.returns-clause-last_cluster
unfolding digits
returns-clause-last_cluster c = refl
