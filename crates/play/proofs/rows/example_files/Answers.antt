use Rattle.play.proofs.Reading as reading
use Rattle.play.proofs.rows.example_files.Goals as goal

pub returns-clause-manifest : goal.returns-clause-manifest
returns-clause-manifest c = reading.example_manifest

pub returns-clause-script : goal.returns-clause-script
returns-clause-script c = reading.example_script

pub returns-clause-cluster : goal.returns-clause-cluster
returns-clause-cluster c = reading.example_cluster

pub returns-clause-entry : goal.returns-clause-entry
returns-clause-entry c = reading.example_entry
