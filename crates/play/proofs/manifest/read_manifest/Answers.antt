use Rattle.play.proofs.ManifestLaws.{sound_of, complete_of}
use Rattle.play.proofs.manifest.read_manifest.Goals as goal

pub returns-clause-sound : goal.returns-clause-sound
returns-clause-sound c = sound_of c.manifest_of.result c.args.bytes.now c.manifest_of.ensures

pub returns-clause-complete : goal.returns-clause-complete
returns-clause-complete c = complete_of c.manifest_of.result c.args.bytes.now c.manifest_of.ensures
