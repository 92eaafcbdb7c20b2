use Rattle.first_grammar.proofs.Results.{cluster_sound, cluster_complete}
use Rattle.first_grammar.proofs.parse.read_first_cluster.Goals as goal

pub returns-clause-sound : goal.returns-clause-sound
returns-clause-sound c = cluster_sound c.entries_of.result c.args.text.now c.entries_of.ensures

pub returns-clause-complete : goal.returns-clause-complete
returns-clause-complete c = cluster_complete c.entries_of.result c.args.text.now c.entries_of.ensures
