use Rattle.first_grammar.proofs.FirstLaws.{read_cluster_text, read_cluster_sound}
use Rattle.first_grammar.proofs.parse.clusters_read_back.Goals as goal

pub returns : goal.returns
returns c = record { read = read_cluster_text; written = read_cluster_sound }
