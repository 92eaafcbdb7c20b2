use Rattle.play.specs.Laws.{said, cut, needed, ended}
use Rattle.play.proofs.rows.trace_relations.Goals as goal

pub returns-clause-cut : goal.returns-clause-cut
returns-clause-cut c = said cut

pub returns-clause-need_follows : goal.returns-clause-need_follows
returns-clause-need_follows c = needed ended
