use Rattle.std.proofs.Common.{Some, ap, arith}
use Rattle.std.proofs.lemmas.Grind.{common_steps}
use Rattle.dl_ports.proofs.Taken.{taken_front}
use Rattle.dl_ports.proofs.memory_link.MemoryLinkSource.take.Goals as goal

pub returns-clause-taken : goal.returns-clause-taken
returns-clause-taken c =
    let link = c.args.self.now in
    ap Some (taken_front link.input.items c.fill_front-count.new.room _ link.taken c.fill_front-count.result (grind (arith, common_steps)) c.fill_front-count.ensures.front)
