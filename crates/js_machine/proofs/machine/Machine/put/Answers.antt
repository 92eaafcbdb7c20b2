use Rattle.js_machine.proofs.NameLaws.{is_put}
use Rattle.js_machine.proofs.machine.Machine.put.Goals as goal

pub returns-in-Ok-clause-told : goal.returns-in-Ok-clause-told
returns-in-Ok-clause-told c =
    is_put c.args.self.now.heap c.args.o.0 c.args.name.now c.args.v c.in-Ok._done c.in-Ok.ensures.answer
