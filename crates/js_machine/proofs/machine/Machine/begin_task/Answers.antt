use Rattle.std.proofs.Common.{subst, sym}
use Rattle.js_machine.specs.declared.frame.Control.TheVariants as control
use Rattle.js_machine.specs.declared.task.Task.{Task}
use Rattle.js_machine.specs.Halts.{in_task, stack_of}
use Rattle.js_machine.specs.Rest.{Same}
use Rattle.js_machine.proofs.ScriptLaws.{call_begun}
use Rattle.js_machine.proofs.machine.Machine.begin_task.Goals as goal

pub returns-in-Call-clause-same : goal.returns-in-Call-clause-same
returns-in-Call-clause-same c =
    let m = c.args.self.now in
    let next = control.Enter c.in-Call.count c.in-Call.f in
    let new = record m { values = c.in-Call.values } in
    let P : Task → Type 0 = λ t. Same (in_task t) (record m { values = stack_of t }) next new in
    subst P (sym c.in-Call.is) (call_begun new c.in-Call.count c.in-Call.f)
