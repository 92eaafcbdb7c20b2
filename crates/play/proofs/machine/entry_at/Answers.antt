use Rattle.std.proofs.Common.{Some, sym, ap, ◌∙◌}
use Rattle.play.proofs.TableLemmas.{entry_found}
use Rattle.play.proofs.machine.entry_at.Goals as goal

pub returns-in-Some-Some : goal.returns-in-Some-Some
returns-in-Some-Some c =
    entry_found c.args.table.now c.args.number c.args.place c.in-Some-Some.entries _ c.requires.sound c.requires.stub (sym c.in-Some-Some.ensures.value ∙ ap Some c.in-Some-Some.field-0-is) c.get-in-Some-Some.ensures.value
