use Rattle.std.proofs.Common.{Some, None, sym, ap, ◌∙◌}
use Rattle.std.specs.Prelude.{slice_get}
use Rattle.play.proofs.TableLemmas.{named_found}
use Rattle.play.proofs.machine.function_named.Goals as goal

pub returns-in-Some-None : goal.returns-in-Some-None
returns-in-Some-None c =
    c.requires.names.are c.args.letter None
    (ap (slice_get c.args.table.now.names) (sym c.from.ensures) ∙ (sym c.in-Some-None.ensures.value ∙ ap Some c.in-Some-None.field-0-is))

pub returns-in-Some-Some : goal.returns-in-Some-Some
returns-in-Some-Some c =
    named_found c.args.table.now c.args.letter c.in-Some-Some.index _ c.requires
    (ap (slice_get c.args.table.now.names) (sym c.from.ensures) ∙ (sym c.in-Some-Some.ensures.value ∙ ap Some c.in-Some-Some.field-0-is)) c.get-in-Some-Some.ensures.value
