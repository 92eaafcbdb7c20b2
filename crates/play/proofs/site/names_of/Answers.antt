use Rattle.std.proofs.Common.{Some, take, ◌+◌, sym, subst, arith}
use Rattle.std.specs.Prelude.{slice_set}
use Rattle.play.specs.Machine.{NamesAre}
use Rattle.play.proofs.ListLemmas.{got_index}
use Rattle.play.proofs.LetterLemmas.{names_more}
use Rattle.play.proofs.site.names_of.Goals as goal

pub loop-place-preserved : goal.loop-place-preserved
loop-place-preserved c =
    subst (λ x. NamesAre (take (c.loop-place.place + 1) c.args.functions.now) (slice_set c.loop-place.names.items x (Some c.loop-place.place))) (sym c.from.ensures)
    (names_more c.args.functions.now c.loop-place.names.items c.loop-place.place c.index-functions-place.result c.loop-place.invariant
    (got_index c.args.functions.now c.loop-place.place c.index-functions-place.result c.index-functions-place.result (omega arith) c.index-functions-place.is))
