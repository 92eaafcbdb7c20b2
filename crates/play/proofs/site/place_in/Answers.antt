use Rattle.std.proofs.Common.{arith}
use Rattle.play.proofs.ListLemmas.{got_index, any_at}
use Rattle.play.proofs.site.place_in.Goals as goal

pub returns-then-number-other : goal.returns-then-number-other
returns-then-number-other c =
    let at = got_index c.args.numbers.now c.loop-place.place c.args.number 0 (omega arith) c.if-number-other.true in
    (at, any_at c.args.numbers.now c.loop-place.place c.args.number at)
