use Rattle.std.proofs.Common.{◌<◌, ◌∙◌, length, arith}
use Rattle.std.proofs.lemmas.Grind.{common_steps}
use Rattle.std.proofs.lemmas.Result.{err_from_is_err_and}
use Rattle.dl_ports.proofs.Progress.{advanced, cut_short}
use Rattle.dl_ports.proofs.sink.put_all.Goals as goal

pub returns-in_err-count-clause-refused : goal.returns-in_err-count-clause-refused
returns-in_err-count-clause-refused g c =
    let p = err_from_is_err_and c.from_residual.result c.from_residual.ensures.1 in
    let some : 0 < length c.loop-rest.rest.now = grind (arith, common_steps, c.is_empty.ensures) in
    rw p.1 (rw c.in_err-count.ensures.refused (cut_short _ _ _ _ c.loop-rest.invariant.0 some))

pub loop-rest-preserved : goal.loop-rest-preserved
loop-rest-preserved g c =
    let n = c.in_ok-count.count in
    let rest = c.loop-rest.rest.now in (
      advanced _ _ _ _ _ n _ c.loop-rest.invariant.0 c.in_ok-count.ensures.taken (grind (arith, common_steps)),
      c.in_ok-count.ensures.cause.kept (λ h. cc) ∙ c.loop-rest.invariant.1,
      cc,
    )
