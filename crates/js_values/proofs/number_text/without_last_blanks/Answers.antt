use Rattle.std.proofs.Common.{◌∙◌, ◌-◌, refl, sym, arith}
use Rattle.js_values.proofs.Trimming.{last_more}
use Rattle.js_values.proofs.number_text.without_last_blanks.Goals as goal

pub loop-end-preserved : goal.loop-end-preserved
loop-end-preserved c =
    let text = c.args.text.now in
    let end = c.loop-end.end in (
      omega arith,
      last_more text end (end - 1) refl (omega arith) (omega arith) (sym c.is_blank.ensures ∙ c.if-not-is_blank.false) ∙ c.loop-end.invariant.1,
    )
