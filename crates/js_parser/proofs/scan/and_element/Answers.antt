use Rattle.std.proofs.Common.{◌-◌, length, sym, ap, ◌∙◌, arith}
use Rattle.js_parser.specs.Scanned.{halt_of}
use Rattle.js_parser.proofs.Scans.{continues_with, halts_in}
use Rattle.js_parser.proofs.scan.and_element.Goals as goal

pub returns-in-Ok-clause-continues : goal.returns-in-Ok-clause-continues
returns-in-Ok-clause-continues c ts count regular begins p =
    continues_with _ _ _ regular begins p (λ next. c.in-Ok.ensures.reads next) c.with_item.ensures.ok c.with_item.ensures.err

pub returns-in-Err-clause-continues : goal.returns-in-Err-clause-continues
returns-in-Err-clause-continues c ts count regular begins p =
    let l = c.len.ensures.is in let w = c.requires.within in
    halts_in _ _ (c.args.total - c.len.result) begins p (λ next. c.in-Err.ensures.reads next) c.in-Err.ensures.shorter (omega (arith, l, w, count))
    (c.halt_in.ensures ∙ ap (λ n. halt_of c.in-Err.stop (c.args.total - c.len.result) n c.len-in-Err.result) (sym count) ∙ ap (λ n. halt_of c.in-Err.stop (c.args.total - c.len.result) (length ts) n) c.len-in-Err.ensures.is)
