use Rattle.std.proofs.Common.{sym, ap, ◌∙◌, arith}
use Rattle.js_parser.specs.Accepted.{counted}
use Rattle.js_parser.proofs.OneMoreToken.{functions_more}
use Rattle.js_parser.proofs.cuts.first_function_over.Goals as goal

pub returns-then-functions-from-clause-over : goal.returns-then-functions-from-clause-over
returns-then-functions-from-clause-over c =
    let t = c.index-tokens-i.result in
    let e = c.counted-functions.ensures
    ∙ ap (counted t.kind) c.loop-i.invariant.same
    ∙ sym (functions_more c.args.tokens.now c.loop-i.i t (omega arith) c.index-tokens-i.is) in
    λ _. omega (arith, e)

pub loop-i-preserved : goal.loop-i-preserved
loop-i-preserved c =
    let t = c.index-tokens-i.result in
    record {
      same = c.counted-functions.ensures
          ∙ ap (counted t.kind) c.loop-i.invariant.same
          ∙ sym (functions_more c.args.tokens.now c.loop-i.i t (omega arith) c.index-tokens-i.is);
      within = omega arith;
    }
