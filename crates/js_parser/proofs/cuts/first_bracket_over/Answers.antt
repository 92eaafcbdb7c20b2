use Rattle.std.proofs.Common.{sym, ap, ◌∙◌, arith}
use Rattle.js_parser.specs.Accepted.{opened}
use Rattle.js_parser.proofs.OneMoreToken.{behind_more, most_more}
use Rattle.js_parser.proofs.cuts.first_bracket_over.Goals as goal

pub returns-then-brackets-from-clause-over : goal.returns-then-brackets-from-clause-over
returns-then-brackets-from-clause-over c =
    let t = c.index-tokens-i.result in
    let behind = c.opened-brackets.ensures ∙ ap (opened t.kind) c.loop-i.invariant.same in
    let most = most_more 0 c.args.tokens.now c.loop-i.i t (omega arith) c.index-tokens-i.is in
    λ _. omega (arith, behind, most)

pub loop-i-preserved : goal.loop-i-preserved
loop-i-preserved c =
    let t = c.index-tokens-i.result in
    let behind = c.opened-brackets.ensures ∙ ap (opened t.kind) c.loop-i.invariant.same in
    let most = most_more 0 c.args.tokens.now c.loop-i.i t (omega arith) c.index-tokens-i.is in
    record {
      same = behind ∙ sym (behind_more 0 c.args.tokens.now c.loop-i.i t (omega arith) c.index-tokens-i.is);
      keeps = omega (arith, behind, most);
      within = omega arith;
    }
