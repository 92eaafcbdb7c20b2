use Rattle.std.proofs.Common.{◌≡◌, ◌+◌, ◌≤◌, arith, length, length-drop, drop, sym, ◌∙◌, ap, subst, Some, None}
use Rattle.js_lexer.specs.Fronts.{string_part}
use Rattle.js_lexer.proofs.Fronts.{rest_of}
use Rattle.js_lexer.proofs.Strings.{continues_more, continues_end, Continues}
use Rattle.js_lexer.proofs.string.string_inside.Goals as goal

pub loop-value-preserved : goal.loop-value-preserved
loop-value-preserved c =
    let text = c.args.text.now in
    let at = c.loop-value.at in
    let part : string_part c.args.quote (drop at text) ≡ Some (c.in-Some.value, c.in-Some.length) =
    ap (string_part c.args.quote) (sym (rest_of text at)) ∙ sym c.string_part.ensures.value ∙ c.in-Some.is in
    let short : c.in-Some.length ≤ length (drop at text) = subst (λ ds. c.in-Some.length ≤ length ds) (rest_of text at) c.in-Some.ensures.within.1 in
    record {
      within = omega (arith, short, length-drop at text, c.loop-value.invariant.within);
      goes = subst (Continues c.args.quote text (at + c.in-Some.length)) (sym c.in_ok-push_code_point.ensures)
          (continues_more c.args.quote text at c.loop-value.units c.in-Some.value c.in-Some.length part c.loop-value.invariant.goes);
    }

pub returns-clause-inside : goal.returns-clause-inside
returns-clause-inside c =
    let part : string_part c.args.quote (drop c.loop-value.at c.args.text.now) ≡ None =
    ap (string_part c.args.quote) (sym (rest_of c.args.text.now c.loop-value.at)) ∙ sym c.string_part.ensures.value ∙ c.in_default.is in
    continues_end c.args.quote c.args.text.now c.loop-value.at c.loop-value.units part c.loop-value.invariant.goes
