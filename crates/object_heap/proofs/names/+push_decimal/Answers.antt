use Rattle.std.proofs.Common.{◌≡◌, ◌∙◌, ap, sym, append_assoc, ◌++◌, ◌∷◌, [], ◌/◌, arith}
use Rattle.std.proofs.lemmas.Result.{on_ok_weaker}
use Rattle.object_heap.specs.Names.{decimal}
use Rattle.js_values.proofs.Digits.{digits_text_more}
use Rattle.object_heap.proofs.names.+push_decimal.Goals as goal

-- the digits before the last are those of the quotient
pub returns : goal.returns
returns t c =
    let value = c.args.value in
    let before = c.args.text.now in
    let more = digits_text_more 10 value (omega arith) (omega arith) in
    let pushed = c.in_ok-push_decimal.ensures in
    on_ok_weaker c.push-2.result
    (λ (e : c.push-2.new.self ≡ c.push_decimal.new.text ++ c.digit-2.result ∷ []). e
    ∙ ap (λ x. x ++ c.digit-2.result ∷ []) pushed
    ∙ append_assoc before (decimal (value / 10)) (c.digit-2.result ∷ [])
    ∙ ap (λ d. before ++ (decimal (value / 10) ++ d ∷ [])) c.digit-2.ensures
    ∙ ap (λ ds. before ++ ds) (sym more))
    c.push-2.ensures.ok
