use Rattle.std.proofs.Common.{◌≡◌, ◌∙◌, ap, sym, append_assoc, ◌++◌, ◌∷◌, [], ◌/◌, arith}
use Rattle.std.proofs.lemmas.Result.{on_ok_weaker}
use Rattle.js_values.specs.Numerals.{digits_text}
use Rattle.js_values.proofs.Digits.{digits_text_more}
use Rattle.js_values.proofs.numeral.+push_digits.Goals as goal

-- the digits before the last are those of the quotient
pub returns : goal.returns
returns t c =
    let radix = c.args.radix in
    let value = c.args.value in
    let before = c.args.text.now in
    let more = digits_text_more radix value c.requires.least (omega arith) in
    let pushed = c.in_ok-push_digits.ensures in
    on_ok_weaker c.push-2.result
    (λ (e : c.push-2.new.self ≡ c.push_digits.new.text ++ c.digit-2.result ∷ []). e
    ∙ ap (λ x. x ++ c.digit-2.result ∷ []) pushed
    ∙ append_assoc before (digits_text radix (value / radix)) (c.digit-2.result ∷ [])
    ∙ ap (λ d. before ++ (digits_text radix (value / radix) ++ d ∷ [])) c.digit-2.ensures
    ∙ ap (λ ds. before ++ ds) (sym more))
    c.push-2.ensures.ok
