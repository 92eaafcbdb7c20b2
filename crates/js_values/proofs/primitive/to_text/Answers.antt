use Rattle.std.proofs.Common.{◌≡◌, ◌∙◌, ℕ, List, Some, ap, sym}
use Rattle.std.proofs.lemmas.Result.{IfOk-weaker}
use Rattle.std.specs.Prelude.{codes}
use Rattle.std.specs.Str.{chars}
use Rattle.dl_text.specs.Utf16.{utf16}
use Rattle.js_values.specs.Values.{text_of}
use Rattle.js_values.proofs.Words.{units_undefined}
use Rattle.js_values.proofs.primitive.to_text.Goals as goal

pub returns-in-Undefined : goal.returns-in-Undefined
returns-in-Undefined c =
    IfOk-weaker c.units_of.result
    (λ text. text ≡ utf16 (chars (codes "undefined")))
    (λ text. text_of c.args.value.now ≡ Some text)
    (λ (text : List ℕ) (e : text ≡ utf16 (chars (codes "undefined"))).
    ap text_of c.in-Undefined.is ∙ ap (λ t. Some t) (sym (e ∙ units_undefined)))
    c.units_of.ensures
