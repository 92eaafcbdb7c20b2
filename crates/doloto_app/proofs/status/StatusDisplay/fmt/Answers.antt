use Rattle.std.proofs.Common.{◌≡◌, ◌++◌, ℕ, List, Bool, true, false, refl, sym, ap, ◌∙◌, subst, codes}
use Rattle.std.specs.Str.{is_utf8, IsUtf8}
use Rattle.std.specs.Fmt.{HasWritten}
use Rattle.std.proofs.lemmas.Str.{IsUtf8-from_is_utf8, is_utf8-from_IsUtf8}
use Rattle.doloto_app.specs.Ends.{text_of, missing_text}
use Rattle.doloto_app.proofs.status.StatusDisplay.fmt.Goals as goal

not_text : (name : List ℕ) → (IsUtf8 name → ⊥) → is_utf8 name ≡ false
not_text name broken = by (is_utf8 name) refl
  where
    by : (b : Bool) → is_utf8 name ≡ b → b ≡ false
    by true e = absurd (broken (IsUtf8-from_is_utf8 name e))
    by false e = refl

pub returns-in-Ok-clause-writes : goal.returns-in-Ok-clause-writes
returns-in-Ok-clause-writes g c plain ok =
    let name = c.in-Missing.name in
    let is_text = is_utf8-from_IsUtf8 name (subst IsUtf8 c.items.ensures c.in-Ok.ensures.cases.1) in
    subst (λ bytes. HasWritten g.W.Write.write_str_gives c.args.f.now bytes c.write-in-Ok.new.self)
    (ap (λ n. codes "missing: " ++ n) (c.in-Ok.ensures.cases.0 ∙ c.items.ensures) ∙ (sym (ap (missing_text name) is_text) ∙ sym (ap text_of c.in-Missing.is)))
    (c.write-in-Ok.ensures.writes plain ok)

pub returns-in-Err-clause-writes : goal.returns-in-Err-clause-writes
returns-in-Err-clause-writes g c plain ok =
    let name = c.in-Missing.name in
    let no_text = not_text name (λ h. c.in-Err.ensures.cases.0 (subst IsUtf8 (sym c.items.ensures) h)) in
    subst (λ bytes. HasWritten g.W.Write.write_str_gives c.args.f.now bytes c.write_str-in-Err.new.self)
    (sym (ap (missing_text name) no_text) ∙ sym (ap text_of c.in-Missing.is))
    (c.write_str-in-Err.ensures.writes plain ok)
