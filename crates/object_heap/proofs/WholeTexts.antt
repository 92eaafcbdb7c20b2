-- Names that are texts of whole numbers.
use Rattle.std.proofs.Common.{◌≡◌, ℕ, ◌<◌, ◌==◌, Bool, true, false, ◌&&◌, not, List, [], ◌∷◌, length, get_or, refl, sym, ap, ◌∙◌, true≢false}
use Rattle.std.specs.List.{list_all}
use Rattle.std.proofs.lemmas.List.Folds.{list_all_at}
use Rattle.js_values.specs.NumberTexts.{is_digit}
use Rattle.object_heap.specs.Names.{Name, is_whole_text}

pub digit_at : (ds : Name) (i d : ℕ) → i < length ds → list_all is_digit ds ≡ true → is_digit (get_or ds i d) ≡ true
digit_at ds i d lt all = by (is_digit (get_or ds i d)) refl
  where
    by : (b : Bool) → is_digit (get_or ds i d) ≡ b → b ≡ true
    by true e = refl
    by false e = absurd (true≢false (sym all ∙ list_all_at is_digit ds i d lt e))

both : (a b c : Bool) → (a && (b && c)) ≡ true → (a && c) ≡ true
both true true c e = e
both true false c e = absurd (true≢false (sym e))
both false b c e = absurd (true≢false (sym e))

alone : (a : Bool) → a ≡ true → (a && true) ≡ true
alone true e = refl
alone false e = e

pub whole_text_has_digits : (name : Name) → is_whole_text name ≡ true → list_all is_digit name ≡ true
whole_text_has_digits [] e = refl
whole_text_has_digits (c ∷ []) e = alone (is_digit c) e
whole_text_has_digits (c ∷ (d ∷ ds)) e = both (is_digit c) (not (c == 48)) (list_all is_digit (d ∷ ds)) e
