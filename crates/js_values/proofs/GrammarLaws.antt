-- The tests of a number's text are the productions of the grammar.
use Rattle.std.proofs.Common.{◌≡◌, ℕ, Bool, true, false, cond, ◌&&◌, ◌||◌, ◌==◌, ◌⊎◌, inl, inr, List, [], ◌∷◌, ◌++◌, refl, sym, ap, subst, ◌∙◌, arith}
use Rattle.std.specs.Prelude.{codes}
use Rattle.std.specs.List.{list_all}
use Rattle.std.specs.Str.{bytes_eq}
use Rattle.std.proofs.Math.Bool.{or-true}
use Rattle.std.proofs.lemmas.Bool.Decides.{nat_tests}
use Rattle.std.proofs.lemmas.Slice.Eq.{bytes_eq-Decides}
use Rattle.js_values.specs.NumberTexts.{is_digit, is_decimal, behind, begins_digit, without_sign, is_exponent, ends_literal, ends_fraction, is_fractional}
use Rattle.js_values.specs.NumberGrammar.{Digits, DigitsOrNone, SignedInteger, unsigned, positive, negative}
use Rattle.js_values.specs.NumberGrammar.{ExponentPart, small, capital, ExponentOrNone}
use Rattle.js_values.specs.NumberGrammar.{FractionalLiteral, infinity, point, point_first, exponent}
use Rattle.js_values.proofs.TextLaws.{both}

-- ---- what the tests say

either : (a b : Bool) → (a || b) ≡ true → (a ≡ true) ⊎ (b ≡ true)
either true b h = inl refl
either false b h = inr h

is_it : (a b : ℕ) → (a == b) ≡ true → a ≡ b
is_it a b h = grind (arith, nat_tests)

digit_is_no_sign : (c : ℕ) → is_digit c ≡ true → ((c == 43) || (c == 45)) ≡ false
digit_is_no_sign c h = grind (arith, nat_tests)

-- the digits at the front of a text
record Front (text : List ℕ) : Type 0 where
  digits : List ℕ
  all : list_all is_digit digits ≡ true
  some : is_decimal digits ≡ begins_digit text
  parts : text ≡ digits ++ behind is_digit text

front_step : (c : ℕ) (cs : List ℕ) (v : Bool) → is_digit c ≡ v → Front cs → Front (c ∷ cs)
front_step c cs true e f = record {
  digits = c ∷ f.digits;
  all = rw e f.all;
  some = rw (e, f.all) refl;
  parts = rw e (ap (λ xs. c ∷ xs) f.parts);
}
front_step c cs false e f = record { digits = []; all = refl; some = sym e; parts = rw e refl }

front : (text : List ℕ) → Front text
front [] = record { digits = []; all = refl; some = refl; parts = refl }
front (c ∷ cs) = front_step c cs (is_digit c) refl (front cs)

none_there : (text : List ℕ) → list_all is_digit text ≡ true → is_decimal text ≡ false → text ≡ []
none_there [] all none = refl
none_there (c ∷ cs) all none = cc

-- ---- a test that passes

signed_step : (c : ℕ) (cs : List ℕ) (v : Bool) → ((c == 43) || (c == 45)) ≡ v
    → is_decimal (cond v cs (c ∷ cs)) ≡ true → SignedInteger (c ∷ cs)
signed_step c cs true e h = elim (either (c == 43) (c == 45) e) [
  | inl k ↦ subst (λ x. SignedInteger (x ∷ cs)) (sym (is_it c 43 k)) (positive cs h)
  | inr k ↦ subst (λ x. SignedInteger (x ∷ cs)) (sym (is_it c 45 k)) (negative cs h)
]
signed_step c cs false e h = unsigned (c ∷ cs) h

signed_sound : (text : List ℕ) → is_decimal (without_sign text) ≡ true → SignedInteger text
signed_sound [] h = cc
signed_sound (c ∷ cs) h = signed_step c cs ((c == 43) || (c == 45)) refl h

exponent_sound : (text : List ℕ) → is_exponent text ≡ true → ExponentPart text
exponent_sound [] h = cc
exponent_sound (c ∷ cs) h =
    let parts = both ((c == 101) || (c == 69)) (is_decimal (without_sign cs)) h in
    let power = signed_sound cs parts.1 in
    elim (either (c == 101) (c == 69) parts.0) [
      | inl k ↦ subst (λ x. ExponentPart (x ∷ cs)) (sym (is_it c 101 k)) (small cs power)
      | inr k ↦ subst (λ x. ExponentPart (x ∷ cs)) (sym (is_it c 69 k)) (capital cs power)
    ]

end_sound : (text : List ℕ) → ends_literal text ≡ true → ExponentOrNone text
end_sound [] h = inl refl
end_sound (c ∷ cs) h = inr (exponent_sound (c ∷ cs) h)

point_sound : (whole cs : List ℕ) (v : Bool) → list_all is_digit whole ≡ true → is_decimal whole ≡ v
    → ((v || begins_digit cs) && ends_literal (behind is_digit cs)) ≡ true → FractionalLiteral (whole ++ 46 ∷ cs)
point_sound whole cs true all some h =
    let f = front cs in
    subst (λ xs. FractionalLiteral (whole ++ 46 ∷ xs)) (sym f.parts)
    (point whole f.digits (behind is_digit cs) some f.all (end_sound (behind is_digit cs) h))
point_sound whole cs false all some h =
    let f = front cs in
    let parts = both (begins_digit cs) (ends_literal (behind is_digit cs)) h in
    subst (λ ws. FractionalLiteral (ws ++ 46 ∷ cs)) (sym (none_there whole all some))
    (subst (λ xs. FractionalLiteral (46 ∷ xs)) (sym f.parts)
    (point_first f.digits (behind is_digit cs) (f.some ∙ parts.0) (end_sound (behind is_digit cs) parts.1)))

exponent_behind : (whole rest : List ℕ) (v : Bool) → is_decimal whole ≡ v → (v && is_exponent rest) ≡ true
    → FractionalLiteral (whole ++ rest)
exponent_behind whole rest true some h = exponent whole rest some (exponent_sound rest h)
exponent_behind whole rest false some h = cc

fraction_step : (whole : List ℕ) (c : ℕ) (cs : List ℕ) (v p : Bool) → list_all is_digit whole ≡ true
    → is_decimal whole ≡ v → (c == 46) ≡ p
    → cond p ((v || begins_digit cs) && ends_literal (behind is_digit cs)) (v && is_exponent (c ∷ cs)) ≡ true
    → FractionalLiteral (whole ++ c ∷ cs)
fraction_step whole c cs v true all some e h =
    subst (λ x. FractionalLiteral (whole ++ x ∷ cs)) (sym (is_it c 46 e)) (point_sound whole cs v all some h)
fraction_step whole c cs v false all some e h = exponent_behind whole (c ∷ cs) v some h

fraction_sound : (whole rest : List ℕ) (v : Bool) → list_all is_digit whole ≡ true → is_decimal whole ≡ v
    → ends_fraction v rest ≡ true → FractionalLiteral (whole ++ rest)
fraction_sound whole [] v all some h = cc
fraction_sound whole (c ∷ cs) v all some h = fraction_step whole c cs v (c == 46) all some refl h

pub fractional_sound : (text : List ℕ) → is_fractional text ≡ true → FractionalLiteral text
fractional_sound text h =
    elim (either (bytes_eq text (codes "Infinity")) (ends_fraction (begins_digit text) (behind is_digit text)) h) [
      | inl k ↦ subst FractionalLiteral (sym ((bytes_eq-Decides text (codes "Infinity")).0 k)) infinity
      | inr k ↦
          let f = front text in
          subst FractionalLiteral (sym f.parts)
          (fraction_sound f.digits (behind is_digit text) (begins_digit text) f.all f.some k)
    ]

-- ---- a text of the grammar

behind_front : (digits rest : List ℕ) → list_all is_digit digits ≡ true → begins_digit rest ≡ false
    → behind is_digit (digits ++ rest) ≡ rest
behind_front [] [] all none = refl
behind_front [] (c ∷ cs) all none = rw none refl
behind_front (c ∷ cs) rest all none =
    let parts = both (is_digit c) (list_all is_digit cs) all in
    rw parts.0 (behind_front cs rest parts.1 none)

all_of : (text : List ℕ) → Digits text → DigitsOrNone text
all_of [] h = cc
all_of (c ∷ cs) h = h

begins_of : (text rest : List ℕ) → Digits text → begins_digit (text ++ rest) ≡ true
begins_of [] rest h = cc
begins_of (c ∷ cs) rest h = (both (is_digit c) (list_all is_digit cs) h).0

unsigned_true : (text : List ℕ) → Digits text → is_decimal (without_sign text) ≡ true
unsigned_true [] h = cc
unsigned_true (c ∷ cs) h = rw (digit_is_no_sign c (both (is_digit c) (list_all is_digit cs) h).0) h

signed_true : (text : List ℕ) → SignedInteger text → is_decimal (without_sign text) ≡ true
signed_true _ (unsigned digits h) = unsigned_true digits h
signed_true _ (positive digits h) = h
signed_true _ (negative digits h) = h

exponent_true : (text : List ℕ) → ExponentPart text → is_exponent text ≡ true
exponent_true _ (small power h) = signed_true power h
exponent_true _ (capital power h) = signed_true power h

exponent_begins : (text : List ℕ) → ExponentPart text → (begins_digit text ≡ false) × (ends_fraction true text ≡ true)
exponent_begins _ (small power h) = (refl, signed_true power h)
exponent_begins _ (capital power h) = (refl, signed_true power h)

end_exponent : (text : List ℕ) → ExponentPart text → (begins_digit text ≡ false) × (ends_literal text ≡ true)
end_exponent _ (small power h) = (refl, signed_true power h)
end_exponent _ (capital power h) = (refl, signed_true power h)

end_true : (text : List ℕ) → ExponentOrNone text → (begins_digit text ≡ false) × (ends_literal text ≡ true)
end_true text (inl e) = (ap begins_digit e, ap ends_literal e)
end_true text (inr e) = end_exponent text e

fraction_true : (text rest : List ℕ) (v : Bool) → begins_digit text ≡ v → behind is_digit text ≡ rest
    → ends_fraction v rest ≡ true → is_fractional text ≡ true
fraction_true text rest v b r h =
    rw (b, r, h) (or-true (bytes_eq text (codes "Infinity")))

pub fractional_complete : (text : List ℕ) → FractionalLiteral text → is_fractional text ≡ true
fractional_complete _ infinity = refl
fractional_complete _ (point whole part end w p e) =
    let last = end_true end e in
    fraction_true (whole ++ 46 ∷ (part ++ end)) (46 ∷ (part ++ end)) true
    (begins_of whole (46 ∷ (part ++ end)) w)
    (behind_front whole (46 ∷ (part ++ end)) (all_of whole w) refl)
    (ap ends_literal (behind_front part end p last.0) ∙ last.1)
fractional_complete _ (point_first part end p e) =
    let last = end_true end e in
    fraction_true (46 ∷ (part ++ end)) (46 ∷ (part ++ end)) false refl refl
    (rw (begins_of part end p) (ap ends_literal (behind_front part end (all_of part p) last.0) ∙ last.1))
fractional_complete _ (exponent whole end w e) =
    let last = exponent_begins end e in
    fraction_true (whole ++ end) end true (begins_of whole end w)
    (behind_front whole end (all_of whole w) last.0) last.1
