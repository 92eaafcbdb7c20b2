-- Laws of names as units.
use Rattle.std.proofs.Common.{◌≡◌, ℕ, Bool, true, false, ◌&&◌, List, [], ◌∷◌, drop, length, Option, Some, None, cond, arith, refl, ap, sym, ◌∙◌, ◌==◌}
use Rattle.std.specs.List.{list_all}
use Rattle.std.proofs.lemmas.Bool.Decides.{nat_tests}
use Rattle.std.specs.Option.{option_map}
use Rattle.std.specs.Char.Utf16.{utf16_chars, is_high_surrogate, is_low_surrogate, surrogate_pair_char, lone_unit_char}
use Rattle.js_lexer.specs.Characters.{continues_name}
use Rattle.js_lexer.specs.Names.{passes, character_at, goes_on, is_name_text, begins}

is_nothing : List ℕ → Bool
is_nothing [] = true
is_nothing (u ∷ us) = false

nothing : (us : List ℕ) → is_nothing us ≡ (length us == 0)
unfolding is_nothing
nothing [] = refl
nothing (u ∷ us) = grind (arith, nat_tests)

-- what is read of a text by its first character
rest_goes_on : Option (ℕ × ℕ) → List ℕ → Bool
unfolding utf16_chars
rest_goes_on None us = is_nothing us
rest_goes_on (Some c) us = continues_name c.0 && goes_on (drop c.1 us)

lone : (u : ℕ) (us : List ℕ) (o : Option ℕ) → list_all (passes continues_name) (o ∷ utf16_chars us) ≡ rest_goes_on (option_map (λ c. (c, 1)) o) (u ∷ us)
unfolding rest_goes_on is_nothing
lone u us None = refl
lone u us (Some c) = refl

at_pair : (u v : ℕ) (us : List ℕ) (b : Bool) → list_all (passes continues_name) (cond b (Some (surrogate_pair_char u v) ∷ utf16_chars us) (lone_unit_char u ∷ utf16_chars (v ∷ us)))
    ≡ rest_goes_on (cond b (Some (surrogate_pair_char u v, 2)) (option_map (λ c. (c, 1)) (lone_unit_char u))) (u ∷ v ∷ us)
unfolding rest_goes_on is_nothing
at_pair u v us true = refl
at_pair u v us false = lone u (v ∷ us) (lone_unit_char u)

goes_on_is : (us : List ℕ) → goes_on us ≡ rest_goes_on (character_at us) us
unfolding utf16_chars rest_goes_on is_nothing
goes_on_is [] = refl
goes_on_is (u ∷ []) = lone u [] (lone_unit_char u)
goes_on_is (u ∷ v ∷ us) = at_pair u v us (is_high_surrogate u && is_low_surrogate v)

pub goes_on_more : (us : List ℕ) (c n : ℕ) → character_at us ≡ Some (c, n) → goes_on us ≡ (continues_name c && goes_on (drop n us))
unfolding rest_goes_on
goes_on_more us c n e = goes_on_is us ∙ ap (λ o. rest_goes_on o us) e

pub goes_on_end : (us : List ℕ) → character_at us ≡ None → goes_on us ≡ (length us == 0)
unfolding rest_goes_on
goes_on_end us e = goes_on_is us ∙ ap (λ o. rest_goes_on o us) e ∙ nothing us

-- a text is a name by its first character and by all
pub name_text_is : (us : List ℕ) → is_name_text (utf16_chars us) ≡ (begins (character_at us) && goes_on us)
unfolding utf16_chars
name_text_is [] = refl
name_text_is (u ∷ []) = one (lone_unit_char u) []
  where
    one : (o : Option ℕ) (cs : List (Option ℕ)) → is_name_text (o ∷ cs) ≡ (begins (option_map (λ c. (c, 1)) o) && list_all (passes continues_name) (o ∷ cs))
    one None cs = refl
    one (Some c) cs = refl
name_text_is (u ∷ v ∷ us) = two (is_high_surrogate u && is_low_surrogate v)
  where
    one : (o : Option ℕ) (cs : List (Option ℕ)) → is_name_text (o ∷ cs) ≡ (begins (option_map (λ c. (c, 1)) o) && list_all (passes continues_name) (o ∷ cs))
    one None cs = refl
    one (Some c) cs = refl

    two : (b : Bool) → is_name_text (cond b (Some (surrogate_pair_char u v) ∷ utf16_chars us) (lone_unit_char u ∷ utf16_chars (v ∷ us)))
        ≡ (begins (cond b (Some (surrogate_pair_char u v, 2)) (option_map (λ c. (c, 1)) (lone_unit_char u)))
        && list_all (passes continues_name) (cond b (Some (surrogate_pair_char u v) ∷ utf16_chars us) (lone_unit_char u ∷ utf16_chars (v ∷ us))))
    two true = refl
    two false = one (lone_unit_char u) (utf16_chars (v ∷ us))

pub goes_off : (us : List ℕ) (c n : ℕ) (b : Bool) → character_at us ≡ Some (c, n) → b ≡ continues_name c → b ≡ false → goes_on us ≡ false
goes_off us c n b e h t = goes_on_more us c n e ∙ ap (λ x. x && goes_on (drop n us)) (sym h ∙ t)

pub goes_further : (us rest : List ℕ) (c n : ℕ) (b : Bool) → character_at us ≡ Some (c, n) → b ≡ continues_name c → b ≡ true → rest ≡ drop n us → goes_on rest ≡ goes_on us
goes_further us rest c n b e h t r = ap goes_on r ∙ sym (goes_on_more us c n e ∙ ap (λ x. x && goes_on (drop n us)) (sym h ∙ t))
