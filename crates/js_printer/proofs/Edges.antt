-- The edges of a text by its characters.
use Rattle.std.proofs.Common.{◌≡◌, ℕ, suc, ◌==◌, Bool, true, false, ◌&&◌, List, [], ◌∷◌, ◌++◌, length, take, subst, slice_get, Option, Some, None, is_none, is_some, not, refl, sym, ap, ◌∙◌, arith}
use Rattle.std.specs.Prelude.{IsUtf8, chars}
use Rattle.std.specs.Char.{IsScalar}
use Rattle.std.proofs.Math.Utf8.{encode}
use Rattle.std.proofs.lemmas.List.{append-nil}
use Rattle.std.proofs.Math.Seq.{take-append_seam}
use Rattle.std.proofs.lemmas.Str.{IsUtf8-encode, IsUtf8-take, IsCharBoundary-at_seam, chars-append, chars_past_char, chars-nil}
use Rattle.std.proofs.lemmas.Bool.Decides.{nat_tests}
use Rattle.js_lexer.specs.Characters.{continues_name}
use Rattle.js_lexer.specs.Words.{is_spelled}
use Rattle.js_printer.specs.PrintedText.{last_is}
use Rattle.js_printer.specs.Edges.{front, back, at_character, nothing}

tested : (a b : ℕ) → ((a == b) && true) ≡ (b == a)
tested a b = grind (arith, nat_tests)

front_cons : (x : ℕ) (xs : List ℕ) → front (x ∷ xs) ≡ at_character x true
front_cons x xs = cc (tested 43 x, tested 45 x)

pub front_first : (cs : List ℕ) (c : ℕ) → Some c ≡ slice_get cs 0 → front cs ≡ at_character c true
front_first [] c h = cc
front_first (x ∷ xs) c h = let same : c ≡ x = cc in front_cons x xs ∙ ap (λ d. at_character d true) (sym same)

pub front_none : (cs : List ℕ) → None ≡ slice_get cs 0 → front cs ≡ nothing
front_none [] h = refl
front_none (x ∷ xs) h = cc

-- ---- the last character

last_at : (p : ℕ → Bool) (xs : List ℕ) (c : ℕ) → last_is p (xs ++ (c ∷ [])) ≡ p c
last_at p [] c = refl
last_at p (x ∷ []) c = refl
last_at p (x ∷ y ∷ xs) c = last_at p (y ∷ xs) c

-- one character, or more
alone : (sign : ℕ) (xs : List ℕ) (c : ℕ) → is_spelled (sign ∷ []) (xs ++ (c ∷ [])) ≡ (is_none (slice_get xs 0) && (c == sign))
alone sign [] c = tested sign c
alone sign (x ∷ []) c = refl
alone sign (x ∷ y ∷ xs) c = ap (λ b. b && ((sign == x) && true)) (more (length (xs ++ (c ∷ []))))
  where
    more : (n : ℕ) → (1 == suc (suc n)) ≡ false
    more n = grind (arith, nat_tests)

pub back_at : (xs : List ℕ) (c : ℕ) → back (xs ++ (c ∷ [])) ≡ at_character c (is_none (slice_get xs 0))
back_at xs c = cc (last_at continues_name xs c, alone 43 xs c, alone 45 xs c)

-- the characters before the last one
before_last : (bs rest : List ℕ) (c : ℕ) → IsUtf8 bs → IsScalar c → bs ≡ rest ++ encode c → IsUtf8 rest
before_last bs rest c u s e =
    subst (λ t. IsUtf8 t) (ap (λ t. take (length rest) t) e ∙ take-append_seam rest (encode c))
    (IsUtf8-take bs (length rest) u (IsCharBoundary-at_seam bs rest (encode c) e (IsUtf8-encode c s)))

chars_last : (bs rest : List ℕ) (c : ℕ) → IsUtf8 bs → IsScalar c → bs ≡ rest ++ encode c → chars bs ≡ chars rest ++ (c ∷ [])
chars_last bs rest c u s e =
    ap chars e ∙ chars-append rest (encode c) (before_last bs rest c u s e)
    ∙ ap (λ t. chars rest ++ t) (chars_past_char (encode c) [] c (IsUtf8-encode c s) (sym (append-nil (encode c))) ∙ ap (λ t. c ∷ t) chars-nil)

pub back_last : (bs whole rest : List ℕ) (c : ℕ) (before : Option ℕ) (is_alone : Bool) → IsUtf8 bs → IsScalar c → whole ≡ bs → whole ≡ rest ++ encode c
    → before ≡ slice_get (chars rest) 0 → is_some before ≡ not is_alone → at_character c is_alone ≡ back (chars bs)
back_last bs whole rest c before is_alone u s w e h k =
    ap (at_character c) (ended before is_alone k ∙ ap is_none h)
    ∙ sym (ap back (chars_last bs rest c u s (sym w ∙ e)) ∙ back_at (chars rest) c)
  where
    ended : (o : Option ℕ) (b : Bool) → is_some o ≡ not b → b ≡ is_none o
    ended None true k = refl
    ended None false k = cc
    ended (Some x) true k = cc
    ended (Some x) false k = refl

pub back_none : (bs : List ℕ) → length bs ≡ 0 → back (chars bs) ≡ nothing
back_none [] h = ap back chars-nil
back_none (b ∷ bs) h = cc
