-- The words of a command, by how many they are.
use Rattle.std.proofs.Common.{◌≡◌, ℕ, suc, List, [], ◌∷◌, length, map, None, refl, get_or, arith}
use Rattle.std.specs.Prelude.{String, string_bytes}
use Rattle.std.specs.declared.alloc.Global.{Global}
use Rattle.doloto_app.specs.Words.{command_of}

three : (n : ℕ) → suc (suc (suc n)) ≡ 2 → ⊥
three n h = omega (arith, h)

four : (n : ℕ) → suc (suc (suc (suc n))) ≡ 3 → ⊥
four n h = omega (arith, h)

pub two_words : (ws : List (String Global)) (d e : String Global) → length ws ≡ 2 → map string_bytes ws ≡ string_bytes (get_or ws 0 d) ∷ string_bytes (get_or ws 1 e) ∷ []
two_words [] d e h = cc
two_words (a ∷ []) d e h = cc
two_words (a ∷ b ∷ []) d e h = refl
two_words (a ∷ b ∷ c ∷ ws) d e h = absurd (three (length ws) h)

pub three_words : (ws : List (String Global)) (d e f : String Global) → length ws ≡ 3 → map string_bytes ws ≡ string_bytes (get_or ws 0 d) ∷ string_bytes (get_or ws 1 e) ∷ string_bytes (get_or ws 2 f) ∷ []
three_words [] d e f h = cc
three_words (a ∷ []) d e f h = cc
three_words (a ∷ b ∷ []) d e f h = cc
three_words (a ∷ b ∷ c ∷ []) d e f h = refl
three_words (a ∷ b ∷ c ∷ x ∷ xs) d e f h = absurd (four (length xs) h)

pub other_words : (ws : List (String Global)) → (length ws ≡ 2 → ⊥) → (length ws ≡ 3 → ⊥) → command_of (map string_bytes ws) ≡ None
other_words [] g h = refl
other_words (a ∷ []) g h = refl
other_words (a ∷ b ∷ []) g h = absurd (g refl)
other_words (a ∷ b ∷ c ∷ []) g h = absurd (h refl)
other_words (a ∷ b ∷ c ∷ x ∷ xs) g h = refl
