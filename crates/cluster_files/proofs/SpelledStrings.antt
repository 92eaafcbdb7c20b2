-- A shown string that stands in a text is read as what it shows.
use Rattle.std.proofs.Common.{◌≡◌, ℕ, suc, ◌+◌, ◌*◌, ◌/◌, ◌%◌, ◌≤◌, ◌<◌, ◌==◌, nat_lt, nat_le, Bool, true, false, ◌&&◌, ◌||◌, List, [], ◌∷◌, ◌++◌, length, drop, Some, cond, refl, ap, sym, ◌∙◌, subst, arith, length-append, append_assoc}
use Rattle.std.specs.List.{flat_map}
use Rattle.std.specs.Char.{digit_value, digit_char}
use Rattle.std.proofs.Math.Seq.{drop-append_seam}
use Rattle.std.proofs.lemmas.Bool.{leb-true, lt-ltb, ltb-true, eqb-true}
use Rattle.std.proofs.lemmas.Bool.Decides.{nat_tests}
use Rattle.std.proofs.lemmas.Str.{digit_value-digit_char}
use Rattle.dl_text.specs.Place.{is_line_terminator}
use Rattle.dl_text.specs.Quote.{quoted, quoted_unit, numbered_unit}
use Rattle.js_lexer.specs.Characters.{is_hex_digit}
use Rattle.js_lexer.specs.Fronts.{StandsAt, IsInside, string_part, string_end}
use Rattle.js_lexer.specs.Fronts as f
use Rattle.js_lexer.specs.declared.front.Front.TheVariants.{Next}
use Rattle.js_lexer.specs.declared.token.TokenKind.TheVariants as t
use Rattle.js_lexer.proofs.PieceLaws.{left, right}
use Rattle.cluster_files.specs.WritableKinds.{are_units}
use Rattle.cluster_files.proofs.Scalars.{one_unit}

-- the text begins with these characters, which are a part of a string that gives this unit
record IsPartOf (written rest : List ℕ) (u : ℕ) : Type 0 where
  part : string_part 34 (written ++ rest) ≡ Some (u, length written)

hex_char : (d : ℕ) → d < 16 → is_hex_digit (digit_char d) ≡ true
hex_char d h = rw (digit_value-digit_char d (omega arith)) (lt-ltb d 16 h)

value_of : (d : ℕ) → d < 16 → digit_value (digit_char d) ≡ d
value_of d h = digit_value-digit_char d (omega arith)

numbered_sum : (u : ℕ) → u < 0x1_0000 → 4096 * (u / 4096) + 256 * (u / 256 % 16) + 16 * (u / 16 % 16) + u % 16 ≡ u
numbered_sum u h = omega arith

numbered_part : (u : ℕ) (rest : List ℕ) → u < 0x1_0000 → IsPartOf (numbered_unit u) rest u
numbered_part u rest h =
    let a : u / 4096 < 16 = omega arith in
    let b : u / 256 % 16 < 16 = omega arith in
    let c : u / 16 % 16 < 16 = omega arith in
    let d : u % 16 < 16 = omega arith in
    record {
      part = rw (hex_char (u / 4096) a, hex_char (u / 256 % 16) b, hex_char (u / 16 % 16) c, hex_char (u % 16) d)
          (ap (λ n. Some (n, 6)) (sums (value_of (u / 4096) a) (value_of (u / 256 % 16) b) (value_of (u / 16 % 16) c) (value_of (u % 16) d) ∙ numbered_sum u h));
    }
  where
    sums : {a a' b b' c c' d d' : ℕ} → a ≡ a' → b ≡ b' → c ≡ c' → d ≡ d' → 4096 * a + 256 * b + 16 * c + d ≡ 4096 * a' + 256 * b' + 16 * c' + d'
    sums e f g h = cc

unit_part : (u : ℕ) (rest : List ℕ) → u < 0x1_0000 → IsPartOf (quoted_unit u) rest u
unit_part u rest h = at (u == 34) (u == 92) (nat_le 32 u && nat_le u 126) refl refl refl
  where
    at : (a b c : Bool) → (u == 34) ≡ a → (u == 92) ≡ b → (nat_le 32 u && nat_le u 126) ≡ c → IsPartOf (cond (a || b) (92 ∷ u ∷ []) (cond c (u ∷ []) (numbered_unit u))) rest u
    at true b c e g i = let same : u ≡ 34 = eqb-true u 34 e in subst (λ v. IsPartOf (92 ∷ v ∷ []) rest v) (sym same) (record { part = refl })
    at false true c e g i = let same : u ≡ 92 = eqb-true u 92 g in subst (λ v. IsPartOf (92 ∷ v ∷ []) rest v) (sym same) (record { part = refl })
    at false false true e g i =
        let low = leb-true 32 u (left (nat_le 32 u) (nat_le u 126) i) in
        let high = leb-true u 126 (right (nat_le 32 u) (nat_le u 126) i) in
        record { part = rw (g, e, in_line u low high) refl }
      where
        in_line : (u : ℕ) → 32 ≤ u → u ≤ 126 → is_line_terminator u ≡ false
        in_line u low high = grind (arith, nat_tests)
    at false false false e g i = numbered_part u rest h

-- what is written of units is the inside of a string
inside : (us rest : List ℕ) → are_units us ≡ true → IsInside 34 (flat_map quoted_unit us ++ (34 ∷ rest)) (length (flat_map quoted_unit us)) us
inside [] rest h = f.none refl
inside (u ∷ us) rest h =
    let small = ltb-true u 0x1_0000 (left (nat_lt u 0x1_0000) (are_units us) h) in
    let more = inside us rest (right (nat_lt u 0x1_0000) (are_units us) h) in
    let here = (unit_part u (flat_map quoted_unit us ++ (34 ∷ rest)) small).part in
    let there : IsInside 34 (drop (length (quoted_unit u)) (quoted_unit u ++ (flat_map quoted_unit us ++ (34 ∷ rest)))) (length (flat_map quoted_unit us)) us =
    subst (λ cs. IsInside 34 cs (length (flat_map quoted_unit us)) us) (sym (drop-append_seam (quoted_unit u) (flat_map quoted_unit us ++ (34 ∷ rest)))) more in
    let both = f.more u (length (quoted_unit u)) (length (flat_map quoted_unit us)) us here there in
    subst (λ cs. IsInside 34 cs (length (quoted_unit u ++ flat_map quoted_unit us)) (u ∷ us)) (sym (append_assoc (quoted_unit u) (flat_map quoted_unit us) (34 ∷ rest)))
    (subst (λ n. IsInside 34 (quoted_unit u ++ (flat_map quoted_unit us ++ (34 ∷ rest))) n (u ∷ us)) (sym (length-append (quoted_unit u) (flat_map quoted_unit us)))
    (subst (λ vs. IsInside 34 (quoted_unit u ++ (flat_map quoted_unit us ++ (34 ∷ rest))) (length (quoted_unit u) + length (flat_map quoted_unit us)) (vs ++ us)) (one_unit u small) both))

pub string_stands : (us rest : List ℕ) → are_units us ≡ true → StandsAt (quoted us ++ rest) (Next (length (quoted us)) (Some (t.Str us)))
string_stands us rest h =
    let body = flat_map quoted_unit us in
    let size : length (quoted us) ≡ length body + 2 = ap suc (length-append body (34 ∷ [])) ∙ two_more (length body) in
    let behind : drop (length body) (body ++ (34 ∷ rest)) ≡ 34 ∷ rest = drop-append_seam body (34 ∷ rest) in
    let stands : StandsAt (34 ∷ (body ++ (34 ∷ rest))) (string_end 34 (length body) us (drop (length body) (body ++ (34 ∷ rest)))) = f.string (length body) us refl (inside us rest h) in
    let ends : StandsAt (34 ∷ (body ++ (34 ∷ rest))) (Next (length body + 2) (Some (t.Str us))) =
    subst (λ cs. StandsAt (34 ∷ (body ++ (34 ∷ rest))) (string_end 34 (length body) us cs)) behind stands in
    subst (λ cs. StandsAt (34 ∷ cs) (Next (length (quoted us)) (Some (t.Str us)))) (sym (append_assoc body (34 ∷ []) rest))
    (subst (λ n. StandsAt (34 ∷ (body ++ (34 ∷ rest))) (Next n (Some (t.Str us)))) (sym size) ends)
  where
    two_more : (n : ℕ) → suc (n + 1) ≡ n + 2
    two_more n = omega arith
