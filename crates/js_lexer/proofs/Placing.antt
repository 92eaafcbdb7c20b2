-- Reading character by character comes to the place that the whole front of a text has.
use Rattle.std.proofs.Common.{◌≡◌, ℕ, suc, ◌+◌, Bool, true, false, ◌&&◌, ◌||◌, ◌==◌, not, List, [], ◌∷◌, ◌++◌, length, cond, refl, ap, sym, ◌∙◌, arith, append_assoc, append-nil, length-append}
use Rattle.std.specs.Char.{len_utf8}
use Rattle.std.proofs.lemmas.Str.{encodes-append}
use Rattle.std.proofs.Math.Utf8.{encodes}
use Rattle.dl_text.specs.declared.place.Place.{Place}
use Rattle.dl_text.specs.Place.{is_line_terminator, line_ends, is_one_line, last_line_length, place_after}
use Rattle.js_lexer.specs.declared.position.Position.{Position}
use Rattle.js_lexer.specs.Position.{passed, past, place_past}
use Rattle.js_lexer.proofs.Bytes.{bytes_cons}

-- the last character is a carriage return
abbrev pub ends_return : List ℕ → Bool
ends_return [] = false
ends_return (c ∷ []) = c == 13
ends_return (c ∷ d ∷ cs) = ends_return (d ∷ cs)

ends_return_push : (cs : List ℕ) (c : ℕ) → ends_return (cs ++ c ∷ []) ≡ (c == 13)
ends_return_push [] c = refl
ends_return_push (b ∷ []) c = refl
ends_return_push (b ∷ d ∷ cs) c = ends_return_push (d ∷ cs) c

or_true : (b : Bool) → (b || true) ≡ true
or_true true = refl
or_true false = refl

and_false : (b : Bool) → (b && false) ≡ false
and_false true = refl
and_false false = refl

and_true : (b : Bool) → (b && true) ≡ b
and_true true = refl
and_true false = refl

return_ends : (c : ℕ) → (c == 13) ≡ true → is_line_terminator c ≡ true
return_ends c e = rw e (or_true (c == 10))

feed_ends : (c : ℕ) → (c == 10) ≡ true → is_line_terminator c ≡ true
feed_ends c e = rw e refl

-- a number, or the next
abbrev more : Bool → ℕ → ℕ
more b n = cond b (suc n) n

more_more : (a b : Bool) (n : ℕ) → more a (more b n) ≡ more b (more a n)
more_more true true n = refl
more_more true false n = refl
more_more false true n = refl
more_more false false n = refl

-- of two neighbours, by whether they are CR and LF
neighbours : (a b r f : Bool) → (r ≡ true → a ≡ true) → (f ≡ true → b ≡ true) → more (a && not (r && f)) (more (b && true) 0) ≡ more (b && not (r && f)) (more (a && true) 0)
neighbours a b true true h k = rw (h refl, k refl) refl
neighbours a b true false h k = rw (and_true a, and_true b) (more_more a b 0)
neighbours a b false f h k = rw (and_true a, and_true b) (more_more a b 0)

not_and_false : (b : Bool) → not (b && false) ≡ true
not_and_false true = refl
not_and_false false = refl

line_ends_push : (cs : List ℕ) (c : ℕ) → line_ends (cs ++ c ∷ []) ≡ more (is_line_terminator c && not (ends_return cs && (c == 10))) (line_ends cs)
line_ends_push [] c = ap (λ b. more (is_line_terminator c && b) 0) (not_and_false (c == 13))
line_ends_push (b ∷ []) c =
    ap (λ v. more (is_line_terminator b && not ((b == 13) && (c == 10))) (more (is_line_terminator c && v) 0)) (not_and_false (c == 13))
    ∙ neighbours (is_line_terminator b) (is_line_terminator c) (b == 13) (c == 10) (return_ends b) (feed_ends c)
    ∙ ap (λ v. more (is_line_terminator c && not ((b == 13) && (c == 10))) (more (is_line_terminator b && v) 0)) (sym (not_and_false (b == 13)))
line_ends_push (b ∷ d ∷ cs) c =
    ap (more (is_line_terminator b && not ((b == 13) && (d == 10)))) (line_ends_push (d ∷ cs) c)
    ∙ more_more (is_line_terminator b && not ((b == 13) && (d == 10))) (is_line_terminator c && not (ends_return (d ∷ cs) && (c == 10))) (line_ends (d ∷ cs))

one_line_push : (cs : List ℕ) (c : ℕ) → is_one_line (cs ++ c ∷ []) ≡ (is_one_line cs && not (is_line_terminator c))
one_line_push [] c = and_true (not (is_line_terminator c))
one_line_push (b ∷ cs) c = ap (λ v. not (is_line_terminator b) && v) (one_line_push cs c) ∙ and_assoc (not (is_line_terminator b)) (is_one_line cs) (not (is_line_terminator c))
  where
    and_assoc : (x y z : Bool) → (x && (y && z)) ≡ ((x && y) && z)
    and_assoc true y z = refl
    and_assoc false y z = refl

last_ended : (cs : List ℕ) (c : ℕ) → is_line_terminator c ≡ true → last_line_length (cs ++ c ∷ []) ≡ 0
last_ended [] c e = rw e refl
last_ended (b ∷ cs) c e =
    let one : is_one_line (cs ++ c ∷ []) ≡ false = one_line_push cs c ∙ ap (λ v. is_one_line cs && not v) e ∙ and_false (is_one_line cs) in
    ap (λ v. more (not (is_line_terminator b) && v) (last_line_length (cs ++ c ∷ []))) one
    ∙ ap (λ v. more v (last_line_length (cs ++ c ∷ []))) (and_false (not (is_line_terminator b)))
    ∙ last_ended cs c e

last_grown : (cs : List ℕ) (c : ℕ) → is_line_terminator c ≡ false → last_line_length (cs ++ c ∷ []) ≡ suc (last_line_length cs)
last_grown [] c e = rw e refl
last_grown (b ∷ cs) c e =
    let one : is_one_line (cs ++ c ∷ []) ≡ is_one_line cs = one_line_push cs c ∙ ap (λ v. is_one_line cs && not v) e ∙ and_true (is_one_line cs) in
    ap (λ v. more (not (is_line_terminator b) && v) (last_line_length (cs ++ c ∷ []))) one
    ∙ ap (more (not (is_line_terminator b) && is_one_line cs)) (last_grown cs c e)
    ∙ more_more (not (is_line_terminator b) && is_one_line cs) true (last_line_length cs)

-- behind a carriage return a line is empty
last_empty : (cs : List ℕ) → ends_return cs ≡ true → (is_one_line cs ≡ false) × (last_line_length cs ≡ 0)
last_empty [] e = absurd (cc)
last_empty (c ∷ []) e = (rw (return_ends c e) refl, rw (return_ends c e) refl)
last_empty (c ∷ d ∷ cs) e =
    let h = last_empty (d ∷ cs) e in (
      ap (λ v. not (is_line_terminator c) && v) h.0 ∙ and_false (not (is_line_terminator c)),
      ap (λ v. more (not (is_line_terminator c) && v) (last_line_length (d ∷ cs))) h.0
          ∙ ap (λ v. more v (last_line_length (d ∷ cs))) (and_false (not (is_line_terminator c))) ∙ h.1,
    )

-- one more character, by whether it is a line terminator and whether it is the LF of a CR LF
place_step : (before : List ℕ) (c : ℕ) (t f : Bool) → is_line_terminator c ≡ t → (ends_return before && (c == 10)) ≡ f
    → place_after (before ++ c ∷ []) ≡ cond t (cond f (place_after before) (record { line = (place_after before).line + 1; column = 1 })) (record { line = (place_after before).line; column = (place_after before).column + 1 })
place_step before c true true e g =
    place (line_ends_push before c ∙ ap (λ v. more v (line_ends before)) (ap (λ v. is_line_terminator c && not v) g ∙ and_false (is_line_terminator c)))
    (last_ended before c e ∙ sym ((last_empty before (left _ _ g)).1))
  where
    left : (a b : Bool) → (a && b) ≡ true → a ≡ true
    left true b h = refl
    left false b h = absurd (cc)

    place : {l m n k : ℕ} → l ≡ m → n ≡ k → (let p : Place = record { line = 1 + l; column = 1 + n } in p) ≡ record { line = 1 + m; column = 1 + k }
    place e g = cc
place_step before c true false e g =
    let lines : line_ends (before ++ c ∷ []) ≡ suc (line_ends before) = line_ends_push before c ∙ ap (λ v. more v (line_ends before)) (ap (λ v. v && not (ends_return before && (c == 10))) e ∙ ap not g) in
    let line : 1 + line_ends (before ++ c ∷ []) ≡ 1 + line_ends before + 1 = omega arith in
    let column : 1 + last_line_length (before ++ c ∷ []) ≡ 1 = ap (λ n. 1 + n) (last_ended before c e) in
    cc
place_step before c false f e g =
    let lines : line_ends (before ++ c ∷ []) ≡ line_ends before = line_ends_push before c ∙ ap (λ v. more v (line_ends before)) (ap (λ v. v && not (ends_return before && (c == 10))) e) in
    let line : 1 + line_ends (before ++ c ∷ []) ≡ 1 + line_ends before = ap (λ n. 1 + n) lines in
    let grown = last_grown before c e in
    let column : 1 + last_line_length (before ++ c ∷ []) ≡ 1 + last_line_length before + 1 = omega arith in
    cc

-- where reading stands behind these characters, which stand behind so many bytes
abbrev pub stand : ℕ → List ℕ → Position
stand start before = record { bytes = start + length (encodes before); place = place_after before; after_return = ends_return before }

stand_past : (start : ℕ) (before : List ℕ) (c : ℕ) → past (stand start before) c ≡ stand start (before ++ c ∷ [])
stand_past start before c =
    let place : place_past (ends_return before) c (place_after before) ≡ place_after (before ++ c ∷ []) = sym (place_step before c (is_line_terminator c) (ends_return before && (c == 10)) refl refl) in
    let bytes : start + length (encodes before) + len_utf8 c ≡ start + length (encodes (before ++ c ∷ [])) = more_bytes in
    let after_return : (c == 13) ≡ ends_return (before ++ c ∷ []) = sym (ends_return_push before c) in
    cc
  where
    more_bytes : start + length (encodes before) + len_utf8 c ≡ start + length (encodes (before ++ c ∷ []))
    more_bytes =
        let split = ap length (encodes-append before (c ∷ [])) ∙ length-append (encodes before) (encodes (c ∷ [])) in
        let one = bytes_cons c [] in
        omega arith

pub stand_passed : (start : ℕ) (before cs : List ℕ) → passed (stand start before) cs ≡ stand start (before ++ cs)
stand_passed start before [] = ap (stand start) (sym (append-nil before))
stand_passed start before (c ∷ cs) =
    ap (λ p. passed p cs) (stand_past start before c) ∙ stand_passed start (before ++ c ∷ []) cs ∙ ap (stand start) (append_assoc before (c ∷ []) cs)
