-- Lists whose items get their numbers one after the other: what holds before each turn of such a
-- loop, and what that says of the next item, of one more turn, and at the end.
use Rattle.std.proofs.Common.{◌≡◌, ℕ, ◌+◌, ◌<◌, ◌≤◌, suc, zero, List, [], ◌∷◌, ◌++◌, length, take}
use Rattle.std.proofs.Common.{drop, map, Some, refl, ap, sym, ◌∙◌, arith, append_assoc}
use Rattle.std.specs.Prelude.{slice_get, slice_set}
use Rattle.std.proofs.lemmas.List.{length-append, length-set, map-append, drop-set-lt, drop_more}
use Rattle.std.proofs.lemmas.List.{drop_all, take_all, take_more_set, append-nil}
use Rattle.std.proofs.lemmas.Option.{slice_get_within, get_or_from_slice_get}
use denote.Param.Weighed.{most}
use Rattle.js_tree.specs.Tree.{Func}
use Rattle.js_tree.specs.Renumbering.{behind}

-- ---- lists of parts

-- the parts, of which each is given its numbers behind those before it
abbrev pub walked : {P : Type 0} → (ℕ → P → P) → (P → List Func) → ℕ → List P → List P
walked given inside n [] = []
walked given inside n (p ∷ ps) = given n p ∷ walked given inside (behind n (inside p)) ps

abbrev pub all_inside : {P : Type 0} → (P → List Func) → List P → List Func
all_inside inside [] = []
all_inside inside (p ∷ ps) = inside p ++ all_inside inside ps

-- ---- lists

drop_next : {X : Type 0} (n : ℕ) (xs : List X) → drop (suc n) xs ≡ drop 1 (drop n xs)
drop_next zero xs = refl
drop_next (suc n) [] = refl
drop_next (suc n) (x ∷ xs) = drop_next n xs

same_drop : {X : Type 0} (at : ℕ) (xs ys : List X) → drop at xs ≡ drop at ys
    → drop (at + 1) xs ≡ drop (at + 1) ys
same_drop at xs ys same =
    let more : at + 1 ≡ suc at = omega arith in
    ap (λ n. drop n xs) more ∙ drop_next at xs ∙ ap (drop 1) same ∙ sym (drop_next at ys)
    ∙ sym (ap (λ n. drop n ys) more)

drop_at : {X : Type 0} (xs : List X) (at : ℕ) (x : X) → slice_get xs at ≡ Some x
    → drop at xs ≡ x ∷ drop (at + 1) xs
drop_at xs at x is =
    drop_more xs at x (slice_get_within xs at x is)
    ∙ ap (λ y. y ∷ drop (at + 1) xs) (get_or_from_slice_get xs at x x is)

-- no item of a list is larger than its largest
within_most : {X : Type 0} (size : X → ℕ) (at : ℕ) (xs rest : List X) (x : X)
    → drop at xs ≡ x ∷ rest → size x ≤ most size xs
within_most size zero xs rest x is = let all = ap (most size) is in omega arith
within_most size (suc n) [] rest x is = absurd (cc)
within_most size (suc n) (y ∷ ys) rest x is =
    let later = within_most size n ys rest x is in omega arith

-- ---- what is done of a list up to a place

-- `now` is the list `whole`, whose items before the place have their numbers, and `next` comes next
pub record Done {X P : Type 0} (plain : X → P) (given : ℕ → P → P) (inside : P → List Func)
    (start : ℕ) (whole now : List X) (at next : ℕ) : Type 0 where
  pub rest : drop at now ≡ drop at whole
  pub size : length now ≡ length whole
  pub items : walked given inside start (map plain whole)
      ≡ map plain (take at now) ++ walked given inside next (map plain (drop at whole))
  pub place : behind start (all_inside inside (map plain whole))
      ≡ behind next (all_inside inside (map plain (drop at whole)))

module _ {X P : Type 0} (plain : X → P) (given : ℕ → P → P) (inside : P → List Func) where
  pub begins : (start : ℕ) (whole : List X) → Done plain given inside start whole whole 0 start
  begins start whole = record { rest = refl; size = refl; items = refl; place = refl }

  whole_at : (start : ℕ) (whole now : List X) (at next : ℕ) (x : X)
      → Done plain given inside start whole now at next → slice_get now at ≡ Some x
      → drop at whole ≡ x ∷ drop (at + 1) whole
  whole_at start whole now at next x done is =
      sym done.rest ∙ drop_at now at x is ∙ ap (λ xs. x ∷ xs) (same_drop at now whole done.rest)

  place_at : (start : ℕ) (whole now : List X) (at next : ℕ) (x : X)
      → Done plain given inside start whole now at next → slice_get now at ≡ Some x
      → behind start (all_inside inside (map plain whole))
      ≡ behind (behind next (inside (plain x))) (all_inside inside (map plain (drop (at + 1) whole)))
  place_at start whole now at next x done is =
      let rest = all_inside inside (map plain (drop (at + 1) whole)) in
      done.place ∙ ap (λ xs. behind next (all_inside inside (map plain xs))) (whole_at start whole now at next x done is)
      ∙ omega (arith, length-append (inside (plain x)) rest)

  -- the next item is no larger than the largest of the whole list
  pub no_larger : (size : X → ℕ) (start : ℕ) (whole now : List X) (at next : ℕ) (x : X)
      → Done plain given inside start whole now at next → slice_get now at ≡ Some x
      → size x ≤ most size whole
  no_larger size start whole now at next x done is =
      within_most size at whole _ x (whole_at start whole now at next x done is)

  -- one more item has its numbers
  pub goes_on : (start : ℕ) (whole now : List X) (at next : ℕ) (old new : X) (later : List X) (after : ℕ)
      → Done plain given inside start whole now at next
      → slice_get now at ≡ Some old → plain new ≡ given next (plain old) → later ≡ slice_set now at new
      → after ≡ behind next (inside (plain old))
      → Done plain given inside start whole later (at + 1) after
  goes_on start whole now at next old new later after done is given_is later_is after_is =
      let within = slice_get_within now at old is in
      let todo = drop (at + 1) whole in
      let from : List X → List P = λ xs. walked given inside next (map plain xs) in
      let step : walked given inside next (map plain (drop at whole))
      ≡ plain new ∷ walked given inside after (map plain todo)
      = ap from (whole_at start whole now at next old done is)
      ∙ ap (λ p. p ∷ walked given inside (behind next (inside (plain old))) (map plain todo)) (sym given_is)
      ∙ ap (λ n. plain new ∷ walked given inside n (map plain todo)) (sym after_is) in
      let front : map plain (take (at + 1) later) ≡ map plain (take at now) ++ (plain new ∷ [])
      = ap (λ xs. map plain (take (at + 1) xs)) later_is
      ∙ ap (map plain) (take_more_set now at new within)
      ∙ map-append plain (take at now) (new ∷ []) in
      let less : at < at + 1 = omega arith in
      record {
        rest = ap (drop (at + 1)) later_is ∙ drop-set-lt (at + 1) now at new less
            ∙ same_drop at now whole done.rest;
        size = ap length later_is ∙ length-set now at new ∙ done.size;
        items = done.items ∙ ap (λ ps. map plain (take at now) ++ ps) step
            ∙ sym (append_assoc (map plain (take at now)) (plain new ∷ []) (walked given inside after (map plain todo)))
            ∙ ap (λ ps. ps ++ walked given inside after (map plain todo)) (sym front);
        place = place_at start whole now at next old done is
            ∙ ap (λ n. behind n (all_inside inside (map plain todo))) (sym after_is);
      }

  -- there are numbers for the next item
  pub fits : (start : ℕ) (whole now : List X) (at next : ℕ) (old : X) (most : ℕ)
      → Done plain given inside start whole now at next
      → slice_get now at ≡ Some old → behind start (all_inside inside (map plain whole)) < most
      → behind next (inside (plain old)) < most
  fits start whole now at next old most done is less = omega (arith, place_at start whole now at next old done is)

  pub all_items : (start : ℕ) (whole now : List X) (at next : ℕ)
      → Done plain given inside start whole now at next → length now ≤ at
      → map plain now ≡ walked given inside start (map plain whole)
  all_items start whole now at next done end =
      let whole_ends : length whole ≤ at = omega (arith, done.size) in
      let from = λ (xs : List X). map plain (take at now) ++ walked given inside next (map plain xs) in
      sym (done.items ∙ ap from (drop_all at whole whole_ends)
      ∙ append-nil (map plain (take at now)) ∙ ap (map plain) (take_all at now end))

  pub last_place : (start : ℕ) (whole now : List X) (at next : ℕ)
      → Done plain given inside start whole now at next → length now ≤ at
      → next ≡ behind start (all_inside inside (map plain whole))
  last_place start whole now at next done end =
      let whole_ends : length whole ≤ at = omega (arith, done.size) in
      let none = ap (λ xs. behind next (all_inside inside (map plain xs))) (drop_all at whole whole_ends) in
      omega (arith, done.place, none)
