-- Readers of bytes: what they read, and that they read it again.
use Rattle.std.proofs.Common.{◌≡◌, ◌≢◌, ℕ, suc, ◌+◌, ◌≤◌, Bool, true, false, ◌&&◌, cond, nat_eq, List, [], ◌∷◌, ◌++◌, Some, None, refl, ap, sym, subst, arith, rules, length, take, drop}
use Rattle.std.specs.Prelude.{◌⊎◌}
use Rattle.std.specs.List.{prefix_len, AllPass}
use Rattle.std.specs.Cmp.Lexicographic.{pointwise}
use Rattle.std.proofs.Common.{inl, inr}
use Rattle.std.proofs.lemmas.Bool.Decides.{nat_tests}
use Rattle.std.proofs.lemmas.List.{take-append-drop}
use Rattle.std.proofs.lemmas.List.Elements.{All-nil, All-cons, All-head, All-tail, All-same}
use Rattle.std.proofs.lemmas.Grind.{common_steps}
use Rattle.text_reader.specs.Reader.{Found, Reader, and_then, chosen, skip, ended, one, run}

-- ---- how readers are joined

pub then_parts : {A B : Type 0} (o : Found A) (f : A → Reader B) (y : B × List ℕ) → and_then o f ≡ Some y → (p : A × List ℕ) × (o ≡ Some p) × (f p.0 p.1 ≡ Some y)
then_parts (Some p) f y e = (p, refl, e)
then_parts None f y e = cc

pub chosen_parts : {A : Type 0} (t : Found (Unit {0})) (there : Reader A) (other : Found A) (y : A × List ℕ) → chosen t there other ≡ Some y → ((r : List ℕ) × (t ≡ Some (tt, r)) × (there r ≡ Some y)) ⊎ ((t ≡ None) × (other ≡ Some y))
chosen_parts (Some p) there other y e = inl (p.1, refl, e)
chosen_parts None there other y e = inr (refl, e)

abbrev pair_or : {A : Type 0} → A × List ℕ → Found A → A × List ℕ
pair_or d (Some p) = p
pair_or d None = d

-- what two equal answers hold
pub same_parts : {A : Type 0} (x y : A) (r s : List ℕ) → ◌≡◌ {A = Found A} (Some (x, r)) (Some (y, s)) → (x ≡ y) × (r ≡ s)
same_parts {A} x y r s e =
    let part : Found A → A = λ o. (pair_or (x, r) o).0 in
    let rest : Found A → List ℕ = λ o. (pair_or (x, r) o).1 in
    (ap part e, ap rest e)

-- ---- bytes that are given

skip_found : (p s r : List ℕ) → pointwise nat_eq (take (length p) s) p ≡ true → r ≡ drop (length p) s → skip p s ≡ Some (tt, r)
unfolding skip
skip_found [] s r h e = ap (λ v. Some (tt, v)) (sym e)
skip_found (c ∷ cs) [] r h e = cc
skip_found (c ∷ cs) (b ∷ bs) r h e =
    elim (nat_eq b c) as (λ v. (v && pointwise nat_eq (take (length cs) bs) cs) ≡ true → cond v (skip cs bs) None ≡ Some (tt, r)) [ true ↦ λ q. skip_found cs bs r q e | false ↦ λ q. cc ] h

skip_none : (p s : List ℕ) → pointwise nat_eq (take (length p) s) p ≡ false → skip p s ≡ None
unfolding skip
skip_none [] s h = cc
skip_none (c ∷ cs) [] h = refl
skip_none (c ∷ cs) (b ∷ bs) h =
    elim (nat_eq b c) as (λ v. (v && pointwise nat_eq (take (length cs) bs) cs) ≡ false → cond v (skip cs bs) None ≡ None) [ true ↦ λ q. skip_none cs bs q | false ↦ λ q. refl ] h

-- of what a slice's prefix test says
pub eats_there : (p s t r : List ℕ) → t ≡ s → pointwise nat_eq (take (length p) t) p ≡ true → r ≡ drop (length p) t → skip p s ≡ Some (tt, r)
eats_there p s t r same h e = rw (← same) (skip_found p t r h e)

pub eats_none : (p s t : List ℕ) → t ≡ s → pointwise nat_eq (take (length p) t) p ≡ false → skip p s ≡ None
eats_none p s t same h = rw (← same) (skip_none p t h)

skip_head : (b c : ℕ) (v : Bool) (cs bs r : List ℕ) → v ≡ nat_eq b c → cond v (skip cs bs) None ≡ Some (tt, r) → (b ≡ c) × (skip cs bs ≡ Some (tt, r))
skip_head b c true cs bs r w e = (search (rules, nat_tests), e)
skip_head b c false cs bs r w e = cc

pub skip_sound : (p s r : List ℕ) → skip p s ≡ Some (tt, r) → p ++ r ≡ s
unfolding skip
skip_sound [] s r e = sym (same_parts tt tt s r e).1
skip_sound (c ∷ cs) [] r e = cc
skip_sound (c ∷ cs) (b ∷ bs) r e = let h = skip_head b c (nat_eq b c) cs bs r refl e in let k = skip_sound cs bs r h.1 in let same = h.0 in cc

pub skip_again : (p r : List ℕ) → skip p (p ++ r) ≡ Some (tt, r)
unfolding skip
skip_again [] r = refl
skip_again (c ∷ cs) r = let e : nat_eq c c ≡ true = search (rules, nat_tests) in rw e (skip_again cs r)

-- bytes that differ from those given in their first or their second
pub second_differs : (p b : ℕ) (ps bs : List ℕ) → skip ps bs ≡ None → skip (p ∷ ps) (b ∷ bs) ≡ None
unfolding skip
second_differs p b ps bs e = elim (nat_eq b p) as (λ v. cond v (skip ps bs) None ≡ None) [ true ↦ e | false ↦ refl ]

pub first_differs : (p b : ℕ) (ps bs : List ℕ) → b ≢ p → skip (p ∷ ps) (b ∷ bs) ≡ None
unfolding skip
first_differs p b ps bs h = let e : nat_eq b p ≡ false = search (rules, nat_tests) in rw e

-- ---- the end

pub ended_is : (bs r : List ℕ) (u : Unit {0}) → ended bs ≡ Some (u, r) → (bs ≡ []) × (r ≡ [])
unfolding ended
ended_is [] r u e = (refl, sym (same_parts tt u [] r e).1)
ended_is (b ∷ bs) r u e = cc

pub ended_again : ended [] ≡ Some (tt, [])
unfolding ended
ended_again = refl

pub not_ended : (bs : List ℕ) → 1 ≤ length bs → ended bs ≡ None
unfolding ended
not_ended [] h = absurd (omega arith)
not_ended (b ∷ bs) h = refl

-- ---- one byte

one_head : (test : ℕ → Bool) (b : ℕ) (bs rest : List ℕ) (c : ℕ) (v : Bool) → v ≡ test b → cond {A = Found ℕ} v (Some (b, bs)) None ≡ Some (c, rest) → (test c ≡ true) × (c ∷ rest ≡ b ∷ bs)
one_head test b bs rest c true w e = let p = same_parts b c bs rest e in (subst (λ x. test x ≡ true) p.0 (sym w), cc)
one_head test b bs rest c false w e = cc

pub one_sound : (test : ℕ → Bool) (bs rest : List ℕ) (c : ℕ) → one test bs ≡ Some (c, rest) → (test c ≡ true) × (c ∷ rest ≡ bs)
unfolding one
one_sound test [] rest c e = cc
one_sound test (b ∷ bs) rest c e = one_head test b bs rest c (test b) refl e

pub one_again : (test : ℕ → Bool) (c : ℕ) (rest : List ℕ) → test c ≡ true → one test (c ∷ rest) ≡ Some (c, rest)
unfolding one
one_again test c rest h = rw h

-- ---- runs

front_passes : (test : ℕ → Bool) (b : ℕ) (bs : List ℕ) (v : Bool) → v ≡ test b → AllPass test (take (prefix_len test bs) bs) → AllPass test (take (cond v (1 + prefix_len test bs) 0) (b ∷ bs))
front_passes test b bs true w h = let e : 1 + prefix_len test bs ≡ suc (prefix_len test bs) = omega arith in rw e (All-cons (λ x. test x ≡ true) b _ (sym w) h)
front_passes test b bs false w h = All-nil (λ x. test x ≡ true)

pub run_passes : (test : ℕ → Bool) (bs : List ℕ) → AllPass test (take (prefix_len test bs) bs)
run_passes test [] = All-nil (λ x. test x ≡ true)
run_passes test (b ∷ bs) = front_passes test b bs (test b) refl (run_passes test bs)

pub run_sound : (test : ℕ → Bool) (bs front rest : List ℕ) → run test bs ≡ Some (front, rest) → AllPass test front × (front ++ rest ≡ bs)
unfolding run
run_sound test bs front rest e =
    let p = same_parts (take (prefix_len test bs) bs) front (drop (prefix_len test bs) bs) rest e in
    let whole = take-append-drop (prefix_len test bs) bs in
    (All-same (λ x. test x ≡ true) _ _ (sym p.0) (run_passes test bs), cc)

-- what a run leaves
pub run_rest : (test : ℕ → Bool) (bs front rest : List ℕ) → run test bs ≡ Some (front, rest) → rest ≡ drop (prefix_len test bs) bs
unfolding run
run_rest test bs front rest e = sym (same_parts (take (prefix_len test bs) bs) front (drop (prefix_len test bs) bs) rest e).1

pub run_length : (test : ℕ → Bool) (cs : List ℕ) (c : ℕ) (r : List ℕ) → AllPass test cs → test c ≡ false → prefix_len test (cs ++ (c ∷ r)) ≡ length cs
run_length test [] c r h e = rw e
run_length test (b ∷ bs) c r h e =
    let yes : test b ≡ true = All-head (λ x. test x ≡ true) b bs h in
    let more = run_length test bs c r (All-tail (λ x. test x ≡ true) b bs h) e in
    rw yes (omega (arith, more))

take_front : (cs r : List ℕ) (n : ℕ) → n ≡ length cs → (take n (cs ++ r) ≡ cs) × (drop n (cs ++ r) ≡ r)
take_front cs r n e = (grind (arith, common_steps), grind (arith, common_steps))

pub run_again : (test : ℕ → Bool) (cs : List ℕ) (c : ℕ) (r : List ℕ) → AllPass test cs → test c ≡ false → run test (cs ++ (c ∷ r)) ≡ Some (cs, c ∷ r)
unfolding run
run_again test cs c r h e = let p = take_front cs (c ∷ r) (prefix_len test (cs ++ (c ∷ r))) (run_length test cs c r h e) in cc

run_of_all : (test : ℕ → Bool) (cs : List ℕ) → AllPass test cs → prefix_len test cs ≡ length cs
run_of_all test [] h = refl
run_of_all test (b ∷ bs) h =
    let yes : test b ≡ true = All-head (λ x. test x ≡ true) b bs h in
    let more = run_of_all test bs (All-tail (λ x. test x ≡ true) b bs h) in
    rw yes (omega (arith, more))

pub run_to_end : (test : ℕ → Bool) (cs : List ℕ) → AllPass test cs → run test cs ≡ Some (cs, [])
unfolding run
run_to_end test cs h =
    let e = run_of_all test cs h in
    let front : take (prefix_len test cs) cs ≡ cs = grind (arith, common_steps) in
    let rest : drop (prefix_len test cs) cs ≡ [] = grind (arith, common_steps) in
    cc
