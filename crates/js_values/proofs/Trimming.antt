-- Units at the front or at the end of a text that are left out.
use Rattle.std.proofs.Common.{◌≡◌, ℕ, suc, ◌+◌, ◌-◌, ◌<◌, ◌≤◌, Bool, true, false, ◌&&◌, List, [], ◌∷◌, ◌++◌, length, get_or, take, drop, cond, sym, ap, ◌∙◌, arith}
use Rattle.std.proofs.Math.Bool.{and-false}
use Rattle.std.proofs.Math.Seq.{take-suc, drop-cons}
use Rattle.std.proofs.lemmas.List.{at_drop_more, at_drop_all}
use Rattle.std.specs.List.{list_all}
use Rattle.js_values.specs.NumberTexts.{behind, is_blank, without_last_blanks}

-- a unit that passes is left out
pub behind_more : (test : ℕ → Bool) (text : List ℕ) (i : ℕ) → i < length text
    → test (get_or text i 0) ≡ true → behind test (drop (i + 1) text) ≡ behind test (drop i text)
behind_more test text i h t =
    sym (at_drop_more (behind test) text i 0 h ∙ ap (λ b. cond b (behind test (drop (i + 1) text)) (get_or text i 0 ∷ drop (i + 1) text)) t)

-- one that does not ends it
behind_first : (test : ℕ → Bool) (c : ℕ) (cs : List ℕ) → test c ≡ false → behind test (c ∷ cs) ≡ c ∷ cs
behind_first test c cs t = rw t

pub behind_here : (test : ℕ → Bool) (text : List ℕ) (i : ℕ) → i < length text
    → test (get_or text i 0) ≡ false → behind test (drop i text) ≡ drop i text
behind_here test text i h t =
    let parts = drop-cons text i 0 h in
    ap (behind test) parts ∙ behind_first test (get_or text i 0) (drop (suc i) text) t ∙ sym parts

pub behind_all : (test : ℕ → Bool) (text : List ℕ) (i : ℕ) → length text ≤ i
    → behind test (drop i text) ≡ []
behind_all test text i h = at_drop_all (behind test) text i h

pub ruleset behind_steps = (behind_more, behind_here, behind_all)

-- ---- at the end

all_blank_push : (xs : List ℕ) (x : ℕ) → is_blank x ≡ true → list_all is_blank (xs ++ x ∷ []) ≡ list_all is_blank xs
all_blank_push [] x h = rw h
all_blank_push (c ∷ cs) x h = ap (λ b. is_blank c && b) (all_blank_push cs x h)

not_all_blank : (xs : List ℕ) (x : ℕ) → is_blank x ≡ false → list_all is_blank (xs ++ x ∷ []) ≡ false
not_all_blank [] x h = rw h
not_all_blank (c ∷ cs) x h = ap (λ b. is_blank c && b) (not_all_blank cs x h) ∙ and-false (is_blank c)

last_blank : (xs : List ℕ) (x : ℕ) → is_blank x ≡ true → without_last_blanks (xs ++ x ∷ []) ≡ without_last_blanks xs
last_blank [] x h = rw h
last_blank (c ∷ cs) x h =
    rw (all_blank_push (c ∷ cs) x h) (ap (λ rest. cond (list_all is_blank (c ∷ cs)) [] (c ∷ rest)) (last_blank cs x h))

last_other : (xs : List ℕ) (x : ℕ) → is_blank x ≡ false → without_last_blanks (xs ++ x ∷ []) ≡ xs ++ x ∷ []
last_other [] x h = rw h
last_other (c ∷ cs) x h =
    rw (not_all_blank (c ∷ cs) x h) (ap (λ rest. c ∷ rest) (last_other cs x h))

-- a blank at the end is left out
pub last_more : (text : List ℕ) (end last : ℕ) → last ≡ end - 1 → 0 < end → end ≤ length text
    → is_blank (get_or text last 0) ≡ true
    → without_last_blanks (take last text) ≡ without_last_blanks (take end text)
last_more text end last e some h t =
    let next : end ≡ suc last = omega arith in
    let within : last < length text = omega arith in
    rw next (sym (ap without_last_blanks (take-suc text last 0 within) ∙ last_blank (take last text) (get_or text last 0) t))

-- another unit ends it
pub last_here : (text : List ℕ) (end last : ℕ) → last ≡ end - 1 → 0 < end → end ≤ length text
    → is_blank (get_or text last 0) ≡ false
    → without_last_blanks (take end text) ≡ take end text
last_here text end last e some h t =
    let next : end ≡ suc last = omega arith in
    let within : last < length text = omega arith in
    let parts = take-suc text last 0 within in
    rw next (ap without_last_blanks parts ∙ last_other (take last text) (get_or text last 0) t ∙ sym parts)

pub ruleset last_blanks = (last_more, last_here)
