-- Lists of values and of trees.
use Rattle.std.proofs.Common.{◌≡◌, ◌<◌, ◌≤◌, ℕ, zero, suc, ◌+◌, ◌-◌, List, [], ◌∷◌, ◌++◌, length, take, drop, refl, sym, ap, ◌∙◌, arith, length-drop}
use Rattle.std.specs.Prelude.{reverse, get_or}
use Rattle.std.proofs.lemmas.List.{reverse-append, reverse-reverse, get_or-reverse, length-reverse, take-append-drop, take_all}
use Rattle.std.proofs.Math.Seq.{drop-cons, take-append_seam}
use Rattle.std.proofs.Math.ListN.{drop_of_length-le}
use Rattle.js_values.specs.declared.value.Value.{Value}
use Rattle.js_values.specs.declared.value.Value.TheVariants.{Undefined}
use Rattle.js_machine.specs.Stacks.{top, without}

pub drop_out : {X : Type 0} (xs : List X) (i : ℕ) → length xs ≤ i → drop i xs ≡ []
drop_out xs i h = drop_of_length-le xs h

pub drop_get : {X : Type 0} (xs : List X) (i : ℕ) (d : X) → i < length xs → drop i xs ≡ get_or xs i d ∷ drop (i + 1) xs
drop_get xs i d h = let e : suc i ≡ i + 1 = omega arith in drop-cons xs i d h ∙ ap (λ k. get_or xs i d ∷ drop k xs) e

pub drop_at : {X : Type 0} (xs : List X) (i : ℕ) (x : X) → i < length xs → x ≡ get_or xs i x → drop i xs ≡ x ∷ drop (i + 1) xs
drop_at xs i x h e = drop_get xs i x h ∙ ap (λ y. y ∷ drop (i + 1) xs) (sym e)

-- more values on a stack
pub newest_added : (xs ys zs : List Value) → zs ≡ xs ++ ys → reverse zs ≡ reverse ys ++ reverse xs
newest_added xs ys zs e = ap reverse e ∙ reverse-append xs ys

-- after k more values
pub without_front : (xs ys : List Value) → without (length xs) (xs ++ ys) ≡ ys
without_front [] ys = refl
without_front (x ∷ xs) ys = without_front xs ys

pub without_empty : (n : ℕ) → without n [] ≡ []
without_empty zero = refl
without_empty (suc n) = without_empty n

pub without_more : (xs : List Value) (n : ℕ) → length xs ≤ n → without n xs ≡ []
without_more [] n h = without_empty n
without_more (x ∷ xs) zero h = absurd (omega (arith, h))
without_more (x ∷ xs) (suc n) h = without_more xs n (omega (arith, h))

split_reverse : (xs : List Value) (k : ℕ) → reverse xs ≡ reverse (drop k xs) ++ reverse (take k xs)
split_reverse xs k = ap reverse (sym (take-append-drop k xs)) ∙ reverse-append (take k xs) (drop k xs)

rest_length : (xs : List Value) (n k : ℕ) → k ≡ length xs - n → n ≤ length xs → length (reverse (drop k xs)) ≡ n
rest_length xs n k e h = length-reverse (drop k xs) ∙ (length-drop k xs ∙ omega (arith, e, h))

-- a stack whose newest values are cut off
pub cut_stack : (xs : List Value) (n k : ℕ) → k ≡ length xs - n → reverse (take k xs) ≡ without n (reverse xs)
cut_stack xs n zero e =
    let l : length (reverse xs) ≤ n = omega (arith, e, length-reverse xs) in
    sym (without_more (reverse xs) n l)
cut_stack xs n (suc j) e =
    let h : n ≤ length xs = omega (arith, e) in
    sym (ap (without n) (split_reverse xs (suc j))
    ∙ (ap (λ m. without m (reverse (drop (suc j) xs) ++ reverse (take (suc j) xs))) (sym (rest_length xs n (suc j) e h))
    ∙ without_front (reverse (drop (suc j) xs)) (reverse (take (suc j) xs))))

-- so many of its newest values, the oldest of them first
pub newest_cut : (xs : List Value) (n k : ℕ) → k ≡ length xs - n → drop k xs ≡ reverse (take n (reverse xs))
newest_cut xs n zero e =
    let l : length (reverse xs) ≤ n = omega (arith, e, length-reverse xs) in
    sym (ap reverse (take_all n (reverse xs) l) ∙ reverse-reverse xs)
newest_cut xs n (suc j) e =
    let h : n ≤ length xs = omega (arith, e) in
    sym (ap (λ ys. reverse (take n ys)) (split_reverse xs (suc j))
    ∙ (ap (λ m. reverse (take m (reverse (drop (suc j) xs) ++ reverse (take (suc j) xs)))) (sym (rest_length xs n (suc j) e h))
    ∙ (ap reverse (take-append_seam (reverse (drop (suc j) xs)) (reverse (take (suc j) xs)))
    ∙ reverse-reverse (drop (suc j) xs))))

top_at : (vs : List Value) (n : ℕ) → top (without n vs) ≡ get_or vs n Undefined
top_at [] n = ap top (without_empty n)
top_at (v ∷ vs) zero = refl
top_at (v ∷ vs) (suc n) = top_at vs n

-- the value under so many newer ones
pub value_under : (xs : List Value) (n : ℕ) → n < length xs → get_or xs (length xs - 1 - n) Undefined ≡ top (without n (reverse xs))
value_under xs n h = sym (top_at (reverse xs) n ∙ get_or-reverse xs n Undefined h)

pub none_under : (xs : List Value) (n : ℕ) → length xs ≤ n → top (without n (reverse xs)) ≡ Undefined
none_under xs n h = let l : length (reverse xs) ≤ n = omega (arith, h, length-reverse xs) in ap top (without_more (reverse xs) n l)

-- a read within the list does not depend on what stands behind it
pub read_at : (xs : List Value) (i : ℕ) (v : Value) → i < length xs → v ≡ get_or xs i v → v ≡ get_or xs i Undefined
read_at [] i v h e = absurd (omega (arith, h))
read_at (x ∷ xs) zero v h e = e
read_at (x ∷ xs) (suc i) v h e = read_at xs i v (omega (arith, h)) e
