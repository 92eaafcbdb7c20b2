-- One front stands at each place.
use Rattle.std.proofs.Common.{◌≡◌, ℕ, zero, suc, ◌+◌, ◌≤◌, ◌<◌, Bool, true, false, List, [], ◌∷◌, ◌++◌, length, drop, Option, Some, None, ◌⊎◌, inl, inr, refl, ap, sym, ◌∙◌, subst, arith, length-drop}
use Rattle.std.specs.Char.Escape.{encode_utf16}
use Rattle.js_lexer.specs.declared.front.Front.{Front}
use Rattle.js_lexer.specs.Fronts as f
use Rattle.js_lexer.specs.Fronts.{StandsAt, IsInside, string_part, string_end, front_by, is_quote}
use Rattle.js_lexer.proofs.Within.{part_bounds}

-- ---- one front at each place

part_value : Option (ℕ × ℕ) → ℕ
part_value None = 0
part_value (Some part) = part.0

part_length : Option (ℕ × ℕ) → ℕ
part_length None = 0
part_length (Some part) = part.1

pub inside_one : (quote : ℕ) (cs : List ℕ) (n m : ℕ) (us vs : List ℕ) → IsInside quote cs n us → IsInside quote cs m vs → (n ≡ m) × (us ≡ vs)
unfolding part_value part_length
inside_one quote cs n m us vs (f.none e) (f.none e') = (refl, refl)
inside_one quote cs n m us vs (f.none e) (f.more value len k ws e' rest) = absurd (cc)
inside_one quote cs n m us vs (f.more value len k ws e rest) (f.none e') = absurd (cc)
inside_one quote cs n m us vs (f.more value len k ws e rest) (f.more value' len' k' ws' e' rest') =
    let same = sym e ∙ e' in
    let v : value ≡ value' = ap part_value same in
    let l : len ≡ len' = ap part_length same in
    let h = inside_one quote (drop len cs) k k' ws ws' rest (subst (λ x. IsInside quote (drop x cs) k' ws') (sym l) rest') in
    (sum l h.0, joined v h.1)
  where
    sum : {a b c d : ℕ} → a ≡ b → c ≡ d → a + c ≡ b + d
    sum p q = cc

    joined : {a b : ℕ} {xs ys : List ℕ} → a ≡ b → xs ≡ ys → encode_utf16 a ++ xs ≡ encode_utf16 b ++ ys
    joined {a} {b} {xs} {ys} p q = ap (λ x. encode_utf16 x ++ xs) p ∙ ap (λ zs. encode_utf16 b ++ zs) q

-- what a front of such a text is
record IsString (c : ℕ) (cs : List ℕ) (front : Front) : Type 0 where
  quoted : is_quote c ≡ true
  size : ℕ
  units : List ℕ
  inside : IsInside c cs size units
  ends : front ≡ string_end c size units (drop size cs)

record IsOther (c : ℕ) (cs : List ℕ) (front : Front) : Type 0 where
  unquoted : is_quote c ≡ false
  ends : front ≡ front_by c cs

stands_cases : (text : List ℕ) (front : Front) → StandsAt text front → (c : ℕ) (cs : List ℕ) → text ≡ c ∷ cs → IsString c cs front ⊎ IsOther c cs front
stands_cases text front (f.string {c = d} {cs = ds} n units quoted inside) c cs e =
    let head : d ≡ c = cc in
    let tail : ds ≡ cs = cc in
    let P : ℕ → List ℕ → Type 0 = λ x xs. IsString x xs (string_end d n units (drop n ds)) in
    inl (subst (λ x. P x cs) head (subst (λ xs. P d xs) tail (record { quoted = quoted; size = n; units = units; inside = inside; ends = refl })))
stands_cases text front (f.other {c = d} {cs = ds} unquoted) c cs e =
    let head : d ≡ c = cc in
    let tail : ds ≡ cs = cc in
    let P : ℕ → List ℕ → Type 0 = λ x xs. IsOther x xs (front_by d ds) in
    inr (subst (λ x. P x cs) head (subst (λ xs. P d xs) tail (record { unquoted = unquoted; ends = refl })))

pub stands_nothing : (text : List ℕ) (front : Front) → StandsAt text front → text ≡ [] → ⊥
stands_nothing text front (f.string n units quoted inside) e = absurd (cc)
stands_nothing text front (f.other unquoted) e = absurd (cc)

both_cases : (c : ℕ) (cs : List ℕ) (front other : Front) → IsString c cs front ⊎ IsOther c cs front → IsString c cs other ⊎ IsOther c cs other → front ≡ other
both_cases c cs front other (inl s) (inl s') =
    let same = inside_one c cs s.size s'.size s.units s'.units s.inside s'.inside in
    s.ends ∙ ap (λ n. string_end c n s.units (drop n cs)) same.0 ∙ ap (λ us. string_end c s'.size us (drop s'.size cs)) same.1 ∙ sym s'.ends
both_cases c cs front other (inl s) (inr o) = let t = s.quoted in let u = o.unquoted in absurd (cc)
both_cases c cs front other (inr o) (inl s) = let t = s.quoted in let u = o.unquoted in absurd (cc)
both_cases c cs front other (inr o) (inr o') = o.ends ∙ sym o'.ends

pub stands_one : (text : List ℕ) (front other : Front) → StandsAt text front → StandsAt text other → front ≡ other
stands_one [] front other s s' = absurd (stands_nothing [] front s refl)
stands_one (c ∷ cs) front other s s' = both_cases c cs front other (stands_cases (c ∷ cs) front s c cs refl) (stands_cases (c ∷ cs) other s' c cs refl)

-- ---- something stands at each place

inside_step : (quote : ℕ) (fuel : ℕ) (cs : List ℕ) → ((ds : List ℕ) → length ds < length cs → (n : ℕ) × ((units : List ℕ) × IsInside quote ds n units))
    → (part : Option (ℕ × ℕ)) → string_part quote cs ≡ part → (n : ℕ) × ((units : List ℕ) × IsInside quote cs n units)
inside_step quote fuel cs rec None e = (0, ([], f.none e))
inside_step quote fuel cs rec (Some part) e =
    let b = part_bounds quote cs part.0 part.1 e in
    let r = rec (drop part.1 cs) (omega (arith, length-drop part.1 cs)) in
    (part.1 + r.0, (encode_utf16 part.0 ++ r.1.0, f.more part.0 part.1 r.0 r.1.0 e r.1.1))

inside_some : (quote : ℕ) (fuel : ℕ) (cs : List ℕ) → length cs ≤ fuel → (n : ℕ) × ((units : List ℕ) × IsInside quote cs n units)
inside_some quote zero cs le = inside_step quote zero cs (λ ds lt. absurd (omega arith)) (string_part quote cs) refl
inside_some quote (suc fuel) cs le = inside_step quote fuel cs (λ ds lt. inside_some quote fuel ds (omega arith)) (string_part quote cs) refl

pub stands_some : (c : ℕ) (cs : List ℕ) → (front : Front) × StandsAt (c ∷ cs) front
stands_some c cs = at (is_quote c) refl
  where
    at : (b : Bool) → is_quote c ≡ b → (front : Front) × StandsAt (c ∷ cs) front
    at true e = let i = inside_some c (length cs) cs (omega arith) in (string_end c i.0 i.1.0 (drop i.0 cs), f.string i.0 i.1.0 e i.1.1)
    at false e = (front_by c cs, f.other e)
