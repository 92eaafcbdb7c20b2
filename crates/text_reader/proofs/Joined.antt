-- Readers that are joined: what a whole says of its parts, and the parts of the whole.
use Rattle.std.proofs.Common.{◌≡◌, ℕ, List, ◌++◌, Some, None, ap, sym, ◌∙◌, subst}
use Rattle.text_reader.specs.Reader.{Found, Reader, ◌>>=◌, ◌>>◌, pure, either, skip}
use Rattle.text_reader.proofs.Bytes.{then_parts, same_parts, skip_sound, skip_again}

pub carried : {A : Type 0} (P : A → List ℕ → Type 0) (x y : A) (r s : List ℕ) → ◌≡◌ {A = Found A} (Some (x, r)) (Some (y, s)) → P x r → P y s
carried P x y r s e h = let p = same_parts x y r s e in subst (λ v. P v s) p.0 (subst (λ t. P x t) p.1 h)

-- ---- one after the other

pub skipped : {A B : Type 0} (read : Reader A) (d : List ℕ) (g : A → Reader B) (bs : List ℕ) (y : B × List ℕ) → (read >>= (λ x. skip d >> g x)) bs ≡ Some y → (x : A) × (mid : List ℕ) × (read bs ≡ Some (x, d ++ mid)) × (g x mid ≡ Some y)
skipped read d g bs y e =
    let p = then_parts (read bs) (λ x. skip d >> g x) y e in
    let q = then_parts (skip d p.0.1) (λ _. g p.0.0) y p.2 in
    let front = skip_sound d p.0.1 q.0.1 q.1 in
    (p.0.0, q.0.1, p.1 ∙ ap (λ v. Some (p.0.0, v)) (sym front), q.2)

pub skips : {A B : Type 0} (read : Reader A) (d : List ℕ) (g : A → Reader B) (bs mid : List ℕ) (x : A) → read bs ≡ Some (x, d ++ mid) → (read >>= (λ x. skip d >> g x)) bs ≡ g x mid
skips read d g bs mid x e = rw (e, skip_again d mid)

pub begins : {B : Type 0} (d : List ℕ) (g : Reader B) (bs : List ℕ) (y : B × List ℕ) → (skip d >> g) bs ≡ Some y → (mid : List ℕ) × (d ++ mid ≡ bs) × (g mid ≡ Some y)
begins d g bs y e =
    let p = then_parts (skip d bs) (λ _. g) y e in
    (p.0.1, skip_sound d bs p.0.1 p.1, p.2)

pub begins_again : {B : Type 0} (d : List ℕ) (g : Reader B) (mid : List ℕ) → (skip d >> g) (d ++ mid) ≡ g mid
begins_again d g mid = rw (skip_again d mid)

pub mapped : {A B : Type 0} (read : Reader A) (f : A → B) (bs rest : List ℕ) (y : B) → (read >>= (λ x. pure (f x))) bs ≡ Some (y, rest) → (x : A) × (read bs ≡ Some (x, rest)) × (f x ≡ y)
mapped read f bs rest y e =
    let p = then_parts (read bs) (λ x. pure (f x)) (y, rest) e in
    let w = same_parts (f p.0.0) y p.0.1 rest p.2 in
    (p.0.0, p.1 ∙ ap (λ v. Some (p.0.0, v)) w.1, w.0)

pub maps : {A B : Type 0} (read : Reader A) (f : A → B) (bs rest : List ℕ) (x : A) → read bs ≡ Some (x, rest) → (read >>= (λ x. pure (f x))) bs ≡ Some (f x, rest)
maps read f bs rest x e = rw e

-- ---- one or the other

pub there : {A : Type 0} (test : Reader (Unit {0})) (found other : Reader A) (bs r : List ℕ) → test bs ≡ Some (tt, r) → either test found other bs ≡ found r
there test found other bs r e = rw e

pub other_way : {A : Type 0} (test : Reader (Unit {0})) (found other : Reader A) (bs : List ℕ) → test bs ≡ None → either test found other bs ≡ other bs
other_way test found other bs e = rw e
