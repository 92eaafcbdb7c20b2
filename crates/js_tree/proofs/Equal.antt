-- Equal arguments have equal values.
use Rattle.std.proofs.Common.{◌≡◌, ap, ◌∙◌}

pub ap2 : {A B C : Type 0} (f : A → B → C) {a a' : A} {b b' : B} → a ≡ a' → b ≡ b' → f a b ≡ f a' b'
ap2 f {a' = a'} {b = b} p q = ap (λ x. f x b) p ∙ ap (λ y. f a' y) q

pub ap3 : {A B C D : Type 0} (f : A → B → C → D) {a a' : A} {b b' : B} {c c' : C} → a ≡ a' → b ≡ b' → c ≡ c'
    → f a b c ≡ f a' b' c'
ap3 f {a' = a'} {b = b} {c = c} p q r = ap (λ x. f x b c) p ∙ ap2 (f a') q r

pub ap4 : {A B C D E : Type 0} (f : A → B → C → D → E) {a a' : A} {b b' : B} {c c' : C} {d d' : D} → a ≡ a'
    → b ≡ b' → c ≡ c' → d ≡ d' → f a b c d ≡ f a' b' c' d'
ap4 f {a' = a'} {b = b} {c = c} {d = d} p q r s = ap (λ x. f x b c d) p ∙ ap3 (f a') q r s
