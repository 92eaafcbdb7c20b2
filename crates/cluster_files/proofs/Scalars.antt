-- Characters and their units of UTF-16.
use Rattle.std.proofs.Common.{◌≡◌, ℕ, ◌+◌, ◌-◌, ◌/◌, ◌%◌, ◌≤◌, ◌<◌, nat_lt, nat_le, Bool, true, false, ◌&&◌, List, [], ◌∷◌, ◌++◌, map, Option, Some, None, ◌⊎◌, inl, inr, cond, refl, ap, ◌∙◌, subst, arith}
use Rattle.std.specs.List.{list_all}
use Rattle.std.specs.Char.Escape.{encode_utf16}
use Rattle.std.specs.Char.Utf16.{utf16_chars, surrogate_pair_char, lone_unit_char, is_high_surrogate, is_low_surrogate}
use Rattle.std.proofs.Math.Utf8.{scalar, scalars, scalar_cases}
use Rattle.std.proofs.lemmas.Bool.{cases_lt, lt-ltb, lt-leb, le-leb, le-ltb, ltb-true, leb-true}
use Rattle.std.proofs.lemmas.Str.{utf16_chars-nil, utf16_chars_lone, utf16_chars_pair}
use Rattle.dl_text.specs.Utf16.{utf16}
use Rattle.js_lexer.specs.Names.{passes}
use Rattle.js_lexer.proofs.PieceLaws.{left, right}
use Rattle.cluster_files.specs.WritableKinds.{are_units}

-- a Unicode scalar value
abbrev pub IsCharacter : ℕ → Type 0
IsCharacter c = (c < 0xD800) ⊎ ((0xE000 ≤ c) × (c < 0x11_0000))

pub character_true : (c : ℕ) → IsCharacter c → scalar c ≡ true
character_true c (inl low) = rw (lt-ltb c 0xD800 low) refl
character_true c (inr h) = rw (le-ltb c 0xD800 (omega arith), le-leb 0xE000 c h.0, lt-ltb c 0x11_0000 h.1) refl

pub one_unit : (c : ℕ) → c < 0x1_0000 → encode_utf16 c ≡ c ∷ []
one_unit c h = rw (lt-ltb c 0x1_0000 h) refl

two_units : (c : ℕ) → 0x1_0000 ≤ c → encode_utf16 c ≡ (0xD800 + (c - 0x1_0000) / 0x400) ∷ (0xDC00 + (c - 0x1_0000) % 0x400) ∷ []
two_units c h = rw (le-ltb c 0x1_0000 h) refl

pair_units : (u v : ℕ) → 0xD800 ≤ u → u < 0xDC00 → 0xDC00 ≤ v → v < 0xE000 → encode_utf16 (surrogate_pair_char u v) ≡ u ∷ v ∷ []
pair_units u v a b c d = two_units (surrogate_pair_char u v) (omega arith) ∙ (let e : 0xD800 + (surrogate_pair_char u v - 0x1_0000) / 0x400 ≡ u = omega arith in let f : 0xDC00 + (surrogate_pair_char u v - 0x1_0000) % 0x400 ≡ v = omega arith in cc)

-- ---- from characters to units

apart : (c : ℕ) (us : List ℕ) → IsCharacter c → 0xD800 ≤ c → c < 0xDC00 → ⊥
apart c us (inl low) a b = omega arith
apart c us (inr h) a b = omega arith

lone_character : (c : ℕ) → IsCharacter c → lone_unit_char c ≡ Some c
lone_character c (inl low) = rw (lt-leb 0xD800 c low) refl
lone_character c (inr h) = rw (le-leb 0xD800 c (omega arith), le-ltb c 0xE000 h.0) refl

pub bounded : (c : ℕ) → IsCharacter c → c < 0x11_0000
bounded c (inl low) = omega arith
bounded c (inr h) = h.1

-- also of a surrogate
pub units_below : (c : ℕ) (us : List ℕ) → c < 0x11_0000 → are_units us ≡ true → are_units (encode_utf16 c ++ us) ≡ true
units_below c us top all = at (cases_lt c 0x1_0000)
  where
    at : (c < 0x1_0000) ⊎ (0x1_0000 ≤ c) → are_units (encode_utf16 c ++ us) ≡ true
    at (inl low) = rw (one_unit c low, lt-ltb c 0x1_0000 low) all
    at (inr high) =
        rw (two_units c high, lt-ltb (0xD800 + (c - 0x1_0000) / 0x400) 0x1_0000 (omega arith), lt-ltb (0xDC00 + (c - 0x1_0000) % 0x400) 0x1_0000 (omega arith)) all

-- the character of the pair that it is written as
pair_back : (c : ℕ) → 0x1_0000 ≤ c → c < 0x11_0000 → surrogate_pair_char (0xD800 + (c - 0x1_0000) / 0x400) (0xDC00 + (c - 0x1_0000) % 0x400) ≡ c
pair_back c low high = omega arith

character_back : (c : ℕ) (us : List ℕ) → IsCharacter c → utf16_chars (encode_utf16 c ++ us) ≡ Some c ∷ utf16_chars us
character_back c us h = at (cases_lt c 0x1_0000)
  where
    at : (c < 0x1_0000) ⊎ (0x1_0000 ≤ c) → utf16_chars (encode_utf16 c ++ us) ≡ Some c ∷ utf16_chars us
    at (inl low) = rw (one_unit c low) (utf16_chars_lone c us (λ pair. apart c us h pair.0 pair.1) ∙ ap (λ o. o ∷ utf16_chars us) (lone_character c h))
    at (inr high) = let top = bounded c h in
        rw (two_units c high)
        (utf16_chars_pair (0xD800 + (c - 0x1_0000) / 0x400) (0xDC00 + (c - 0x1_0000) % 0x400) us (omega arith, omega arith, omega arith, omega arith)
        ∙ ap (λ d. Some d ∷ utf16_chars us) (pair_back c high top))

pub is_character : (c : ℕ) → scalar c ≡ true → IsCharacter c
is_character = scalar_cases

-- characters are the ones of their units
pub characters_back : (cs : List ℕ) → scalars cs ≡ true → utf16_chars (utf16 cs) ≡ map Some cs
characters_back [] h = utf16_chars-nil
characters_back (c ∷ cs) h =
    character_back c (utf16 cs) (is_character c (left (scalar c) (scalars cs) h)) ∙ ap (λ os. Some c ∷ os) (characters_back cs (right (scalar c) (scalars cs) h))

pub characters_units : (cs : List ℕ) → scalars cs ≡ true → are_units (utf16 cs) ≡ true
characters_units [] h = refl
characters_units (c ∷ cs) h = units_below c (utf16 cs) (bounded c (is_character c (left (scalar c) (scalars cs) h))) (characters_units cs (right (scalar c) (scalars cs) h))

-- ---- from units to characters

-- These are characters, of these units, and each passes.
pub record Spells (p : ℕ → Bool) (us : List ℕ) (read : List (Option ℕ)) : Type 0 where
  pub characters : List ℕ
  pub are : read ≡ map Some characters
  pub all : list_all p characters ≡ true
  pub units : utf16 characters ≡ us
  pub scalar : scalars characters ≡ true

clash : true ≡ false → ⊥
clash e = absurd (cc)

lone_is : (u d : ℕ) (b : Bool) → (nat_le 0xD800 u && nat_lt u 0xE000) ≡ b → cond b None (Some u) ≡ Some d → u < 0x1_0000 → (u ≡ d) × IsCharacter u
lone_is u d true s e low = absurd (cc)
lone_is u d false s e low = (cc, at (cases_lt u 0xD800) (cases_lt u 0xE000))
  where
    at : (u < 0xD800) ⊎ (0xD800 ≤ u) → (u < 0xE000) ⊎ (0xE000 ≤ u) → IsCharacter u
    at (inl a) b = inl a
    at (inr a) (inr b) = inr (b, omega arith)
    at (inr a) (inl b) = absurd (clash (rw (le-leb 0xD800 u a, lt-ltb u 0xE000 b) at s))

module _ (p : ℕ → Bool) where
  more : (c : ℕ) (us vs : List ℕ) (os : List (Option ℕ)) → IsCharacter c → encode_utf16 c ≡ vs → p c ≡ true → Spells p us os → Spells p (vs ++ us) (Some c ∷ os)
  more c us vs os is e h rest = record {
    characters = c ∷ rest.characters;
    are = ap (λ os. Some c ∷ os) rest.are;
    all = rw h rest.all;
    units = rw e (ap (λ us. vs ++ us) rest.units);
    scalar = rw (character_true c is) rest.scalar;
  }

  lone : (u : ℕ) (us : List ℕ) (os : List (Option ℕ)) (o : Option ℕ) → lone_unit_char u ≡ o → u < 0x1_0000 → list_all (passes p) (o ∷ os) ≡ true
      → (list_all (passes p) os ≡ true → Spells p us os) → Spells p (u ∷ us) (o ∷ os)
  lone u us os None e low h rec = absurd (cc)
  lone u us os (Some d) e low h rec =
      let is = lone_is u d (nat_le 0xD800 u && nat_lt u 0xE000) refl e low in
      let made = more u us (u ∷ []) os is.1 (one_unit u low) (rw is.0 (left (p d) (list_all (passes p) os) h)) (rec (right (p d) (list_all (passes p) os) h)) in
      subst (λ x. Spells p (u ∷ us) (Some x ∷ os)) is.0 made

  pair : (u v : ℕ) (us : List ℕ) (os : List (Option ℕ)) → is_high_surrogate u ≡ true → is_low_surrogate v ≡ true → list_all (passes p) (Some (surrogate_pair_char u v) ∷ os) ≡ true
      → (list_all (passes p) os ≡ true → Spells p us os) → Spells p (u ∷ v ∷ us) (Some (surrogate_pair_char u v) ∷ os)
  pair u v us os high low h rec =
      let a = leb-true 0xD800 u (left (nat_le 0xD800 u) (nat_lt u 0xDC00) high) in
      let b = ltb-true u 0xDC00 (right (nat_le 0xD800 u) (nat_lt u 0xDC00) high) in
      let c = leb-true 0xDC00 v (left (nat_le 0xDC00 v) (nat_lt v 0xE000) low) in
      let d = ltb-true v 0xE000 (right (nat_le 0xDC00 v) (nat_lt v 0xE000) low) in
      more (surrogate_pair_char u v) us (u ∷ v ∷ []) os (inr (omega arith, omega arith)) (pair_units u v a b c d)
      (left (p (surrogate_pair_char u v)) (list_all (passes p) os) h) (rec (right (p (surrogate_pair_char u v)) (list_all (passes p) os) h))

  pub spells : (us : List ℕ) → are_units us ≡ true → list_all (passes p) (utf16_chars us) ≡ true → Spells p us (utf16_chars us)
  unfolding utf16_chars
  spells [] a h = record { characters = []; are = refl; all = refl; units = refl; scalar = refl }
  spells (u ∷ []) a h = lone u [] [] (lone_unit_char u) refl (ltb-true u 0x1_0000 (left (nat_lt u 0x1_0000) true a)) h (λ e. record { characters = []; are = refl; all = refl; units = refl; scalar = refl })
  spells (u ∷ v ∷ us) a h = at (is_high_surrogate u && is_low_surrogate v) refl h (λ k. spells us (right (nat_lt v 0x1_0000) (are_units us) rest) k) (λ k. spells (v ∷ us) rest k)
    where
      small : u < 0x1_0000
      small = ltb-true u 0x1_0000 (left (nat_lt u 0x1_0000) (are_units (v ∷ us)) a)

      rest : are_units (v ∷ us) ≡ true
      rest = right (nat_lt u 0x1_0000) (are_units (v ∷ us)) a

      at : (b : Bool) → (is_high_surrogate u && is_low_surrogate v) ≡ b → list_all (passes p) (cond b (Some (surrogate_pair_char u v) ∷ utf16_chars us) (lone_unit_char u ∷ utf16_chars (v ∷ us))) ≡ true
          → (list_all (passes p) (utf16_chars us) ≡ true → Spells p us (utf16_chars us)) → (list_all (passes p) (utf16_chars (v ∷ us)) ≡ true → Spells p (v ∷ us) (utf16_chars (v ∷ us)))
          → Spells p (u ∷ v ∷ us) (cond b (Some (surrogate_pair_char u v) ∷ utf16_chars us) (lone_unit_char u ∷ utf16_chars (v ∷ us)))
      at true e h k l = pair u v us (utf16_chars us) (left (is_high_surrogate u) (is_low_surrogate v) e) (right (is_high_surrogate u) (is_low_surrogate v) e) h k
      at false e h k l = lone u (v ∷ us) (utf16_chars (v ∷ us)) (lone_unit_char u) refl small h l
