-- Lists that are read item by item: what a list that was read is, and that it is read again.
use Rattle.std.proofs.Common.{◌≡◌, ℕ, zero, suc, ◌+◌, ◌≤◌, ◌<◌, List, [], ◌∷◌, ◌++◌, Some, None}
use Rattle.std.proofs.Common.{ap, sym, ◌∙◌, subst, append_assoc, arith, length, length-append}
use Rattle.std.proofs.Common.{inl, inr}
use Rattle.std.specs.Prelude.{◌⊎◌, All, Option}
use Rattle.std.specs.List.{flat_map}
use Rattle.std.proofs.lemmas.List.{append-nil}
use Rattle.std.proofs.lemmas.List.Elements.{All-nil, All-cons, All-head, All-tail}
use Rattle.text_reader.specs.Reader.{Found, Reader, pure, skip}
use Rattle.text_reader.specs.Reader.{or_end, many, list_after, an_item, up_to, behind}
use Rattle.text_reader.proofs.Bytes.{then_parts, chosen_parts, same_parts, skip_sound, skip_again}
use Rattle.text_reader.proofs.Joined.{mapped}

-- a text may go on in any way
abbrev pub Anything : List ℕ → Type 0
Anything rest = Unit {0}

-- read gives just the values of P, each from its text, where the text goes on as Next says
pub record Reads {A : Type 0} (P : A → Type 0) (text : A → List ℕ) (Next : List ℕ → Type 0) (read : Reader A) : Type 0 where
  pub sound : (bs rest : List ℕ) (x : A) → read bs ≡ Some (x, rest) → P x × (text x ++ rest ≡ bs)
  pub again : (x : A) (rest : List ℕ) → P x → Next rest → read (text x ++ rest) ≡ Some (x, rest)

-- next gives just the items of P, each from its text, and the end where the mark is
pub record ReadsItems {A : Type 0} (P : A → Type 0) (text : A → List ℕ) (mark : List ℕ) (Next : List ℕ → Type 0) (next : Reader (Option A)) : Type 0 where
  pub item : (bs rest : List ℕ) (x : A) → next bs ≡ Some (Some x, rest) → P x × (text x ++ rest ≡ bs)
  pub end : (bs rest : List ℕ) → next bs ≡ Some (None, rest) → mark ++ rest ≡ bs
  pub again : (x : A) (rest : List ℕ) → P x → Next rest → next (text x ++ rest) ≡ Some (Some x, rest)
  pub goes_on : (x : A) (rest : List ℕ) → Next (text x ++ rest)
  pub some : (x : A) → 1 ≤ length (text x)

-- ---- the whole list

module _ {A : Type 0} (P : A → Type 0) (text : A → List ℕ) (mark : List ℕ) (Next : List ℕ → Type 0) (next : Reader (Option A)) (reads : ReadsItems P text mark Next next) where
  -- the items behind those found, whose texts and the mark stood in front of what is left
  pub record IsList (found : List A) (bs : List ℕ) (xs : List A) (r : List ℕ) : Type 0 where
    pub more : List A
    pub is : xs ≡ found ++ more
    pub each : All P more
    pub texts : flat_map text more ++ (mark ++ r) ≡ bs
    pub last : next (mark ++ r) ≡ Some (None, r)

  list_end : (found : List A) (bs mid : List ℕ) (xs : List A) (r : List ℕ) → next bs ≡ Some (None, mid) → ◌≡◌ {A = Found (List A)} (Some (found, mid)) (Some (xs, r)) → IsList found bs xs r
  list_end found bs mid xs r e w =
      let p = same_parts found xs mid r w in
      let marked : mark ++ r ≡ bs = ap (λ v. mark ++ v) (sym p.1) ∙ reads.end bs mid e in
      record {
        more = [];
        is = sym p.0 ∙ sym (append-nil found);
        each = All-nil P;
        texts = marked;
        last = ap next marked ∙ e ∙ ap (λ v. Some (None, v)) p.1;
      }

  list_more : (found : List A) (bs mid : List ℕ) (xs : List A) (r : List ℕ) (x : A) → next bs ≡ Some (Some x, mid) → IsList (found ++ x ∷ []) mid xs r → IsList found bs xs r
  list_more found bs mid xs r x e w =
      let h = reads.item bs mid x e in
      let tail = flat_map text w.more in
      record {
        more = x ∷ w.more;
        is = w.is ∙ append_assoc found (x ∷ []) w.more;
        each = All-cons P x w.more h.0 w.each;
        texts = append_assoc (text x) tail (mark ++ r) ∙ ap (λ v. text x ++ v) w.texts ∙ h.1;
        last = w.last;
      }

  list_by : (found : List A) (bs : List ℕ) (xs : List A) (r : List ℕ) (more : A → Reader (List A))
      → ((x : A) (mid : List ℕ) → more x mid ≡ Some (xs, r) → IsList (found ++ x ∷ []) mid xs r)
      → (o : Option A) (mid : List ℕ) → next bs ≡ Some (o, mid) → or_end more found o mid ≡ Some (xs, r) → IsList found bs xs r
  list_by found bs xs r more goes (Some x) mid e w = list_more found bs mid xs r x e (goes x mid w)
  list_by found bs xs r more goes None mid e w = list_end found bs mid xs r e w

  many_sound : (n : ℕ) (found : List A) (bs : List ℕ) (xs : List A) (r : List ℕ) → many next n found bs ≡ Some (xs, r) → IsList found bs xs r
  unfolding many
  many_sound zero found bs xs r e = cc
  many_sound (suc n) found bs xs r e =
      let more : A → Reader (List A) = λ x. many next n (found ++ x ∷ []) in
      let p = then_parts (next bs) (or_end more found) (xs, r) e in
      list_by found bs xs r more (λ x mid w. many_sound n (found ++ x ∷ []) mid xs r w) p.0.0 p.0.1 p.1 p.2

  pub list_sound : (found : List A) (bs : List ℕ) (xs : List A) (r : List ℕ) → list_after found next bs ≡ Some (xs, r) → IsList found bs xs r
  unfolding list_after
  list_sound found bs xs r e = many_sound (length bs + 1) found bs xs r e

  -- the same of a list from its start
  pub whole_sound : (bs : List ℕ) (xs : List A) (r : List ℕ) → list_after [] next bs ≡ Some (xs, r) → All P xs × (flat_map text xs ++ (mark ++ r) ≡ bs)
  whole_sound bs xs r e =
      let w = list_sound [] bs xs r e in
      let Is : List A → Type 0 = λ v. All P v × (flat_map text v ++ (mark ++ r) ≡ bs) in
      subst Is (sym w.is) (w.each, w.texts)

  -- ---- read again

  goes : (xs : List A) (r : List ℕ) → Next r → Next (flat_map text xs ++ r)
  goes [] r h = h
  goes (x ∷ xs) r h = rw (append_assoc (text x) (flat_map text xs) r) (reads.goes_on x (flat_map text xs ++ r))

  many_again : (xs : List A) (n : ℕ) (found : List A) (r : List ℕ) → All P xs → length xs < n → next (mark ++ r) ≡ Some (None, r) → Next (mark ++ r) → many next n found (flat_map text xs ++ (mark ++ r)) ≡ Some (found ++ xs, r)
  unfolding many
  many_again [] zero found r a l e h = absurd (omega arith)
  many_again [] (suc n) found r a l e h = rw e (ap (λ v. Some (v, r)) (sym (append-nil found)))
  many_again (x ∷ xs) zero found r a l e h = absurd (omega arith)
  many_again (x ∷ xs) (suc n) found r a l e h =
      let here = All-head P x xs a in
      let w = flat_map text xs ++ (mark ++ r) in
      let less : length xs < n = omega arith in
      let rest = many_again xs n (found ++ x ∷ []) r (All-tail P x xs a) less e h in
      rw (append_assoc (text x) (flat_map text xs) (mark ++ r), reads.again x w here (goes xs (mark ++ r) h))
      (rest ∙ ap (λ v. Some (v, r)) (append_assoc found (x ∷ []) xs))

  fewer : (xs : List A) → length xs ≤ length (flat_map text xs)
  fewer [] = omega arith
  fewer (x ∷ xs) =
      let more = fewer xs in
      let one = reads.some x in
      omega (arith, length-append (text x) (flat_map text xs))

  pub list_again : (xs found : List A) (r : List ℕ) → All P xs → next (mark ++ r) ≡ Some (None, r) → Next (mark ++ r) → list_after found next (flat_map text xs ++ (mark ++ r)) ≡ Some (found ++ xs, r)
  unfolding list_after
  list_again xs found r a e h =
      let whole = flat_map text xs ++ (mark ++ r) in
      let room : length xs < length whole + 1 = omega (arith, fewer xs, length-append (flat_map text xs) (mark ++ r)) in
      many_again xs (length whole + 1) found r a room e h

-- ---- items up to a mark

module _ {A : Type 0} (P : A → Type 0) (text : A → List ℕ) (read : Reader A) (reads : Reads P text Anything read) (stop : Reader (Unit {0})) (mark : List ℕ)
    (stops : (bs r : List ℕ) → stop bs ≡ Some (tt, r) → mark ++ r ≡ bs)
    (none : (x : A) (r : List ℕ) → P x → stop (text x ++ r) ≡ None) (some : (x : A) → 1 ≤ length (text x)) where
  item_by : (bs rest : List ℕ) (x : A) → ((r : List ℕ) × (stop bs ≡ Some (tt, r)) × (pure {A = Option A} None r ≡ Some (Some x, rest))) ⊎ ((stop bs ≡ None) × (an_item read bs ≡ Some (Some x, rest))) → P x × (text x ++ rest ≡ bs)
  item_by bs rest x (inl h) =
      let p = same_parts {A = Option A} None (Some x) h.0 rest h.2 in
      let differ = p.0 in
      cc
  item_by bs rest x (inr h) =
      let w = mapped read (λ y. Some y) bs rest (Some x) h.1 in
      let same : w.0 ≡ x = cc in
      let Is : A → Type 0 = λ v. P v × (text v ++ rest ≡ bs) in
      subst Is same (reads.sound bs rest w.0 w.1)

  end_by : (bs rest : List ℕ) → ((r : List ℕ) × (stop bs ≡ Some (tt, r)) × (pure {A = Option A} None r ≡ Some (None, rest))) ⊎ ((stop bs ≡ None) × (an_item read bs ≡ Some (None, rest))) → stop bs ≡ Some (tt, rest)
  end_by bs rest (inl h) =
      let p = same_parts {A = Option A} None None h.0 rest h.2 in
      h.1 ∙ ap (λ v. Some (tt, v)) p.1
  end_by bs rest (inr h) =
      let w = mapped read (λ y. Some y) bs rest None h.1 in
      cc

  item_sound : (bs rest : List ℕ) (x : A) → up_to stop read bs ≡ Some (Some x, rest) → P x × (text x ++ rest ≡ bs)
  unfolding up_to
  item_sound bs rest x e = item_by bs rest x (chosen_parts (stop bs) (pure None) (an_item read bs) (Some x, rest) e)

  end_stops : (bs rest : List ℕ) → up_to stop read bs ≡ Some (None, rest) → stop bs ≡ Some (tt, rest)
  unfolding up_to
  end_stops bs rest e = end_by bs rest (chosen_parts (stop bs) (pure None) (an_item read bs) (None, rest) e)

  end_sound : (bs rest : List ℕ) → up_to stop read bs ≡ Some (None, rest) → mark ++ rest ≡ bs
  end_sound bs rest e = stops bs rest (end_stops bs rest e)

  item_again : (x : A) (rest : List ℕ) → P x → Anything rest → up_to stop read (text x ++ rest) ≡ Some (Some x, rest)
  unfolding up_to
  item_again x rest h u = rw (none x rest h, reads.again x rest h tt)

  pub up_to_reads : ReadsItems P text mark Anything (up_to stop read)
  up_to_reads = record { item = item_sound; end = end_sound; again = item_again; goes_on = λ x rest. tt; some = some }

  -- a list that was read is its items, the mark, and what is left
  pub up_to_sound : (bs : List ℕ) (xs : List A) (r : List ℕ) → list_after [] (up_to stop read) bs ≡ Some (xs, r) → All P xs × (flat_map text xs ++ (mark ++ r) ≡ bs)
  up_to_sound = whole_sound P text mark Anything (up_to stop read) up_to_reads

  -- the mark comes behind the last item
  pub up_to_last : (bs : List ℕ) (xs : List A) (r : List ℕ) → list_after [] (up_to stop read) bs ≡ Some (xs, r) → stop (mark ++ r) ≡ Some (tt, r)
  up_to_last bs xs r e =
      let w = list_sound P text mark Anything (up_to stop read) up_to_reads [] bs xs r e in
      end_stops (mark ++ r) r w.last

  -- a list is read again from the texts of its items and the mark
  pub up_to_again : (xs : List A) (r : List ℕ) → All P xs → stop (mark ++ r) ≡ Some (tt, r) → list_after [] (up_to stop read) (flat_map text xs ++ (mark ++ r)) ≡ Some (xs, r)
  unfolding up_to
  up_to_again xs r a e =
      let ends : up_to stop read (mark ++ r) ≡ Some (None, r) = rw e in
      list_again P text mark Anything (up_to stop read) up_to_reads xs [] r a ends tt

-- ---- items behind a front

module _ {A : Type 0} (P : A → Type 0) (text : A → List ℕ) (Next : List ℕ → Type 0) (read : Reader A) (reads : Reads P text Next read) (front : List ℕ)
    (goes_on : (r : List ℕ) → Next (front ++ r)) (some : 1 ≤ length front) where
  abbrev line : A → List ℕ
  line x = front ++ text x

  behind_item_by : (bs rest : List ℕ) (x : A) → ((r : List ℕ) × (skip front bs ≡ Some (tt, r)) × (an_item read r ≡ Some (Some x, rest))) ⊎ ((skip front bs ≡ None) × (pure {A = Option A} None bs ≡ Some (Some x, rest))) → P x × (line x ++ rest ≡ bs)
  behind_item_by bs rest x (inl h) =
      let w = mapped read (λ y. Some y) h.0 rest (Some x) h.2 in
      let same : w.0 ≡ x = cc in
      let found = reads.sound h.0 rest w.0 w.1 in
      let texts = append_assoc front (text w.0) rest ∙ ap (λ v. front ++ v) found.1 ∙ skip_sound front bs h.0 h.1 in
      let Is : A → Type 0 = λ v. P v × (line v ++ rest ≡ bs) in
      subst Is same (found.0, texts)
  behind_item_by bs rest x (inr h) =
      let p = same_parts {A = Option A} None (Some x) bs rest h.1 in
      let differ = p.0 in
      cc

  behind_end_by : (bs rest : List ℕ) → ((r : List ℕ) × (skip front bs ≡ Some (tt, r)) × (an_item read r ≡ Some (None, rest))) ⊎ ((skip front bs ≡ None) × (pure {A = Option A} None bs ≡ Some (None, rest))) → rest ≡ bs
  behind_end_by bs rest (inl h) =
      let w = mapped read (λ y. Some y) h.0 rest None h.2 in
      cc
  behind_end_by bs rest (inr h) = let p = same_parts {A = Option A} None None bs rest h.1 in sym p.1

  behind_item : (bs rest : List ℕ) (x : A) → behind front read bs ≡ Some (Some x, rest) → P x × (line x ++ rest ≡ bs)
  unfolding behind
  behind_item bs rest x e = behind_item_by bs rest x (chosen_parts (skip front bs) (an_item read) (pure None bs) (Some x, rest) e)

  behind_end : (bs rest : List ℕ) → behind front read bs ≡ Some (None, rest) → rest ≡ bs
  unfolding behind
  behind_end bs rest e = behind_end_by bs rest (chosen_parts (skip front bs) (an_item read) (pure None bs) (None, rest) e)

  behind_again : (x : A) (rest : List ℕ) → P x → Next rest → behind front read (line x ++ rest) ≡ Some (Some x, rest)
  unfolding behind
  behind_again x rest h n = rw (append_assoc front (text x) rest, skip_again front (text x ++ rest), reads.again x rest h n)

  behind_goes_on : (x : A) (rest : List ℕ) → Next (line x ++ rest)
  behind_goes_on x rest = rw (append_assoc front (text x) rest) (goes_on (text x ++ rest))

  behind_some : (x : A) → 1 ≤ length (line x)
  behind_some x = omega (arith, some, length-append front (text x))

  pub behind_reads : ReadsItems P line [] Next (behind front read)
  behind_reads = record { item = behind_item; end = behind_end; again = behind_again; goes_on = behind_goes_on; some = behind_some }

  -- a list that was read is its lines and what is left
  pub lines_sound : (bs : List ℕ) (xs : List A) (r : List ℕ) → list_after [] (behind front read) bs ≡ Some (xs, r) → All P xs × (flat_map line xs ++ r ≡ bs)
  lines_sound = whole_sound P line [] Next (behind front read) behind_reads

  -- the same behind items found before
  pub more_lines : (found : List A) (bs : List ℕ) (xs : List A) (r : List ℕ) → list_after found (behind front read) bs ≡ Some (xs, r) → (ys : List A) × (xs ≡ found ++ ys) × All P ys × (flat_map line ys ++ r ≡ bs)
  more_lines found bs xs r e =
      let w = list_sound P line [] Next (behind front read) behind_reads found bs xs r e in
      (w.more, w.is, w.each, w.texts)

  -- a list is read again from its lines, where no other line follows
  pub lines_again : (xs found : List A) (r : List ℕ) → All P xs → skip front r ≡ None → Next r → list_after found (behind front read) (flat_map line xs ++ r) ≡ Some (found ++ xs, r)
  unfolding behind
  lines_again xs found r a e h =
      let ends : behind front read r ≡ Some (None, r) = rw e in
      list_again P line [] Next (behind front read) behind_reads xs found r a ends h
