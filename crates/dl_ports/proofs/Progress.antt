-- How far a run of puts has come.
use Rattle.std.proofs.Common.{◌≡◌, ◌<◌, ℕ, List, [], ◌++◌, length, take, Option, None, Some, refl, sym, ap, ◌∙◌, inl, append_assoc, arith, length-append}
use Rattle.std.proofs.lemmas.Grind.{common_steps}
use Rattle.dl_ports.specs.Streams.{and_more, WritesPart}

-- the bytes were `before`, and are now that and the bytes in front of the rest
pub record Progress (before : Option (List ℕ)) (bytes rest : List ℕ) (now : Option (List ℕ)) : Type 0 where
  pub front : List ℕ
  pub parts : bytes ≡ front ++ rest
  pub written : now ≡ and_more before front

and_more-nil : (before : Option (List ℕ)) → and_more before [] ≡ before
and_more-nil None = refl
and_more-nil (Some bytes) = grind (arith, common_steps)

and_more-again : (before : Option (List ℕ)) (front more : List ℕ) → and_more (and_more before front) more ≡ and_more before (front ++ more)
and_more-again None front more = refl
and_more-again (Some bytes) front more = ap Some (append_assoc bytes front more)

pub begun : (before : Option (List ℕ)) (bytes : List ℕ) → Progress before bytes bytes before
begun before bytes = record { front = []; parts = grind (arith, common_steps); written = sym (and_more-nil before) }

pub advanced : (before : Option (List ℕ)) (bytes rest : List ℕ) (mid now : Option (List ℕ)) (n : ℕ) (tail : List ℕ) → Progress before bytes rest mid → now ≡ and_more mid (take n rest) → take n rest ++ tail ≡ rest → Progress before bytes tail now
advanced before bytes rest mid now n tail so_far put whole = record {
  front = so_far.front ++ take n rest;
  parts = so_far.parts ∙ ap (λ r. so_far.front ++ r) (sym whole) ∙ sym (append_assoc so_far.front (take n rest) tail);
  written = put ∙ ap (λ w. and_more w (take n rest)) so_far.written ∙ and_more-again before so_far.front (take n rest);
}

pub done : (before : Option (List ℕ)) (bytes rest : List ℕ) (now : Option (List ℕ)) → Progress before bytes rest now → rest ≡ [] → now ≡ and_more before bytes
done before bytes rest now so_far none =
    let whole : bytes ≡ so_far.front = grind (arith, common_steps, so_far.parts) in
    so_far.written ∙ ap (λ b. and_more before b) (sym whole)

pub cut_short : (before : Option (List ℕ)) (bytes rest : List ℕ) (now : Option (List ℕ)) → Progress before bytes rest now → 0 < length rest → WritesPart before bytes now
cut_short before bytes rest now so_far some =
    let front : take (length so_far.front) bytes ≡ so_far.front = grind (arith, common_steps, so_far.parts) in
    let shorter : length so_far.front < length bytes = omega (arith, ap length so_far.parts, length-append so_far.front rest) in
    (length so_far.front, inl shorter, so_far.written ∙ ap (λ b. and_more before b) (sym front))
