-- The order of texts is that of slices.
use Rattle.std.proofs.Common.{◌≡◌, ℕ, Bool, true, false, List, [], ◌∷◌, refl, arith}
use Rattle.std.specs.Prelude.{◌==◌, nat_lt, if◌then◌else◌}
use Rattle.std.specs.declared.cmp.Ordering.{Ordering}
use Rattle.std.specs.declared.cmp.Ordering.TheVariants.{Less, Equal, Greater}
use Rattle.std.specs.Ordering.{is_lt, nat_cmp, ordering_then}
use Rattle.std.specs.Cmp.Lexicographic.{slice_cmp}
use Rattle.js_machine.specs.Operators.{text_less}

by_units : (is_equal is_less rest : Bool) (o : Ordering) → (is_equal ≡ true → is_less ≡ false) → rest ≡ is_lt o
    → (if is_equal then rest else is_less) ≡ is_lt (ordering_then (if is_less then Less else (if is_equal then Equal else Greater)) o)
by_units true true rest o e h = let f : true ≡ false = e refl in cc
by_units true false rest o e h = h
by_units false true rest o e h = refl
by_units false false rest o e h = refl

not_less : (c d : ℕ) → (c == d) ≡ true → nat_lt c d ≡ false
not_less c d e = grind (arith, e)

pub text_order : (a b : List ℕ) → text_less a b ≡ is_lt (slice_cmp nat_cmp a b)
text_order [] [] = refl
text_order [] (d ∷ ds) = refl
text_order (c ∷ cs) [] = refl
text_order (c ∷ cs) (d ∷ ds) = by_units (c == d) (nat_lt c d) (text_less cs ds) (slice_cmp nat_cmp cs ds) (not_less c d) (text_order cs ds)
