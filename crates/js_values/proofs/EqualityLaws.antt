-- Equality is the same in either order.
use Rattle.std.proofs.Common.{◌≡◌, ℕ, Bool, true, false, Some, Ok, List, nat_eq, refl, ap}
use Rattle.std.specs.Cmp.Lexicographic.{pointwise}
use Rattle.std.proofs.lemmas.Cmp.{int_eq_equiv, nat_eq_equiv, nat_list_eq_equiv}
use Rattle.js_values.specs.declared.number.Num.{Num}
use Rattle.js_values.specs.declared.number.Num.TheVariants as number
use Rattle.js_values.specs.declared.value.Value.TheVariants as value
use Rattle.js_values.specs.Equality.{same_bool, same_number}
use Rattle.js_values.specs.Values.{number_of_bool}
use Rattle.js_values.specs.Laws.{EqualityIsSymmetric, StrictEqualityIsSymmetric}

same_number_comm : (a b : Num) → same_number a b ≡ same_number b a
same_number_comm number.NaN number.NaN = refl
same_number_comm number.NaN (number.Whole b) = refl
same_number_comm (number.Whole a) number.NaN = refl
same_number_comm (number.Whole a) (number.Whole b) = int_eq_equiv.symm a b

same_bool_comm : (a b : Bool) → same_bool a b ≡ same_bool b a
same_bool_comm true true = refl
same_bool_comm true false = refl
same_bool_comm false true = refl
same_bool_comm false false = refl

same_text_comm : (a b : List ℕ) → pointwise nat_eq a b ≡ pointwise nat_eq b a
same_text_comm a b = nat_list_eq_equiv.symm a b

pub strict_equality_is_symmetric : StrictEqualityIsSymmetric
strict_equality_is_symmetric value.Undefined value.Undefined = refl
strict_equality_is_symmetric value.Undefined value.Null = refl
strict_equality_is_symmetric value.Undefined (value.Bool b) = refl
strict_equality_is_symmetric value.Undefined (value.Num b) = refl
strict_equality_is_symmetric value.Undefined (value.Str b) = refl
strict_equality_is_symmetric value.Undefined (value.Object b) = refl
strict_equality_is_symmetric value.Null value.Undefined = refl
strict_equality_is_symmetric value.Null value.Null = refl
strict_equality_is_symmetric value.Null (value.Bool b) = refl
strict_equality_is_symmetric value.Null (value.Num b) = refl
strict_equality_is_symmetric value.Null (value.Str b) = refl
strict_equality_is_symmetric value.Null (value.Object b) = refl
strict_equality_is_symmetric (value.Bool a) value.Undefined = refl
strict_equality_is_symmetric (value.Bool a) value.Null = refl
strict_equality_is_symmetric (value.Bool a) (value.Bool b) = same_bool_comm a b
strict_equality_is_symmetric (value.Bool a) (value.Num b) = refl
strict_equality_is_symmetric (value.Bool a) (value.Str b) = refl
strict_equality_is_symmetric (value.Bool a) (value.Object b) = refl
strict_equality_is_symmetric (value.Num a) value.Undefined = refl
strict_equality_is_symmetric (value.Num a) value.Null = refl
strict_equality_is_symmetric (value.Num a) (value.Bool b) = refl
strict_equality_is_symmetric (value.Num a) (value.Num b) = same_number_comm a b
strict_equality_is_symmetric (value.Num a) (value.Str b) = refl
strict_equality_is_symmetric (value.Num a) (value.Object b) = refl
strict_equality_is_symmetric (value.Str a) value.Undefined = refl
strict_equality_is_symmetric (value.Str a) value.Null = refl
strict_equality_is_symmetric (value.Str a) (value.Bool b) = refl
strict_equality_is_symmetric (value.Str a) (value.Num b) = refl
strict_equality_is_symmetric (value.Str a) (value.Str b) = same_text_comm a b
strict_equality_is_symmetric (value.Str a) (value.Object b) = refl
strict_equality_is_symmetric (value.Object a) value.Undefined = refl
strict_equality_is_symmetric (value.Object a) value.Null = refl
strict_equality_is_symmetric (value.Object a) (value.Bool b) = refl
strict_equality_is_symmetric (value.Object a) (value.Num b) = refl
strict_equality_is_symmetric (value.Object a) (value.Str b) = refl
strict_equality_is_symmetric (value.Object a) (value.Object b) = nat_eq_equiv.symm a.0 b.0

pub equality_is_symmetric : EqualityIsSymmetric
equality_is_symmetric (value.Object a) b p q = absurd p
equality_is_symmetric a (value.Object b) p q = absurd q
equality_is_symmetric (value.Bool a) (value.Bool b) p q =
    ap (λ v. Some (Ok v)) (same_number_comm (number_of_bool a) (number_of_bool b))
equality_is_symmetric (value.Bool a) (value.Num b) p q =
    ap (λ v. Some (Ok v)) (same_number_comm (number_of_bool a) b)
equality_is_symmetric (value.Num a) (value.Bool b) p q =
    ap (λ v. Some (Ok v)) (same_number_comm a (number_of_bool b))
equality_is_symmetric (value.Num a) (value.Num b) p q =
    ap (λ v. Some (Ok v)) (same_number_comm a b)
equality_is_symmetric (value.Str a) (value.Str b) p q =
    ap (λ v. Some (Ok v)) (same_text_comm a b)
equality_is_symmetric a b p q = refl
