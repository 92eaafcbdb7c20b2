-- Operators on pairs of values, for the rows on ES3 11.5 to 11.10.
use Rattle.std.specs.Prelude.{List, [], ◌∷◌, ◌++◌, map, codes, replicate}
use Rattle.std.specs.Prelude.{None, Result}
use Rattle.js_values.specs.declared.number.Num.{Num}
use Rattle.js_values.specs.declared.reason.Reason.{Reason}
use Rattle.js_values.specs.declared.value.Value.{Value}
use Rattle.js_tree.specs.declared.tree.BinaryOp.{BinaryOp}
use Rattle.js_tree.specs.declared.tree.BinaryOp.TheVariants as op
use Rattle.js_machine.specs.Operated.{Operated, on_two, operated}
use Rattle.machine_rows.specs.Samples.{whole, text, nothing, null, yes, object}

-- all of them, in the order of the standard
abbrev pub operators : List BinaryOp
operators =
    op.Multiply ∷ op.Divide ∷ op.Remainder ∷ op.Add ∷ op.Subtract
    ∷ op.ShiftLeft ∷ op.ShiftRight ∷ op.ShiftRightUnsigned
    ∷ op.Less ∷ op.Greater ∷ op.LessEqual ∷ op.GreaterEqual ∷ op.InstanceOf ∷ op.In
    ∷ op.Equal ∷ op.NotEqual ∷ op.Same ∷ op.NotSame
    ∷ op.BitAnd ∷ op.BitXor ∷ op.BitOr ∷ []

-- what each of them gives
abbrev pub by_each : Value → Value → List Operated
by_each v w = map (λ op. operated op v w) operators

-- what one of them gives for each pair
abbrev pub results : BinaryOp → List (Value × Value) → List Operated
results op pairs = map (λ p. operated op p.0 p.1) pairs

-- the same of a value behind each of these, and before each of these
abbrev pub behind_each : BinaryOp → List Value → Value → List Operated
behind_each op vs w = map (λ v. operated op v w) vs

abbrev pub before_each : BinaryOp → Value → List Value → List Operated
before_each op v ws = map (operated op v) ws

-- each of them on two numbers
abbrev pub on_each_two : Num → Num → List (Result Num Reason)
on_each_two a b = map (λ op. on_two op a b) operators

-- those that look at numbers alone
abbrev pub number_operators : List BinaryOp
number_operators =
    op.Multiply ∷ op.Divide ∷ op.Remainder ∷ op.Subtract
    ∷ op.ShiftLeft ∷ op.ShiftRight ∷ op.ShiftRightUnsigned
    ∷ op.BitAnd ∷ op.BitXor ∷ op.BitOr ∷ []

abbrev pub by_number_operators : Value → Value → List Operated
by_number_operators v w = map (λ op. operated op v w) number_operators

-- one value of each kind; the three in the middle are equal
abbrev pub kinds : List Value
kinds = nothing ∷ null ∷ yes ∷ whole 1 ∷ text (codes "1") ∷ object 70 ∷ []

-- each of them with each of them
abbrev pub table : BinaryOp → List (List Operated)
table op = map (λ v. before_each op v kinds) kinds

-- what an operator gives where one of the two is an object that it has to look into: the orders and
-- all on numbers; and then equality, and the same
abbrev pub of_objects : List Operated → List Operated → List Operated
of_objects equal same = replicate 14 None ++ (equal ++ (same ++ replicate 3 None))
