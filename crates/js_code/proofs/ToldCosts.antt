-- What a node tells of an operation follows from what its operands tell.
use Rattle.std.proofs.Common.{◌≡◌, ◌≤◌, ◌<◌, ◌⊎◌, ℕ, zero, suc, ◌+◌, Bool, true, false, inl, inr, refl, sym, ap, ◌∙◌, arith}
use Rattle.std.specs.Prelude.{nat_le, if◌then◌else◌}
use Rattle.std.proofs.lemmas.Bool.{cases_lt}
use Rattle.std.proofs.lemmas.Bool.Decides.{nat_tests}
use Rattle.js_tree.specs.declared.tree.BinaryOp.{BinaryOp}
use Rattle.js_tree.specs.declared.tree.BinaryOp.TheVariants as binary
use Rattle.js_tree.specs.declared.tree.PrefixOp.{PrefixOp}
use Rattle.js_tree.specs.declared.tree.PrefixOp.TheVariants as prefix
use Rattle.js_tree.specs.Tree.{Expr, Prefix, Binary}
use Rattle.js_code.specs.Costs.{told, raised, joined, prefix_cost, binary_cost, cost}

told_small : (n : ℕ) → n ≤ 1000 → told n ≡ n
told_small n h = grind (arith, nat_tests)

told_great : (n : ℕ) → 1000 < n → told n ≡ 0
told_great n h = grind (arith, nat_tests)

either : (b : Bool) (n : ℕ) → ((if b then n else 0) ≡ 0) ⊎ ((if b then n else 0) ≡ n)
either true n = inr refl
either false n = inl refl

pub told_or_none : (n : ℕ) → (told n ≡ 0) ⊎ (told n ≡ n)
told_or_none n = either (nat_le n 1000) n

raised_great : (n : ℕ) → 1000 < n → told (raised n) ≡ 0
raised_great zero h = refl
raised_great (suc n) h = told_great (suc n + 1) (omega arith)

raised_by_size : (n : ℕ) → (1000 < n) ⊎ (n ≤ 1000) → told (raised (told n)) ≡ told (raised n)
raised_by_size n (inl h) = ap (λ k. told (raised k)) (told_great n h) ∙ sym (raised_great n h)
raised_by_size n (inr h) = ap (λ k. told (raised k)) (told_small n h)

raised_told : (n : ℕ) → told (raised (told n)) ≡ told (raised n)
raised_told n = raised_by_size n (cases_lt 1000 n)

joined_none : (m : ℕ) → joined m 0 ≡ 0
joined_none zero = refl
joined_none (suc m) = refl

joined_great : (m n : ℕ) → (1000 < m) ⊎ (1000 < n) → told (joined m n) ≡ 0
joined_great zero n h = refl
joined_great (suc m) zero h = refl
joined_great (suc m) (suc n) (inl h) = told_great (suc m + suc n + 1) (omega arith)
joined_great (suc m) (suc n) (inr h) = told_great (suc m + suc n + 1) (omega arith)

joined_by_size
    : (m n : ℕ) → (1000 < m) ⊎ (m ≤ 1000) → (1000 < n) ⊎ (n ≤ 1000)
    → told (joined (told m) (told n)) ≡ told (joined m n)
joined_by_size m n (inl h) g =
    ap (λ k. told (joined k (told n))) (told_great m h) ∙ sym (joined_great m n (inl h))
joined_by_size m n (inr h) (inl g) =
    ap (λ k. told (joined (told m) k)) (told_great n g)
    ∙ (ap told (joined_none (told m)) ∙ sym (joined_great m n (inr g)))
joined_by_size m n (inr h) (inr g) =
    ap (λ k. told (joined k (told n))) (told_small m h)
    ∙ ap (λ k. told (joined m k)) (told_small n g)

joined_told : (m n : ℕ) → told (joined (told m) (told n)) ≡ told (joined m n)
joined_told m n = joined_by_size m n (cases_lt 1000 m) (cases_lt 1000 n)

prefix_told : (op : PrefixOp) (n : ℕ) → told (prefix_cost op (told n)) ≡ told (prefix_cost op n)
prefix_told prefix.Delete n = refl
prefix_told prefix.Void n = raised_told n
prefix_told prefix.TypeOf n = refl
prefix_told prefix.Increment n = refl
prefix_told prefix.Decrement n = refl
prefix_told prefix.Plus n = raised_told n
prefix_told prefix.Minus n = raised_told n
prefix_told prefix.BitNot n = raised_told n
prefix_told prefix.Not n = raised_told n

binary_told
    : (op : BinaryOp) (m n : ℕ)
    → told (binary_cost op (told m) (told n)) ≡ told (binary_cost op m n)
binary_told binary.BitOr m n = joined_told m n
binary_told binary.BitXor m n = joined_told m n
binary_told binary.BitAnd m n = joined_told m n
binary_told binary.Equal m n = joined_told m n
binary_told binary.NotEqual m n = joined_told m n
binary_told binary.Same m n = joined_told m n
binary_told binary.NotSame m n = joined_told m n
binary_told binary.Less m n = joined_told m n
binary_told binary.Greater m n = joined_told m n
binary_told binary.LessEqual m n = joined_told m n
binary_told binary.GreaterEqual m n = joined_told m n
binary_told binary.InstanceOf m n = refl
binary_told binary.In m n = refl
binary_told binary.ShiftLeft m n = joined_told m n
binary_told binary.ShiftRight m n = joined_told m n
binary_told binary.ShiftRightUnsigned m n = joined_told m n
binary_told binary.Add m n = joined_told m n
binary_told binary.Subtract m n = joined_told m n
binary_told binary.Multiply m n = joined_told m n
binary_told binary.Divide m n = joined_told m n
binary_told binary.Remainder m n = joined_told m n

pub prefix_kept
    : (op : PrefixOp) (operand : Expr) (n c : ℕ) → c ≡ told (prefix_cost op n)
    → n ≡ told (cost operand) → c ≡ told (cost (Prefix op operand))
prefix_kept op operand n c e same =
    e ∙ (ap (λ k. told (prefix_cost op k)) same ∙ prefix_told op (cost operand))

pub binary_kept
    : (op : BinaryOp) (left right : Expr) (m n c : ℕ) → c ≡ told (binary_cost op m n)
    → m ≡ told (cost left) → n ≡ told (cost right) → c ≡ told (cost (Binary op left right))
binary_kept op left right m n c e first second =
    e
    ∙ (ap (λ k. told (binary_cost op k n)) first
    ∙ (ap (λ k. told (binary_cost op (told (cost left)) k)) second
    ∙ binary_told op (cost left) (cost right)))
