-- A meaning of a port, which it tells (`Some`) or does not tell (`None`).
use Rattle.std.specs.Prelude.{◌≡◌, Option, MatchOption, IsNone, IsSomeAnd, is_some}

-- told now exactly where it was told before, and then the two are related so
abbrev pub WhereTold : {A B : Type 0} → (A → B → Type 0) → Option A → Option B → Type 0
WhereTold R before now = MatchOption before (IsNone now) (λ old. IsSomeAnd now (R old))

-- told now exactly where it was told before
abbrev pub KeepsTold : {A B : Type 0} → Option A → Option B → Type 0
KeepsTold before now = is_some now ≡ is_some before
