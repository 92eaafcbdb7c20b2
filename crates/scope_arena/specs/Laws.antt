-- What holds of all scopes.
use Rattle.std.specs.Prelude.{◌≡◌, ℕ, ◌<◌, true, List, [], ◌∷◌, length, Option, Some, None}
use Rattle.std.specs.Prelude.{slice_get}
use Rattle.js_values.specs.declared.value.Value.{Value}
use Rattle.scope_arena.specs.Scopes.{Name, Scope, Scopes, parent_of, chain_of, chain_on}
use Rattle.scope_arena.specs.Scopes.{entered, written_at, fixed_at}

-- ---- a parent was entered before

abbrev pub ParentsComeBefore : Scopes → Type 0
ParentsComeBefore scopes = (s p : ℕ) → parent_of scopes s ≡ Some p → p < s

-- none, or a scope that is there
abbrev pub IsThere : Scopes → Option ℕ → Type 0
IsThere scopes None = Unit {0}
IsThere scopes (Some s) = s < length scopes

-- it holds at the start, and each call keeps it
pub record ParentsStayBefore : Type 0 where
  pub at_first : ParentsComeBefore []
  pub enter : (scopes : Scopes) (names : List Name) (parent : Option ℕ) → IsThere scopes parent
      → ParentsComeBefore scopes → ParentsComeBefore (entered names parent scopes)
  pub write : (scopes : Scopes) (s slot : ℕ) (v : Value)
      → ParentsComeBefore scopes → ParentsComeBefore (written_at s slot v scopes)
  pub fix : (scopes : Scopes) (s : ℕ)
      → ParentsComeBefore scopes → ParentsComeBefore (fixed_at s scopes)

-- so the chain of a scope is the scope and the chain of its parent, up to the outermost
abbrev pub ChainsGoOutwards : Type 0
ChainsGoOutwards =
    (scopes : Scopes) (s : ℕ) → ParentsComeBefore scopes
    → chain_of scopes s ≡ s ∷ chain_on (parent_of scopes s) (chain_of scopes)

-- ---- what never changes

pub record ScopesNeverGo : Type 0 where
  pub write : (scopes : Scopes) (s slot : ℕ) (v : Value)
      → length (written_at s slot v scopes) ≡ length scopes
  pub fix : (scopes : Scopes) (s : ℕ) → length (fixed_at s scopes) ≡ length scopes

-- a write to a fixed scope has no effect
abbrev pub FixedScopesStay : Type 0
FixedScopesStay =
    (scopes : Scopes) (s slot : ℕ) (v : Value) (scope : Scope)
    → slice_get scopes s ≡ Some scope → scope.fixed ≡ true
    → slice_get (written_at s slot v scopes) s ≡ Some scope
