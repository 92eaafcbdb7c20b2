-- Scopes, one for each activation, catch clause and name of a function expression (ES3 10.1.4,
-- 10.1.6, 12.14, 13), numbered in the order in which they are entered. No scope ever goes.
use Rattle.std.specs.Prelude.{ℕ, zero, suc, Bool, true, false, if◌then◌else◌, List, [], ◌∷◌, ◌++◌}
use Rattle.std.specs.Prelude.{map, Option, Some, None, slice_get, slice_set}
use Rattle.js_values.specs.declared.value.Value.{Value}
use Rattle.js_values.specs.declared.value.Value.TheVariants.{Undefined}

abbrev pub Name : Type 0
Name = List ℕ

-- a name and its value
pub record Binding : Type 0 where
  pub name : Name
  pub value : Value

-- a scope has its names from the start, in order; those of a fixed one are read-only
pub record Scope : Type 0 where
  pub bindings : List Binding
  -- the scope around it, which was entered before it
  pub parent : Option ℕ
  pub fixed : Bool

abbrev pub Scopes : Type 0
Scopes = List Scope

-- ---- one scope of them

abbrev pub bindings_in : Option Scope → List Binding
bindings_in None = []
bindings_in (Some scope) = scope.bindings

abbrev pub bindings_of : Scopes → ℕ → List Binding
bindings_of scopes s = bindings_in (slice_get scopes s)

abbrev pub parent_in : Option Scope → Option ℕ
parent_in None = None
parent_in (Some scope) = scope.parent

abbrev pub parent_of : Scopes → ℕ → Option ℕ
parent_of scopes s = parent_in (slice_get scopes s)

-- ---- the chain of a scope (ES3 10.1.4): the scope itself, its parent, and so on

abbrev pub chain_on : Option ℕ → (ℕ → List ℕ) → List ℕ
chain_on None chain = []
chain_on (Some s) chain = chain s

-- at most so many scopes of it
abbrev pub chain_within : Scopes → ℕ → ℕ → List ℕ
chain_within scopes zero s = []
chain_within scopes (suc count) s = s ∷ chain_on (parent_of scopes s) (chain_within scopes count)

-- a parent has a lower number, so there are no more than the number tells
abbrev pub chain_of : Scopes → ℕ → List ℕ
chain_of scopes s = chain_within scopes (suc s) s

-- the scope that stands so many parents up
abbrev pub scope_up : Scopes → ℕ → ℕ → Option ℕ
scope_up scopes s up = slice_get (chain_of scopes s) up

-- ---- slots: the names of a scope by their place

abbrev pub value_in : Option Binding → Value
value_in None = Undefined
value_in (Some binding) = binding.value

abbrev pub value_at : Scopes → ℕ → ℕ → Value
value_at scopes s slot = value_in (slice_get (bindings_of scopes s) slot)

-- ---- what a call changes

abbrev pub unset : Name → Binding
unset name = record { name = name; value = Undefined }

-- one more scope, whose names are all undefined
abbrev pub entered : List Name → Option ℕ → Scopes → Scopes
entered names parent scopes =
    scopes ++ record { bindings = map unset names; parent = parent; fixed = false } ∷ []

abbrev pub put_value : List Binding → ℕ → Value → List Binding
put_value [] slot v = []
put_value (b ∷ bs) zero v = record b { value = v } ∷ bs
put_value (b ∷ bs) (suc slot) v = b ∷ put_value bs slot v

-- a write to a fixed scope has no effect
abbrev pub written_to : Scope → ℕ → Value → Scope
written_to scope slot v =
    if scope.fixed then scope else record scope { bindings = put_value scope.bindings slot v }

abbrev pub changed_at : Scopes → ℕ → Option Scope → (Scope → Scope) → Scopes
changed_at scopes s None change = scopes
changed_at scopes s (Some scope) change = slice_set scopes s (change scope)

abbrev pub changed : Scopes → ℕ → (Scope → Scope) → Scopes
changed scopes s change = changed_at scopes s (slice_get scopes s) change

abbrev pub written_at : ℕ → ℕ → Value → Scopes → Scopes
written_at s slot v scopes = changed scopes s (λ scope. written_to scope slot v)

-- from now on the scope's names are read-only, as the name of a function expression is (ES3 13)
abbrev pub fixed_at : ℕ → Scopes → Scopes
fixed_at s scopes = changed scopes s (λ scope. record scope { fixed = true })
