-- The search of a name along a chain of scopes, the innermost first (ES3 10.1.4).
use Rattle.std.specs.Prelude.{ℕ, suc, if◌then◌else◌, nat_eq, List, [], ◌∷◌}
use Rattle.std.specs.Prelude.{Option, Some, None, option_map}
use Rattle.std.specs.Cmp.Lexicographic.{pointwise}
use Rattle.js_values.specs.declared.value.Value.{Value}
use Rattle.scope_arena.specs.Scopes.{Name, Binding, Scopes, bindings_of, chain_of, value_at}
use Rattle.scope_arena.specs.Scopes.{written_at}

-- the slot of a name in a scope: the first that has it
abbrev pub slot_in : List Binding → Name → Option ℕ
slot_in [] name = None
slot_in (b ∷ bs) name =
    if pointwise nat_eq b.name name then Some 0 else option_map suc (slot_in bs name)

abbrev pub slot_of : Scopes → ℕ → Name → Option ℕ
slot_of scopes s name = slot_in (bindings_of scopes s) name

-- where a name is: so many scopes up the chain, in that scope, at that slot
pub record Place : Type 0 where
  pub up : ℕ
  pub scope : ℕ
  pub slot : ℕ

abbrev pub one_up : Place → Place
one_up place = record place { up = suc place.up }

abbrev pub here_or : ℕ → Option ℕ → Option Place → Option Place
here_or s (Some slot) further = Some (record { up = 0; scope = s; slot = slot })
here_or s None further = option_map one_up further

-- in the first scope of the chain that has the name; None where no scope has it
abbrev pub find : Scopes → List ℕ → Name → Option Place
find scopes [] name = None
find scopes (s ∷ outer) name = here_or s (slot_of scopes s name) (find scopes outer name)

-- from a scope on
abbrev pub find_from : Scopes → ℕ → Name → Option Place
find_from scopes s name = find scopes (chain_of scopes s) name

-- ---- what a name is bound to

abbrev pub read : Scopes → Place → Value
read scopes place = value_at scopes place.scope place.slot

abbrev pub value_of_name : Scopes → List ℕ → Name → Option Value
value_of_name scopes chain name = option_map (read scopes) (find scopes chain name)

abbrev pub written : Place → Value → Scopes → Scopes
written place v scopes = written_at place.scope place.slot v scopes

-- the scopes behind a write to a name, or None where no scope of the chain has it
abbrev pub with_name : Scopes → List ℕ → Name → Value → Option Scopes
with_name scopes chain name v =
    option_map (λ place. written place v scopes) (find scopes chain name)
