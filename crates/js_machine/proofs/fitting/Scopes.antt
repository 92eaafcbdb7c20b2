-- What the calls of scopes give and leave.
use Rattle.std.proofs.Common.{◌≡◌, ℕ, zero, suc, Bool, true, false, List, [], ◌∷◌, length, refl, sym, ◌∙◌, ap, arith}
use Rattle.std.specs.Prelude.{Option, Some, None, map, option_map, unwrap_or, if◌then◌else◌}
use Rattle.js_values.specs.declared.value.Value.{Value}
use Rattle.scope_arena.specs.Laws.{IsThere}
use Rattle.scope_arena.specs.Scopes.{Name, Binding, Scope, Scopes, bindings_in, value_in, value_at, unset, entered, put_value, written_to, changed_at, written_at, fixed_at}
use Rattle.scope_arena.specs.Search.{Place, find, read, value_of_name, written, with_name}
use Rattle.scope_arena.proofs.Parents.{stay_before}
use Rattle.js_machine.specs.Reachable as fits
use Rattle.js_machine.specs.Reachable.{Each, IfAny, Counts, IsScope, ValueFits, BindingFits, ScopeFits, ScopesFit}
use Rattle.js_machine.proofs.fitting.Lists.{each_joined, each_got, each_set, length_set}
use Rattle.js_machine.proofs.fitting.Growth.{Grows, one_scope, scope_grows, later_scope, later_scope_contents}
use Rattle.js_machine.proofs.fitting.Heap.{length_more}

-- scopes that change are as many, and they fit
record Kept (w : Counts) (scopes after : Scopes) : Type 0 where
  pub same : length after ≡ length scopes
  pub each : Each (ScopeFits w) after

module _ {w : Counts} where
  -- ---- reads

  bindings_fit : {o : Option Scope} → IfAny (ScopeFits w) o → Each (BindingFits w) (bindings_in o)
  bindings_fit fits.nothing = fits.empty
  bindings_fit (fits.just h) = h.bindings

  value_in_fits : {o : Option Binding} → IfAny (BindingFits w) o → ValueFits w (value_in o)
  value_in_fits fits.nothing = fits.undefined
  value_in_fits (fits.just h) = h.value

  pub value_at_fits : (s place : ℕ) {scopes : Scopes} → Each (ScopeFits w) scopes → ValueFits w (value_at scopes s place)
  value_at_fits s place h = value_in_fits (each_got (bindings_fit (each_got h s)) place)

  found_fits : (place : Option Place) {scopes : Scopes} → Each (ScopeFits w) scopes → IfAny (ValueFits w) (option_map (read scopes) place)
  found_fits None h = fits.nothing
  found_fits (Some place) h = fits.just (value_at_fits place.scope place.slot h)

  pub value_of_name_fits : (chain : List ℕ) (name : Name) {scopes : Scopes} → Each (ScopeFits w) scopes → IfAny (ValueFits w) (value_of_name scopes chain name)
  value_of_name_fits chain name {scopes = scopes} h = found_fits (find scopes chain name) h

  -- ---- writes: vs many scopes, which still fit

  put_value_fits : (slot : ℕ) {bs : List Binding} {a : Value} → Each (BindingFits w) bs → ValueFits w a → Each (BindingFits w) (put_value bs slot a)
  put_value_fits slot fits.empty a = fits.empty
  put_value_fits zero (fits.more h hs) a = fits.more (record { value = a }) hs
  put_value_fits (suc slot) (fits.more h hs) a = fits.more h (put_value_fits slot hs a)

  either : (b : Bool) {x y : Scope} → ScopeFits w x → ScopeFits w y → ScopeFits w (if b then x else y)
  either true h g = h
  either false h g = g

  written_to_fits : (slot : ℕ) {scope : Scope} {a : Value} → ScopeFits w scope → ValueFits w a → ScopeFits w (written_to scope slot a)
  written_to_fits slot {scope = scope} h a = either scope.fixed h (record { bindings = put_value_fits slot h.bindings a; parent = h.parent })

  changed_kept : (s : ℕ) (change : Scope → Scope) {scopes : Scopes} {o : Option Scope} → ((scope : Scope) → ScopeFits w scope → ScopeFits w (change scope)) → Each (ScopeFits w) scopes → IfAny (ScopeFits w) o → Kept w scopes (changed_at scopes s o change)
  changed_kept s change f h fits.nothing = record { same = refl; each = h }
  changed_kept s change {scopes = scopes} f h (fits.just {x = scope} p) = record { same = length_set scopes s (change scope); each = each_set h s (f scope p) }

  pub write_scopes : (s slot : ℕ) {scopes : Scopes} {a : Value} → ScopesFit w scopes → ValueFits w a → ScopesFit w (written_at s slot a scopes)
  write_scopes s slot {scopes = scopes} {a = v} h a =
      let k = changed_kept s (λ scope. written_to scope slot v) (λ scope p. written_to_fits slot p a) h.each (each_got h.each s) in
      record { count = h.count ∙ sym k.same; before = stay_before.write scopes s slot v h.before; each = k.each }

  pub fix_scopes : (s : ℕ) {scopes : Scopes} → ScopesFit w scopes → ScopesFit w (fixed_at s scopes)
  fix_scopes s {scopes = scopes} h =
      let k = changed_kept s (λ scope. record scope { fixed = true }) (λ scope p. record { bindings = p.bindings; parent = p.parent }) h.each (each_got h.each s) in
      record { count = h.count ∙ sym k.same; before = stay_before.fix scopes s h.before; each = k.each }

  placed : (place : Option Place) {scopes : Scopes} {a : Value} → ScopesFit w scopes → ValueFits w a → ScopesFit w (unwrap_or (option_map (λ place. written place a scopes) place) scopes)
  placed None h a = h
  placed (Some place) h a = write_scopes place.scope place.slot h a

  pub name_scopes : (chain : List ℕ) (name : Name) {scopes : Scopes} {a : Value} → ScopesFit w scopes → ValueFits w a → ScopesFit w (unwrap_or (with_name scopes chain name a) scopes)
  name_scopes chain name {scopes = scopes} h a = placed (find scopes chain name) h a

-- ---- one more scope

unset_fit : (names : List Name) {w : Counts} → Each (BindingFits w) (map unset names)
unset_fit [] = fits.empty
unset_fit (name ∷ names) = fits.more (record { value = fits.undefined }) (unset_fit names)

there : {w : Counts} (scopes : Scopes) {parent : Option ℕ} → w.scopes ≡ length scopes → IfAny (IsScope w) parent → IsThere scopes parent
there scopes e fits.nothing = tt
there scopes e (fits.just p) = omega (arith, e, p.is)

pub enter_scopes : (names : List Name) {w : Counts} {scopes : Scopes} {parent : Option ℕ} → ScopesFit w scopes → IfAny (IsScope w) parent → ScopesFit (one_scope w) (entered names parent scopes)
enter_scopes names {w = w} {scopes = scopes} {parent = parent} h p =
    let g = scope_grows w in
    record {
      count = ap suc h.count ∙ sym (length_more scopes _);
      before = stay_before.enter scopes names parent (there scopes h.count p) h.before;
      each = each_joined (later_scope_contents g h.each) (fits.more (record { bindings = unset_fit names; parent = any_later p }) fits.empty);
    }
  where
    any_later : {o : Option ℕ} → IfAny (IsScope w) o → IfAny (IsScope (one_scope w)) o
    any_later fits.nothing = fits.nothing
    any_later (fits.just s) = fits.just (later_scope (scope_grows w) s)

-- in a world with as many scopes
pub same_scopes : {w v : Counts} {scopes : Scopes} → Grows w v → v.scopes ≡ w.scopes → ScopesFit w scopes → ScopesFit v scopes
same_scopes g e h = record { count = e ∙ h.count; before = h.before; each = later_scope_contents g h.each }
