-- A scope's parent was entered before it.
use Rattle.std.proofs.Common.{◌≡◌, ℕ, zero, suc, ◌<◌, Bool, true, false, List, [], ◌∷◌, ◌++◌, length}
use Rattle.std.proofs.Common.{Some, None, refl, ap, sym, ◌∙◌, ◌⊎◌, inl, inr, arith, subst}
use Rattle.std.specs.Prelude.{Option, slice_get, slice_set, unwrap_or}
use Rattle.js_values.specs.declared.value.Value.{Value}
use Rattle.scope_arena.specs.Scopes.{Name, Scope, Scopes, parent_in, parent_of, chain_on, chain_within, chain_of, entered, written_to, changed_at}
use Rattle.scope_arena.specs.Laws.{ParentsComeBefore, ParentsStayBefore, IsThere}

none_some : {A : Type 0} {x : A} → None ≡ Some x → ⊥
none_some e = cc

some_one : {A : Type 0} {x y : A} → Some x ≡ Some y → x ≡ y
some_one {x = x} e = ap (λ o. unwrap_or o x) e

-- ---- one more scope

-- a parent is that of a scope that was there, or of the new one
parent_with : (scopes : Scopes) (new : Scope) (s p : ℕ) → parent_of (scopes ++ new ∷ []) s ≡ Some p → (parent_of scopes s ≡ Some p) ⊎ ((s ≡ length scopes) × (new.parent ≡ Some p))
parent_with [] new zero p e = inr (refl, e)
parent_with [] new (suc s) p e = absurd (none_some e)
parent_with (x ∷ xs) new zero p e = inl e
parent_with (x ∷ xs) new (suc s) p e = further (parent_with xs new s p e)
  where
    further : (parent_of xs s ≡ Some p) ⊎ ((s ≡ length xs) × (new.parent ≡ Some p)) → (parent_of (x ∷ xs) (suc s) ≡ Some p) ⊎ ((suc s ≡ length (x ∷ xs)) × (new.parent ≡ Some p))
    further (inl h) = inl h
    further (inr h) = inr (ap suc h.0, h.1)

there : (scopes : Scopes) (parent : Option ℕ) (p : ℕ) → IsThere scopes parent → parent ≡ Some p → p < length scopes
there scopes None p is e = absurd (none_some e)
there scopes (Some s) p is e = subst (λ n. n < length scopes) (some_one e) is

enter_keeps : (scopes : Scopes) (names : List Name) (parent : Option ℕ) → IsThere scopes parent → ParentsComeBefore scopes → ParentsComeBefore (entered names parent scopes)
enter_keeps scopes names parent is before s p e = by (parent_with scopes _ s p e)
  where
    by : (parent_of scopes s ≡ Some p) ⊎ ((s ≡ length scopes) × (parent ≡ Some p)) → p < s
    by (inl h) = before s p h
    by (inr h) = let lt = there scopes parent p is h.1 in let at = h.0 in omega (arith, lt, at)

-- ---- a changed scope

parent_set : (scopes : Scopes) (s : ℕ) (new : Scope) (t : ℕ) → parent_of scopes s ≡ new.parent → parent_of (slice_set scopes s new) t ≡ parent_of scopes t
parent_set [] s new t e = refl
parent_set (x ∷ xs) zero new zero e = sym e
parent_set (x ∷ xs) zero new (suc t) e = refl
parent_set (x ∷ xs) (suc s) new zero e = refl
parent_set (x ∷ xs) (suc s) new (suc t) e = parent_set xs s new t e

parent_changed : (scopes : Scopes) (s : ℕ) (change : Scope → Scope) (t : ℕ) → ((scope : Scope) → scope.parent ≡ (change scope).parent) → (o : Option Scope) → slice_get scopes s ≡ o → parent_of (changed_at scopes s o change) t ≡ parent_of scopes t
parent_changed scopes s change t same None e = refl
parent_changed scopes s change t same (Some scope) e = parent_set scopes s (change scope) t (ap parent_in e ∙ same scope)

change_keeps : (scopes : Scopes) (s : ℕ) (change : Scope → Scope) → ((scope : Scope) → scope.parent ≡ (change scope).parent) → ParentsComeBefore scopes → ParentsComeBefore (changed_at scopes s (slice_get scopes s) change)
change_keeps scopes s change same before t p e = before t p (sym (parent_changed scopes s change t same (slice_get scopes s) refl) ∙ e)

written_parent : (slot : ℕ) (v : Value) (scope : Scope) (fixed : Bool) → scope.fixed ≡ fixed → scope.parent ≡ (written_to scope slot v).parent
written_parent slot v scope true e = rw e refl
written_parent slot v scope false e = rw e refl

pub stay_before : ParentsStayBefore
stay_before = record {
  at_first = λ s p e. absurd (none_some e);
  enter = enter_keeps;
  write = λ scopes s slot v. change_keeps scopes s (λ scope. written_to scope slot v) (λ scope. written_parent slot v scope scope.fixed refl);
  fix = λ scopes s. change_keeps scopes s (λ scope. record scope { fixed = true }) (λ scope. refl);
}

-- ---- the chain of a scope

module _ (scopes : Scopes) (before : ParentsComeBefore scopes) where
  on_same : (f g s : ℕ) → ((p : ℕ) → p < s → chain_within scopes f p ≡ chain_within scopes g p) → (l : Option ℕ) → parent_of scopes s ≡ l → chain_on l (chain_within scopes f) ≡ chain_on l (chain_within scopes g)
  on_same f g s q None e = refl
  on_same f g s q (Some p) e = q p (before s p e)

  -- more scopes than the number tells change nothing
  enough : (f g s : ℕ) → s < f → s < g → chain_within scopes f s ≡ chain_within scopes g s
  enough zero g s l m = absurd (omega arith)
  enough (suc f) zero s l m = absurd (omega arith)
  enough (suc f) (suc g) s l m = ap (λ chain. s ∷ chain) (on_same f g s (λ p lt. enough f g p (omega arith) (omega arith)) (parent_of scopes s) refl)

  on_chain : (s : ℕ) (l : Option ℕ) → parent_of scopes s ≡ l → chain_on l (chain_within scopes s) ≡ chain_on l (chain_of scopes)
  on_chain s None e = refl
  on_chain s (Some p) e = let lt = before s p e in enough s (suc p) p lt (omega arith)

  pub outwards : (s : ℕ) → chain_of scopes s ≡ s ∷ chain_on (parent_of scopes s) (chain_of scopes)
  outwards s = ap (λ chain. s ∷ chain) (on_chain s (parent_of scopes s) refl)
