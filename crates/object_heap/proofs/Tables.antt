-- What the calls of a table do to the properties that it holds.
use Rattle.std.proofs.Common.{◌≡◌, ℕ, Bool, filter, true, false, List, [], ◌∷◌, Option, Some, None, nat_eq, refl, sym, ap, subst, ◌∙◌}
use Rattle.std.specs.Prelude.{option_map, unwrap_or, slice_get, not, if◌then◌else◌}
use Rattle.std.specs.Cmp.Lexicographic.{pointwise, bytes_decides, nat_list_eq_equiv}
use Rattle.std.specs.Map.{lookup, remove_entry, set_value, values_of}
use Rattle.indexmap.specs.IndexMap.{insert_entry, set_value_at}
use Rattle.js_values.specs.declared.value.Value.{Value}
use Rattle.object_heap.specs.declared.entry.Entry.{Entry}
use Rattle.object_heap.specs.declared.entry.Entry.TheVariants as entry
use Rattle.object_heap.specs.declared.entry.Written.{Written}
use Rattle.object_heap.specs.declared.entry.Written.TheVariants.{Done, ReadOnly, Shared, Absent}
use Rattle.object_heap.specs.Names.{Name, is_same_name, index_of}
use Rattle.object_heap.specs.Objects.{Property, Holds, own_in}
use Rattle.object_heap.specs.Arrays.{is_between, cut, whole, put_value}
use Rattle.object_heap.specs.Changes.{put_property, without}
use Rattle.object_heap.specs.Stored.{attributes_of, property_of, holding_in, properties_of_entries}
use Rattle.object_heap.specs.Writes.{entry_after, properties_after, with_length}

-- ---- names

pub same_name : (a b : Name) → is_same_name a b ≡ true → a ≡ b
same_name a b = (bytes_decides a b).0

pub same_flip : (a b : Name) → is_same_name a b ≡ is_same_name b a
same_flip = nat_list_eq_equiv.symm

-- a choice by the test of a map, and one by that of the definitions
by_name : {A B : Type 0} (f : A → B) (name key : Name) (x y : A) (s t : B) → (name ≡ key → f x ≡ s) → f y ≡ t → f (if is_same_name name key then x else y) ≡ (if is_same_name key name then s else t)
by_name {A} {B} f name key x y s t same other = subst (λ b. f (if is_same_name name key then x else y) ≡ (if b then s else t)) (same_flip name key) (by (is_same_name name key) refl)
  where
    by : (b : Bool) → is_same_name name key ≡ b → f (if b then x else y) ≡ (if b then s else t)
    by true h = same (same_name name key h)
    by false h = other

-- ---- one property

pub found_in_table : (es : List (Name × Entry)) (name : Name) → option_map (λ e. property_of name e) (lookup (is_same_name name) es) ≡ own_in (properties_of_entries es) name
found_in_table [] name = refl
found_in_table (e ∷ es) name = by_name (λ r. option_map (λ x. property_of name x) r) name e.0 (Some e.1) (lookup (is_same_name name) es) (Some (property_of e.0 e.1)) (own_in (properties_of_entries es) name) (ap (λ n. Some (property_of n e.1))) (found_in_table es name)

pub put_in_table : (es : List (Name × Entry)) (name : Name) (new : Entry) → properties_of_entries (insert_entry is_same_name es name new) ≡ put_property (properties_of_entries es) (property_of name new)
put_in_table [] name new = refl
put_in_table (e ∷ es) name new = by_name properties_of_entries name e.0 ((e.0, new) ∷ es) (e ∷ insert_entry is_same_name es name new) (property_of name new ∷ properties_of_entries es) (property_of e.0 e.1 ∷ put_property (properties_of_entries es) (property_of name new)) (λ same. ap (λ n. property_of n new ∷ properties_of_entries es) (sym same)) (ap (λ ps. property_of e.0 e.1 ∷ ps) (put_in_table es name new))

pub removed_from_table : (es : List (Name × Entry)) (name : Name) → properties_of_entries (remove_entry (is_same_name name) es) ≡ without (properties_of_entries es) name
removed_from_table [] name = refl
removed_from_table (e ∷ es) name = by_name properties_of_entries name e.0 es (e ∷ remove_entry (is_same_name name) es) (properties_of_entries es) (property_of e.0 e.1 ∷ without (properties_of_entries es) name) (λ same. refl) (ap (λ ps. property_of e.0 e.1 ∷ ps) (removed_from_table es name))

pub own_found : (es : List (Name × Entry)) (name : Name) (e : Option Entry) → e ≡ lookup (is_same_name name) es → own_in (properties_of_entries es) name ≡ option_map (λ x. property_of name x) e
own_found es name e h = sym (found_in_table es name) ∙ ap (λ r. option_map (λ x. property_of name x) r) (sym h)

-- ---- writes

pub first_kept : (es : List (Name × Entry)) (name : Name) (e : Entry) → Some e ≡ lookup (is_same_name name) es → properties_of_entries (set_value (is_same_name name) es e) ≡ properties_of_entries es
first_kept [] name e h = refl
first_kept (x ∷ es) name e h = by (is_same_name name x.0) h (λ rest. first_kept es name e rest)
  where
    by : (b : Bool) → Some e ≡ (if b then Some x.1 else lookup (is_same_name name) es) → (Some e ≡ lookup (is_same_name name) es → properties_of_entries (set_value (is_same_name name) es e) ≡ properties_of_entries es)
        → properties_of_entries (if b then (x.0, e) ∷ es else x ∷ set_value (is_same_name name) es e) ≡ properties_of_entries (x ∷ es)
    by true same rest = ap (λ o. properties_of_entries ((x.0, unwrap_or o e) ∷ es)) same
    by false same rest = ap (λ ps. property_of x.0 x.1 ∷ ps) (rest same)

pub first_held : (es : List (Name × Entry)) (name : Name) (e : Entry) (v : Value) → Some e ≡ lookup (is_same_name name) es → properties_of_entries (set_value (is_same_name name) es (holding_in e v)) ≡ put_value (properties_of_entries es) name v
first_held [] name e v h = absurd cc
first_held (x ∷ es) name e v h = subst (λ b. properties_of_entries (set_value (is_same_name name) (x ∷ es) (holding_in e v)) ≡ (if b then record (property_of x.0 x.1) { slot = Holds v } ∷ properties_of_entries es else property_of x.0 x.1 ∷ put_value (properties_of_entries es) name v)) (same_flip name x.0) (by (is_same_name name x.0) h (λ rest. first_held es name e v rest))
  where
    by : (b : Bool) → Some e ≡ (if b then Some x.1 else lookup (is_same_name name) es) → (Some e ≡ lookup (is_same_name name) es → properties_of_entries (set_value (is_same_name name) es (holding_in e v)) ≡ put_value (properties_of_entries es) name v)
        → properties_of_entries (if b then (x.0, holding_in e v) ∷ es else x ∷ set_value (is_same_name name) es (holding_in e v)) ≡ (if b then record (property_of x.0 x.1) { slot = Holds v } ∷ properties_of_entries es else property_of x.0 x.1 ∷ put_value (properties_of_entries es) name v)
    by true same rest = ap (λ o. record { name = x.0; slot = Holds v; attributes = attributes_of (unwrap_or o e) } ∷ properties_of_entries es) same
    by false same rest = ap (λ ps. property_of x.0 x.1 ∷ ps) (rest same)

pub written_to_table : (es : List (Name × Entry)) (name : Name) (e : Entry) (r : Written) (v : Value) → Some e ≡ lookup (is_same_name name) es → properties_of_entries (set_value (is_same_name name) es (entry_after r e v)) ≡ properties_after r (properties_of_entries es) name v
written_to_table es name e Done v h = first_held es name e v h
written_to_table es name e ReadOnly v h = first_kept es name e h
written_to_table es name e (Shared scope place) v h = first_kept es name e h
written_to_table es name e (Absent back) v h = first_kept es name e h

pub length_to_table : (es : List (Name × Entry)) (e : Entry) (n : ℕ) → Some e ≡ slice_get (values_of es) 0 → properties_of_entries (set_value_at es 0 (holding_in e (whole n))) ≡ with_length (properties_of_entries es) n
length_to_table [] e n h = refl
length_to_table (x ∷ es) e n h = ap (λ o. record { name = x.0; slot = Holds (whole n); attributes = attributes_of (unwrap_or o e) } ∷ properties_of_entries es) h

-- ---- many properties

pub cut_from_table : (length old : ℕ) (es : List (Name × Entry)) → properties_of_entries (filter (λ e. not (is_between length old (index_of e.0))) es) ≡ cut length old (properties_of_entries es)
cut_from_table length old [] = refl
cut_from_table length old (e ∷ es) = by (is_between length old (index_of e.0)) (cut_from_table length old es)
  where
    by : (b : Bool) → properties_of_entries (filter (λ x. not (is_between length old (index_of x.0))) es) ≡ cut length old (properties_of_entries es)
        → properties_of_entries (if not b then e ∷ filter (λ x. not (is_between length old (index_of x.0))) es else filter (λ x. not (is_between length old (index_of x.0))) es) ≡ (if b then cut length old (properties_of_entries es) else property_of e.0 e.1 ∷ cut length old (properties_of_entries es))
    by true rest = rest
    by false rest = ap (λ ps. property_of e.0 e.1 ∷ ps) rest
