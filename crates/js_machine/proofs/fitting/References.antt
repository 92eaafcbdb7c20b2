-- Errors and references.
use Rattle.std.proofs.Common.{ℕ, ◌≤◌, Bool, true, false, List, length, arith}
use Rattle.std.specs.Prelude.{Option, Some}
use Rattle.js_values.specs.declared.value.Value.{Value}
use Rattle.object_heap.specs.declared.built_in.BuiltIn.{BuiltIn}
use Rattle.object_heap.specs.declared.built_in.BuiltIn.TheVariants as built
use Rattle.object_heap.specs.declared.object.Class.{Class}
use Rattle.object_heap.specs.declared.object.Class.TheVariants as class
use Rattle.object_heap.specs.Arrays.{whole}
use Rattle.object_heap.specs.BuiltIns.{number_of}
use Rattle.object_heap.specs.Changes.{first_properties, new_object}
use Rattle.object_heap.specs.Names.{Name, is_same_name, length_name}
use Rattle.js_machine.specs.Asks.{Program}
use Rattle.js_machine.specs.References.{error_object, throws, throws_type_error, throws_reference_error, throws_range_error, Reference, NoReference, InScope, OnBase, Unbound, global_object, global_value, if_global, if_found, resolve, or_undefined, get, get_of_text, get_on, get_value, put, put_on, put_value}
use Rattle.js_machine.specs.Reachable as fits
use Rattle.js_machine.specs.Reachable.{Each, IfAny, Counts, IsObject, IsInReach, IsScope, ValueFits, PropertyFits, ObjectFits}
use Rattle.js_machine.proofs.fitting.Growth.{Grows, stays, grows_on, started, later_value, later_chain}
use Rattle.js_machine.proofs.fitting.Family as asks
use Rattle.js_machine.proofs.fitting.Family.{ProgramFits, OnValues, OnAll, later_program}
use Rattle.js_machine.proofs.fitting.Frames.{if_fits, completes_fits}

-- ---- new objects, and errors

first_fit : (c : Class) {w : Counts} → Each (PropertyFits w) (first_properties c)
first_fit class.Array = fits.more (record { slot = fits.holds fits.num }) fits.empty
first_fit class.Plain = fits.empty
first_fit class.Function = fits.empty
first_fit class.Arguments = fits.empty
first_fit class.Error = fits.empty
first_fit class.Math = fits.empty

pub new_object_fits : (c : Class) {w : Counts} {prototype : ℕ} → IsObject w prototype → ObjectFits w (new_object c (Some prototype))
new_object_fits c p = record { prototype = fits.just p; properties = first_fit c }

pub throws_fits : (prototype : BuiltIn) → number_of prototype ≤ 64 → {w : Counts} → ProgramFits w (throws prototype)
throws_fits prototype le = asks.make (new_object_fits class.Error (started (number_of prototype) le)) (λ v g e p. completes_fits (fits.a_throw (fits.object p)))

pub type_error_fits : {w : Counts} → ProgramFits w throws_type_error
type_error_fits = throws_fits built.TypeErrorPrototype (omega arith)

pub type_error_object_fits : {w : Counts} → ObjectFits w (error_object built.TypeErrorPrototype)
type_error_object_fits = new_object_fits class.Error (started (number_of built.TypeErrorPrototype) (omega arith))

pub reference_error_fits : {w : Counts} → ProgramFits w throws_reference_error
reference_error_fits = throws_fits built.ReferenceErrorPrototype (omega arith)

pub range_error_fits : {w : Counts} → ProgramFits w throws_range_error
range_error_fits = throws_fits built.RangeErrorPrototype (omega arith)

-- ---- references

pub data ReferenceFits (w : Counts) : Reference → Type 0 where
  no_reference : {a : Value} → ValueFits w a → ReferenceFits w (NoReference a)
  in_scope : {chain : List ℕ} {name : Name} → Each (IsScope w) chain → ReferenceFits w (InScope chain name)
  on_base : {base : Value} {name : Name} → ValueFits w base → ReferenceFits w (OnBase base name)
  unbound : {name : Name} → ReferenceFits w (Unbound name)

abbrev pub OnReferences : Counts → (Reference → Program) → Type 0
OnReferences w k = (v : Counts) → Grows w v → (r : Reference) → ReferenceFits v r → ProgramFits v (k r)

pub later_reference : {w v : Counts} → Grows w v → {r : Reference} → ReferenceFits w r → ReferenceFits v r
later_reference g (no_reference a) = no_reference (later_value g a)
later_reference g (in_scope chain) = in_scope (later_chain g chain)
later_reference g (on_base base) = on_base (later_value g base)
later_reference g unbound = unbound

pub global_there : {w : Counts} → IsObject w global_object
global_there = started (number_of built.Global) (omega arith)

pub global_in_reach : {w : Counts} → IsInReach w global_object
global_in_reach {w = w} = record { is = omega (arith, w.start); other = λ e. absurd (omega (arith, e)) }

pub global_fits : {w : Counts} → ValueFits w global_value
global_fits = fits.object global_in_reach

if_global_fits : (name : Name) (is_there : Bool) {w : Counts} → ReferenceFits w (if_global name is_there)
if_global_fits name true = on_base global_fits
if_global_fits name false = unbound

if_found_fits : (name : Name) {w : Counts} {chain : List ℕ} {found : Option Value} {k : Reference → Program} → Each (IsScope w) chain → IfAny (ValueFits w) found → OnReferences w k → ProgramFits w (if_found chain name found k)
if_found_fits name {w = w} chain (fits.just a) h = h w (stays w) _ (in_scope chain)
if_found_fits name chain fits.nothing h = asks.has global_there (λ v g b. h v g (if_global name b) (if_global_fits name b))

pub resolve_fits : (name : Name) {w : Counts} {chain : List ℕ} {k : Reference → Program} → Each (IsScope w) chain → OnReferences w k → ProgramFits w (resolve chain name k)
resolve_fits name chain h = asks.find chain (λ v g found p. if_found_fits name (later_chain g chain) p (λ u f. h u (grows_on g f)))

-- ---- reads

or_undefined_fits : {w : Counts} {found : Option Value} → IfAny (ValueFits w) found → ValueFits w (or_undefined found)
or_undefined_fits fits.nothing = fits.undefined
or_undefined_fits (fits.just a) = a

pub get_fits : (name : Name) {w : Counts} {o : ℕ} {k : Value → Program} → IsObject w o → OnValues w k → ProgramFits w (get o name k)
get_fits name o h = asks.get o (λ v g found p. h v g (or_undefined found) (or_undefined_fits p))

get_of_text_fits : (text name : Name) {w : Counts} {k : Value → Program} → OnValues w k → ProgramFits w (get_of_text text name k)
get_of_text_fits text name {w = w} h =
    if_fits (is_same_name name length_name) (h w (stays w) (whole (length text)) fits.num) (get_fits name (started (number_of built.StringPrototype) (omega arith)) h)

get_on_fits : (name : Name) {w : Counts} {base : Value} {k : Value → Program} → ValueFits w base → OnValues w k → ProgramFits w (get_on base name k)
get_on_fits name (fits.object p) h = get_fits name (record { is = p.is }) h
get_on_fits name (fits.str {text = text}) h = get_of_text_fits text name h
get_on_fits name fits.num h = get_fits name (started (number_of built.NumberPrototype) (omega arith)) h
get_on_fits name fits.bool h = get_fits name (started (number_of built.BooleanPrototype) (omega arith)) h
get_on_fits name {w = w} fits.null h = h w (stays w) _ fits.undefined
get_on_fits name {w = w} fits.undefined h = h w (stays w) _ fits.undefined

pub get_value_fits : {w : Counts} {r : Reference} {k : Value → Program} → ReferenceFits w r → OnValues w k → ProgramFits w (get_value r k)
get_value_fits {w = w} (no_reference {a = a} p) h = h w (stays w) a p
get_value_fits (in_scope chain) h = asks.find chain (λ v g found p. h v g (or_undefined found) (or_undefined_fits p))
get_value_fits (on_base {name = name} base) h = get_on_fits name base h
get_value_fits unbound h = reference_error_fits

-- ---- writes

pub put_fits : (name : Name) {w : Counts} {o : ℕ} {a : Value} {p : Program} → IsObject w o → ValueFits w a → ProgramFits w p → ProgramFits w (put o name a p)
put_fits name o a p = asks.put o a (λ v g b. if_fits b (later_program p g) range_error_fits)

put_on_fits : (name : Name) {w : Counts} {base a : Value} {p : Program} → ValueFits w base → ValueFits w a → ProgramFits w p → ProgramFits w (put_on base name a p)
put_on_fits name (fits.object o) a p = put_fits name (record { is = o.is }) a p
put_on_fits name fits.str a p = p
put_on_fits name fits.num a p = p
put_on_fits name fits.bool a p = p
put_on_fits name fits.null a p = p
put_on_fits name fits.undefined a p = p

pub put_value_fits : {w : Counts} {r : Reference} {a : Value} {p : Program} → ReferenceFits w r → ValueFits w a → ProgramFits w p → ProgramFits w (put_value r a p)
put_value_fits (no_reference old) a p = reference_error_fits
put_value_fits (in_scope chain) a p = asks.write chain a p
put_value_fits (on_base {name = name} base) a p = put_on_fits name base a p
put_value_fits (unbound {name = name}) a p = put_fits name global_there a p
