-- What is left of a run in nodes that work on members.
use Rattle.std.proofs.Common.{◌≡◌, ℕ, ◌+◌, ◌-◌, Bool, true, false, List, [], ◌∷◌, ◌++◌, length, Some, None, Ok, Err, refl, sym, ap, ◌∙◌}
use Rattle.std.specs.Prelude.{if◌then◌else◌}
use Rattle.js_values.specs.declared.number.Num.{Num}
use Rattle.js_values.specs.declared.reason.Reason.{Reason}
use Rattle.js_values.specs.declared.reason.Reason.TheVariants.{ReservedName}
use Rattle.js_values.specs.declared.value.ObjectId.{ObjectId}
use Rattle.js_values.specs.declared.value.Value.{Value}
use Rattle.js_values.specs.declared.value.Value.TheVariants as value
use Rattle.js_values.specs.Values.{number_of, text_of}
use Rattle.object_heap.specs.declared.built_in.BuiltIn.TheVariants as built
use Rattle.object_heap.specs.Arrays.{whole}
use Rattle.object_heap.specs.BuiltIns as built_ins
use Rattle.object_heap.specs.Get.{get, has_property}
use Rattle.object_heap.specs.Names.{Name, is_reserved, is_same_name, length_name}
use Rattle.object_heap.specs.Objects.{Heap, Holds, Shares}
use Rattle.js_tree.specs.declared.tree.BinaryOp.{BinaryOp}
use Rattle.js_tree.specs.declared.tree.BinaryOp.TheVariants as op
use Rattle.js_tree.specs.declared.tree.Expr.{Expr}
use Rattle.js_tree.specs.declared.tree.PostfixOp.{PostfixOp}
use Rattle.js_tree.specs.declared.tree.PostfixOp.TheVariants as postfix
use Rattle.js_tree.specs.declared.tree.PrefixOp.{PrefixOp}
use Rattle.js_tree.specs.declared.tree.PrefixOp.TheVariants as prefix
use Rattle.js_tree.specs.Plain.{expr}
use Rattle.js_tree.specs.Tree as tree
use Rattle.js_machine.specs.declared.frame.Frame.{Frame}
use Rattle.js_machine.specs.declared.frame.Frame.TheVariants as frame
use Rattle.js_machine.specs.declared.frame.Control.TheVariants as control
use Rattle.js_machine.specs.declared.frame.End.TheVariants as end
use Rattle.js_machine.specs.declared.frame.Unbuilt.TheVariants as unbuilt
use Rattle.js_machine.specs.declared.hosts.HostCall.{HostCall}
use Rattle.js_machine.specs.Asks.{Program, AnExpr, Begin, Has, Stop, Tick}
use Rattle.js_machine.specs.Conversions.{HintNumber, HintString, or_stop, primitive_text, to_name, to_object, to_text}
use Rattle.js_machine.specs.Converted.{enters_operated, enters_value}
use Rattle.js_machine.specs.Expressions.{expression}
use Rattle.js_machine.specs.Frames.{done, gives, on_value, value_of}
use Rattle.js_machine.specs.Globals.{change_of, no_names, type_told}
use Rattle.js_machine.specs.Members.{based, changed_member, changed_to, deletes, dot_name, has_member, has_named, heap_deleted, heap_put, is_put, is_base, is_index, is_member, is_on_target, keyed, named, object_of, property_in, property_of, property_of_text, target_of, text_in, with_member}
use Rattle.js_machine.specs.Operated.{is_object, operated}
use Rattle.js_machine.specs.Operators.{operate}
use Rattle.js_machine.specs.Page.{script_env}
use Rattle.js_machine.specs.Programs.{program}
use Rattle.js_machine.specs.References.{error_object, get_on, get_of_text, or_undefined, put_on, throws_type_error}
use Rattle.js_machine.specs.References as references
use Rattle.js_machine.specs.Rest.{Outside, in_change_of, in_changed_to, in_expr, in_has, in_member, in_name, in_number, in_put, in_put_with, in_putting, in_type, in_type_of, in_value, rest, running, stack, state_of}
use Rattle.js_machine.specs.Run.{due, pop}
use Rattle.js_machine.specs.Stacks.{top, below}
use Rattle.js_machine.specs.State.{object_value, value_read}
use Rattle.js_machine.specs.Unary.{delete_on, one}
use Rattle.js_machine.proofs.AssignmentLaws.{number_read}
use Rattle.js_machine.proofs.ConversionLaws.{number_throws, operator_throws, text_throws}
use Rattle.js_machine.proofs.NameLaws.{at_no_name, put_bad, put_ok}
use Rattle.js_machine.proofs.Operating.{operator_gives, operator_stops}
use Rattle.js_machine.proofs.StepLaws.{none, step}

-- ---- what a property has

pub holds_it : (heap : Heap) (o : ℕ) (name : Name) (v : Value) → Some (Holds v) ≡ get heap o name → v ≡ property_of heap o name
holds_it heap o name v e = ap (λ found. or_undefined (value_read no_names found)) e

pub shares_it : (heap : Heap) (o : ℕ) (name : Name) (scope place : ℕ) → Some (Shares scope place) ≡ get heap o name → value.Undefined ≡ property_of heap o name
shares_it heap o name scope place e = sym (at_no_name scope place) ∙ ap (λ found. or_undefined (value_read no_names found)) e

pub has_none : (heap : Heap) (o : ℕ) (name : Name) → None ≡ get heap o name → value.Undefined ≡ property_of heap o name
has_none heap o name e = ap (λ found. or_undefined (value_read no_names found)) e

pub ruleset property_laws = (holds_it, shares_it, has_none)

pub text_length : (heap : Heap) (text name : Name) (v : Value) → true ≡ is_same_name name length_name → v ≡ whole (length text) → v ≡ property_of_text heap text name
text_length heap text name v e f = f ∙ ap (λ b. if b then whole (length text) else property_of heap (built_ins.number_of built.StringPrototype) name) e

pub text_other : (heap : Heap) (text name : Name) (v : Value) (o : ℕ) → false ≡ is_same_name name length_name → o ≡ built_ins.number_of built.StringPrototype → v ≡ property_of heap o name → v ≡ property_of_text heap text name
text_other heap text name v o e f g =
    g ∙ (ap (λ o. property_of heap o name) f
    ∙ ap (λ b. if b then whole (length text) else property_of heap (built_ins.number_of built.StringPrototype) name) e)

pub ruleset text_laws = (text_length, text_other)

pub at_number : (heap : Heap) (o p : ℕ) (name : Name) (v : Value) → v ≡ property_of heap o name → o ≡ p → v ≡ property_of heap p name
at_number heap o p name v e f = e ∙ ap (λ o. property_of heap o name) f

pub ruleset base_laws = (at_number)

-- ---- members as targets

data IsMember : tree.Expr → Type 0 where
  a_dot : (object : tree.Expr) (name : Name) → IsMember (tree.Dot object name)
  an_index : (object key : tree.Expr) → IsMember (tree.Index object key)

membered : (e : tree.Expr) → is_member e ≡ true → IsMember e
membered (tree.Num n) h = cc
membered (tree.Str text) h = cc
membered (tree.Truth b) h = cc
membered tree.Null h = cc
membered tree.This h = cc
membered (tree.Ident name) h = cc
membered (tree.Array es) h = cc
membered (tree.Object ps) h = cc
membered (tree.Function f) h = cc
membered (tree.Dot object name) h = a_dot object name
membered (tree.Index object key) h = an_index object key
membered (tree.Call callee es) h = cc
membered (tree.New callee es) h = cc
membered (tree.Postfix target op) h = cc
membered (tree.Prefix op operand) h = cc
membered (tree.Binary op left right) h = cc
membered (tree.And left right) h = cc
membered (tree.Or left right) h = cc
membered (tree.Comma left right) h = cc
membered (tree.Cond test first second) h = cc
membered (tree.Assign op target right) h = cc
membered (tree.Late number) h = cc

-- the base of a node's target, and what follows it
abbrev in_base : tree.Expr → Program
in_base e = Begin (AnExpr (object_of (target_of e))) script_env (on_value (based (target_of e) e))

reads : (e : tree.Expr) → IsMember e → expression e script_env ≡ in_base e
reads target (a_dot object name) = refl
reads target (an_index object key) = refl

puts : (target right : tree.Expr) → IsMember target → expression (tree.Assign None target right) script_env ≡ Tick (in_base (tree.Assign None target right))
puts target right (a_dot object name) = refl
puts target right (an_index object key) = refl

puts_with : (op : BinaryOp) (target right : tree.Expr) → IsMember target → expression (tree.Assign (Some op) target right) script_env ≡ Tick (in_base (tree.Assign (Some op) target right))
puts_with op target right (a_dot object name) = refl
puts_with op target right (an_index object key) = refl

postfixes : (op : PostfixOp) (target : tree.Expr) → IsMember target → expression (tree.Postfix target op) script_env ≡ Tick (in_base (tree.Postfix target op))
postfixes postfix.Increment target (a_dot object name) = refl
postfixes postfix.Increment target (an_index object key) = refl
postfixes postfix.Decrement target (a_dot object name) = refl
postfixes postfix.Decrement target (an_index object key) = refl

prefixes : (op : PrefixOp) (target : tree.Expr) → IsMember target → is_on_target op ≡ true → expression (tree.Prefix op target) script_env ≡ Tick (in_base (tree.Prefix op target))
prefixes prefix.Delete target (a_dot object name) h = refl
prefixes prefix.Delete target (an_index object key) h = refl
prefixes prefix.TypeOf target (a_dot object name) h = refl
prefixes prefix.TypeOf target (an_index object key) h = refl
prefixes prefix.Increment target (a_dot object name) h = refl
prefixes prefix.Increment target (an_index object key) h = refl
prefixes prefix.Decrement target (a_dot object name) h = refl
prefixes prefix.Decrement target (an_index object key) h = refl
prefixes prefix.Void target m h = cc
prefixes prefix.Plus target m h = cc
prefixes prefix.Minus target m h = cc
prefixes prefix.BitNot target m h = cc
prefixes prefix.Not target m h = cc

both_true : (b c : Bool) → (if b then c else false) ≡ true → (b ≡ true) × (c ≡ true)
both_true true c h = (refl, h)
both_true false c h = cc

targets : (e : tree.Expr) → has_member e ≡ true → expression e script_env ≡ Tick (in_base e)
targets (tree.Num n) h = cc
targets (tree.Str text) h = cc
targets (tree.Truth b) h = cc
targets tree.Null h = cc
targets tree.This h = cc
targets (tree.Ident name) h = cc
targets (tree.Array es) h = cc
targets (tree.Object ps) h = cc
targets (tree.Function f) h = cc
targets (tree.Dot object name) h = cc
targets (tree.Index object key) h = cc
targets (tree.Call callee es) h = cc
targets (tree.New callee es) h = cc
targets (tree.Postfix target op) h = postfixes op target (membered target h)
targets (tree.Prefix op target) h =
    let both = both_true (is_on_target op) (is_member target) h in
    prefixes op target (membered target both.1) both.0
targets (tree.Binary op left right) h = cc
targets (tree.And left right) h = cc
targets (tree.Or left right) h = cc
targets (tree.Comma left right) h = cc
targets (tree.Cond test first second) h = cc
targets (tree.Assign None target right) h = puts target right (membered target h)
targets (tree.Assign (Some op) target right) h = puts_with op target right (membered target h)
targets (tree.Late number) h = cc

-- ---- bases

pub base_goes : (v : Value) (p : Program) → is_base v ≡ true → to_object v p ≡ p
base_goes value.Undefined p e = cc
base_goes value.Null p e = cc
base_goes (value.Bool b) p e = refl
base_goes (value.Num n) p e = refl
base_goes (value.Str text) p e = refl
base_goes (value.Object o) p e = refl

pub base_throws : (v : Value) (p : Program) → is_base v ≡ false → to_object v p ≡ throws_type_error
base_throws value.Undefined p e = refl
base_throws value.Null p e = refl
base_throws (value.Bool b) p e = cc
base_throws (value.Num n) p e = cc
base_throws (value.Str text) p e = cc
base_throws (value.Object o) p e = cc

-- ---- keys

-- the text of a key that asks for nothing
pub text_read : (v : Value) (text : Name) (k : Name → Program) → text_of v ≡ Some text → to_text v k ≡ k text
text_read value.Undefined text k e = ap (λ t. k (primitive_text t)) e
text_read value.Null text k e = ap (λ t. k (primitive_text t)) e
text_read (value.Bool b) text k e = ap (λ t. k (primitive_text t)) e
text_read (value.Num n) text k e = ap (λ t. k (primitive_text t)) e
text_read (value.Str s) text k e = ap (λ t. k (primitive_text t)) e
text_read (value.Object o) text k e = cc

module _ (n : ℕ) (fs : List Frame) (vs : List Value) (heap : Heap) (hosts : List HostCall) (beats steps : ℕ) (out : Outside) where
  -- ---- where the base is begun

  pub read_begun : (e object : Expr) → is_member (expr e) ≡ true → expr object ≡ object_of (expr e) → in_expr (expr e) n fs vs heap hosts beats steps out ≡ rest (control.Expr object) n (frame.Base e ∷ fs) vs heap hosts beats steps out
  unfolding in_expr rest
  read_begun e object h g =
      ap (λ p. running p n fs vs heap hosts beats steps out) (reads (expr e) (membered (expr e) h))
      ∙ (ap (λ o. due out.world n (program (AnExpr o) script_env) (on_value (based (target_of (expr e)) (expr e)) ∷ stack fs vs) (state_of heap hosts beats steps out)) (itself (expr e) (membered (expr e) h))
      ∙ sym (ap (λ o. due out.world n (program (AnExpr o) script_env) (on_value (based (target_of (expr e)) (expr e)) ∷ stack fs vs) (state_of heap hosts beats steps out)) g))
    where
      itself : (e : tree.Expr) → IsMember e → object_of (target_of e) ≡ object_of e
      itself target (a_dot object name) = refl
      itself target (an_index object key) = refl

  pub target_out : (e : Expr) → has_member (expr e) ≡ true → n ≡ 0 → in_expr (expr e) n fs vs heap hosts beats steps out ≡ rest (control.End end.OutOfSteps) n fs vs heap hosts beats steps out
  unfolding in_expr
  target_out e h g =
      ap (λ p. running p n fs vs heap hosts beats steps out) (targets (expr e) h)
      ∙ none n fs vs heap hosts beats steps out (in_base (expr e)) g

  pub target_on : (e target object : Expr) → has_member (expr e) ≡ true → (n ≡ 0 → ⊥) → expr target ≡ target_of (expr e) → expr object ≡ object_of (expr target)
      → in_expr (expr e) n fs vs heap hosts beats steps out ≡ rest (control.Expr object) (n - 1) (frame.Base e ∷ fs) vs heap hosts beats (steps + 1) out
  unfolding in_expr rest
  target_on e target object h g f k =
      ap (λ p. running p n fs vs heap hosts beats steps out) (targets (expr e) h)
      ∙ (step n fs vs heap hosts beats steps out (in_base (expr e)) g
      ∙ sym (ap (λ o. due out.world (n - 1) (program (AnExpr o) script_env) (on_value (based (target_of (expr e)) (expr e)) ∷ stack fs vs) (state_of heap hosts beats (steps + 1) out)) (k ∙ ap object_of f)))

  -- ---- where the base has its value

  pub base_bad : (e target object : Expr) (name : Name) (v : Value) → expr target ≡ target_of (expr e) → expr target ≡ tree.Dot (expr object) name → v ≡ top vs → is_base v ≡ false
      → in_value (frame.Base e) n fs vs heap hosts beats steps out ≡ rest control.Throw n fs (object_value (length heap) ∷ below vs) (heap ++ error_object built.TypeErrorPrototype ∷ []) hosts beats steps out
  unfolding in_value rest
  base_bad e target object name v f g k h =
      ap (λ t. running (based t (expr e) (top vs)) n fs (below vs) heap hosts beats steps out) (sym f ∙ g)
      ∙ ap (λ p. running p n fs (below vs) heap hosts beats steps out) (base_throws (top vs) (with_member (expr e) (top vs) name) (sym (ap is_base k) ∙ h))

  pub base_dot : (e target object : Expr) (name : Name) (v : Value) → expr target ≡ target_of (expr e) → expr target ≡ tree.Dot (expr object) name → v ≡ top vs → is_base v ≡ true
      → in_value (frame.Base e) n fs vs heap hosts beats steps out ≡ in_member (expr e) v name n fs (below vs) heap hosts beats steps out
  unfolding in_value in_member
  base_dot e target object name v f g k h =
      ap (λ t. running (based t (expr e) (top vs)) n fs (below vs) heap hosts beats steps out) (sym f ∙ g)
      ∙ (ap (λ p. running p n fs (below vs) heap hosts beats steps out) (base_goes (top vs) (with_member (expr e) (top vs) name) (sym (ap is_base k) ∙ h))
      ∙ sym (ap (λ v. running (with_member (expr e) v name) n fs (below vs) heap hosts beats steps out) k))

  pub base_index : (e target object key : Expr) → expr target ≡ target_of (expr e) → expr target ≡ tree.Index (expr object) (expr key)
      → in_value (frame.Base e) n fs vs heap hosts beats steps out ≡ rest (control.Expr key) n (frame.Key e ∷ fs) vs heap hosts beats steps out
  unfolding in_value rest
  base_index e target object key f g = ap (λ t. running (based t (expr e) (top vs)) n fs (below vs) heap hosts beats steps out) (sym f ∙ g)

  no_base : (t : tree.Expr) (e : tree.Expr) (base : Value) → dot_name t ≡ None → is_index t ≡ false → based t e base ≡ done
  no_base (tree.Num n) e base g h = refl
  no_base (tree.Str text) e base g h = refl
  no_base (tree.Truth b) e base g h = refl
  no_base tree.Null e base g h = refl
  no_base tree.This e base g h = refl
  no_base (tree.Ident name) e base g h = refl
  no_base (tree.Array es) e base g h = refl
  no_base (tree.Object ps) e base g h = refl
  no_base (tree.Function f) e base g h = refl
  no_base (tree.Call callee es) e base g h = refl
  no_base (tree.New callee es) e base g h = refl
  no_base (tree.Postfix target op) e base g h = refl
  no_base (tree.Prefix op operand) e base g h = refl
  no_base (tree.Binary op left right) e base g h = refl
  no_base (tree.And left right) e base g h = refl
  no_base (tree.Or left right) e base g h = refl
  no_base (tree.Comma left right) e base g h = refl
  no_base (tree.Cond test first second) e base g h = refl
  no_base (tree.Assign op target right) e base g h = refl
  no_base (tree.Late number) e base g h = refl
  no_base (tree.Dot object name) e base g h = cc
  no_base (tree.Index object key) e base g h = cc

  pub base_lost : (e target : Expr) (ws : List Value) → expr target ≡ target_of (expr e) → dot_name (expr target) ≡ None → is_index (expr target) ≡ false → ws ≡ below vs
      → in_value (frame.Base e) n fs vs heap hosts beats steps out ≡ rest control.Done n fs ws heap hosts beats steps out
  unfolding in_value rest
  base_lost e target ws f g h k =
      sym (ap (λ t. running (based t (expr e) (top vs)) n fs (below vs) heap hosts beats steps out) f)
      ∙ (ap (λ p. running p n fs (below vs) heap hosts beats steps out) (no_base (expr target) (expr e) (top vs) g h)
      ∙ sym (ap (λ ws. running done n fs ws heap hosts beats steps out) k))

  -- ---- what is done with the member

  pub property_read : (base : Value) (name : Name) (k : Value → Program) → running (get_on base name k) n fs vs heap hosts beats steps out ≡ running (k (property_in heap base name)) n fs vs heap hosts beats steps out
  property_read value.Undefined name k = refl
  property_read value.Null name k = refl
  property_read (value.Bool b) name k = refl
  property_read (value.Num m) name k = refl
  property_read (value.Str text) name k = by (is_same_name name length_name)
    where
      by : (b : Bool)
          → running (if b then k (whole (length text)) else references.get (built_ins.number_of built.StringPrototype) name k) n fs vs heap hosts beats steps out
          ≡ running (k (if b then whole (length text) else property_of heap (built_ins.number_of built.StringPrototype) name)) n fs vs heap hosts beats steps out
      by true = refl
      by false = refl
  property_read (value.Object o) name k = refl

  pub m_dot : (object : Expr) (x : Name) (base : Value) (name : Name) → in_member (tree.Dot (expr object) x) base name n fs vs heap hosts beats steps out ≡ rest control.Give n fs (property_in heap base name ∷ vs) heap hosts beats steps out
  unfolding in_member rest
  m_dot object x base name = property_read base name gives

  pub m_index : (object key : Expr) (base : Value) (name : Name) → in_member (tree.Index (expr object) (expr key)) base name n fs vs heap hosts beats steps out ≡ rest control.Give n fs (property_in heap base name ∷ vs) heap hosts beats steps out
  unfolding in_member rest
  m_index object key base name = property_read base name gives

  pub m_put : (target right : Expr) (base : Value) (name : Name) → in_member (tree.Assign None (expr target) (expr right)) base name n fs vs heap hosts beats steps out ≡ in_putting base name (expr right) n fs vs heap hosts beats steps out
  unfolding in_member in_putting
  m_put target right base name = refl

  pub m_put_with : (op : BinaryOp) (target right : Expr) (base : Value) (name : Name) → in_member (tree.Assign (Some op) (expr target) (expr right)) base name n fs vs heap hosts beats steps out ≡ in_put_with op base name (expr right) n fs vs heap hosts beats steps out
  unfolding in_member in_put_with
  m_put_with op target right base name = refl

  pub m_postfix : (op : PostfixOp) (target : Expr) (base : Value) (name : Name) → in_member (tree.Postfix (expr target) op) base name n fs vs heap hosts beats steps out ≡ in_change_of op false base name n fs vs heap hosts beats steps out
  unfolding in_member in_change_of
  m_postfix op target base name = refl

  pub m_increment : (target : Expr) (base : Value) (name : Name) → in_member (tree.Prefix prefix.Increment (expr target)) base name n fs vs heap hosts beats steps out ≡ in_change_of postfix.Increment true base name n fs vs heap hosts beats steps out
  unfolding in_member in_change_of
  m_increment target base name = refl

  pub m_decrement : (target : Expr) (base : Value) (name : Name) → in_member (tree.Prefix prefix.Decrement (expr target)) base name n fs vs heap hosts beats steps out ≡ in_change_of postfix.Decrement true base name n fs vs heap hosts beats steps out
  unfolding in_member in_change_of
  m_decrement target base name = refl

  pub m_type : (target : Expr) (base : Value) (name : Name) → in_member (tree.Prefix prefix.TypeOf (expr target)) base name n fs vs heap hosts beats steps out ≡ in_type_of base name n fs vs heap hosts beats steps out
  unfolding in_member in_type_of
  m_type target base name = refl

  pub m_done : (e : tree.Expr) (base : Value) (name : Name) → with_member e base name ≡ done → in_member e base name n fs vs heap hosts beats steps out ≡ rest control.Done n fs vs heap hosts beats steps out
  unfolding in_member rest
  m_done e base name h = ap (λ p. running p n fs vs heap hosts beats steps out) h

  deletes_it : (base : Value) (name : Name)
      → running (delete_on base name (λ b. gives (value.Bool b))) n fs vs heap hosts beats steps out
      ≡ running (gives (value.Bool (deletes heap base name))) n fs vs (heap_deleted heap base name) hosts beats steps out
  deletes_it value.Undefined name = refl
  deletes_it value.Null name = refl
  deletes_it (value.Bool b) name = refl
  deletes_it (value.Num m) name = refl
  deletes_it (value.Str text) name = refl
  deletes_it (value.Object o) name = refl

  pub m_delete : (target : Expr) (base : Value) (name : Name) → in_member (tree.Prefix prefix.Delete (expr target)) base name n fs vs heap hosts beats steps out ≡ rest control.Give n fs (value.Bool (deletes heap base name) ∷ vs) (heap_deleted heap base name) hosts beats steps out
  unfolding in_member rest
  m_delete target base name = deletes_it base name

  pub type_read : (base v : Value) (name : Name) → v ≡ property_in heap base name → in_type_of base name n fs vs heap hosts beats steps out ≡ in_type v n fs vs heap hosts beats steps out
  unfolding in_type_of in_type
  type_read base v name e = property_read base name type_told ∙ sym (ap (λ v. running (type_told v) n fs vs heap hosts beats steps out) e)

  -- ---- keys

  pub key_bad : (e : Expr) (base : Value) → base ≡ top (below vs) → is_base base ≡ false
      → in_value (frame.Key e) n fs vs heap hosts beats steps out ≡ rest control.Throw n fs (object_value (length heap) ∷ below (below vs)) (heap ++ error_object built.TypeErrorPrototype ∷ []) hosts beats steps out
  unfolding in_value rest
  key_bad e base k h = ap (λ p. running p n fs (below (below vs)) heap hosts beats steps out) (base_throws (top (below vs)) (to_name (top vs) (with_member (expr e) (top (below vs)))) (sym (ap is_base k) ∙ h))

  pub key_named : (e : Expr) (base key : Value) (name : Name) → base ≡ top (below vs) → key ≡ top vs → is_base base ≡ true → text_of key ≡ Some name
      → in_value (frame.Key e) n fs vs heap hosts beats steps out ≡ in_name (expr e) base name n fs (below (below vs)) heap hosts beats steps out
  unfolding in_value in_name
  key_named e base key name k l h t =
      ap (λ p. running p n fs (below (below vs)) heap hosts beats steps out) (base_goes (top (below vs)) (to_name (top vs) (with_member (expr e) (top (below vs)))) (sym (ap is_base k) ∙ h))
      ∙ (ap (λ p. running p n fs (below (below vs)) heap hosts beats steps out) (text_read (top vs) name (named (expr e) (top (below vs))) (sym (ap text_of l) ∙ t))
      ∙ sym (ap (λ b. running (named (expr e) b name) n fs (below (below vs)) heap hosts beats steps out) k))

  pub key_throws : (e : Expr) (base key : Value) → base ≡ top (below vs) → key ≡ top vs → is_base base ≡ true → text_of key ≡ None → enters_value heap hosts HintString key ≡ false
      → in_value (frame.Key e) n fs vs heap hosts beats steps out ≡ rest control.Throw n fs (object_value (length heap) ∷ below (below vs)) (heap ++ error_object built.TypeErrorPrototype ∷ []) hosts beats steps out
  unfolding in_value rest
  key_throws e base key k l h t g =
      ap (λ p. running p n fs (below (below vs)) heap hosts beats steps out) (base_goes (top (below vs)) (to_name (top vs) (with_member (expr e) (top (below vs)))) (sym (ap is_base k) ∙ h))
      ∙ text_throws n fs (below (below vs)) heap hosts beats steps out (top vs) (named (expr e) (top (below vs))) (sym (ap text_of l) ∙ t) (sym (ap (enters_value heap hosts HintString) l) ∙ g)

  pub key_asks : (e : Expr) (ws : List Value) → top ws ≡ top vs → top (below ws) ≡ top (below vs) → below (below ws) ≡ below (below vs)
      → in_value (frame.Key e) n fs vs heap hosts beats steps out ≡ rest (control.Unbuilt unbuilt.Give) n (frame.Key e ∷ fs) ws heap hosts beats steps out
  unfolding in_value rest
  key_asks e ws k l h =
      ap (λ w. running (keyed (expr e) (top (below vs)) w) n fs (below (below vs)) heap hosts beats steps out) (sym k)
      ∙ (ap (λ b. running (keyed (expr e) b (top ws)) n fs (below (below vs)) heap hosts beats steps out) (sym l)
      ∙ ap (λ us. running (keyed (expr e) (top (below ws)) (top ws)) n fs us heap hosts beats steps out) (sym h))

  pub name_stops : (e : tree.Expr) (base : Value) (name : Name) (ws : List Value) → is_reserved name ≡ true → in_name e base name n fs vs heap hosts beats steps out ≡ rest (control.End (end.Stopped ReservedName)) n fs ws heap hosts beats steps out
  unfolding in_name rest
  name_stops e base name ws h = ap (λ b. running (if b then Stop ReservedName else with_member e base name) n fs vs heap hosts beats steps out) h

  pub name_used : (e : tree.Expr) (base : Value) (name : Name) → is_reserved name ≡ false → in_name e base name n fs vs heap hosts beats steps out ≡ in_member e base name n fs vs heap hosts beats steps out
  unfolding in_name in_member
  name_used e base name h = ap (λ b. running (if b then Stop ReservedName else with_member e base name) n fs vs heap hosts beats steps out) h

  -- ---- writes

  pub put_done : (base : Value) (name : Name) (v w : Value) → is_put heap base name v ≡ true
      → in_put base name v w n fs vs heap hosts beats steps out ≡ rest control.Give n fs (w ∷ vs) (heap_put heap base name v) hosts beats steps out
  unfolding in_put rest
  put_done value.Undefined name v w h = refl
  put_done value.Null name v w h = refl
  put_done (value.Bool b) name v w h = refl
  put_done (value.Num m) name v w h = refl
  put_done (value.Str text) name v w h = refl
  put_done (value.Object o) name v w h = put_ok n fs vs heap hosts beats steps out o.0 name v (gives w) h

  put_throws : (base : Value) (name : Name) (v w : Value) → is_put heap base name v ≡ false
      → in_put base name v w n fs vs heap hosts beats steps out
      ≡ rest control.Throw n fs (object_value (length (heap_put heap base name v)) ∷ vs) (heap_put heap base name v ++ error_object built.RangeErrorPrototype ∷ []) hosts beats steps out
  unfolding in_put
  put_throws value.Undefined name v w h = cc
  put_throws value.Null name v w h = cc
  put_throws (value.Bool b) name v w h = cc
  put_throws (value.Num m) name v w h = cc
  put_throws (value.Str text) name v w h = cc
  put_throws (value.Object o) name v w h = put_bad n fs vs heap hosts beats steps out o.0 name v (gives w) h

  pub put_refused : (base : Value) (name : Name) (v w : Value) (ws : List Value) (after : Heap) → ws ≡ vs → after ≡ heap_put heap base name v → is_put heap base name v ≡ false
      → in_put base name v w n fs vs heap hosts beats steps out ≡ rest control.Throw n fs (object_value (length after) ∷ ws) (after ++ error_object built.RangeErrorPrototype ∷ []) hosts beats steps out
  put_refused base name v w ws after g f h =
      put_throws base name v w h
      ∙ (sym (ap (λ after. rest control.Throw n fs (object_value (length after) ∷ vs) (after ++ error_object built.RangeErrorPrototype ∷ []) hosts beats steps out) f)
      ∙ sym (ap (λ ws. rest control.Throw n fs (object_value (length after) ∷ ws) (after ++ error_object built.RangeErrorPrototype ∷ []) hosts beats steps out) g))

  pub put_begun : (right : Expr) (base : Value) (name : Name) → in_putting base name (expr right) n fs vs heap hosts beats steps out ≡ rest (control.Expr right) n (frame.Put ∷ fs) (value.Str name ∷ base ∷ vs) heap hosts beats steps out
  unfolding in_putting rest
  put_begun right base name = refl

  pub put_with_begun : (op : BinaryOp) (right : Expr) (base left : Value) (name : Name) → left ≡ property_in heap base name
      → in_put_with op base name (expr right) n fs vs heap hosts beats steps out ≡ rest (control.Expr right) n (frame.PutWith op ∷ fs) (left ∷ value.Str name ∷ base ∷ vs) heap hosts beats steps out
  unfolding in_put_with rest
  put_with_begun op right base left name e =
      property_read base name (λ v. value_of (expr right) script_env (λ w. operate op v w (λ r. put_on base name r (gives r))))
      ∙ sym (ap (λ v. running (value_of (expr right) script_env (λ w. operate op v w (λ r. put_on base name r (gives r)))) n fs vs heap hosts beats steps out) e)

  pub v_put : (base v w : Value) (name : Name) → v ≡ top vs → w ≡ v → name ≡ text_in (top (below vs)) → base ≡ top (below (below vs))
      → in_value frame.Put n fs vs heap hosts beats steps out ≡ in_put base name v w n fs (below (below (below vs))) heap hosts beats steps out
  unfolding in_value in_put
  v_put base v w name e f g h =
      sym (ap (λ w. running (put_on base name v (gives w)) n fs (below (below (below vs))) heap hosts beats steps out) f
      ∙ (ap (λ v. running (put_on base name v (gives v)) n fs (below (below (below vs))) heap hosts beats steps out) e
      ∙ (ap (λ name. running (put_on base name (top vs) (gives (top vs))) n fs (below (below (below vs))) heap hosts beats steps out) g
      ∙ ap (λ base. running (put_on base (text_in (top (below vs))) (top vs) (gives (top vs))) n fs (below (below (below vs))) heap hosts beats steps out) h)))

  abbrev with_result : Value → Program
  with_result r = put_on (top (below (below (below vs)))) (text_in (top (below (below vs)))) r (gives r)

  abbrev stack_below : List Value
  stack_below = below (below (below (below vs)))

  pub v_put_with : (op : BinaryOp) (base r w : Value) (name : Name) → operated op (top (below vs)) (top vs) ≡ Some (Ok r) → w ≡ r → name ≡ text_in (top (below (below vs))) → base ≡ top (below (below (below vs)))
      → in_value (frame.PutWith op) n fs vs heap hosts beats steps out ≡ in_put base name r w n fs (below (below (below (below vs)))) heap hosts beats steps out
  unfolding in_value in_put
  v_put_with op base r w name e f g h =
      operator_gives out.world (due out.world n) (pop out.world (due out.world n) (stack fs stack_below)) (stack fs stack_below) (state_of heap hosts beats steps out) op (top (below vs)) (top vs) with_result r e
      ∙ sym (ap (λ w. running (put_on base name r (gives w)) n fs stack_below heap hosts beats steps out) f
      ∙ (ap (λ name. running (put_on base name r (gives r)) n fs stack_below heap hosts beats steps out) g
      ∙ ap (λ base. running (put_on base (text_in (top (below (below vs)))) r (gives r)) n fs stack_below heap hosts beats steps out) h))

  pub v_put_stops : (op : BinaryOp) (reason : Reason) (ws : List Value) → operated op (top (below vs)) (top vs) ≡ Some (Err reason)
      → in_value (frame.PutWith op) n fs vs heap hosts beats steps out ≡ rest (control.End (end.Stopped reason)) n fs ws heap hosts beats steps out
  unfolding in_value rest
  v_put_stops op reason ws e = operator_stops out.world (due out.world n) (pop out.world (due out.world n) (stack fs stack_below)) (stack fs stack_below) (state_of heap hosts beats steps out) op (top (below vs)) (top vs) with_result reason e

  pub v_put_throws : (op : BinaryOp) → operated op (top (below vs)) (top vs) ≡ None → enters_operated heap hosts op (top (below vs)) (top vs) ≡ false
      → in_value (frame.PutWith op) n fs vs heap hosts beats steps out ≡ rest control.Throw n fs (object_value (length heap) ∷ below (below (below (below vs)))) (heap ++ error_object built.TypeErrorPrototype ∷ []) hosts beats steps out
  unfolding in_value rest
  v_put_throws op h e = operator_throws n fs stack_below heap hosts beats steps out op (top (below vs)) (top vs) with_result h e

  pub v_put_asks : (op : BinaryOp) (ws : List Value) → top ws ≡ top vs → top (below ws) ≡ top (below vs) → below (below ws) ≡ below (below vs)
      → in_value (frame.PutWith op) n fs vs heap hosts beats steps out ≡ rest (control.Unbuilt unbuilt.Give) n (frame.PutWith op ∷ fs) ws heap hosts beats steps out
  unfolding in_value rest
  v_put_asks op ws e f g =
      ap (λ w. running (operate op (top (below vs)) w (put_in (below (below vs)))) n fs (below (below (below (below vs)))) heap hosts beats steps out) (sym e)
      ∙ (ap (λ v. running (operate op v (top ws) (put_in (below (below vs)))) n fs (below (below (below (below vs)))) heap hosts beats steps out) (sym f)
      ∙ ap (λ us. running (operate op (top (below ws)) (top ws) (put_in us)) n fs (below (below us)) heap hosts beats steps out) (sym g))
    where
      put_in : List Value → Value → Program
      put_in us r = put_on (top (below us)) (text_in (top us)) r (gives r)

  -- ---- numbers that change by one

  pub change_read : (op : PostfixOp) (gives_new : Bool) (base old : Value) (name : Name) → old ≡ property_in heap base name
      → in_change_of op gives_new base name n fs vs heap hosts beats steps out ≡ in_number op gives_new base name old n fs vs heap hosts beats steps out
  unfolding in_change_of in_number
  change_read op gives_new base old name e =
      property_read base name (changed_member op gives_new base name)
      ∙ sym (ap (λ old. running (changed_member op gives_new base name old) n fs vs heap hosts beats steps out) e)

  pub v_changed : (op : PostfixOp) (gives_new : Bool) (base old : Value) (name : Name) → old ≡ top vs → name ≡ text_in (top (below vs)) → base ≡ top (below (below vs))
      → in_value (frame.Changed op gives_new) n fs vs heap hosts beats steps out ≡ in_number op gives_new base name old n fs (below (below (below vs))) heap hosts beats steps out
  unfolding in_value in_number
  v_changed op gives_new base old name e g h =
      sym (ap (λ old. running (changed_member op gives_new base name old) n fs (below (below (below vs))) heap hosts beats steps out) e
      ∙ (ap (λ name. running (changed_member op gives_new base name (top vs)) n fs (below (below (below vs))) heap hosts beats steps out) g
      ∙ ap (λ base. running (changed_member op gives_new base (text_in (top (below vs))) (top vs)) n fs (below (below (below vs))) heap hosts beats steps out) h))

  pub number_goes : (op : PostfixOp) (gives_new : Bool) (base old : Value) (name : Name) (before : Num) → number_of old ≡ Some (Ok before)
      → in_number op gives_new base name old n fs vs heap hosts beats steps out ≡ in_changed_to op gives_new base name before n fs vs heap hosts beats steps out
  unfolding in_number in_changed_to
  number_goes op gives_new base old name before e = ap (λ p. running p n fs vs heap hosts beats steps out) (number_read old (Ok before) (changed_to op gives_new base name) e)

  pub number_stops : (op : PostfixOp) (gives_new : Bool) (base old : Value) (name : Name) (reason : Reason) → number_of old ≡ Some (Err reason)
      → in_number op gives_new base name old n fs vs heap hosts beats steps out ≡ rest (control.End (end.Stopped reason)) n fs vs heap hosts beats steps out
  unfolding in_number rest
  number_stops op gives_new base old name reason e = ap (λ p. running p n fs vs heap hosts beats steps out) (number_read old (Err reason) (changed_to op gives_new base name) e)

  pub number_raises : (op : PostfixOp) (gives_new : Bool) (base old : Value) (name : Name) → number_of old ≡ None → enters_value heap hosts HintNumber old ≡ false
      → in_number op gives_new base name old n fs vs heap hosts beats steps out ≡ rest control.Throw n fs (object_value (length heap) ∷ vs) (heap ++ error_object built.TypeErrorPrototype ∷ []) hosts beats steps out
  unfolding in_number rest
  number_raises op gives_new base old name h e = number_throws n fs vs heap hosts beats steps out old (changed_to op gives_new base name) h e

  pub number_asks : (op : PostfixOp) (gives_new : Bool) (base old : Value) (name : Name)
      → in_number op gives_new base name old n fs vs heap hosts beats steps out ≡ rest (control.Unbuilt unbuilt.Give) n (frame.Changed op gives_new ∷ fs) (old ∷ value.Str name ∷ base ∷ vs) heap hosts beats steps out
  unfolding in_number rest
  number_asks op gives_new base old name = refl

  pub changed_goes : (op : PostfixOp) (gives_new : Bool) (base v w : Value) (name : Name) (before after : Num) → Ok after ≡ change_of op before one → v ≡ value.Num after → w ≡ value.Num (if gives_new then after else before)
      → in_changed_to op gives_new base name before n fs vs heap hosts beats steps out ≡ in_put base name v w n fs vs heap hosts beats steps out
  unfolding in_changed_to in_put
  changed_goes op gives_new base v w name before after e f g =
      ap (λ r. running (or_stop r (λ after. put_on base name (value.Num after) (gives (value.Num (if gives_new then after else before))))) n fs vs heap hosts beats steps out) (sym e)
      ∙ sym (ap (λ v. running (put_on base name v (gives w)) n fs vs heap hosts beats steps out) f
      ∙ ap (λ w. running (put_on base name (value.Num after) (gives w)) n fs vs heap hosts beats steps out) g)

  pub changed_stops : (op : PostfixOp) (gives_new : Bool) (base : Value) (name : Name) (before : Num) (reason : Reason) → Err reason ≡ change_of op before one
      → in_changed_to op gives_new base name before n fs vs heap hosts beats steps out ≡ rest (control.End (end.Stopped reason)) n fs vs heap hosts beats steps out
  unfolding in_changed_to rest
  changed_stops op gives_new base name before reason e =
      ap (λ r. running (or_stop r (λ after. put_on base name (value.Num after) (gives (value.Num (if gives_new then after else before))))) n fs vs heap hosts beats steps out) (sym e)

  -- ---- in

  not_in : (v w : Value) → is_object w ≡ false → operate op.In v w gives ≡ throws_type_error
  not_in v value.Undefined h = refl
  not_in v value.Null h = refl
  not_in v (value.Bool b) h = refl
  not_in v (value.Num m) h = refl
  not_in v (value.Str text) h = refl
  not_in v (value.Object o) h = cc

  pub in_bad : (w : Value) → w ≡ top vs → is_object w ≡ false
      → in_value frame.In n fs vs heap hosts beats steps out ≡ rest control.Throw n fs (object_value (length heap) ∷ below (below vs)) (heap ++ error_object built.TypeErrorPrototype ∷ []) hosts beats steps out
  unfolding in_value rest
  in_bad w e h = ap (λ p. running p n fs (below (below vs)) heap hosts beats steps out) (not_in (top (below vs)) (top vs) (sym (ap is_object e) ∙ h))

  pub in_object : (v : Value) (o : ObjectId) (name : Name) → value.Object o ≡ top vs → v ≡ top (below vs) → text_of v ≡ Some name
      → in_value frame.In n fs vs heap hosts beats steps out ≡ in_has o.0 name n fs (below (below vs)) heap hosts beats steps out
  unfolding in_value in_has
  in_object v o name e f t =
      sym (ap (λ w. running (operate op.In (top (below vs)) w gives) n fs (below (below vs)) heap hosts beats steps out) e)
      ∙ ap (λ p. running p n fs (below (below vs)) heap hosts beats steps out) (text_read (top (below vs)) name (has_named o.0) (sym (ap text_of f) ∙ t))

  pub in_throws : (v : Value) (o : ObjectId) → value.Object o ≡ top vs → v ≡ top (below vs) → text_of v ≡ None → enters_value heap hosts HintString v ≡ false
      → in_value frame.In n fs vs heap hosts beats steps out ≡ rest control.Throw n fs (object_value (length heap) ∷ below (below vs)) (heap ++ error_object built.TypeErrorPrototype ∷ []) hosts beats steps out
  unfolding in_value rest
  in_throws v o e f t h =
      sym (ap (λ w. running (operate op.In (top (below vs)) w gives) n fs (below (below vs)) heap hosts beats steps out) e)
      ∙ text_throws n fs (below (below vs)) heap hosts beats steps out (top (below vs)) (has_named o.0) (sym (ap text_of f) ∙ t) (sym (ap (enters_value heap hosts HintString) f) ∙ h)

  pub in_asks : (ws : List Value) → top ws ≡ top vs → top (below ws) ≡ top (below vs) → below (below ws) ≡ below (below vs)
      → in_value frame.In n fs vs heap hosts beats steps out ≡ rest (control.Unbuilt unbuilt.Give) n (frame.In ∷ fs) ws heap hosts beats steps out
  unfolding in_value rest
  in_asks ws e f g =
      ap (λ w. running (operate op.In (top (below vs)) w gives) n fs (below (below vs)) heap hosts beats steps out) (sym e)
      ∙ (ap (λ v. running (operate op.In v (top ws) gives) n fs (below (below vs)) heap hosts beats steps out) (sym f)
      ∙ ap (λ us. running (operate op.In (top (below ws)) (top ws) gives) n fs us heap hosts beats steps out) (sym g))

  pub has_stops : (o : ℕ) (name : Name) (ws : List Value) → is_reserved name ≡ true → in_has o name n fs vs heap hosts beats steps out ≡ rest (control.End (end.Stopped ReservedName)) n fs ws heap hosts beats steps out
  unfolding in_has rest
  has_stops o name ws h = ap (λ b. running (if b then Stop ReservedName else Has o name (λ b. gives (value.Bool b))) n fs vs heap hosts beats steps out) h

  pub has_told : (o : ℕ) (name : Name) (b : Bool) → is_reserved name ≡ false → b ≡ has_property heap o name → in_has o name n fs vs heap hosts beats steps out ≡ rest control.Give n fs (value.Bool b ∷ vs) heap hosts beats steps out
  unfolding in_has rest
  has_told o name b h e =
      ap (λ b. running (if b then Stop ReservedName else Has o name (λ b. gives (value.Bool b))) n fs vs heap hosts beats steps out) h
      ∙ sym (ap (λ b. running (gives (value.Bool b)) n fs vs heap hosts beats steps out) e)

-- ---- the cases of one call each

pub ruleset target_laws = (target_out, target_on)

pub ruleset based_laws = (base_bad, base_dot, base_index, base_lost)

pub ruleset keyed_laws = (key_bad, key_named, key_throws, key_asks)

pub ruleset name_laws = (name_stops, name_used)

pub ruleset used_laws = (m_dot, m_index, m_put, m_put_with, m_postfix, m_increment, m_decrement, m_type, m_delete, m_done)

pub ruleset put_with_laws = (v_put_with, v_put_stops, v_put_throws, v_put_asks)

pub ruleset number_laws = (number_goes, number_stops, number_raises, number_asks)

pub ruleset changed_laws = (changed_goes, changed_stops)

pub ruleset in_laws = (in_bad, in_object, in_throws, in_asks)

pub ruleset has_laws = (has_stops, has_told)
