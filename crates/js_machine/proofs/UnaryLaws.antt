-- What is left of a run in unary operators.
use Rattle.std.proofs.Common.{◌≡◌, ℕ, ◌+◌, ◌-◌, Bool, true, false, List, [], ◌∷◌, ◌++◌, length, Option, Some, None, Ok, Err, refl, sym, ap, ◌∙◌}
use Rattle.std.specs.Prelude.{is_some, map, not}
use Rattle.std.specs.Str.{chars}
use Rattle.dl_text.specs.Utf16.{utf16}
use Rattle.js_values.specs.declared.reason.Reason.{Reason}
use Rattle.js_values.specs.declared.value.Value.{Value}
use Rattle.js_values.specs.declared.value.Value.TheVariants as value
use Rattle.js_values.specs.Values.{type_of}
use Rattle.object_heap.specs.declared.object.Class.{Class}
use Rattle.object_heap.specs.declared.object.Class.TheVariants as class
use Rattle.object_heap.specs.BuiltIns.{which}
use Rattle.object_heap.specs.Get.{has_property, met}
use Rattle.object_heap.specs.Names.{Name}
use Rattle.object_heap.specs.Objects.{Heap, class_of}
use Rattle.js_tree.specs.declared.tree.Expr.{Expr}
use Rattle.js_tree.specs.declared.tree.PostfixOp.{PostfixOp}
use Rattle.js_tree.specs.declared.tree.PostfixOp.TheVariants as postfix
use Rattle.js_tree.specs.declared.tree.PrefixOp.{PrefixOp}
use Rattle.js_tree.specs.declared.tree.PrefixOp.TheVariants as prefix
use Rattle.js_tree.specs.Plain.{expr}
use Rattle.js_tree.specs.Tree as tree
use Rattle.js_machine.specs.declared.frame.Frame.{Frame}
use Rattle.js_machine.specs.declared.frame.Frame.TheVariants as frame
use Rattle.js_machine.specs.declared.frame.Control.TheVariants as control
use Rattle.js_machine.specs.declared.frame.End.TheVariants as end
use Rattle.js_machine.specs.declared.frame.Unbuilt.TheVariants as unbuilt
use Rattle.js_machine.specs.declared.hosts.HostCall.{HostCall}
use Rattle.js_machine.specs.Asks.{Program, AnExpr, Tick}
use Rattle.js_machine.specs.Built.{is_name, is_plain_prefix}
use Rattle.js_machine.specs.Members.{is_member}
use Rattle.js_machine.specs.Calls.{reference}
use Rattle.js_machine.specs.Conversions.{HintNumber}
use Rattle.js_machine.specs.Converted.{enters_value}
use Rattle.js_machine.specs.Expressions.{expression}
use Rattle.js_machine.specs.Frames.{gives, value_of}
use Rattle.js_machine.specs.Globals.{changing, is_callable, is_callable_by, name_in, prefix_of, type_told, unary, unary_of, value_of_global}
use Rattle.js_machine.specs.Globals.{host_body, number_by}
use Rattle.js_machine.specs.Kinds.{is_function}
use Rattle.js_machine.specs.Operated.{Operated}
use Rattle.js_machine.specs.Page.{script_env}
use Rattle.object_heap.specs.declared.built_in.BuiltIn.TheVariants as built
use Rattle.js_machine.specs.References.{error_object, Reference, NoReference, global_object, if_global, or_undefined, resolve}
use Rattle.js_machine.specs.Rest.{Outside, in_change, in_expr, in_type, in_value, rest, running, state_of}
use Rattle.js_machine.specs.Stacks.{top, below}
use Rattle.js_machine.specs.State.{Callee, object_value, function_callee, kind_by, kind_in, kind_of}
use Rattle.js_machine.specs.Unary.{delete_reference, type_of_reference}
use Rattle.object_heap.specs.Changes.{can_delete, deleted}
use Rattle.js_machine.proofs.AssignmentLaws.{named}
use Rattle.js_machine.proofs.ConversionLaws.{unary_throws}
use Rattle.js_machine.proofs.NameLaws.{is_met, is_not_met}
use Rattle.js_machine.proofs.Operating.{GoesOn, goes_on, stops, asks, number_goes}
use Rattle.js_machine.proofs.StepLaws.{none, step}

-- ---- the operators on values

unary_goes : (op : PrefixOp) (v : Value) → GoesOn (unary op v) gives (unary_of op v)
unary_goes prefix.Void v = goes_on refl
unary_goes prefix.Plus v = number_goes v (λ n. gives (value.Num n)) gives (λ n. Some (Ok (value.Num (number_by prefix.Plus n)))) (λ n. goes_on refl)
unary_goes prefix.Minus v = number_goes v (λ n. gives (value.Num (number_by prefix.Minus n))) gives (λ n. Some (Ok (value.Num (number_by prefix.Minus n)))) (λ n. goes_on refl)
unary_goes prefix.BitNot v = number_goes v (λ n. gives (value.Num (number_by prefix.BitNot n))) gives (λ n. Some (Ok (value.Num (number_by prefix.BitNot n)))) (λ n. goes_on refl)
unary_goes prefix.Not v = goes_on refl
unary_goes prefix.Delete v = goes_on refl
unary_goes prefix.TypeOf v = goes_on refl
unary_goes prefix.Increment v = goes_on refl
unary_goes prefix.Decrement v = goes_on refl

goes_to : {p : Program} {r : Value} (o : Operated) → o ≡ Some (Ok r) → GoesOn p gives o → p ≡ gives r
goes_to {r = r} (Some (Ok s)) e (goes_on f) = let g : s ≡ r = cc in f ∙ ap gives g
goes_to (Some (Err stop)) e (stops f) = cc
goes_to None e asks = cc

stops_at : {p : Program} {reason : Reason} (o : Operated) → o ≡ Some (Err reason) → GoesOn p gives o → p ≡ Rattle.js_machine.specs.Asks.Stop reason
stops_at (Some (Ok s)) e (goes_on f) = cc
stops_at {reason = reason} (Some (Err stop)) e (stops f) = let g : stop ≡ reason = cc in f ∙ ap Rattle.js_machine.specs.Asks.Stop g
stops_at None e asks = cc

-- ---- types

type_units : (b : Bool) (v : Value) → utf16 (chars (type_of b v)) ≡ type_of b v
unfolding chars
type_units b value.Undefined = refl
type_units b value.Null = refl
type_units b (value.Bool c) = refl
type_units b (value.Num n) = refl
type_units b (value.Str text) = refl
type_units true (value.Object o) = refl
type_units false (value.Object o) = refl

by_callee : (callee : Option Callee) → is_function (kind_by class.Function callee) ≡ is_some callee
by_callee None = refl
by_callee (Some (Rattle.js_machine.specs.State.Script code chain)) = refl
by_callee (Some (Rattle.js_machine.specs.State.Native b)) = refl
by_callee (Some (Rattle.js_machine.specs.State.HostCall name)) = refl

-- ---- names and members

reference_is : (e : tree.Expr) (k : Reference → Program) → name_in e ≡ None → is_member e ≡ false → reference e script_env k ≡ value_of e script_env (λ v. k (NoReference v))
reference_is (tree.Num n) k h g = refl
reference_is (tree.Str text) k h g = refl
reference_is (tree.Truth b) k h g = refl
reference_is tree.Null k h g = refl
reference_is tree.This k h g = refl
reference_is (tree.Ident name) k h g = cc
reference_is (tree.Array es) k h g = refl
reference_is (tree.Object ps) k h g = refl
reference_is (tree.Function f) k h g = refl
reference_is (tree.Dot object name) k h g = cc
reference_is (tree.Index object key) k h g = cc
reference_is (tree.Call callee es) k h g = refl
reference_is (tree.New callee es) k h g = refl
reference_is (tree.Postfix target op) k h g = refl
reference_is (tree.Prefix op operand) k h g = refl
reference_is (tree.Binary op left right) k h g = refl
reference_is (tree.And left right) k h g = refl
reference_is (tree.Or left right) k h g = refl
reference_is (tree.Comma left right) k h g = refl
reference_is (tree.Cond test first second) k h g = refl
reference_is (tree.Assign op target right) k h g = refl
reference_is (tree.Late number) k h g = refl

no_member : (e : tree.Expr) → not (is_member e) ≡ true → is_member e ≡ false
no_member e h = by (is_member e) h
  where
    by : (b : Bool) → not b ≡ true → b ≡ false
    by true h = cc
    by false h = refl

changing_is : (op : PostfixOp) (name : Name) → expression (tree.Prefix (prefix_of op) (tree.Ident name)) script_env ≡ Tick (changing op true (Some name))
changing_is postfix.Increment name = refl
changing_is postfix.Decrement name = refl

module _ (n : ℕ) (fs : List Frame) (vs : List Value) (heap : Heap) (hosts : List HostCall) (beats steps : ℕ) (out : Outside) where
  pub in_void : (operand : Expr) → in_expr (tree.Prefix prefix.Void (expr operand)) n fs vs heap hosts beats steps out ≡ rest (control.Expr operand) n (frame.Unary prefix.Void ∷ fs) vs heap hosts beats steps out
  unfolding in_expr rest
  in_void operand = refl

  pub in_plus : (operand : Expr) → in_expr (tree.Prefix prefix.Plus (expr operand)) n fs vs heap hosts beats steps out ≡ rest (control.Expr operand) n (frame.Unary prefix.Plus ∷ fs) vs heap hosts beats steps out
  unfolding in_expr rest
  in_plus operand = refl

  pub in_minus : (operand : Expr) → in_expr (tree.Prefix prefix.Minus (expr operand)) n fs vs heap hosts beats steps out ≡ rest (control.Expr operand) n (frame.Unary prefix.Minus ∷ fs) vs heap hosts beats steps out
  unfolding in_expr rest
  in_minus operand = refl

  pub in_bit_not : (operand : Expr) → in_expr (tree.Prefix prefix.BitNot (expr operand)) n fs vs heap hosts beats steps out ≡ rest (control.Expr operand) n (frame.Unary prefix.BitNot ∷ fs) vs heap hosts beats steps out
  unfolding in_expr rest
  in_bit_not operand = refl

  pub in_not : (operand : Expr) → in_expr (tree.Prefix prefix.Not (expr operand)) n fs vs heap hosts beats steps out ≡ rest (control.Expr operand) n (frame.Unary prefix.Not ∷ fs) vs heap hosts beats steps out
  unfolding in_expr rest
  in_not operand = refl

  pub v_unary : (op : PrefixOp) (r : Value) → unary_of op (top vs) ≡ Some (Ok r) → in_value (frame.Unary op) n fs vs heap hosts beats steps out ≡ rest control.Give n fs (r ∷ below vs) heap hosts beats steps out
  unfolding in_value rest
  v_unary op r e = ap (λ p. running p n fs (below vs) heap hosts beats steps out) (goes_to (unary_of op (top vs)) e (unary_goes op (top vs)))

  pub v_unary_stops : (op : PrefixOp) (reason : Reason) (ws : List Value) → unary_of op (top vs) ≡ Some (Err reason) → in_value (frame.Unary op) n fs vs heap hosts beats steps out ≡ rest (control.End (end.Stopped reason)) n fs ws heap hosts beats steps out
  unfolding in_value rest
  v_unary_stops op reason ws e = ap (λ p. running p n fs (below vs) heap hosts beats steps out) (stops_at (unary_of op (top vs)) e (unary_goes op (top vs)))

  pub v_unary_asks : (op : PrefixOp) (ws : List Value) → top ws ≡ top vs → below ws ≡ below vs → in_value (frame.Unary op) n fs vs heap hosts beats steps out ≡ rest (control.Unbuilt unbuilt.Give) n (frame.Unary op ∷ fs) ws heap hosts beats steps out
  unfolding in_value rest
  v_unary_asks op ws e f =
      ap (λ v. running (unary op v) n fs (below vs) heap hosts beats steps out) (sym e)
      ∙ ap (λ us. running (unary op (top ws)) n fs us heap hosts beats steps out) (sym f)

  pub v_unary_throws : (op : PrefixOp) → unary_of op (top vs) ≡ None → enters_value heap hosts HintNumber (top vs) ≡ false
      → in_value (frame.Unary op) n fs vs heap hosts beats steps out ≡ rest control.Throw n fs (object_value (length heap) ∷ below vs) (heap ++ error_object built.TypeErrorPrototype ∷ []) hosts beats steps out
  unfolding in_value rest
  v_unary_throws op h e = unary_throws n fs (below vs) heap hosts beats steps out op (top vs) h e

  -- ---- `++` and `--` before a name

  pub change_out : (op : PostfixOp) (t : Expr) → is_name (expr t) ≡ true → n ≡ 0 → in_expr (tree.Prefix (prefix_of op) (expr t)) n fs vs heap hosts beats steps out ≡ rest (control.End end.OutOfSteps) n fs vs heap hosts beats steps out
  unfolding in_expr
  change_out op t h e =
      let it = named (expr t) h in
      ap (λ q. running (expression (tree.Prefix (prefix_of op) q) script_env) n fs vs heap hosts beats steps out) it.is
      ∙ (ap (λ p. running p n fs vs heap hosts beats steps out) (changing_is op it.name)
      ∙ none n fs vs heap hosts beats steps out (changing op true (Some it.name)) e)

  pub change_on : (op : PostfixOp) (t : Expr) → is_name (expr t) ≡ true → (n ≡ 0 → ⊥) → in_expr (tree.Prefix (prefix_of op) (expr t)) n fs vs heap hosts beats steps out ≡ in_change op true (name_in (expr t)) (n - 1) fs vs heap hosts beats (steps + 1) out
  unfolding in_expr in_change
  change_on op t h e =
      let it = named (expr t) h in
      ap (λ q. running (expression (tree.Prefix (prefix_of op) q) script_env) n fs vs heap hosts beats steps out) it.is
      ∙ (ap (λ p. running p n fs vs heap hosts beats steps out) (changing_is op it.name)
      ∙ (step n fs vs heap hosts beats steps out (changing op true (Some it.name)) e
      ∙ sym (ap (λ q. running (changing op true (name_in q)) (n - 1) fs vs heap hosts beats (steps + 1) out) it.is)))

  -- ---- typeof

  same_kind : (c : Option Class) (o : ℕ)
      → is_function (kind_in c (Rattle.js_machine.specs.State.callee_by c (state_of heap hosts beats steps out) o)) ≡ is_callable_by c hosts o
  same_kind None o = refl
  same_kind (Some class.Array) o = refl
  same_kind (Some class.Plain) o = refl
  same_kind (Some class.Function) o = by_callee (function_callee (which o) (map host_body hosts) o)
  same_kind (Some class.Arguments) o = refl
  same_kind (Some class.Error) o = refl
  same_kind (Some class.Math) o = refl

  function_is : (v : Value) → is_function (kind_of (state_of heap hosts beats steps out) v) ≡ is_callable heap hosts v
  function_is value.Undefined = refl
  function_is value.Null = refl
  function_is (value.Bool b) = refl
  function_is (value.Num m) = refl
  function_is (value.Str text) = refl
  function_is (value.Object o) = same_kind (class_of heap o.0) o.0

  pub typed : (v : Value) (text : List ℕ) → text ≡ utf16 (chars (type_of (is_callable heap hosts v) v)) → in_type v n fs vs heap hosts beats steps out ≡ rest control.Give n fs (value.Str text ∷ vs) heap hosts beats steps out
  unfolding in_type rest
  typed v text e =
      ap (λ b. running (gives (value.Str (type_of b v))) n fs vs heap hosts beats steps out) (function_is v)
      ∙ ap (λ t. running (gives (value.Str t)) n fs vs heap hosts beats steps out) (sym (e ∙ type_units (is_callable heap hosts v) v))

  pub v_type : (v : Value) → v ≡ top vs → in_value frame.Type n fs vs heap hosts beats steps out ≡ in_type v n fs (below vs) heap hosts beats steps out
  unfolding in_value in_type
  v_type v e = ap (λ v. running (type_told v) n fs (below vs) heap hosts beats steps out) (sym e)

  type_bound : (name : Name) (v : Value) → value_of_global heap name ≡ Some v
      → running (resolve (0 ∷ []) name (λ it. type_of_reference it (λ text. gives (value.Str text)))) n fs vs heap hosts beats steps out ≡ running (type_told v) n fs vs heap hosts beats steps out
  type_bound name v e =
      ap (λ b. running (type_of_reference (if_global name b) (λ text. gives (value.Str text))) n fs vs heap hosts beats steps out) (is_met (met heap global_object name) v e)
      ∙ ap (λ found. running (type_told (or_undefined found)) n fs vs heap hosts beats steps out) e

  type_unbound : (name : Name) → value_of_global heap name ≡ None
      → running (resolve (0 ∷ []) name (λ it. type_of_reference it (λ text. gives (value.Str text)))) n fs vs heap hosts beats steps out ≡ running (type_told value.Undefined) n fs vs heap hosts beats steps out
  type_unbound name e = ap (λ b. running (type_of_reference (if_global name b) (λ text. gives (value.Str text))) n fs vs heap hosts beats steps out) (is_not_met (met heap global_object name) e)

  pub typeof_value : (operand : Expr) → name_in (expr operand) ≡ None → is_plain_prefix prefix.TypeOf (expr operand) ≡ true
      → in_expr (tree.Prefix prefix.TypeOf (expr operand)) n fs vs heap hosts beats steps out ≡ rest (control.Expr operand) n (frame.Type ∷ fs) vs heap hosts beats steps out
  unfolding in_expr rest
  typeof_value operand h g = ap (λ p. running p n fs vs heap hosts beats steps out) (reference_is (expr operand) (λ it. type_of_reference it (λ text. gives (value.Str text))) h (no_member (expr operand) g))

  pub typeof_out : (operand : Expr) (name : Name) → expr operand ≡ tree.Ident name → n ≡ 0
      → in_expr (tree.Prefix prefix.TypeOf (expr operand)) n fs vs heap hosts beats steps out ≡ rest (control.End end.OutOfSteps) n fs vs heap hosts beats steps out
  unfolding in_expr
  typeof_out operand name e h =
      ap (λ q. running (expression (tree.Prefix prefix.TypeOf q) script_env) n fs vs heap hosts beats steps out) e
      ∙ none n fs vs heap hosts beats steps out (resolve (0 ∷ []) name (λ it. type_of_reference it (λ text. gives (value.Str text)))) h

module _ (n : ℕ) (fs : List Frame) (vs : List Value) (heap : Heap) (hosts : List HostCall) (beats steps : ℕ) (out : Outside) where
  pub typeof_bound : (operand : Expr) (name : Name) (v : Value) → expr operand ≡ tree.Ident name → (n ≡ 0 → ⊥) → value_of_global heap name ≡ Some v
      → in_expr (tree.Prefix prefix.TypeOf (expr operand)) n fs vs heap hosts beats steps out ≡ in_type v (n - 1) fs vs heap hosts beats (steps + 1) out
  unfolding in_expr in_type
  typeof_bound operand name v e h f =
      ap (λ q. running (expression (tree.Prefix prefix.TypeOf q) script_env) n fs vs heap hosts beats steps out) e
      ∙ (step n fs vs heap hosts beats steps out (resolve (0 ∷ []) name (λ it. type_of_reference it (λ text. gives (value.Str text)))) h
      ∙ type_bound (n - 1) fs vs heap hosts beats (steps + 1) out name v f)

  pub typeof_unbound : (operand : Expr) (name : Name) → expr operand ≡ tree.Ident name → (n ≡ 0 → ⊥) → value_of_global heap name ≡ None
      → in_expr (tree.Prefix prefix.TypeOf (expr operand)) n fs vs heap hosts beats steps out ≡ in_type value.Undefined (n - 1) fs vs heap hosts beats (steps + 1) out
  unfolding in_expr in_type
  typeof_unbound operand name e h f =
      ap (λ q. running (expression (tree.Prefix prefix.TypeOf q) script_env) n fs vs heap hosts beats steps out) e
      ∙ (step n fs vs heap hosts beats steps out (resolve (0 ∷ []) name (λ it. type_of_reference it (λ text. gives (value.Str text)))) h
      ∙ type_unbound (n - 1) fs vs heap hosts beats (steps + 1) out name f)

module _ (n : ℕ) (fs : List Frame) (vs : List Value) (heap : Heap) (hosts : List HostCall) (beats steps : ℕ) (out : Outside) where
  -- ---- delete

  pub delete_value : (operand : Expr) → name_in (expr operand) ≡ None → is_plain_prefix prefix.Delete (expr operand) ≡ true
      → in_expr (tree.Prefix prefix.Delete (expr operand)) n fs vs heap hosts beats steps out ≡ rest (control.Expr operand) n (frame.Unary prefix.Delete ∷ fs) vs heap hosts beats steps out
  unfolding in_expr rest
  delete_value operand h g = ap (λ p. running p n fs vs heap hosts beats steps out) (reference_is (expr operand) (λ it. delete_reference it (λ b. gives (value.Bool b))) h (no_member (expr operand) g))

  pub delete_out : (operand : Expr) (name : Name) → expr operand ≡ tree.Ident name → n ≡ 0
      → in_expr (tree.Prefix prefix.Delete (expr operand)) n fs vs heap hosts beats steps out ≡ rest (control.End end.OutOfSteps) n fs vs heap hosts beats steps out
  unfolding in_expr
  delete_out operand name e h =
      ap (λ q. running (expression (tree.Prefix prefix.Delete q) script_env) n fs vs heap hosts beats steps out) e
      ∙ none n fs vs heap hosts beats steps out (resolve (0 ∷ []) name (λ it. delete_reference it (λ b. gives (value.Bool b)))) h

  deleted_by : (name : Name) (b : Bool) → has_property heap global_object name ≡ b
      → running (resolve (0 ∷ []) name (λ it. delete_reference it (λ b. gives (value.Bool b)))) n fs vs heap hosts beats steps out
      ≡ running (delete_reference (if_global name b) (λ b. gives (value.Bool b))) n fs vs heap hosts beats steps out
  deleted_by name b e = ap (λ b. running (delete_reference (if_global name b) (λ b. gives (value.Bool b))) n fs vs heap hosts beats steps out) e

module _ (n : ℕ) (fs : List Frame) (vs : List Value) (heap : Heap) (hosts : List HostCall) (beats steps : ℕ) (out : Outside) where
  pub delete_unbound : (operand : Expr) (name : Name) (o : ℕ) → expr operand ≡ tree.Ident name → (n ≡ 0 → ⊥) → o ≡ global_object → has_property heap o name ≡ false
      → in_expr (tree.Prefix prefix.Delete (expr operand)) n fs vs heap hosts beats steps out ≡ rest control.Give (n - 1) fs (value.Bool true ∷ vs) heap hosts beats (steps + 1) out
  unfolding in_expr rest
  delete_unbound operand name o e h g f =
      ap (λ q. running (expression (tree.Prefix prefix.Delete q) script_env) n fs vs heap hosts beats steps out) e
      ∙ (step n fs vs heap hosts beats steps out (resolve (0 ∷ []) name (λ it. delete_reference it (λ b. gives (value.Bool b)))) h
      ∙ deleted_by (n - 1) fs vs heap hosts beats (steps + 1) out name false (sym (ap (λ o. has_property heap o name) g) ∙ f))

  pub delete_bound : (operand : Expr) (name : Name) (o : ℕ) (b : Bool) (after : Heap) → expr operand ≡ tree.Ident name → (n ≡ 0 → ⊥) → o ≡ global_object → has_property heap o name ≡ true
      → b ≡ can_delete heap o name → after ≡ deleted o name heap
      → in_expr (tree.Prefix prefix.Delete (expr operand)) n fs vs heap hosts beats steps out ≡ rest control.Give (n - 1) fs (value.Bool b ∷ vs) after hosts beats (steps + 1) out
  unfolding in_expr rest
  delete_bound operand name o b after e h g f k d =
      ap (λ q. running (expression (tree.Prefix prefix.Delete q) script_env) n fs vs heap hosts beats steps out) e
      ∙ (step n fs vs heap hosts beats steps out (resolve (0 ∷ []) name (λ it. delete_reference it (λ b. gives (value.Bool b)))) h
      ∙ (deleted_by (n - 1) fs vs heap hosts beats (steps + 1) out name true (sym (ap (λ o. has_property heap o name) g) ∙ f)
      ∙ (sym (ap (λ o. running (gives (value.Bool (can_delete heap o name))) (n - 1) fs vs (deleted o name heap) hosts beats (steps + 1) out) g)
      ∙ (sym (ap (λ b. running (gives (value.Bool b)) (n - 1) fs vs (deleted o name heap) hosts beats (steps + 1) out) k)
      ∙ sym (ap (λ after. running (gives (value.Bool b)) (n - 1) fs vs after hosts beats (steps + 1) out) d)))))

-- ---- the cases of one call each

pub ruleset delete_laws = (delete_value, delete_out, delete_unbound, delete_bound)

pub ruleset prefix_laws = (in_void, in_plus, in_minus, in_bit_not, in_not)

pub ruleset unary_laws = (v_unary, v_unary_stops, v_unary_throws, v_unary_asks)

pub ruleset begin_change_laws = (change_out, change_on)

pub ruleset type_laws = (typed)

pub ruleset typeof_laws = (typeof_value, typeof_out, typeof_bound, typeof_unbound)
