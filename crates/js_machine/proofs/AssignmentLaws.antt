-- What is left of a run in assignments, and where a target changes by one.
use Rattle.std.proofs.Common.{◌≡◌, ℕ, ◌+◌, ◌-◌, Bool, true, false, List, [], ◌∷◌, ◌++◌, length, Option, Some, None, Ok, Err, refl, sym, ap, ◌∙◌}
use Rattle.std.specs.Prelude.{Result, if◌then◌else◌}
use Rattle.js_values.specs.declared.number.Num.{Num}
use Rattle.js_values.specs.declared.reason.Reason.{Reason}
use Rattle.js_values.specs.declared.value.Value.{Value}
use Rattle.js_values.specs.declared.value.Value.TheVariants as value
use Rattle.js_values.specs.Values.{number_of}
use Rattle.object_heap.specs.declared.built_in.BuiltIn.TheVariants as built
use Rattle.object_heap.specs.Get.{has_property}
use Rattle.object_heap.specs.Names.{Name}
use Rattle.object_heap.specs.Objects.{Heap}
use Rattle.js_tree.specs.declared.tree.BinaryOp.{BinaryOp}
use Rattle.js_tree.specs.declared.tree.Expr.{Expr}
use Rattle.js_tree.specs.declared.tree.PostfixOp.{PostfixOp}
use Rattle.js_tree.specs.declared.tree.PostfixOp.TheVariants as postfix
use Rattle.js_tree.specs.Plain.{expr}
use Rattle.js_tree.specs.Tree as tree
use Rattle.js_machine.specs.declared.frame.Frame.{Frame}
use Rattle.js_machine.specs.declared.frame.Frame.TheVariants as frame
use Rattle.js_machine.specs.declared.frame.Control.TheVariants as control
use Rattle.js_machine.specs.declared.frame.End.TheVariants as end
use Rattle.js_machine.specs.declared.frame.Unbuilt.TheVariants as unbuilt
use Rattle.js_machine.specs.declared.hosts.HostCall.{HostCall}
use Rattle.js_machine.specs.Asks.{Program, AnExpr}
use Rattle.js_machine.specs.Built.{is_name}
use Rattle.js_machine.specs.Conversions.{HintNumber, or_stop, primitive_number, to_number}
use Rattle.js_machine.specs.Converted.{enters_operated, enters_value}
use Rattle.js_machine.specs.Frames.{gives, on_value, value_of}
use Rattle.js_machine.specs.Globals.{change_of, changed_from, changing, name_in, stored, value_of_global}
use Rattle.js_machine.specs.NotBuilt.{holds_entered, names_entered}
use Rattle.js_machine.specs.Operated.{operated}
use Rattle.js_machine.specs.Operators.{operate}
use Rattle.js_machine.specs.Page.{script_env}
use Rattle.js_machine.specs.Programs.{program}
use Rattle.js_machine.specs.References.{Reference, error_object, get_value, global_object, if_global, put_value, resolve}
use Rattle.js_machine.specs.Rest.{Outside, in_change, in_changed, in_expr, in_store, in_value, rest, running, stack, state_of}
use Rattle.js_machine.specs.Run.{due, pop, run}
use Rattle.js_machine.specs.Stacks.{top, below}
use Rattle.js_machine.specs.State.{object_value}
use Rattle.js_machine.specs.Unary.{one}
use Rattle.js_machine.proofs.ConversionLaws.{number_throws, operator_throws}
use Rattle.js_machine.proofs.NameLaws.{read_bound, read_unbound}
use Rattle.js_machine.proofs.Operating.{operator_gives, operator_stops}
use Rattle.js_machine.proofs.StepLaws.{none, step}

-- ---- targets that are names

pub record Named (e : tree.Expr) : Type 0 where
  pub name : Name
  pub is : e ≡ tree.Ident name

pub named : (e : tree.Expr) → is_name e ≡ true → Named e
named (tree.Num n) h = cc
named (tree.Str text) h = cc
named (tree.Truth b) h = cc
named tree.Null h = cc
named tree.This h = cc
named (tree.Ident name) h = record { name = name; is = refl }
named (tree.Array es) h = cc
named (tree.Object ps) h = cc
named (tree.Function f) h = cc
named (tree.Dot object name) h = cc
named (tree.Index object key) h = cc
named (tree.Call callee es) h = cc
named (tree.New callee es) h = cc
named (tree.Postfix target op) h = cc
named (tree.Prefix op operand) h = cc
named (tree.Binary op left right) h = cc
named (tree.And left right) h = cc
named (tree.Or left right) h = cc
named (tree.Comma left right) h = cc
named (tree.Cond test first second) h = cc
named (tree.Assign op target right) h = cc
named (tree.Late number) h = cc

-- what is done with the number before
abbrev k : PostfixOp → Bool → Reference → Value → Program
k op gives_new it old = to_number old (λ before. or_stop (change_of op before one) (λ after. put_value it (value.Num after) (gives (value.Num (if gives_new then after else before)))))

pub number_read : (v : Value) (r : Result Num Reason) (k : Num → Program) → number_of v ≡ Some r → to_number v k ≡ or_stop r k
number_read value.Undefined r k e = ap (λ n. primitive_number n k) e
number_read value.Null r k e = ap (λ n. primitive_number n k) e
number_read (value.Bool b) r k e = ap (λ n. primitive_number n k) e
number_read (value.Num m) r k e = ap (λ n. primitive_number n k) e
number_read (value.Str text) r k e = ap (λ n. primitive_number n k) e
number_read (value.Object o) r k e = cc

pub holds_one : (heap : Heap) (hosts : List HostCall) (t : tree.Expr) (name : Name) (v : Value) → t ≡ tree.Ident name → value_of_global heap name ≡ Some v → enters_value heap hosts HintNumber v ≡ true → names_entered heap hosts (name_in t) ≡ true
holds_one heap hosts t name v e f g =
    ap (λ t. names_entered heap hosts (name_in t)) e
    ∙ ap (holds_entered heap hosts) f
    ∙ g

module _ (n : ℕ) (fs : List Frame) (vs : List Value) (heap : Heap) (hosts : List HostCall) (beats steps : ℕ) (out : Outside) where
  -- ---- 11.13.1

  assigned : (name : Name) (right : tree.Expr) (b : Bool)
      → due out.world n (program (AnExpr right) script_env) (on_value (λ v. put_value (if_global name b) v (gives v)) ∷ stack fs vs) (state_of heap hosts beats steps out)
      ≡ due out.world n (program (AnExpr right) script_env) (on_value (λ v. stored (Some name) v v) ∷ stack fs vs) (state_of heap hosts beats steps out)
  assigned name right true = refl
  assigned name right false = refl

  pub assigns : (name : Name) (t right : Expr) → expr t ≡ tree.Ident name
      → running (resolve (0 ∷ []) name (λ it. value_of (expr right) script_env (λ v. put_value it v (gives v)))) n fs vs heap hosts beats steps out
      ≡ rest (control.Expr right) n (frame.Store t ∷ fs) vs heap hosts beats steps out
  unfolding rest
  assigns name t right e =
      assigned name (expr right) (has_property heap global_object name)
      ∙ sym (ap (λ t. due out.world n (program (AnExpr (expr right)) script_env) (on_value (λ v. stored (name_in t) v v) ∷ stack fs vs) (state_of heap hosts beats steps out)) e)

  pub v_store : (t : Expr) (v w : Value) → v ≡ top vs → w ≡ v → in_value (frame.Store t) n fs vs heap hosts beats steps out ≡ in_store (name_in (expr t)) v w n fs (below vs) heap hosts beats steps out
  unfolding in_value in_store
  v_store t v w e f =
      sym (ap (λ w. running (stored (name_in (expr t)) v w) n fs (below vs) heap hosts beats steps out) f
      ∙ ap (λ v. running (stored (name_in (expr t)) v v) n fs (below vs) heap hosts beats steps out) e)

  -- ---- 11.13.2

  pub v_store_with : (op : BinaryOp) (t : Expr) (r w : Value) → operated op (top (below vs)) (top vs) ≡ Some (Ok r) → w ≡ r
      → in_value (frame.StoreWith op t) n fs vs heap hosts beats steps out ≡ in_store (name_in (expr t)) r w n fs (below (below vs)) heap hosts beats steps out
  unfolding in_value in_store
  v_store_with op t r w e f =
      operator_gives out.world (due out.world n) (pop out.world (due out.world n) (stack fs (below (below vs)))) (stack fs (below (below vs))) (state_of heap hosts beats steps out) op (top (below vs)) (top vs) (λ r. stored (name_in (expr t)) r r) r e
      ∙ sym (ap (λ w. running (stored (name_in (expr t)) r w) n fs (below (below vs)) heap hosts beats steps out) f)

  pub v_store_stops : (op : BinaryOp) (t : Expr) (reason : Reason) (ws : List Value) → operated op (top (below vs)) (top vs) ≡ Some (Err reason)
      → in_value (frame.StoreWith op t) n fs vs heap hosts beats steps out ≡ rest (control.End (end.Stopped reason)) n fs ws heap hosts beats steps out
  unfolding in_value rest
  v_store_stops op t reason ws e = operator_stops out.world (due out.world n) (pop out.world (due out.world n) (stack fs (below (below vs)))) (stack fs (below (below vs))) (state_of heap hosts beats steps out) op (top (below vs)) (top vs) (λ r. stored (name_in (expr t)) r r) reason e

  pub v_store_asks : (op : BinaryOp) (t : Expr) (ws : List Value) → top ws ≡ top vs → top (below ws) ≡ top (below vs) → below (below ws) ≡ below (below vs)
      → in_value (frame.StoreWith op t) n fs vs heap hosts beats steps out ≡ rest (control.Unbuilt unbuilt.Give) n (frame.StoreWith op t ∷ fs) ws heap hosts beats steps out
  unfolding in_value rest
  v_store_asks op t ws e f g =
      ap (λ w. run out.world n (operate op (top (below vs)) w (λ r. stored (name_in (expr t)) r r)) (stack fs (below (below vs))) (state_of heap hosts beats steps out)) (sym e)
      ∙ (ap (λ v. run out.world n (operate op v (top ws) (λ r. stored (name_in (expr t)) r r)) (stack fs (below (below vs))) (state_of heap hosts beats steps out)) (sym f)
      ∙ ap (λ us. run out.world n (operate op (top (below ws)) (top ws) (λ r. stored (name_in (expr t)) r r)) (stack fs us) (state_of heap hosts beats steps out)) (sym g))

  pub v_store_throws : (op : BinaryOp) (t : Expr) → operated op (top (below vs)) (top vs) ≡ None → enters_operated heap hosts op (top (below vs)) (top vs) ≡ false
      → in_value (frame.StoreWith op t) n fs vs heap hosts beats steps out ≡ rest control.Throw n fs (object_value (length heap) ∷ below (below vs)) (heap ++ error_object built.TypeErrorPrototype ∷ []) hosts beats steps out
  unfolding in_value rest
  v_store_throws op t h e = operator_throws n fs (below (below vs)) heap hosts beats steps out op (top (below vs)) (top vs) (λ r. stored (name_in (expr t)) r r) h e

  -- ---- the step of a target

  pub assign_out : (t right : Expr) → is_name (expr t) ≡ true → n ≡ 0 → in_expr (tree.Assign None (expr t) (expr right)) n fs vs heap hosts beats steps out ≡ rest (control.End end.OutOfSteps) n fs vs heap hosts beats steps out
  unfolding in_expr
  assign_out t right h e =
      let it = named (expr t) h in
      ap (λ q. running (Rattle.js_machine.specs.Expressions.expression (tree.Assign None q (expr right)) script_env) n fs vs heap hosts beats steps out) it.is
      ∙ none n fs vs heap hosts beats steps out (resolve (0 ∷ []) it.name (λ it. value_of (expr right) script_env (λ v. put_value it v (gives v)))) e

  pub with_out : (op : BinaryOp) (t right : Expr) → is_name (expr t) ≡ true → n ≡ 0 → in_expr (tree.Assign (Some op) (expr t) (expr right)) n fs vs heap hosts beats steps out ≡ rest (control.End end.OutOfSteps) n fs vs heap hosts beats steps out
  unfolding in_expr
  with_out op t right h e =
      let it = named (expr t) h in
      ap (λ q. running (Rattle.js_machine.specs.Expressions.expression (tree.Assign (Some op) q (expr right)) script_env) n fs vs heap hosts beats steps out) it.is
      ∙ none n fs vs heap hosts beats steps out (resolve (0 ∷ []) it.name (λ it. get_value it (λ v. value_of (expr right) script_env (λ w. operate op v w (λ r. put_value it r (gives r)))))) e

  changing_is : (op : PostfixOp) (name : Name) → Rattle.js_machine.specs.Expressions.expression (tree.Postfix (tree.Ident name) op) script_env ≡ Rattle.js_machine.specs.Asks.Tick (changing op false (Some name))
  changing_is postfix.Increment name = refl
  changing_is postfix.Decrement name = refl

  pub postfix_out : (op : PostfixOp) (t : Expr) → is_name (expr t) ≡ true → n ≡ 0 → in_expr (tree.Postfix (expr t) op) n fs vs heap hosts beats steps out ≡ rest (control.End end.OutOfSteps) n fs vs heap hosts beats steps out
  unfolding in_expr
  postfix_out op t h e =
      let it = named (expr t) h in
      ap (λ q. running (Rattle.js_machine.specs.Expressions.expression (tree.Postfix q op) script_env) n fs vs heap hosts beats steps out) it.is
      ∙ (ap (λ p. running p n fs vs heap hosts beats steps out) (changing_is op it.name)
      ∙ none n fs vs heap hosts beats steps out (changing op false (Some it.name)) e)

  pub postfix_on : (op : PostfixOp) (t : Expr) → is_name (expr t) ≡ true → (n ≡ 0 → ⊥) → in_expr (tree.Postfix (expr t) op) n fs vs heap hosts beats steps out ≡ in_change op false (name_in (expr t)) (n - 1) fs vs heap hosts beats (steps + 1) out
  unfolding in_expr in_change
  postfix_on op t h e =
      let it = named (expr t) h in
      ap (λ q. running (Rattle.js_machine.specs.Expressions.expression (tree.Postfix q op) script_env) n fs vs heap hosts beats steps out) it.is
      ∙ (ap (λ p. running p n fs vs heap hosts beats steps out) (changing_is op it.name)
      ∙ (step n fs vs heap hosts beats steps out (changing op false (Some it.name)) e
      ∙ sym (ap (λ q. running (changing op false (name_in q)) (n - 1) fs vs heap hosts beats (steps + 1) out) it.is)))

  -- ---- behind it

  pub change_none : (op : PostfixOp) (gives_new : Bool) (t : tree.Expr) → name_in t ≡ None → in_change op gives_new (name_in t) n fs vs heap hosts beats steps out ≡ rest control.Done n fs vs heap hosts beats steps out
  unfolding in_change rest
  change_none op gives_new t e = ap (λ o. running (changing op gives_new o) n fs vs heap hosts beats steps out) e

  pub change_unbound : (op : PostfixOp) (gives_new : Bool) (t : tree.Expr) (name : Name) → t ≡ tree.Ident name → value_of_global heap name ≡ None
      → in_change op gives_new (name_in t) n fs vs heap hosts beats steps out ≡ rest control.Throw n fs (object_value (length heap) ∷ vs) (heap ++ error_object built.ReferenceErrorPrototype ∷ []) hosts beats steps out
  unfolding in_change
  change_unbound op gives_new t name e f =
      ap (λ t. running (changing op gives_new (name_in t)) n fs vs heap hosts beats steps out) e
      ∙ read_unbound n fs vs heap hosts beats steps out name (k op gives_new) f

  reads : (op : PostfixOp) (gives_new : Bool) (t : tree.Expr) (name : Name) (old : Value) (r : Result Num Reason) → t ≡ tree.Ident name → value_of_global heap name ≡ Some old → number_of old ≡ Some r
      → running (changing op gives_new (name_in t)) n fs vs heap hosts beats steps out ≡ running (or_stop r (changed_from op gives_new (name_in t))) n fs vs heap hosts beats steps out
  reads op gives_new t name old r e f g =
      ap (λ t. running (changing op gives_new (name_in t)) n fs vs heap hosts beats steps out) e
      ∙ (read_bound n fs vs heap hosts beats steps out name (k op gives_new) old f
      ∙ (ap (λ p. running p n fs vs heap hosts beats steps out) (number_read old r (changed_from op gives_new (Some name)) g)
      ∙ sym (ap (λ t. running (or_stop r (changed_from op gives_new (name_in t))) n fs vs heap hosts beats steps out) e)))

  pub change_goes : (op : PostfixOp) (gives_new : Bool) (t : tree.Expr) (name : Name) (old : Value) (before : Num) → t ≡ tree.Ident name → value_of_global heap name ≡ Some old → number_of old ≡ Some (Ok before)
      → in_change op gives_new (name_in t) n fs vs heap hosts beats steps out ≡ in_changed op gives_new (name_in t) before n fs vs heap hosts beats steps out
  unfolding in_change in_changed
  change_goes op gives_new t name old before e f g = reads op gives_new t name old (Ok before) e f g

  pub change_stops : (op : PostfixOp) (gives_new : Bool) (t : tree.Expr) (name : Name) (old : Value) (reason : Reason) → t ≡ tree.Ident name → value_of_global heap name ≡ Some old → number_of old ≡ Some (Err reason)
      → in_change op gives_new (name_in t) n fs vs heap hosts beats steps out ≡ rest (control.End (end.Stopped reason)) n fs vs heap hosts beats steps out
  unfolding in_change rest
  change_stops op gives_new t name old reason e f g = reads op gives_new t name old (Err reason) e f g

  pub change_throws : (op : PostfixOp) (gives_new : Bool) (t : tree.Expr) (name : Name) (old : Value) → t ≡ tree.Ident name → value_of_global heap name ≡ Some old → number_of old ≡ None → enters_value heap hosts HintNumber old ≡ false
      → in_change op gives_new (name_in t) n fs vs heap hosts beats steps out ≡ rest control.Throw n fs (object_value (length heap) ∷ vs) (heap ++ error_object built.TypeErrorPrototype ∷ []) hosts beats steps out
  unfolding in_change rest
  change_throws op gives_new t name old e f g h =
      ap (λ t. running (changing op gives_new (name_in t)) n fs vs heap hosts beats steps out) e
      ∙ (read_bound n fs vs heap hosts beats steps out name (k op gives_new) old f
      ∙ number_throws n fs vs heap hosts beats steps out old (changed_from op gives_new (Some name)) g h)

  pub change_asks : (op : PostfixOp) (gives_new : Bool) (t : Expr) → in_change op gives_new (name_in (expr t)) n fs vs heap hosts beats steps out ≡ rest (control.Unbuilt (unbuilt.Change op gives_new t)) n fs vs heap hosts beats steps out
  unfolding in_change rest
  change_asks op gives_new t = refl

  pub changed_goes : (op : PostfixOp) (gives_new : Bool) (name : Option Name) (before after : Num) (given : Value) → change_of op before one ≡ Ok after → given ≡ value.Num (if gives_new then after else before)
      → in_changed op gives_new name before n fs vs heap hosts beats steps out ≡ in_store name (value.Num after) given n fs vs heap hosts beats steps out
  unfolding in_changed in_store
  changed_goes op gives_new name before after given e f =
      ap (λ r. running (or_stop r (λ after. stored name (value.Num after) (value.Num (if gives_new then after else before)))) n fs vs heap hosts beats steps out) e
      ∙ sym (ap (λ given. running (stored name (value.Num after) given) n fs vs heap hosts beats steps out) f)

  pub changed_stops : (op : PostfixOp) (gives_new : Bool) (name : Option Name) (before : Num) (reason : Reason) → change_of op before one ≡ Err reason
      → in_changed op gives_new name before n fs vs heap hosts beats steps out ≡ rest (control.End (end.Stopped reason)) n fs vs heap hosts beats steps out
  unfolding in_changed rest
  changed_stops op gives_new name before reason e = ap (λ r. running (or_stop r (λ after. stored name (value.Num after) (value.Num (if gives_new then after else before)))) n fs vs heap hosts beats steps out) e

module _ (n : ℕ) (fs : List Frame) (vs : List Value) (heap : Heap) (hosts : List HostCall) (beats steps : ℕ) (out : Outside) where
  pub assign_on : (t right : Expr) → is_name (expr t) ≡ true → (n ≡ 0 → ⊥) → in_expr (tree.Assign None (expr t) (expr right)) n fs vs heap hosts beats steps out ≡ rest (control.Expr right) (n - 1) (frame.Store t ∷ fs) vs heap hosts beats (steps + 1) out
  unfolding in_expr
  assign_on t right h e =
      let it = named (expr t) h in
      ap (λ q. running (Rattle.js_machine.specs.Expressions.expression (tree.Assign None q (expr right)) script_env) n fs vs heap hosts beats steps out) it.is
      ∙ (step n fs vs heap hosts beats steps out (resolve (0 ∷ []) it.name (λ it. value_of (expr right) script_env (λ v. put_value it v (gives v)))) e
      ∙ assigns (n - 1) fs vs heap hosts beats (steps + 1) out it.name t right it.is)

  pub with_bound : (op : BinaryOp) (t right : Expr) (name : Name) (v : Value) → expr t ≡ tree.Ident name → (n ≡ 0 → ⊥) → value_of_global heap name ≡ Some v
      → in_expr (tree.Assign (Some op) (expr t) (expr right)) n fs vs heap hosts beats steps out ≡ rest (control.Expr right) (n - 1) (frame.StoreWith op t ∷ fs) (v ∷ vs) heap hosts beats (steps + 1) out
  unfolding in_expr rest
  with_bound op t right name v e h f =
      ap (λ q. running (Rattle.js_machine.specs.Expressions.expression (tree.Assign (Some op) q (expr right)) script_env) n fs vs heap hosts beats steps out) e
      ∙ (step n fs vs heap hosts beats steps out (resolve (0 ∷ []) name (λ it. get_value it (λ v. value_of (expr right) script_env (λ w. operate op v w (λ r. put_value it r (gives r)))))) h
      ∙ (read_bound (n - 1) fs vs heap hosts beats (steps + 1) out name (λ it v. value_of (expr right) script_env (λ w. operate op v w (λ r. put_value it r (gives r)))) v f
      ∙ sym (ap (λ t. due out.world (n - 1) (program (AnExpr (expr right)) script_env) (on_value (λ w. operate op v w (λ r. stored (name_in t) r r)) ∷ stack fs vs) (state_of heap hosts beats (steps + 1) out)) e)))

  pub with_unbound : (op : BinaryOp) (t right : Expr) (name : Name) → expr t ≡ tree.Ident name → (n ≡ 0 → ⊥) → value_of_global heap name ≡ None
      → in_expr (tree.Assign (Some op) (expr t) (expr right)) n fs vs heap hosts beats steps out ≡ rest control.Throw (n - 1) fs (object_value (length heap) ∷ vs) (heap ++ error_object built.ReferenceErrorPrototype ∷ []) hosts beats (steps + 1) out
  unfolding in_expr
  with_unbound op t right name e h f =
      ap (λ q. running (Rattle.js_machine.specs.Expressions.expression (tree.Assign (Some op) q (expr right)) script_env) n fs vs heap hosts beats steps out) e
      ∙ (step n fs vs heap hosts beats steps out (resolve (0 ∷ []) name (λ it. get_value it (λ v. value_of (expr right) script_env (λ w. operate op v w (λ r. put_value it r (gives r)))))) h
      ∙ read_unbound (n - 1) fs vs heap hosts beats (steps + 1) out name (λ it v. value_of (expr right) script_env (λ w. operate op v w (λ r. put_value it r (gives r)))) f)

-- ---- the cases of one call each

pub ruleset assign_laws = (assign_out, assign_on)

pub ruleset assign_with_laws = (with_out, with_bound, with_unbound)

pub ruleset store_with_laws = (v_store_with, v_store_stops, v_store_throws, v_store_asks)

pub ruleset postfix_laws = (postfix_out, postfix_on)

pub ruleset change_laws = (change_none, change_unbound, change_goes, change_stops, change_throws, change_asks, holds_one)

pub ruleset changed_laws = (changed_goes, changed_stops)
