-- What is left of a run in each expression whose step was taken.
use Rattle.std.proofs.Common.{◌≡◌, ℕ, List, ◌∷◌, Bool, refl, sym, ap}
use Rattle.js_values.specs.declared.value.ObjectId.{ObjectId}
use Rattle.std.specs.Prelude.{pos}
use Rattle.js_values.specs.declared.number.Num.TheVariants as number
use Rattle.js_values.specs.declared.value.Value.{Value}
use Rattle.js_values.specs.declared.value.Value.TheVariants as value
use Rattle.object_heap.specs.Objects.{Heap}
use Rattle.js_tree.specs.declared.tree.BinaryOp.{BinaryOp}
use Rattle.js_tree.specs.declared.tree.Expr.{Expr}
use Rattle.js_tree.specs.Plain.{expr}
use Rattle.js_tree.specs.Tree as tree
use Rattle.js_machine.specs.declared.frame.Frame.{Frame}
use Rattle.js_machine.specs.declared.frame.Frame.TheVariants as frame
use Rattle.js_machine.specs.declared.frame.Control.TheVariants as control
use Rattle.js_machine.specs.declared.hosts.HostCall.{HostCall}
use Rattle.js_machine.specs.Frames.{gives}
use Rattle.js_machine.specs.References.{global_object}
use Rattle.js_machine.specs.Rest.{Outside, rest, running, in_expr}
use Rattle.js_machine.specs.State.{object_value}

module _ (n : ℕ) (fs : List Frame) (vs : List Value) (heap : Heap) (hosts : List HostCall) (beats steps : ℕ) (out : Outside) where
  pub in_num : (k : ℕ) → in_expr (tree.Num k) n fs vs heap hosts beats steps out ≡ rest control.Give n fs (value.Num (number.Whole (pos k)) ∷ vs) heap hosts beats steps out
  unfolding rest in_expr
  in_num k = refl

  pub in_text : (text : List ℕ) → in_expr (tree.Str text) n fs vs heap hosts beats steps out ≡ rest control.Give n fs (value.Str text ∷ vs) heap hosts beats steps out
  unfolding rest in_expr
  in_text text = refl

  pub in_truth : (b : Bool) → in_expr (tree.Truth b) n fs vs heap hosts beats steps out ≡ rest control.Give n fs (value.Bool b ∷ vs) heap hosts beats steps out
  unfolding rest in_expr
  in_truth b = refl

  pub in_null : in_expr tree.Null n fs vs heap hosts beats steps out ≡ rest control.Give n fs (value.Null ∷ vs) heap hosts beats steps out
  unfolding rest in_expr
  in_null = refl

  pub in_this : (o : ObjectId) → o.0 ≡ global_object → in_expr tree.This n fs vs heap hosts beats steps out ≡ rest control.Give n fs (value.Object o ∷ vs) heap hosts beats steps out
  unfolding in_expr rest
  in_this o e = sym (ap (λ o. running (gives (object_value o)) n fs vs heap hosts beats steps out) e)

  pub in_binary : (op : BinaryOp) (left right : Expr) → in_expr (tree.Binary op (expr left) (expr right)) n fs vs heap hosts beats steps out ≡ rest (control.Expr left) n (frame.Left op right ∷ fs) vs heap hosts beats steps out
  unfolding rest in_expr
  in_binary op left right = refl

  pub in_and : (left right : Expr) → in_expr (tree.And (expr left) (expr right)) n fs vs heap hosts beats steps out ≡ rest (control.Expr left) n (frame.And right ∷ fs) vs heap hosts beats steps out
  unfolding rest in_expr
  in_and left right = refl

  pub in_or : (left right : Expr) → in_expr (tree.Or (expr left) (expr right)) n fs vs heap hosts beats steps out ≡ rest (control.Expr left) n (frame.Or right ∷ fs) vs heap hosts beats steps out
  unfolding rest in_expr
  in_or left right = refl

  pub in_comma : (left right : Expr) → in_expr (tree.Comma (expr left) (expr right)) n fs vs heap hosts beats steps out ≡ rest (control.Expr left) n (frame.Comma right ∷ fs) vs heap hosts beats steps out
  unfolding rest in_expr
  in_comma left right = refl

  pub in_cond : (test first second : Expr) → in_expr (tree.Cond (expr test) (expr first) (expr second)) n fs vs heap hosts beats steps out ≡ rest (control.Expr test) n (frame.Cond first second ∷ fs) vs heap hosts beats steps out
  unfolding rest in_expr
  in_cond test first second = refl
