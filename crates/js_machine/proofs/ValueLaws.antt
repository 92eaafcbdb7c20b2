-- What is left of a run where a frame takes the value of an expression.
use Rattle.std.proofs.Common.{◌≡◌, ℕ, List, [], ◌∷◌, ◌++◌, length, Some, None, true, false, refl, sym, ap, ◌∙◌}
use Rattle.std.specs.Prelude.{if◌then◌else◌}
use Rattle.js_values.specs.declared.value.Value.{Value}
use Rattle.js_values.specs.Values.{truth_of}
use Rattle.object_heap.specs.Objects.{Heap}
use Rattle.js_tree.specs.declared.tree.Expr.{Expr}
use Rattle.js_tree.specs.declared.tree.Stmt.{Stmt}
use Rattle.js_tree.specs.Plain.{expr}
use Rattle.js_machine.specs.declared.frame.Frame.{Frame}
use Rattle.js_machine.specs.declared.frame.Frame.TheVariants as frame
use Rattle.js_machine.specs.declared.frame.Control.TheVariants as control
use Rattle.js_machine.specs.declared.frame.End.TheVariants as end
use Rattle.js_machine.specs.declared.frame.Unbuilt.TheVariants as unbuilt
use Rattle.js_machine.specs.declared.hosts.HostCall.{HostCall}
use Rattle.js_machine.specs.Asks.{Tail, AnExpr}
use Rattle.js_machine.specs.Page.{script_env}
use Rattle.js_tree.specs.declared.tree.BinaryOp.{BinaryOp}
use Rattle.js_tree.specs.declared.tree.BinaryOp.TheVariants as op
use Rattle.std.specs.Prelude.{Ok, Err}
use Rattle.js_values.specs.declared.reason.Reason.{Reason}
use Rattle.js_machine.specs.Converted.{enters_operated}
use Rattle.js_machine.specs.Operated.{operated}
use Rattle.js_machine.specs.References.{error_object}
use Rattle.js_machine.specs.State.{object_value}
use Rattle.object_heap.specs.declared.built_in.BuiltIn.TheVariants as built
use Rattle.js_machine.proofs.ConversionLaws.{operator_throws}
use Rattle.js_machine.specs.Frames.{gives}
use Rattle.js_machine.specs.Operators.{operate}
use Rattle.js_machine.proofs.Operating.{operator_gives, operator_stops}
use Rattle.js_machine.specs.Run.{pop}
use Rattle.js_machine.specs.Run.{run, due}
use Rattle.js_machine.specs.Stacks.{top, below}
use Rattle.js_machine.specs.Rest.{Outside, rest, stack, state_of, in_list, in_value}

module _ (n : ℕ) (fs : List Frame) (vs : List Value) (heap : Heap) (hosts : List HostCall) (beats steps : ℕ) (out : Outside) where
  pub v_left : (op : BinaryOp) (right : Expr) → in_value (frame.Left op right) n fs vs heap hosts beats steps out ≡ rest (control.Expr right) n (frame.Right op ∷ fs) vs heap hosts beats steps out
  unfolding in_value rest
  v_left op right = refl

  -- `in` waits as any operator does
  pub v_left_in : (right : Expr) → in_value (frame.Left op.In right) n fs vs heap hosts beats steps out ≡ rest (control.Expr right) n (frame.In ∷ fs) vs heap hosts beats steps out
  unfolding in_value rest
  v_left_in right = refl

  pub v_right : (op : BinaryOp) (r : Value) → operated op (top (below vs)) (top vs) ≡ Some (Ok r) → in_value (frame.Right op) n fs vs heap hosts beats steps out ≡ rest control.Give n fs (r ∷ below (below vs)) heap hosts beats steps out
  unfolding in_value rest
  v_right op r e = operator_gives out.world (due out.world n) (pop out.world (due out.world n) (stack fs (below (below vs)))) (stack fs (below (below vs))) (state_of heap hosts beats steps out) op (top (below vs)) (top vs) gives r e

  pub v_right_stops : (op : BinaryOp) (reason : Reason) (ws : List Value) → operated op (top (below vs)) (top vs) ≡ Some (Err reason) → in_value (frame.Right op) n fs vs heap hosts beats steps out ≡ rest (control.End (end.Stopped reason)) n fs ws heap hosts beats steps out
  unfolding in_value rest
  v_right_stops op reason ws e = operator_stops out.world (due out.world n) (pop out.world (due out.world n) (stack fs (below (below vs)))) (stack fs (below (below vs))) (state_of heap hosts beats steps out) op (top (below vs)) (top vs) gives reason e

  pub v_right_asks : (op : BinaryOp) (ws : List Value) → top ws ≡ top vs → top (below ws) ≡ top (below vs) → below (below ws) ≡ below (below vs) → in_value (frame.Right op) n fs vs heap hosts beats steps out ≡ rest (control.Unbuilt unbuilt.Give) n (frame.Right op ∷ fs) ws heap hosts beats steps out
  unfolding in_value rest
  v_right_asks op ws e f g =
      ap (λ w. run out.world n (operate op (top (below vs)) w gives) (stack fs (below (below vs))) (state_of heap hosts beats steps out)) (sym e)
      ∙ (ap (λ v. run out.world n (operate op v (top ws) gives) (stack fs (below (below vs))) (state_of heap hosts beats steps out)) (sym f)
      ∙ ap (λ us. run out.world n (operate op (top (below ws)) (top ws) gives) (stack fs us) (state_of heap hosts beats steps out)) (sym g))

  pub v_right_throws : (op : BinaryOp) → operated op (top (below vs)) (top vs) ≡ None → enters_operated heap hosts op (top (below vs)) (top vs) ≡ false
      → in_value (frame.Right op) n fs vs heap hosts beats steps out ≡ rest control.Throw n fs (object_value (length heap) ∷ below (below vs)) (heap ++ error_object built.TypeErrorPrototype ∷ []) hosts beats steps out
  unfolding in_value rest
  v_right_throws op h e = operator_throws n fs (below (below vs)) heap hosts beats steps out op (top (below vs)) (top vs) gives h e

  pub v_and_true : (right : Expr) → truth_of (top vs) ≡ true → in_value (frame.And right) n fs vs heap hosts beats steps out ≡ rest (control.Expr right) n fs (below vs) heap hosts beats steps out
  unfolding in_value rest
  v_and_true right h = ap (λ c. run out.world n (if c then Tail (AnExpr (expr right)) script_env else gives (top vs)) (stack fs (below vs)) (state_of heap hosts beats steps out)) h

  pub v_and_false : (right : Expr) (ws : List Value) → top ws ≡ top vs → below ws ≡ below vs → truth_of (top vs) ≡ false → in_value (frame.And right) n fs vs heap hosts beats steps out ≡ rest control.Give n fs ws heap hosts beats steps out
  unfolding in_value rest
  v_and_false right ws e g h =
      ap (λ c. run out.world n (if c then Tail (AnExpr (expr right)) script_env else gives (top vs)) (stack fs (below vs)) (state_of heap hosts beats steps out)) h
      ∙ (ap (λ v. run out.world n (gives v) (stack fs (below vs)) (state_of heap hosts beats steps out)) (sym e)
      ∙ ap (λ us. run out.world n (gives (top ws)) (stack fs us) (state_of heap hosts beats steps out)) (sym g))

  pub v_or_false : (right : Expr) → truth_of (top vs) ≡ false → in_value (frame.Or right) n fs vs heap hosts beats steps out ≡ rest (control.Expr right) n fs (below vs) heap hosts beats steps out
  unfolding in_value rest
  v_or_false right h = ap (λ c. run out.world n (if c then gives (top vs) else Tail (AnExpr (expr right)) script_env) (stack fs (below vs)) (state_of heap hosts beats steps out)) h

  pub v_or_true : (right : Expr) (ws : List Value) → top ws ≡ top vs → below ws ≡ below vs → truth_of (top vs) ≡ true → in_value (frame.Or right) n fs vs heap hosts beats steps out ≡ rest control.Give n fs ws heap hosts beats steps out
  unfolding in_value rest
  v_or_true right ws e g h =
      ap (λ c. run out.world n (if c then gives (top vs) else Tail (AnExpr (expr right)) script_env) (stack fs (below vs)) (state_of heap hosts beats steps out)) h
      ∙ (ap (λ v. run out.world n (gives v) (stack fs (below vs)) (state_of heap hosts beats steps out)) (sym e)
      ∙ ap (λ us. run out.world n (gives (top ws)) (stack fs us) (state_of heap hosts beats steps out)) (sym g))

  pub v_cond_true : (first second : Expr) → truth_of (top vs) ≡ true → in_value (frame.Cond first second) n fs vs heap hosts beats steps out ≡ rest (control.Expr first) n fs (below vs) heap hosts beats steps out
  unfolding in_value rest
  v_cond_true first second h = ap (λ c. run out.world n (if c then Tail (AnExpr (expr first)) script_env else Tail (AnExpr (expr second)) script_env) (stack fs (below vs)) (state_of heap hosts beats steps out)) h

  pub v_cond_false : (first second : Expr) → truth_of (top vs) ≡ false → in_value (frame.Cond first second) n fs vs heap hosts beats steps out ≡ rest (control.Expr second) n fs (below vs) heap hosts beats steps out
  unfolding in_value rest
  v_cond_false first second h = ap (λ c. run out.world n (if c then Tail (AnExpr (expr first)) script_env else Tail (AnExpr (expr second)) script_env) (stack fs (below vs)) (state_of heap hosts beats steps out)) h

  pub v_comma : (right : Expr) → in_value (frame.Comma right) n fs vs heap hosts beats steps out ≡ rest (control.Expr right) n fs (below vs) heap hosts beats steps out
  unfolding in_value rest
  v_comma right = refl

  pub v_do : in_value frame.Do n fs vs heap hosts beats steps out ≡ rest control.Done n fs (below vs) heap hosts beats steps out
  unfolding in_value rest
  v_do = refl

  pub v_next : (ss : List Stmt) (i : ℕ) → in_value (frame.Next ss i) n fs vs heap hosts beats steps out ≡ in_list ss i n fs (below vs) heap hosts beats steps out
  unfolding in_value in_list
  v_next ss i = refl

-- ---- the cases of one call each

pub ruleset left_laws = (v_left, v_left_in)

pub ruleset right_laws = (v_right, v_right_stops, v_right_throws, v_right_asks)

pub ruleset and_laws = (v_and_true, v_and_false)

pub ruleset or_laws = (v_or_true, v_or_false)

pub ruleset cond_laws = (v_cond_true, v_cond_false)

pub ruleset value_laws = (v_comma, v_do, v_next)
