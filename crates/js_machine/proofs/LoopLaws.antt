-- What is left of a run in loops.
use Rattle.std.proofs.Common.{◌≡◌, ℕ, List, [], ◌∷◌, Option, Some, None, true, false, refl, sym, ap, ◌∙◌}
use Rattle.std.specs.Prelude.{if◌then◌else◌}
use Rattle.js_values.specs.declared.value.Value.{Value}
use Rattle.js_values.specs.Values.{truth_of}
use Rattle.object_heap.specs.Objects.{Heap}
use Rattle.js_tree.specs.declared.tree.Expr.{Expr}
use Rattle.js_tree.specs.declared.tree.Stmt.{Stmt}
use Rattle.js_tree.specs.Plain.{expr, stmt}
use Rattle.js_tree.specs.Tree as tree
use Rattle.js_code.specs.Projections.{LoopTree, loop_parts}
use Rattle.js_machine.specs.declared.frame.Frame.{Frame}
use Rattle.js_machine.specs.declared.frame.Frame.TheVariants as frame
use Rattle.js_machine.specs.declared.frame.Control.TheVariants as control
use Rattle.js_machine.specs.declared.hosts.HostCall.{HostCall}
use Rattle.js_machine.specs.Asks.{Tail, AnExpr, ATurn}
use Rattle.exceptions_core.specs.declared.completion.Completion.TheVariants as completion
use Rattle.exceptions_core.specs.declared.completion.Frame.TheVariants as frames
use Rattle.exceptions_core.specs.declared.completion.Landing.TheVariants as landing
use Rattle.js_machine.specs.Frames.{done, completes, on_value, at_frame}
use Rattle.js_machine.specs.Page.{script_env}
use Rattle.js_machine.specs.Programs.{program}
use Rattle.js_machine.specs.Run.{run, due}
use Rattle.js_machine.specs.Stacks.{top, below}
use Rattle.js_machine.specs.Statements.{statement}
use Rattle.js_machine.specs.Rest.{Outside, next_of, rest, stack, state_of, tested, turning, updating, in_stmt, in_turn, in_update, in_value, in_done, in_break, in_continue}

module _ (n : ℕ) (fs : List Frame) (vs : List Value) (heap : Heap) (hosts : List HostCall) (beats steps : ℕ) (out : Outside) where
  -- ---- a turn begins

  pub turn_test : (s : Stmt) (t : Expr) (u : tree.MaybeExpr) (b : tree.Stmt) → loop_parts (stmt s) ≡ Some (record { test = tree.AnExpr (expr t); update = u; body = b })
      → in_turn s n fs vs heap hosts beats steps out ≡ rest (control.Expr t) n (frame.Test s ∷ frame.Turn s ∷ fs) vs heap hosts beats steps out
  unfolding in_turn rest
  turn_test s t u b e =
      ap (λ o. run out.world n (turning o) (stack fs vs) (state_of heap hosts beats steps out)) e
      ∙ sym (ap (λ o. due out.world n (program (AnExpr (expr t)) script_env) (on_value (tested o) ∷ at_frame (frames.Loop []) (next_of o) ∷ stack fs vs) (state_of heap hosts beats steps out)) e)

  pub turn_body : (s b : Stmt) (u : tree.MaybeExpr) → loop_parts (stmt s) ≡ Some (record { test = tree.NoExpr; update = u; body = stmt b })
      → in_turn s n fs vs heap hosts beats steps out ≡ rest (control.Body b) n (frame.Turn s ∷ fs) vs heap hosts beats steps out
  unfolding in_turn rest
  turn_body s b u e =
      ap (λ o. run out.world n (turning o) (stack fs vs) (state_of heap hosts beats steps out)) e
      ∙ sym (ap (λ o. due out.world n (program (ATurn (stmt b)) script_env) (at_frame (frames.Loop []) (next_of o) ∷ stack fs vs) (state_of heap hosts beats steps out)) e)

  -- ---- loops begin

  pub in_while : (s : Stmt) (t : tree.Expr) (b : tree.Stmt) → stmt s ≡ tree.While t b → in_stmt (stmt s) n fs vs heap hosts beats steps out ≡ in_turn s n fs vs heap hosts beats steps out
  unfolding in_stmt in_turn
  in_while s t b e =
      ap (λ q. run out.world n (statement [] q script_env) (stack fs vs) (state_of heap hosts beats steps out)) e
      ∙ sym (ap (λ q. run out.world n (turning (loop_parts q)) (stack fs vs) (state_of heap hosts beats steps out)) e)

  pub in_do_while : (s b : Stmt) (t : tree.Expr) → stmt s ≡ tree.DoWhile (stmt b) t → in_stmt (stmt s) n fs vs heap hosts beats steps out ≡ rest (control.Body b) n (frame.Turn s ∷ fs) vs heap hosts beats steps out
  unfolding in_stmt rest
  in_do_while s b t e =
      ap (λ q. run out.world n (statement [] q script_env) (stack fs vs) (state_of heap hosts beats steps out)) e
      ∙ sym (ap (λ q. due out.world n (program (ATurn (stmt b)) script_env) (at_frame (frames.Loop []) (next_of (loop_parts q)) ∷ stack fs vs) (state_of heap hosts beats steps out)) e)

  pub in_for : (s : Stmt) (t u : tree.MaybeExpr) (b : tree.Stmt) → stmt s ≡ tree.For tree.Nothing t u b → in_stmt (stmt s) n fs vs heap hosts beats steps out ≡ in_turn s n fs vs heap hosts beats steps out
  unfolding in_stmt in_turn
  in_for s t u b e =
      ap (λ q. run out.world n (statement [] q script_env) (stack fs vs) (state_of heap hosts beats steps out)) e
      ∙ sym (ap (λ q. run out.world n (turning (loop_parts q)) (stack fs vs) (state_of heap hosts beats steps out)) e)

  pub in_for_first : (s : Stmt) (f : Expr) (t u : tree.MaybeExpr) (b : tree.Stmt) → stmt s ≡ tree.For (tree.First (expr f)) t u b → in_stmt (stmt s) n fs vs heap hosts beats steps out ≡ rest (control.Expr f) n (frame.Again s ∷ fs) vs heap hosts beats steps out
  unfolding in_stmt rest
  in_for_first s f t u b e =
      ap (λ q. run out.world n (statement [] q script_env) (stack fs vs) (state_of heap hosts beats steps out)) e
      ∙ sym (ap (λ q. due out.world n (program (AnExpr (expr f)) script_env) (on_value (λ v. turning (loop_parts q)) ∷ stack fs vs) (state_of heap hosts beats steps out)) e)

  -- ---- between turns

  pub update_none : (s : Stmt) (t : tree.MaybeExpr) (b : tree.Stmt) → loop_parts (stmt s) ≡ Some (record { test = t; update = tree.NoExpr; body = b }) → in_update s n fs vs heap hosts beats steps out ≡ in_turn s n fs vs heap hosts beats steps out
  unfolding in_update in_turn
  update_none s t b e =
      ap (λ o. run out.world n (updating o) (stack fs vs) (state_of heap hosts beats steps out)) e
      ∙ sym (ap (λ o. run out.world n (turning o) (stack fs vs) (state_of heap hosts beats steps out)) e)

  pub update_some : (s : Stmt) (u : Expr) (t : tree.MaybeExpr) (b : tree.Stmt) → loop_parts (stmt s) ≡ Some (record { test = t; update = tree.AnExpr (expr u); body = b }) → in_update s n fs vs heap hosts beats steps out ≡ rest (control.Expr u) n (frame.Again s ∷ fs) vs heap hosts beats steps out
  unfolding in_update rest
  update_some s u t b e =
      ap (λ o. run out.world n (updating o) (stack fs vs) (state_of heap hosts beats steps out)) e
      ∙ sym (ap (λ o. due out.world n (program (AnExpr (expr u)) script_env) (on_value (λ v. turning o) ∷ stack fs vs) (state_of heap hosts beats steps out)) e)

  pub v_again : (s : Stmt) → in_value (frame.Again s) n fs vs heap hosts beats steps out ≡ in_turn s n fs (below vs) heap hosts beats steps out
  unfolding in_value in_turn
  v_again s = refl

  pub v_test_true : (s b : Stmt) (t u : tree.MaybeExpr) → loop_parts (stmt s) ≡ Some (record { test = t; update = u; body = stmt b }) → truth_of (top vs) ≡ true
      → in_value (frame.Test s) n fs vs heap hosts beats steps out ≡ rest (control.Body b) n fs (below vs) heap hosts beats steps out
  unfolding in_value rest
  v_test_true s b t u e h =
      ap (λ o. run out.world n (tested o (top vs)) (stack fs (below vs)) (state_of heap hosts beats steps out)) e
      ∙ ap (λ c. run out.world n (if c then Tail (ATurn (stmt b)) script_env else completes (completion.Break None)) (stack fs (below vs)) (state_of heap hosts beats steps out)) h

  pub v_test_false : (s : Stmt) (p : LoopTree) → loop_parts (stmt s) ≡ Some p → truth_of (top vs) ≡ false → in_value (frame.Test s) n fs vs heap hosts beats steps out ≡ rest control.Break n fs (below vs) heap hosts beats steps out
  unfolding in_value rest
  v_test_false s p e h =
      ap (λ o. run out.world n (tested o (top vs)) (stack fs (below vs)) (state_of heap hosts beats steps out)) e
      ∙ ap (λ c. run out.world n (if c then Tail (ATurn p.body) script_env else completes (completion.Break None)) (stack fs (below vs)) (state_of heap hosts beats steps out)) h

  pub v_test_none : (s : Stmt) → loop_parts (stmt s) ≡ None → in_value (frame.Test s) n fs vs heap hosts beats steps out ≡ rest control.Done n fs (below vs) heap hosts beats steps out
  unfolding in_value rest
  v_test_none s e = ap (λ o. run out.world n (tested o (top vs)) (stack fs (below vs)) (state_of heap hosts beats steps out)) e

  pub turn_none : (s : Stmt) → loop_parts (stmt s) ≡ None → in_turn s n fs vs heap hosts beats steps out ≡ rest control.Done n fs vs heap hosts beats steps out
  unfolding in_turn rest
  turn_none s e = ap (λ o. run out.world n (turning o) (stack fs vs) (state_of heap hosts beats steps out)) e

  pub update_no_loop : (s : Stmt) → loop_parts (stmt s) ≡ None → in_update s n fs vs heap hosts beats steps out ≡ rest control.Done n fs vs heap hosts beats steps out
  unfolding in_update rest
  update_no_loop s e = ap (λ o. run out.world n (updating o) (stack fs vs) (state_of heap hosts beats steps out)) e

  -- ---- a turn ends

  goes_on : (o : Option LoopTree) → next_of o landing.Next ≡ updating o
  goes_on None = refl
  goes_on (Some p) = refl

  leaves : (o : Option LoopTree) → next_of o landing.Left ≡ done
  leaves None = refl
  leaves (Some p) = refl

  pub v_turn : (s : Stmt) → in_value (frame.Turn s) n fs vs heap hosts beats steps out ≡ in_update s n fs (below vs) heap hosts beats steps out
  unfolding in_value in_update
  v_turn s = ap (λ p. run out.world n p (stack fs (below vs)) (state_of heap hosts beats steps out)) (goes_on (loop_parts (stmt s)))

  pub d_turn : (s : Stmt) → in_done (frame.Turn s) n fs vs heap hosts beats steps out ≡ in_update s n fs vs heap hosts beats steps out
  unfolding in_done in_update
  d_turn s = ap (λ p. run out.world n p (stack fs vs) (state_of heap hosts beats steps out)) (goes_on (loop_parts (stmt s)))

  pub b_turn : (s : Stmt) → in_break (frame.Turn s) n fs vs heap hosts beats steps out ≡ rest control.Done n fs vs heap hosts beats steps out
  unfolding in_break rest
  b_turn s = ap (λ p. run out.world n p (stack fs vs) (state_of heap hosts beats steps out)) (leaves (loop_parts (stmt s)))

  pub c_turn : (s : Stmt) → in_continue (frame.Turn s) n fs vs heap hosts beats steps out ≡ in_update s n fs vs heap hosts beats steps out
  unfolding in_continue in_update
  c_turn s = ap (λ p. run out.world n p (stack fs vs) (state_of heap hosts beats steps out)) (goes_on (loop_parts (stmt s)))

-- ---- the cases of one call each

pub ruleset turn_laws = (turn_test, turn_body, turn_none)

pub ruleset update_laws = (update_some, update_none, update_no_loop)

pub ruleset test_laws = (v_test_true, v_test_false, v_test_none)

pub ruleset loop_values = (v_turn, v_again)
