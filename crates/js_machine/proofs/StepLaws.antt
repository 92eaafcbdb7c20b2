-- What is left of a run where a step is taken, or none is left.
use Rattle.std.proofs.Common.{◌≡◌, ℕ, suc, ◌+◌, ◌-◌, List, [], refl, ap, ◌∙◌, arith}
use Rattle.js_values.specs.declared.value.Value.{Value}
use Rattle.object_heap.specs.Objects.{Heap}
use Rattle.js_tree.specs.declared.tree.Expr.{Expr}
use Rattle.js_tree.specs.declared.tree.Stmt.{Stmt}
use Rattle.js_tree.specs.Plain.{expr, stmt}
use Rattle.js_machine.specs.declared.frame.Frame.{Frame}
use Rattle.js_machine.specs.declared.frame.Control.TheVariants as control
use Rattle.js_machine.specs.declared.frame.End.TheVariants as end
use Rattle.js_machine.specs.declared.frame.Unbuilt.TheVariants as unbuilt
use Rattle.js_machine.specs.declared.hosts.HostCall.{HostCall}
use Rattle.js_machine.specs.Asks.{Program, AnExpr, AStmt, ATurn}
use Rattle.js_machine.specs.Page.{script_env}
use Rattle.js_machine.specs.Programs.{program}
use Rattle.js_machine.specs.Run.{due, run}
use Rattle.js_machine.specs.Rest.{Outside, rest, running, stack, starting, state_of, in_expr, in_stmt}

module _ (n : ℕ) (fs : List Frame) (vs : List Value) (heap : Heap) (hosts : List HostCall) (beats steps : ℕ) (out : Outside) where
  pub none : (p : Program) → n ≡ 0 → starting p n fs vs heap hosts beats steps out ≡ rest (control.End end.OutOfSteps) n fs vs heap hosts beats steps out
  unfolding rest
  none p e = ap (λ k. due out.world k p (stack fs vs) (state_of heap hosts beats steps out)) e

  pub step : (p : Program) → (n ≡ 0 → ⊥) → starting p n fs vs heap hosts beats steps out ≡ running p (n - 1) fs vs heap hosts beats (steps + 1) out
  step p h =
      let e : n ≡ suc (n - 1) = omega arith in
      let f : suc steps ≡ steps + 1 = omega arith in
      ap (λ k. due out.world k p (stack fs vs) (state_of heap hosts beats steps out)) e
      ∙ ap (λ k. run out.world (n - 1) p (stack fs vs) (state_of heap hosts beats k out)) f

  pub expr_none : (e : Expr) → n ≡ 0 → rest (control.Expr e) n fs vs heap hosts beats steps out ≡ rest (control.End end.OutOfSteps) n fs vs heap hosts beats steps out
  unfolding rest
  expr_none e h = none (program (AnExpr (expr e)) script_env) h

  pub expr_step : (e : Expr) → (n ≡ 0 → ⊥) → rest (control.Expr e) n fs vs heap hosts beats steps out ≡ in_expr (expr e) (n - 1) fs vs heap hosts beats (steps + 1) out
  unfolding rest in_expr
  expr_step e h = step (program (AnExpr (expr e)) script_env) h

  pub expr_unbuilt : (e : Expr) → rest (control.Expr e) n fs vs heap hosts beats steps out ≡ rest (control.Unbuilt (unbuilt.Expr e)) n fs vs heap hosts beats steps out
  unfolding rest
  expr_unbuilt e = refl

  pub stmt_none : (s : Stmt) → n ≡ 0 → rest (control.Stmt s) n fs vs heap hosts beats steps out ≡ rest (control.End end.OutOfSteps) n fs vs heap hosts beats steps out
  unfolding rest
  stmt_none s h = none (program (AStmt [] (stmt s)) script_env) h

  pub stmt_step : (s : Stmt) → (n ≡ 0 → ⊥) → rest (control.Stmt s) n fs vs heap hosts beats steps out ≡ in_stmt (stmt s) (n - 1) fs vs heap hosts beats (steps + 1) out
  unfolding rest in_stmt
  stmt_step s h = step (program (AStmt [] (stmt s)) script_env) h

  pub stmt_unbuilt : (s : Stmt) → rest (control.Stmt s) n fs vs heap hosts beats steps out ≡ rest (control.Unbuilt (unbuilt.Stmt s)) n fs vs heap hosts beats steps out
  unfolding rest
  stmt_unbuilt s = refl

  pub body_none : (s : Stmt) → n ≡ 0 → rest (control.Body s) n fs vs heap hosts beats steps out ≡ rest (control.End end.OutOfSteps) n fs vs heap hosts beats steps out
  unfolding rest
  body_none s h = none (program (ATurn (stmt s)) script_env) h

  -- a turn is a beat
  pub body_step : (s : Stmt) → (n ≡ 0 → ⊥) → rest (control.Body s) n fs vs heap hosts beats steps out ≡ in_stmt (stmt s) (n - 1) fs vs heap hosts (beats + 1) (steps + 1) out
  unfolding rest in_stmt
  body_step s h =
      let f : suc beats ≡ beats + 1 = omega arith in
      step (program (ATurn (stmt s)) script_env) h
      ∙ ap (λ b. running (program (AStmt [] (stmt s)) script_env) (n - 1) fs vs heap hosts b (steps + 1) out) f

  pub body_unbuilt : (s : Stmt) → rest (control.Body s) n fs vs heap hosts beats steps out ≡ rest (control.Unbuilt (unbuilt.Body s)) n fs vs heap hosts beats steps out
  unfolding rest
  body_unbuilt s = refl

-- ---- the cases of one call each

pub ruleset expr_laws = (expr_none, expr_step, expr_unbuilt)

pub ruleset stmt_laws = (stmt_none, stmt_step, stmt_unbuilt)

pub ruleset body_laws = (body_none, body_step, body_unbuilt)
