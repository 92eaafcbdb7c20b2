-- What is left of a run in each statement whose step was taken, and in lists of statements.
use Rattle.std.proofs.Common.{◌≡◌, ℕ, ◌+◌, List, [], ◌∷◌, Some, None, true, false, refl, sym, ap, ◌∙◌}
use Rattle.std.specs.Prelude.{if◌then◌else◌}
use Rattle.js_values.specs.declared.value.Value.{Value}
use Rattle.js_values.specs.Values.{truth_of}
use Rattle.object_heap.specs.Objects.{Heap}
use Rattle.js_tree.specs.declared.tree.Expr.{Expr}
use Rattle.js_tree.specs.declared.tree.Stmt.{Stmt}
use Rattle.js_tree.specs.Plain.{expr, stmt}
use Rattle.js_tree.specs.Plain as view
use Rattle.js_tree.specs.Tree as tree
use Rattle.js_code.specs.Cursors.{stmts_from}
use Rattle.js_code.specs.Projections.{if_parts}
use Rattle.js_machine.specs.declared.frame.Frame.{Frame}
use Rattle.js_machine.specs.declared.frame.Frame.TheVariants as frame
use Rattle.js_machine.specs.declared.frame.Control.TheVariants as control
use Rattle.js_machine.specs.declared.frame.Unbuilt.TheVariants as unbuilt
use Rattle.js_machine.specs.declared.hosts.HostCall.{HostCall}
use Rattle.js_machine.specs.Asks.{Begin, Tail, AnExpr, AStmt}
use Rattle.js_machine.specs.Frames.{on_value, after_statement}
use Rattle.js_machine.specs.Page.{script_env}
use Rattle.js_machine.specs.Built.{is_begun}
use Rattle.js_machine.specs.Programs.{program}
use Rattle.js_machine.specs.Run.{run, due}
use Rattle.js_machine.specs.Stacks.{top, below}
use Rattle.js_machine.specs.Statements.{statement, statements, otherwise}
use Rattle.js_machine.specs.Rest.{Outside, branched, rest, stack, state_of, in_stmt, in_list, in_value}

module _ (n : ℕ) (fs : List Frame) (vs : List Value) (heap : Heap) (hosts : List HostCall) (beats steps : ℕ) (out : Outside) where
  pub in_block : (body : List Stmt) → in_stmt (tree.Block (view.body body)) n fs vs heap hosts beats steps out ≡ in_list body 0 n fs vs heap hosts beats steps out
  unfolding in_stmt in_list
  in_block body = refl

  pub in_empty : in_stmt tree.Empty n fs vs heap hosts beats steps out ≡ rest control.Done n fs vs heap hosts beats steps out
  unfolding in_stmt rest
  in_empty = refl

  pub in_do : (e : Expr) → in_stmt (tree.Do (expr e)) n fs vs heap hosts beats steps out ≡ rest (control.Expr e) n (frame.Do ∷ fs) vs heap hosts beats steps out
  unfolding in_stmt rest
  in_do e = refl

  pub in_break_statement : in_stmt (tree.Break None) n fs vs heap hosts beats steps out ≡ rest control.Break n fs vs heap hosts beats steps out
  unfolding in_stmt rest
  in_break_statement = refl

  pub in_continue_statement : in_stmt (tree.Continue None) n fs vs heap hosts beats steps out ≡ rest control.Continue n fs vs heap hosts beats steps out
  unfolding in_stmt rest
  in_continue_statement = refl

  -- ---- `if`

  pub in_if : (s : Stmt) (t : Expr) (first : tree.Stmt) (second : tree.MaybeStmt) → stmt s ≡ tree.If (expr t) first second
      → in_stmt (stmt s) n fs vs heap hosts beats steps out ≡ rest (control.Expr t) n (frame.If s ∷ fs) vs heap hosts beats steps out
  unfolding in_stmt rest
  in_if s t first second e =
      ap (λ q. run out.world n (statement [] q script_env) (stack fs vs) (state_of heap hosts beats steps out)) e
      ∙ sym (ap (λ q. due out.world n (program (AnExpr (expr t)) script_env) (on_value (branched (if_parts q)) ∷ stack fs vs) (state_of heap hosts beats steps out)) e)

  pub v_if_true : (s a : Stmt) (t : tree.Expr) (second : tree.MaybeStmt) → if_parts (stmt s) ≡ Some (record { test = t; first = stmt a; second = second }) → truth_of (top vs) ≡ true
      → in_value (frame.If s) n fs vs heap hosts beats steps out ≡ rest (control.Stmt a) n fs (below vs) heap hosts beats steps out
  unfolding in_value rest
  v_if_true s a t second e h =
      ap (λ p. run out.world n (branched p (top vs)) (stack fs (below vs)) (state_of heap hosts beats steps out)) e
      ∙ ap (λ c. run out.world n (if c then Tail (AStmt [] (stmt a)) script_env else otherwise second script_env) (stack fs (below vs)) (state_of heap hosts beats steps out)) h

  pub v_if_else : (s a : Stmt) (t : tree.Expr) (first : tree.Stmt) → if_parts (stmt s) ≡ Some (record { test = t; first = first; second = tree.AStmt (stmt a) }) → truth_of (top vs) ≡ false
      → in_value (frame.If s) n fs vs heap hosts beats steps out ≡ rest (control.Stmt a) n fs (below vs) heap hosts beats steps out
  unfolding in_value rest
  v_if_else s a t first e h =
      ap (λ p. run out.world n (branched p (top vs)) (stack fs (below vs)) (state_of heap hosts beats steps out)) e
      ∙ ap (λ c. run out.world n (if c then Tail (AStmt [] first) script_env else otherwise (tree.AStmt (stmt a)) script_env) (stack fs (below vs)) (state_of heap hosts beats steps out)) h

  pub v_if_without : (s : Stmt) (t : tree.Expr) (first : tree.Stmt) → if_parts (stmt s) ≡ Some (record { test = t; first = first; second = tree.NoStmt }) → truth_of (top vs) ≡ false
      → in_value (frame.If s) n fs vs heap hosts beats steps out ≡ rest control.Done n fs (below vs) heap hosts beats steps out
  unfolding in_value rest
  v_if_without s t first e h =
      ap (λ p. run out.world n (branched p (top vs)) (stack fs (below vs)) (state_of heap hosts beats steps out)) e
      ∙ ap (λ c. run out.world n (if c then Tail (AStmt [] first) script_env else otherwise tree.NoStmt script_env) (stack fs (below vs)) (state_of heap hosts beats steps out)) h

  pub v_if_none : (s : Stmt) → if_parts (stmt s) ≡ None → in_value (frame.If s) n fs vs heap hosts beats steps out ≡ rest control.Done n fs (below vs) heap hosts beats steps out
  unfolding in_value rest
  v_if_none s e = ap (λ p. run out.world n (branched p (top vs)) (stack fs (below vs)) (state_of heap hosts beats steps out)) e

  -- ---- lists of statements

  pub list_end : (ss : List Stmt) (i : ℕ) → stmts_from ss i ≡ tree.NoStmts → in_list ss i n fs vs heap hosts beats steps out ≡ rest control.Done n fs vs heap hosts beats steps out
  unfolding in_list rest
  list_end ss i e = ap (λ l. run out.world n (statements l script_env) (stack fs vs) (state_of heap hosts beats steps out)) e

  last_is : (s : tree.Stmt) → is_begun s ≡ true → statements (tree.MoreStmts s tree.NoStmts) script_env ≡ Tail (AStmt [] s) script_env
  last_is tree.Empty h = refl
  last_is (tree.Block b) h = refl
  last_is (tree.Variables b) h = refl
  last_is (tree.Do b) h = refl
  last_is (tree.If a b c) h = refl
  last_is (tree.DoWhile a b) h = refl
  last_is (tree.While a b) h = refl
  last_is (tree.For a b c d) h = refl
  last_is (tree.ForIn a b c) h = refl
  last_is (tree.Continue a) h = refl
  last_is (tree.Break a) h = refl
  last_is (tree.Return a) h = refl
  last_is (tree.Switch a b) h = refl
  last_is (tree.Label a b) h = refl
  last_is (tree.Throw a) h = refl
  last_is (tree.Try a b c) h = refl
  last_is (tree.Declare f) h = cc
  last_is (tree.Used f) h = cc

  first_is : (s t : tree.Stmt) (r : tree.Stmts) → is_begun s ≡ true → statements (tree.MoreStmts s (tree.MoreStmts t r)) script_env ≡ Begin (AStmt [] s) script_env (after_statement (statements (tree.MoreStmts t r) script_env))
  first_is tree.Empty t r h = refl
  first_is (tree.Block b) t r h = refl
  first_is (tree.Variables b) t r h = refl
  first_is (tree.Do b) t r h = refl
  first_is (tree.If a b c) t r h = refl
  first_is (tree.DoWhile a b) t r h = refl
  first_is (tree.While a b) t r h = refl
  first_is (tree.For a b c d) t r h = refl
  first_is (tree.ForIn a b c) t r h = refl
  first_is (tree.Continue a) t r h = refl
  first_is (tree.Break a) t r h = refl
  first_is (tree.Return a) t r h = refl
  first_is (tree.Switch a b) t r h = refl
  first_is (tree.Label a b) t r h = refl
  first_is (tree.Throw a) t r h = refl
  first_is (tree.Try a b c) t r h = refl
  first_is (tree.Declare f) t r h = cc
  first_is (tree.Used f) t r h = cc

  pub list_last : (ss : List Stmt) (i : ℕ) (s : Stmt) → stmts_from ss i ≡ tree.MoreStmts (stmt s) (stmts_from ss (i + 1)) → stmts_from ss (i + 1) ≡ tree.NoStmts → is_begun (stmt s) ≡ true
      → in_list ss i n fs vs heap hosts beats steps out ≡ rest (control.Stmt s) n fs vs heap hosts beats steps out
  unfolding in_list rest
  list_last ss i s e f h =
      ap (λ l. run out.world n (statements l script_env) (stack fs vs) (state_of heap hosts beats steps out)) (e ∙ ap (λ l. tree.MoreStmts (stmt s) l) f)
      ∙ ap (λ p. run out.world n p (stack fs vs) (state_of heap hosts beats steps out)) (last_is (stmt s) h)

  pub list_more : (ss : List Stmt) (i : ℕ) (s t : Stmt) (r : tree.Stmts) → stmts_from ss i ≡ tree.MoreStmts (stmt s) (stmts_from ss (i + 1)) → stmts_from ss (i + 1) ≡ tree.MoreStmts (stmt t) r → is_begun (stmt s) ≡ true
      → in_list ss i n fs vs heap hosts beats steps out ≡ rest (control.Stmt s) n (frame.Next ss (i + 1) ∷ fs) vs heap hosts beats steps out
  unfolding in_list rest
  list_more ss i s t r e f h =
      ap (λ l. run out.world n (statements l script_env) (stack fs vs) (state_of heap hosts beats steps out)) (e ∙ ap (λ l. tree.MoreStmts (stmt s) l) f)
      ∙ (ap (λ p. run out.world n p (stack fs vs) (state_of heap hosts beats steps out)) (first_is (stmt s) (stmt t) r h)
      ∙ sym (ap (λ l. due out.world n (program (AStmt [] (stmt s)) script_env) (after_statement (statements l script_env) ∷ stack fs vs) (state_of heap hosts beats steps out)) f))

  pub list_unbuilt : (ss : List Stmt) (i : ℕ) → in_list ss i n fs vs heap hosts beats steps out ≡ rest (control.Unbuilt (unbuilt.List ss i)) n fs vs heap hosts beats steps out
  unfolding in_list rest
  list_unbuilt ss i = refl

-- ---- the cases of one call each

pub ruleset list_laws = (list_end, list_last, list_more, list_unbuilt)

pub ruleset if_laws = (v_if_true, v_if_else, v_if_without, v_if_none)
