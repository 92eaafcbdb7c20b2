-- What is left of a run in a `for-in`.
use Rattle.std.proofs.Common.{◌≡◌, ◌<◌, ℕ, ◌+◌, ◌-◌, Bool, true, false, List, [], ◌∷◌, ◌++◌, length, Option, Some, None, refl, sym, ap, ◌∙◌}
use Rattle.std.specs.Prelude.{is_some, if◌then◌else◌}
use Rattle.js_values.specs.declared.reason.Reason.TheVariants.{ReservedName}
use Rattle.js_values.specs.declared.value.ObjectId.{ObjectId}
use Rattle.js_values.specs.declared.value.Value.{Value}
use Rattle.js_values.specs.declared.value.Value.TheVariants as value
use Rattle.js_values.specs.Values.{text_of}
use Rattle.object_heap.specs.declared.built_in.BuiltIn.TheVariants as built
use Rattle.object_heap.specs.declared.object.Attrs.{Attrs}
use Rattle.object_heap.specs.Get.{has_property}
use Rattle.object_heap.specs.Names.{Name, is_reserved}
use Rattle.object_heap.specs.Objects.{Heap, attributes_of}
use Rattle.object_heap.specs.Put.{put, written}
use Rattle.object_heap.specs.Visited as visited
use Rattle.object_heap.specs.Visited.{Visit}
use Rattle.js_tree.specs.declared.tree.Expr.{Expr}
use Rattle.js_tree.specs.declared.tree.Stmt.{Stmt}
use Rattle.js_tree.specs.Plain.{expr, stmt}
use Rattle.js_tree.specs.Tree as tree
use Rattle.js_code.specs.Projections.{ForInTree, for_in_parts}
use Rattle.js_machine.specs.declared.frame.Frame.{Frame}
use Rattle.js_machine.specs.declared.frame.Frame.TheVariants as frame
use Rattle.js_machine.specs.declared.frame.Control.TheVariants as control
use Rattle.js_machine.specs.declared.frame.End.TheVariants as end
use Rattle.js_machine.specs.declared.frame.Unbuilt.TheVariants as unbuilt
use Rattle.js_machine.specs.declared.hosts.HostCall.{HostCall}
use Rattle.js_machine.specs.Asks.{Program, AnExpr, ATurn, Begin, Stop, Tick, Visible}
use Rattle.js_machine.specs.Built.{is_target}
use Rattle.js_machine.specs.Conversions.{HintString, to_name}
use Rattle.js_machine.specs.Converted.{enters_value}
use Rattle.exceptions_core.specs.declared.completion.Frame.TheVariants as frames
use Rattle.js_machine.specs.Frames.{at_frame, done, on_value}
use Rattle.js_machine.specs.Globals.{name_in}
use Rattle.js_machine.specs.Loops.{visit, visited_object, write_name}
use Rattle.js_machine.specs.Members.{dot_name, heap_put, is_base, is_index, is_put, object_of, text_in}
use Rattle.js_machine.specs.Page.{script_env}
use Rattle.js_machine.specs.Programs.{program}
use Rattle.js_machine.specs.References.{error_object, global_object, global_value, if_global, put_on, put_value, throws_reference_error}
use Rattle.js_machine.specs.References as references
use Rattle.js_machine.specs.Rest.{Outside, in_break, in_continue, in_done, in_for_in, in_named, in_object, in_stmt, in_value, in_visit, in_visit_key, in_visit_put, in_visits, rest, running, stack, state_of}
use Rattle.js_machine.specs.Run.{due}
use Rattle.js_machine.specs.Stacks.{top, below}
use Rattle.js_machine.specs.State.{is_length, object_value}
use Rattle.js_machine.specs.Statements.{statement}
use Rattle.js_machine.specs.Visiting.{before_visits, for_in_begun, from_next, is_there, named_turn, next_visit, on_base, on_key, visit_based, visit_begun, visit_on, visiting, visits_from, visits_left, visits_on, with_visits, without_visits}
use Rattle.js_machine.proofs.ConversionLaws.{text_throws}
use Rattle.js_machine.proofs.MemberLaws.{base_goes, base_throws, text_read}
use Rattle.js_machine.proofs.NameLaws.{put_bad, put_ok}
use Rattle.js_machine.proofs.StepLaws.{none, step}
use Rattle.js_machine.proofs.VisitLaws.{below_visits, stack_back, visits_back, visits_more}

-- ---- targets

data IsMember : tree.Expr → Type 0 where
  a_dot : (object : tree.Expr) (name : Name) → IsMember (tree.Dot object name)
  an_index : (object key : tree.Expr) → IsMember (tree.Index object key)

membered : (e : tree.Expr) → is_target e ≡ true → name_in e ≡ None → IsMember e
membered (tree.Num n) h g = cc
membered (tree.Str text) h g = cc
membered (tree.Truth b) h g = cc
membered tree.Null h g = cc
membered tree.This h g = cc
membered (tree.Ident name) h g = cc
membered (tree.Array es) h g = cc
membered (tree.Object ps) h g = cc
membered (tree.Function f) h g = cc
membered (tree.Dot object name) h g = a_dot object name
membered (tree.Index object key) h g = an_index object key
membered (tree.Call callee es) h g = cc
membered (tree.New callee es) h g = cc
membered (tree.Postfix target op) h g = cc
membered (tree.Prefix op operand) h g = cc
membered (tree.Binary op left right) h g = cc
membered (tree.And left right) h g = cc
membered (tree.Or left right) h g = cc
membered (tree.Comma left right) h g = cc
membered (tree.Cond test first second) h g = cc
membered (tree.Assign op target right) h g = cc
membered (tree.Late number) h g = cc

-- the base of a member is begun, behind its step
member_begun : (t : tree.Expr) (name : Name) (p : Program) → IsMember t → write_name (tree.Target t) name script_env p ≡ Tick (Begin (AnExpr (object_of t)) script_env (on_value (on_base t name p)))
member_begun target name p (a_dot object x) = refl
member_begun target name p (an_index object key) = refl

-- what is no target gives no reference
other_begun : (t : tree.Expr) (name : Name) (p : Program) → is_target t ≡ false → write_name (tree.Target t) name script_env p ≡ Begin (AnExpr t) script_env (on_value (on_base t name p))
other_begun (tree.Num n) name p h = refl
other_begun (tree.Str text) name p h = refl
other_begun (tree.Truth b) name p h = refl
other_begun tree.Null name p h = refl
other_begun tree.This name p h = refl
other_begun (tree.Ident x) name p h = cc
other_begun (tree.Array es) name p h = refl
other_begun (tree.Object ps) name p h = refl
other_begun (tree.Function f) name p h = refl
other_begun (tree.Dot object x) name p h = cc
other_begun (tree.Index object key) name p h = cc
other_begun (tree.Call callee es) name p h = refl
other_begun (tree.New callee es) name p h = refl
other_begun (tree.Postfix target op) name p h = refl
other_begun (tree.Prefix op operand) name p h = refl
other_begun (tree.Binary op left right) name p h = refl
other_begun (tree.And left right) name p h = refl
other_begun (tree.Or left right) name p h = refl
other_begun (tree.Comma left right) name p h = refl
other_begun (tree.Cond test first second) name p h = refl
other_begun (tree.Assign op target right) name p h = refl
other_begun (tree.Late number) name p h = refl

no_reference : (t : tree.Expr) (name : Name) (p : Program) (base : Value) → is_index t ≡ false → dot_name t ≡ None → on_base t name p base ≡ throws_reference_error
no_reference (tree.Num n) name p base h g = refl
no_reference (tree.Str text) name p base h g = refl
no_reference (tree.Truth b) name p base h g = refl
no_reference tree.Null name p base h g = refl
no_reference tree.This name p base h g = refl
no_reference (tree.Ident x) name p base h g = refl
no_reference (tree.Array es) name p base h g = refl
no_reference (tree.Object ps) name p base h g = refl
no_reference (tree.Function f) name p base h g = refl
no_reference (tree.Dot object x) name p base h g = cc
no_reference (tree.Index object key) name p base h g = cc
no_reference (tree.Call callee es) name p base h g = refl
no_reference (tree.New callee es) name p base h g = refl
no_reference (tree.Postfix target op) name p base h g = refl
no_reference (tree.Prefix op operand) name p base h g = refl
no_reference (tree.Binary op left right) name p base h g = refl
no_reference (tree.And left right) name p base h g = refl
no_reference (tree.Or left right) name p base h g = refl
no_reference (tree.Comma left right) name p base h g = refl
no_reference (tree.Cond test first second) name p base h g = refl
no_reference (tree.Assign op target right) name p base h g = refl
no_reference (tree.Late number) name p base h g = refl

-- a program that begins with a step
abbrev Ticks : Program → Type 0
Ticks p = (q : Program) × (p ≡ Tick q)

-- ---- visits

no_visits : (p : Option ForInTree) → visits_left p [] ≡ done
no_visits None = refl
no_visits (Some p) = refl

next_is_there : (heap : Heap) (list more : List Visit) (v : Visit) → from_next heap list ≡ v ∷ more → is_there heap v ≡ true
next_is_there heap [] more v e = cc
next_is_there heap (w ∷ list) more v e = by (is_there heap w) refl e (next_is_there heap list more v)
  where
    first_of : List Visit → Visit
    first_of [] = w
    first_of (x ∷ xs) = x

    by : (b : Bool) → is_there heap w ≡ b → (if b then w ∷ list else from_next heap list) ≡ v ∷ more → (from_next heap list ≡ v ∷ more → is_there heap v ≡ true) → is_there heap v ≡ true
    by true h e next = ap (is_there heap) (sym (ap first_of e)) ∙ h
    by false h e next = next e

module _ (n : ℕ) (fs : List Frame) (vs : List Value) (heap : Heap) (hosts : List HostCall) (beats steps : ℕ) (out : Outside) where
  -- a visit whose object has its name, or not
  by_found : (p : ForInTree) (v : Visit) (more : List Visit) (found : Option Attrs) → attributes_of heap v.0 v.1 ≡ found
      → running (visits_left (Some p) more) n fs vs heap hosts beats steps out ≡ running (visits_left (Some p) (from_next heap more)) n fs vs heap hosts beats steps out
      → running (visit [] p.target p.body script_env v.1 (visits_left (Some p) more) found) n fs vs heap hosts beats steps out ≡ running (visits_left (Some p) (if is_some found then v ∷ more else from_next heap more)) n fs vs heap hosts beats steps out
  by_found p v more None e h = h
  by_found p v more (Some a) e h = sym (ap (λ found. running (visit [] p.target p.body script_env v.1 (visits_left (Some p) more) found) n fs vs heap hosts beats steps out) e)

  skipping : (p : Option ForInTree) (list : List Visit) → running (visits_left p list) n fs vs heap hosts beats steps out ≡ running (visits_left p (from_next heap list)) n fs vs heap hosts beats steps out
  skipping None list = refl
  skipping (Some p) [] = refl
  skipping (Some p) (v ∷ more) = by_found p v more (attributes_of heap v.0 v.1) refl (skipping (Some p) more)

  turning : (p : Option ForInTree) (v : Visit) (more : List Visit) → is_there heap v ≡ true → running (visits_left p (v ∷ more)) n fs vs heap hosts beats steps out ≡ running (visit_begun p v.1 more) n fs vs heap hosts beats steps out
  turning None v more h = refl
  turning (Some p) v more h = by (attributes_of heap v.0 v.1) h
    where
      by : (found : Option Attrs) → is_some found ≡ true → running (visit [] p.target p.body script_env v.1 (visits_left (Some p) more) found) n fs vs heap hosts beats steps out ≡ running (visit_begun (Some p) v.1 more) n fs vs heap hosts beats steps out
      by None h = cc
      by (Some a) h = refl

module _ (n : ℕ) (fs : List Frame) (vs : List Value) (heap : Heap) (hosts : List HostCall) (beats steps : ℕ) (out : Outside) where
  -- ---- the header

  pub in_for_in_statement : (s : Stmt) (t : tree.ForTarget) (o : tree.Expr) (b : tree.Stmt) → stmt s ≡ tree.ForIn t o b → in_stmt (stmt s) n fs vs heap hosts beats steps out ≡ in_for_in s n fs vs heap hosts beats steps out
  unfolding in_stmt in_for_in
  in_for_in_statement s t o b e =
      ap (λ q. running (statement [] q script_env) n fs vs heap hosts beats steps out) e
      ∙ sym (ap (λ q. running (for_in_begun (for_in_parts q)) n fs vs heap hosts beats steps out) e)

  pub begun_none : (s : Stmt) → for_in_parts (stmt s) ≡ None → in_for_in s n fs vs heap hosts beats steps out ≡ rest control.Done n fs vs heap hosts beats steps out
  unfolding in_for_in rest
  begun_none s e = ap (λ p. running (for_in_begun p) n fs vs heap hosts beats steps out) e

  pub begun_target : (s : Stmt) (t o : tree.Expr) (b : tree.Stmt) → for_in_parts (stmt s) ≡ Some (record { target = tree.Target t; object = o; body = b }) → in_for_in s n fs vs heap hosts beats steps out ≡ in_object s n fs vs heap hosts beats steps out
  unfolding in_for_in in_object
  begun_target s t o b e =
      ap (λ p. running (for_in_begun p) n fs vs heap hosts beats steps out) e
      ∙ sym (ap (λ p. running (before_visits p) n fs vs heap hosts beats steps out) e)

  pub begun_var : (s : Stmt) (x : Name) (o : tree.Expr) (b : tree.Stmt) → for_in_parts (stmt s) ≡ Some (record { target = tree.AVar x tree.NoExpr; object = o; body = b }) → in_for_in s n fs vs heap hosts beats steps out ≡ in_object s n fs vs heap hosts beats steps out
  unfolding in_for_in in_object
  begun_var s x o b e =
      ap (λ p. running (for_in_begun p) n fs vs heap hosts beats steps out) e
      ∙ sym (ap (λ p. running (before_visits p) n fs vs heap hosts beats steps out) e)

  resolved : (x : Name) (e : tree.Expr) (p : ForInTree) (has : Bool)
      → due out.world n (program (AnExpr e) script_env) (on_value (λ v. put_value (if_global x has) v (before_visits (Some p))) ∷ stack fs vs) (state_of heap hosts beats steps out)
      ≡ due out.world n (program (AnExpr e) script_env) (on_value (λ v. references.put global_object x v (before_visits (Some p))) ∷ stack fs vs) (state_of heap hosts beats steps out)
  resolved x e p true = refl
  resolved x e p false = refl

  pub begun_from : (s : Stmt) (x : Name) (e : Expr) (o : tree.Expr) (b : tree.Stmt) → for_in_parts (stmt s) ≡ Some (record { target = tree.AVar x (tree.AnExpr (expr e)); object = o; body = b })
      → in_for_in s n fs vs heap hosts beats steps out ≡ rest (control.Expr e) n (frame.VisitsFrom s ∷ fs) vs heap hosts beats steps out
  unfolding in_for_in rest
  begun_from s x e o b f =
      ap (λ p. running (for_in_begun p) n fs vs heap hosts beats steps out) f
      ∙ (resolved x (expr e) (record { target = tree.AVar x (tree.AnExpr (expr e)); object = o; body = b }) (has_property heap global_object x)
      ∙ sym (ap (λ p. due out.world n (program (AnExpr (expr e)) script_env) (on_value (visits_from p) ∷ stack fs vs) (state_of heap hosts beats steps out)) f))

  pub object_none : (s : Stmt) → for_in_parts (stmt s) ≡ None → in_object s n fs vs heap hosts beats steps out ≡ rest control.Done n fs vs heap hosts beats steps out
  unfolding in_object rest
  object_none s e = ap (λ p. running (before_visits p) n fs vs heap hosts beats steps out) e

  pub object_begun : (s : Stmt) (t : tree.ForTarget) (o : Expr) (b : tree.Stmt) → for_in_parts (stmt s) ≡ Some (record { target = t; object = expr o; body = b })
      → in_object s n fs vs heap hosts beats steps out ≡ rest (control.Expr o) n (frame.Visits s ∷ fs) vs heap hosts beats steps out
  unfolding in_object rest
  object_begun s t o b e =
      ap (λ p. running (before_visits p) n fs vs heap hosts beats steps out) e
      ∙ sym (ap (λ p. due out.world n (program (AnExpr (expr o)) script_env) (on_value (visiting p) ∷ stack fs vs) (state_of heap hosts beats steps out)) e)

  pub from_none : (s : Stmt) → for_in_parts (stmt s) ≡ None → in_value (frame.VisitsFrom s) n fs vs heap hosts beats steps out ≡ rest control.Done n fs (below vs) heap hosts beats steps out
  unfolding in_value rest
  from_none s e = ap (λ p. running (visits_from p (top vs)) n fs (below vs) heap hosts beats steps out) e

  pub from_target : (s : Stmt) (t o : tree.Expr) (b : tree.Stmt) → for_in_parts (stmt s) ≡ Some (record { target = tree.Target t; object = o; body = b })
      → in_value (frame.VisitsFrom s) n fs vs heap hosts beats steps out ≡ in_object s n fs (below vs) heap hosts beats steps out
  unfolding in_value in_object
  from_target s t o b e =
      ap (λ p. running (visits_from p (top vs)) n fs (below vs) heap hosts beats steps out) e
      ∙ sym (ap (λ p. running (before_visits p) n fs (below vs) heap hosts beats steps out) e)

  pub from_var : (s : Stmt) (x : Name) (e : tree.MaybeExpr) (o : tree.Expr) (b : tree.Stmt) → for_in_parts (stmt s) ≡ Some (record { target = tree.AVar x e; object = o; body = b }) → is_length (put heap global_object x (top vs)) ≡ true
      → in_value (frame.VisitsFrom s) n fs vs heap hosts beats steps out ≡ in_object s n fs (below vs) (written heap global_object x (top vs)) hosts beats steps out
  unfolding in_value in_object
  from_var s x e o b f h =
      ap (λ p. running (visits_from p (top vs)) n fs (below vs) heap hosts beats steps out) f
      ∙ (put_ok n fs (below vs) heap hosts beats steps out global_object x (top vs) (before_visits (Some (record { target = tree.AVar x e; object = o; body = b }))) h
      ∙ sym (ap (λ p. running (before_visits p) n fs (below vs) (written heap global_object x (top vs)) hosts beats steps out) f))

  pub from_bad : (s : Stmt) (t : tree.ForTarget) (x : Name) (e : tree.MaybeExpr) (o : tree.Expr) (b : tree.Stmt) (v : Value) (ws : List Value) (after : Heap) → for_in_parts (stmt s) ≡ Some (record { target = t; object = o; body = b }) → t ≡ tree.AVar x e → v ≡ top vs → ws ≡ below vs
      → after ≡ written heap global_object x v → is_length (put heap global_object x v) ≡ false
      → in_value (frame.VisitsFrom s) n fs vs heap hosts beats steps out ≡ rest control.Throw n fs (object_value (length after) ∷ ws) (after ++ error_object built.RangeErrorPrototype ∷ []) hosts beats steps out
  unfolding in_value
  from_bad s t x e o b v ws after f var is rest_is g h =
      let parts : ForInTree = record { target = tree.AVar x e; object = o; body = b } in
      ap (λ p. running (visits_from p (top vs)) n fs (below vs) heap hosts beats steps out) f
      ∙ (ap (λ t. running (visits_from (Some (record { target = t; object = o; body = b })) (top vs)) n fs (below vs) heap hosts beats steps out) var
      ∙ (sym (ap (λ v. running (visits_from (Some parts) v) n fs (below vs) heap hosts beats steps out) is)
      ∙ (put_bad n fs (below vs) heap hosts beats steps out global_object x v (before_visits (Some parts)) h
      ∙ (sym (ap (λ after. rest control.Throw n fs (object_value (length after) ∷ below vs) (after ++ error_object built.RangeErrorPrototype ∷ []) hosts beats steps out) g)
      ∙ sym (ap (λ ws. rest control.Throw n fs (object_value (length after) ∷ ws) (after ++ error_object built.RangeErrorPrototype ∷ []) hosts beats steps out) rest_is)))))

  -- ---- the object has its value

  pub visits_bad : (s : Stmt) (v : Value) → v ≡ top vs → is_base v ≡ false
      → in_value (frame.Visits s) n fs vs heap hosts beats steps out ≡ rest control.Throw n fs (object_value (length heap) ∷ below vs) (heap ++ error_object built.TypeErrorPrototype ∷ []) hosts beats steps out
  unfolding in_value rest
  visits_bad s v e h = ap (λ p. running p n fs (below vs) heap hosts beats steps out) (base_throws (top vs) (Visible (visited_object (top vs)) (visits_left (for_in_parts (stmt s)))) (sym (ap is_base e) ∙ h))

  pub visits_begun : (s : Stmt) (v : Value) (o count : ℕ) (ws : List Value) → v ≡ top vs → is_base v ≡ true → o ≡ visited_object v → count ≡ length (visited.visits heap o) → ws ≡ with_visits (visited.visits heap o) (below vs)
      → in_value (frame.Visits s) n fs vs heap hosts beats steps out ≡ in_visits count s n fs ws heap hosts beats steps out
  unfolding in_value in_visits
  visits_begun s v o count ws e h f g k =
      let list : List Visit = visited.visits heap o in
      let parts : Option ForInTree = for_in_parts (stmt s) in
      ap (λ p. running p n fs (below vs) heap hosts beats steps out) (base_goes (top vs) (Visible (visited_object (top vs)) (visits_left parts)) (sym (ap is_base e) ∙ h))
      ∙ (sym (ap (λ o. running (visits_left parts (visited.visits heap o)) n fs (below vs) heap hosts beats steps out) (f ∙ ap visited_object e))
      ∙ sym (ap (λ ws. running (visits_left parts (visits_on count ws)) n fs (without_visits count ws) heap hosts beats steps out) k
      ∙ (ap (λ count. running (visits_left parts (visits_on count (with_visits list (below vs)))) n fs (without_visits count (with_visits list (below vs))) heap hosts beats steps out) g
      ∙ (ap (λ list'. running (visits_left parts list') n fs (without_visits (length list) (with_visits list (below vs))) heap hosts beats steps out) (visits_back list (below vs))
      ∙ ap (λ us. running (visits_left parts list) n fs us heap hosts beats steps out) (stack_back list (below vs))))))

  -- ---- the next turn

  skipped_to : (count left : ℕ) (s : Stmt) (ws : List Value) → visits_on left ws ≡ from_next heap (visits_on count vs) → without_visits left ws ≡ without_visits count vs
      → running (visits_left (for_in_parts (stmt s)) (visits_on count vs)) n fs (without_visits count vs) heap hosts beats steps out ≡ running (visits_left (for_in_parts (stmt s)) (visits_on left ws)) n fs (without_visits left ws) heap hosts beats steps out
  skipped_to count left s ws e f =
      sym (ap (λ us. running (visits_left (for_in_parts (stmt s)) (visits_on count vs)) n fs us heap hosts beats steps out) f)
      ∙ (skipping n fs (without_visits left ws) heap hosts beats steps out (for_in_parts (stmt s)) (visits_on count vs)
      ∙ sym (ap (λ list. running (visits_left (for_in_parts (stmt s)) list) n fs (without_visits left ws) heap hosts beats steps out) e))

  pub next_none : (count left : ℕ) (s : Stmt) (ws : List Value) → visits_on left ws ≡ from_next heap (visits_on count vs) → without_visits left ws ≡ without_visits count vs → left ≡ 0
      → in_visits count s n fs vs heap hosts beats steps out ≡ rest control.Done n fs ws heap hosts beats steps out
  unfolding in_visits rest
  next_none count left s ws e f h =
      skipped_to count left s ws e f
      ∙ (ap (λ k. running (visits_left (for_in_parts (stmt s)) (visits_on k ws)) n fs (without_visits k ws) heap hosts beats steps out) h
      ∙ ap (λ p. running p n fs ws heap hosts beats steps out) (no_visits (for_in_parts (stmt s))))

  pub next_begun : (count left : ℕ) (s : Stmt) (ws : List Value) → visits_on left ws ≡ from_next heap (visits_on count vs) → without_visits left ws ≡ without_visits count vs → 0 < left
      → in_visits count s n fs vs heap hosts beats steps out ≡ in_visit (left - 1) s n fs (below ws) heap hosts beats steps out
  unfolding in_visits in_visit
  next_begun count left s ws e f h =
      let more : List Visit = visits_on (left - 1) (below (below ws)) in
      skipped_to count left s ws e f
      ∙ (ap (λ list. running (visits_left (for_in_parts (stmt s)) list) n fs (without_visits left ws) heap hosts beats steps out) (visits_more left ws h)
      ∙ (turning n fs (without_visits left ws) heap hosts beats steps out (for_in_parts (stmt s)) (visit_on ws) more (next_is_there heap (visits_on count vs) more (visit_on ws) (sym e ∙ visits_more left ws h))
      ∙ ap (λ us. running (visit_begun (for_in_parts (stmt s)) (text_in (top (below ws))) more) n fs us heap hosts beats steps out) (below_visits left ws h)))

  -- ---- the target of a turn

  abbrev name_on : Name
  name_on = text_in (top vs)

  abbrev turns : ℕ → Stmt → Program
  turns left s = named_turn (for_in_parts (stmt s)) (visits_on left (below vs))

  abbrev stack_under : ℕ → List Value
  stack_under left = without_visits left (below vs)

  pub visit_none : (left : ℕ) (s : Stmt) → for_in_parts (stmt s) ≡ None → in_visit left s n fs vs heap hosts beats steps out ≡ rest control.Done n fs (without_visits left (below vs)) heap hosts beats steps out
  unfolding in_visit rest
  visit_none left s e = ap (λ p. running (visit_begun p name_on (visits_on left (below vs))) n fs (stack_under left) heap hosts beats steps out) e

  global_put : (x : Name) (v : Value) (p : Program) (has : Bool) → put_value (if_global x has) v p ≡ put_on global_value x v p
  global_put x v p true = refl
  global_put x v p false = refl

  pub visit_var : (left : ℕ) (s : Stmt) (x : Name) (e : tree.MaybeExpr) (o : tree.Expr) (b : tree.Stmt) → for_in_parts (stmt s) ≡ Some (record { target = tree.AVar x e; object = o; body = b })
      → in_visit left s n fs vs heap hosts beats steps out ≡ in_visit_put left s global_value x n fs vs heap hosts beats steps out
  unfolding in_visit in_visit_put
  visit_var left s x e o b f =
      ap (λ p. running (visit_begun p name_on (visits_on left (below vs))) n fs (stack_under left) heap hosts beats steps out) f
      ∙ (ap (λ p. running p n fs (stack_under left) heap hosts beats steps out) (global_put x (value.Str name_on) (named_turn (Some (record { target = tree.AVar x e; object = o; body = b })) (visits_on left (below vs))) (has_property heap global_object x))
      ∙ sym (ap (λ p. running (put_on global_value x (value.Str name_on) (named_turn p (visits_on left (below vs)))) n fs (stack_under left) heap hosts beats steps out) f))

  -- the parts of a loop whose target is an expression
  abbrev parts_of : tree.Expr → tree.Expr → tree.Stmt → ForInTree
  parts_of t o b = record { target = tree.Target t; object = o; body = b }

  pub visit_other : (left : ℕ) (s : Stmt) (t : Expr) (o : tree.Expr) (b : tree.Stmt) → for_in_parts (stmt s) ≡ Some (parts_of (expr t) o b) → is_target (expr t) ≡ false
      → in_visit left s n fs vs heap hosts beats steps out ≡ rest (control.Expr t) n (frame.VisitBase left s ∷ fs) vs heap hosts beats steps out
  unfolding in_visit rest
  visit_other left s t o b f h =
      ap (λ p. running (visit_begun p name_on (visits_on left (below vs))) n fs (stack_under left) heap hosts beats steps out) f
      ∙ (ap (λ p. running p n fs (stack_under left) heap hosts beats steps out) (other_begun (expr t) name_on (named_turn (Some (parts_of (expr t) o b)) (visits_on left (below vs))) h)
      ∙ sym (ap (λ p. due out.world n (program (AnExpr (expr t)) script_env) (on_value (visit_based p name_on (visits_on left (below vs))) ∷ stack fs (stack_under left)) (state_of heap hosts beats steps out)) f))

  ticks : (t : tree.Expr) → is_target t ≡ true → (name : Name) (p : Program) → Ticks (write_name (tree.Target t) name script_env p)
  ticks (tree.Num m) h name p = cc
  ticks (tree.Str text) h name p = cc
  ticks (tree.Truth b) h name p = cc
  ticks tree.Null h name p = cc
  ticks tree.This h name p = cc
  ticks (tree.Ident x) h name p = (_, refl)
  ticks (tree.Array es) h name p = cc
  ticks (tree.Object ps) h name p = cc
  ticks (tree.Function f) h name p = cc
  ticks (tree.Dot object x) h name p = (_, refl)
  ticks (tree.Index object key) h name p = (_, refl)
  ticks (tree.Call callee es) h name p = cc
  ticks (tree.New callee es) h name p = cc
  ticks (tree.Postfix target op) h name p = cc
  ticks (tree.Prefix op operand) h name p = cc
  ticks (tree.Binary op left right) h name p = cc
  ticks (tree.And left right) h name p = cc
  ticks (tree.Or left right) h name p = cc
  ticks (tree.Comma left right) h name p = cc
  ticks (tree.Cond test first second) h name p = cc
  ticks (tree.Assign op target right) h name p = cc
  ticks (tree.Late number) h name p = cc

  pub visit_out : (left : ℕ) (s : Stmt) (t o : tree.Expr) (b : tree.Stmt) → for_in_parts (stmt s) ≡ Some (parts_of t o b) → is_target t ≡ true → n ≡ 0
      → in_visit left s n fs vs heap hosts beats steps out ≡ rest (control.End end.OutOfSteps) n fs vs heap hosts beats steps out
  unfolding in_visit rest
  visit_out left s t o b f h g =
      let begun : Ticks (write_name (tree.Target t) name_on script_env (named_turn (Some (parts_of t o b)) (visits_on left (below vs)))) = ticks t h name_on (named_turn (Some (parts_of t o b)) (visits_on left (below vs))) in
      ap (λ p. running (visit_begun p name_on (visits_on left (below vs))) n fs (stack_under left) heap hosts beats steps out) f
      ∙ (ap (λ p. running p n fs (stack_under left) heap hosts beats steps out) begun.1
      ∙ none n fs (stack_under left) heap hosts beats steps out begun.0 g)

  pub visit_name : (left : ℕ) (s : Stmt) (t o : tree.Expr) (b : tree.Stmt) (x : Name) → for_in_parts (stmt s) ≡ Some (parts_of t o b) → t ≡ tree.Ident x → (n ≡ 0 → ⊥)
      → in_visit left s n fs vs heap hosts beats steps out ≡ in_visit_put left s global_value x (n - 1) fs vs heap hosts beats (steps + 1) out
  unfolding in_visit in_visit_put
  visit_name left s t o b x f g h =
      let parts : for_in_parts (stmt s) ≡ Some (parts_of (tree.Ident x) o b) = f ∙ ap (λ t. Some (parts_of t o b)) g in
      let p : Program = named_turn (Some (parts_of (tree.Ident x) o b)) (visits_on left (below vs)) in
      ap (λ p. running (visit_begun p name_on (visits_on left (below vs))) n fs (stack_under left) heap hosts beats steps out) parts
      ∙ (step n fs (stack_under left) heap hosts beats steps out (references.resolve script_env.chain x (λ it. put_value it (value.Str name_on) p)) h
      ∙ (ap (λ q. running q (n - 1) fs (stack_under left) heap hosts beats (steps + 1) out) (global_put x (value.Str name_on) p (has_property heap global_object x))
      ∙ sym (ap (λ p. running (put_on global_value x (value.Str name_on) (named_turn p (visits_on left (below vs)))) (n - 1) fs (stack_under left) heap hosts beats (steps + 1) out) parts)))

  pub visit_member : (left : ℕ) (s : Stmt) (t object : Expr) (o : tree.Expr) (b : tree.Stmt) → for_in_parts (stmt s) ≡ Some (parts_of (expr t) o b) → is_target (expr t) ≡ true → name_in (expr t) ≡ None → (n ≡ 0 → ⊥) → expr object ≡ object_of (expr t)
      → in_visit left s n fs vs heap hosts beats steps out ≡ rest (control.Expr object) (n - 1) (frame.VisitBase left s ∷ fs) vs heap hosts beats (steps + 1) out
  unfolding in_visit rest
  visit_member left s t object o b f h g k e =
      let p : Program = named_turn (Some (parts_of (expr t) o b)) (visits_on left (below vs)) in
      ap (λ p. running (visit_begun p name_on (visits_on left (below vs))) n fs (stack_under left) heap hosts beats steps out) f
      ∙ (ap (λ q. running q n fs (stack_under left) heap hosts beats steps out) (member_begun (expr t) name_on p (membered (expr t) h g))
      ∙ (step n fs (stack_under left) heap hosts beats steps out (Begin (AnExpr (object_of (expr t))) script_env (on_value (on_base (expr t) name_on p))) k
      ∙ (sym (ap (λ e. due out.world (n - 1) (program (AnExpr e) script_env) (on_value (on_base (expr t) name_on p) ∷ stack fs (stack_under left)) (state_of heap hosts beats (steps + 1) out)) e)
      ∙ sym (ap (λ p. due out.world (n - 1) (program (AnExpr (expr object)) script_env) (on_value (visit_based p name_on (visits_on left (below vs))) ∷ stack fs (stack_under left)) (state_of heap hosts beats (steps + 1) out)) f))))

  -- ---- the base of the target has its value

  abbrev over_base : ℕ → Stmt → Option ForInTree → Program
  over_base left s p = visit_based p (text_in (top (below vs))) (visits_on left (below (below vs))) (top vs)

  pub base_none : (left : ℕ) (s : Stmt) → for_in_parts (stmt s) ≡ None → in_value (frame.VisitBase left s) n fs vs heap hosts beats steps out ≡ rest control.Done n fs (without_visits left (below (below vs))) heap hosts beats steps out
  unfolding in_value rest
  base_none left s e = ap (λ p. running (over_base left s p) n fs (without_visits left (below (below vs))) heap hosts beats steps out) e

  pub base_var : (left : ℕ) (s : Stmt) (x : Name) (e : tree.MaybeExpr) (o : tree.Expr) (b : tree.Stmt) → for_in_parts (stmt s) ≡ Some (record { target = tree.AVar x e; object = o; body = b })
      → in_value (frame.VisitBase left s) n fs vs heap hosts beats steps out ≡ rest control.Throw n fs (object_value (length heap) ∷ without_visits left (below (below vs))) (heap ++ error_object built.ReferenceErrorPrototype ∷ []) hosts beats steps out
  unfolding in_value rest
  base_var left s x e o b f = ap (λ p. running (over_base left s p) n fs (without_visits left (below (below vs))) heap hosts beats steps out) f

  pub base_index : (left : ℕ) (s : Stmt) (t object key : Expr) (o : tree.Expr) (b : tree.Stmt) → for_in_parts (stmt s) ≡ Some (parts_of (expr t) o b) → expr t ≡ tree.Index (expr object) (expr key)
      → in_value (frame.VisitBase left s) n fs vs heap hosts beats steps out ≡ rest (control.Expr key) n (frame.VisitKey left s ∷ fs) vs heap hosts beats steps out
  unfolding in_value rest
  base_index left s t object key o b f g =
      let parts : for_in_parts (stmt s) ≡ Some (parts_of (tree.Index (expr object) (expr key)) o b) = f ∙ ap (λ t. Some (parts_of t o b)) g in
      ap (λ p. running (over_base left s p) n fs (without_visits left (below (below vs))) heap hosts beats steps out) parts
      ∙ sym (ap (λ p. due out.world n (program (AnExpr (expr key)) script_env) (on_value (on_key (top vs) (text_in (top (below vs))) (named_turn p (visits_on left (below (below vs))))) ∷ stack fs (without_visits left (below (below vs)))) (state_of heap hosts beats steps out)) parts)

  pub base_other : (left : ℕ) (s : Stmt) (t : Expr) (o : tree.Expr) (b : tree.Stmt) → for_in_parts (stmt s) ≡ Some (parts_of (expr t) o b) → is_index (expr t) ≡ false → dot_name (expr t) ≡ None
      → in_value (frame.VisitBase left s) n fs vs heap hosts beats steps out ≡ rest control.Throw n fs (object_value (length heap) ∷ without_visits left (below (below vs))) (heap ++ error_object built.ReferenceErrorPrototype ∷ []) hosts beats steps out
  unfolding in_value rest
  base_other left s t o b f h g =
      ap (λ p. running (over_base left s p) n fs (without_visits left (below (below vs))) heap hosts beats steps out) f
      ∙ ap (λ p. running p n fs (without_visits left (below (below vs))) heap hosts beats steps out) (no_reference (expr t) (text_in (top (below vs))) (named_turn (Some (parts_of (expr t) o b)) (visits_on left (below (below vs)))) (top vs) h g)

  pub base_bad : (left : ℕ) (s : Stmt) (t object : Expr) (x : Name) (base : Value) (o : tree.Expr) (b : tree.Stmt) → for_in_parts (stmt s) ≡ Some (parts_of (expr t) o b) → expr t ≡ tree.Dot (expr object) x → base ≡ top vs → is_base base ≡ false
      → in_value (frame.VisitBase left s) n fs vs heap hosts beats steps out ≡ rest control.Throw n fs (object_value (length heap) ∷ without_visits left (below (below vs))) (heap ++ error_object built.TypeErrorPrototype ∷ []) hosts beats steps out
  unfolding in_value rest
  base_bad left s t object x base o b f g k h =
      let parts : for_in_parts (stmt s) ≡ Some (parts_of (tree.Dot (expr object) x) o b) = f ∙ ap (λ t. Some (parts_of t o b)) g in
      ap (λ p. running (over_base left s p) n fs (without_visits left (below (below vs))) heap hosts beats steps out) parts
      ∙ ap (λ p. running p n fs (without_visits left (below (below vs))) heap hosts beats steps out) (base_throws (top vs) (put_on (top vs) x (value.Str (text_in (top (below vs)))) (named_turn (Some (parts_of (tree.Dot (expr object) x) o b)) (visits_on left (below (below vs))))) (sym (ap is_base k) ∙ h))

  pub base_dot : (left : ℕ) (s : Stmt) (t object : Expr) (x : Name) (base : Value) (o : tree.Expr) (b : tree.Stmt) → for_in_parts (stmt s) ≡ Some (parts_of (expr t) o b) → expr t ≡ tree.Dot (expr object) x → base ≡ top vs → is_base base ≡ true
      → in_value (frame.VisitBase left s) n fs vs heap hosts beats steps out ≡ in_visit_put left s base x n fs (below vs) heap hosts beats steps out
  unfolding in_value in_visit_put
  base_dot left s t object x base o b f g k h =
      let parts : for_in_parts (stmt s) ≡ Some (parts_of (tree.Dot (expr object) x) o b) = f ∙ ap (λ t. Some (parts_of t o b)) g in
      ap (λ p. running (over_base left s p) n fs (without_visits left (below (below vs))) heap hosts beats steps out) parts
      ∙ (ap (λ p. running p n fs (without_visits left (below (below vs))) heap hosts beats steps out) (base_goes (top vs) (put_on (top vs) x (value.Str (text_in (top (below vs)))) (named_turn (Some (parts_of (tree.Dot (expr object) x) o b)) (visits_on left (below (below vs))))) (sym (ap is_base k) ∙ h))
      ∙ (sym (ap (λ base. running (put_on base x (value.Str (text_in (top (below vs)))) (named_turn (Some (parts_of (tree.Dot (expr object) x) o b)) (visits_on left (below (below vs))))) n fs (without_visits left (below (below vs))) heap hosts beats steps out) k)
      ∙ sym (ap (λ p. running (put_on base x (value.Str (text_in (top (below vs)))) (named_turn p (visits_on left (below (below vs))))) n fs (without_visits left (below (below vs))) heap hosts beats steps out) parts)))

  -- ---- its key has

  abbrev key_turns : ℕ → Stmt → Program
  key_turns left s = named_turn (for_in_parts (stmt s)) (visits_on left (below (below (below vs))))

  abbrev key_stack : ℕ → List Value
  key_stack left = without_visits left (below (below (below vs)))

  abbrev key_name : Name
  key_name = text_in (top (below (below vs)))

  abbrev on_name : Value → ℕ → Stmt → Name → Program
  on_name base left s x = put_on base x (value.Str key_name) (key_turns left s)

  pub key_bad : (left : ℕ) (s : Stmt) (base : Value) → base ≡ top (below vs) → is_base base ≡ false
      → in_value (frame.VisitKey left s) n fs vs heap hosts beats steps out ≡ rest control.Throw n fs (object_value (length heap) ∷ without_visits left (below (below (below vs)))) (heap ++ error_object built.TypeErrorPrototype ∷ []) hosts beats steps out
  unfolding in_value rest
  key_bad left s base k h = ap (λ p. running p n fs (key_stack left) heap hosts beats steps out) (base_throws (top (below vs)) (to_name (top vs) (on_name (top (below vs)) left s)) (sym (ap is_base k) ∙ h))

  pub key_named : (left : ℕ) (s : Stmt) (base key : Value) (x : Name) → base ≡ top (below vs) → key ≡ top vs → is_base base ≡ true → text_of key ≡ Some x
      → in_value (frame.VisitKey left s) n fs vs heap hosts beats steps out ≡ in_visit_key left s base x n fs (below (below vs)) heap hosts beats steps out
  unfolding in_value in_visit_key
  key_named left s base key x k l h t =
      ap (λ p. running p n fs (key_stack left) heap hosts beats steps out) (base_goes (top (below vs)) (to_name (top vs) (on_name (top (below vs)) left s)) (sym (ap is_base k) ∙ h))
      ∙ (ap (λ p. running p n fs (key_stack left) heap hosts beats steps out) (text_read (top vs) x (λ x. if is_reserved x then Stop ReservedName else on_name (top (below vs)) left s x) (sym (ap text_of l) ∙ t))
      ∙ sym (ap (λ base. running (if is_reserved x then Stop ReservedName else on_name base left s x) n fs (key_stack left) heap hosts beats steps out) k))

  pub key_throws : (left : ℕ) (s : Stmt) (base key : Value) → base ≡ top (below vs) → key ≡ top vs → is_base base ≡ true → text_of key ≡ None → enters_value heap hosts HintString key ≡ false
      → in_value (frame.VisitKey left s) n fs vs heap hosts beats steps out ≡ rest control.Throw n fs (object_value (length heap) ∷ without_visits left (below (below (below vs)))) (heap ++ error_object built.TypeErrorPrototype ∷ []) hosts beats steps out
  unfolding in_value rest
  key_throws left s base key k l h t g =
      ap (λ p. running p n fs (key_stack left) heap hosts beats steps out) (base_goes (top (below vs)) (to_name (top vs) (on_name (top (below vs)) left s)) (sym (ap is_base k) ∙ h))
      ∙ text_throws n fs (key_stack left) heap hosts beats steps out (top vs) (λ x. if is_reserved x then Stop ReservedName else on_name (top (below vs)) left s x) (sym (ap text_of l) ∙ t) (sym (ap (enters_value heap hosts HintString) l) ∙ g)

  pub key_asks : (left : ℕ) (s : Stmt) (ws : List Value) → top ws ≡ top vs → top (below ws) ≡ top (below vs) → below (below ws) ≡ below (below vs)
      → in_value (frame.VisitKey left s) n fs vs heap hosts beats steps out ≡ rest (control.Unbuilt unbuilt.Give) n (frame.VisitKey left s ∷ fs) ws heap hosts beats steps out
  unfolding in_value rest
  key_asks left s ws k l h =
      ap (λ w. running (keyed (top (below vs)) (below (below vs)) w) n fs (without_visits left (below (below (below vs)))) heap hosts beats steps out) (sym k)
      ∙ (ap (λ b. running (keyed b (below (below vs)) (top ws)) n fs (without_visits left (below (below (below vs)))) heap hosts beats steps out) (sym l)
      ∙ ap (λ us. running (keyed (top (below ws)) us (top ws)) n fs (without_visits left (below us)) heap hosts beats steps out) (sym h))
    where
      keyed : Value → List Value → Value → Program
      keyed base us key = on_key base (text_in (top us)) (named_turn (for_in_parts (stmt s)) (visits_on left (below us))) key

  pub name_stops : (left : ℕ) (s : Stmt) (base : Value) (x : Name) → is_reserved x ≡ true → in_visit_key left s base x n fs vs heap hosts beats steps out ≡ rest (control.End (end.Stopped ReservedName)) n fs vs heap hosts beats steps out
  unfolding in_visit_key rest
  name_stops left s base x h = ap (λ b. running (if b then Stop ReservedName else put_on base x (value.Str name_on) (turns left s)) n fs (stack_under left) heap hosts beats steps out) h

  pub name_used : (left : ℕ) (s : Stmt) (base : Value) (x : Name) → is_reserved x ≡ false → in_visit_key left s base x n fs vs heap hosts beats steps out ≡ in_visit_put left s base x n fs vs heap hosts beats steps out
  unfolding in_visit_key in_visit_put
  name_used left s base x h = ap (λ b. running (if b then Stop ReservedName else put_on base x (value.Str name_on) (turns left s)) n fs (stack_under left) heap hosts beats steps out) h

  -- ---- the name of a turn is written, and the body begun

  pub global_base : (left : ℕ) (s : Stmt) (base : Value) (o : ObjectId) (x : Name) → base ≡ value.Object o → o.0 ≡ global_object → in_visit_put left s global_value x n fs vs heap hosts beats steps out ≡ in_visit_put left s base x n fs vs heap hosts beats steps out
  unfolding in_visit_put
  global_base left s base o x e f =
      sym (ap (λ base. running (put_on base x (value.Str name_on) (turns left s)) n fs (stack_under left) heap hosts beats steps out) e
      ∙ ap (λ k. running (put_on (object_value k) x (value.Str name_on) (turns left s)) n fs (stack_under left) heap hosts beats steps out) f)

  pub put_done : (left : ℕ) (s : Stmt) (base v : Value) (x name : Name) → name ≡ text_in (top vs) → v ≡ value.Str name → is_put heap base x v ≡ true
      → in_visit_put left s base x n fs vs heap hosts beats steps out ≡ in_named left s n fs (below vs) (heap_put heap base x v) hosts beats steps out
  unfolding in_visit_put in_named
  put_done left s base v x name e f h =
      sym (ap (λ v. running (put_on base x v (turns left s)) n fs (stack_under left) heap hosts beats steps out) (f ∙ ap value.Str e))
      ∙ by base h
    where
      by : (base : Value) → is_put heap base x v ≡ true → running (put_on base x v (turns left s)) n fs (stack_under left) heap hosts beats steps out ≡ running (turns left s) n fs (stack_under left) (heap_put heap base x v) hosts beats steps out
      by value.Undefined h = refl
      by value.Null h = refl
      by (value.Bool b) h = refl
      by (value.Num m) h = refl
      by (value.Str text) h = refl
      by (value.Object o) h = put_ok n fs (stack_under left) heap hosts beats steps out o.0 x v (turns left s) h

  pub put_refused : (left : ℕ) (s : Stmt) (base v : Value) (x name : Name) (ws : List Value) (after : Heap) → name ≡ text_in (top vs) → v ≡ value.Str name → ws ≡ without_visits left (below vs) → after ≡ heap_put heap base x v → is_put heap base x v ≡ false
      → in_visit_put left s base x n fs vs heap hosts beats steps out ≡ rest control.Throw n fs (object_value (length after) ∷ ws) (after ++ error_object built.RangeErrorPrototype ∷ []) hosts beats steps out
  unfolding in_visit_put
  put_refused left s base v x name ws after e f g k h =
      sym (ap (λ v. running (put_on base x v (turns left s)) n fs (stack_under left) heap hosts beats steps out) (f ∙ ap value.Str e))
      ∙ (by base h
      ∙ (sym (ap (λ after. rest control.Throw n fs (object_value (length after) ∷ stack_under left) (after ++ error_object built.RangeErrorPrototype ∷ []) hosts beats steps out) k)
      ∙ sym (ap (λ ws. rest control.Throw n fs (object_value (length after) ∷ ws) (after ++ error_object built.RangeErrorPrototype ∷ []) hosts beats steps out) g)))
    where
      by : (base : Value) → is_put heap base x v ≡ false → running (put_on base x v (turns left s)) n fs (stack_under left) heap hosts beats steps out ≡ rest control.Throw n fs (object_value (length (heap_put heap base x v)) ∷ stack_under left) (heap_put heap base x v ++ error_object built.RangeErrorPrototype ∷ []) hosts beats steps out
      by value.Undefined h = cc
      by value.Null h = cc
      by (value.Bool b) h = cc
      by (value.Num m) h = cc
      by (value.Str text) h = cc
      by (value.Object o) h = put_bad n fs (stack_under left) heap hosts beats steps out o.0 x v (turns left s) h

  pub turn_none : (left : ℕ) (s : Stmt) → for_in_parts (stmt s) ≡ None → in_named left s n fs vs heap hosts beats steps out ≡ rest control.Done n fs (without_visits left vs) heap hosts beats steps out
  unfolding in_named rest
  turn_none left s e = ap (λ p. running (named_turn p (visits_on left vs)) n fs (without_visits left vs) heap hosts beats steps out) e

  pub turn_begun : (left : ℕ) (s b : Stmt) (t : tree.ForTarget) (o : tree.Expr) → for_in_parts (stmt s) ≡ Some (record { target = t; object = o; body = stmt b })
      → in_named left s n fs vs heap hosts beats steps out ≡ rest (control.Body b) n (frame.Visit left s ∷ fs) vs heap hosts beats steps out
  unfolding in_named rest
  turn_begun left s b t o e =
      ap (λ p. running (named_turn p (visits_on left vs)) n fs (without_visits left vs) heap hosts beats steps out) e
      ∙ sym (ap (λ p. due out.world n (program (ATurn (stmt b)) script_env) (at_frame (frames.Loop []) (next_visit p (visits_on left vs)) ∷ stack fs (without_visits left vs)) (state_of heap hosts beats steps out)) e)

  -- ---- a turn ends

  pub v_visit : (left : ℕ) (s : Stmt) → in_value (frame.Visit left s) n fs vs heap hosts beats steps out ≡ in_visits left s n fs (below vs) heap hosts beats steps out
  unfolding in_value in_visits
  v_visit left s = refl

  pub d_visit : (left : ℕ) (s : Stmt) → in_done (frame.Visit left s) n fs vs heap hosts beats steps out ≡ in_visits left s n fs vs heap hosts beats steps out
  unfolding in_done in_visits
  d_visit left s = refl

  pub b_visit : (left : ℕ) (s : Stmt) → in_break (frame.Visit left s) n fs vs heap hosts beats steps out ≡ rest control.Done n fs (without_visits left vs) heap hosts beats steps out
  unfolding in_break rest
  b_visit left s = refl

  pub c_visit : (left : ℕ) (s : Stmt) → in_continue (frame.Visit left s) n fs vs heap hosts beats steps out ≡ in_visits left s n fs vs heap hosts beats steps out
  unfolding in_continue in_visits
  c_visit left s = refl

-- ---- the cases of one call each

pub ruleset begun_laws = (begun_none, begun_target, begun_var, begun_from)

pub ruleset object_laws = (object_none, object_begun)

pub ruleset from_laws = (from_none, from_target, from_var)

pub ruleset visits_laws = (visits_bad, visits_begun)

pub ruleset next_laws = (next_none, next_begun)

pub ruleset visit_laws = (visit_none, visit_var, visit_other, visit_out, visit_name, visit_member)

pub ruleset base_laws = (base_none, base_var, base_index, base_other, base_bad, base_dot)

pub ruleset key_laws = (key_bad, key_named, key_throws, key_asks)

pub ruleset name_laws = (name_stops, name_used)

pub ruleset write_laws = (global_base)

pub ruleset put_laws = (put_done)

pub ruleset turn_laws = (turn_none, turn_begun)
