-- What is left of a run in variables.
use Rattle.std.proofs.Common.{◌≡◌, ℕ, ◌+◌, Bool, true, false, List, [], ◌∷◌, ◌++◌, length, Option, Some, None, refl, sym, ap, ◌∙◌}
use Rattle.std.specs.Prelude.{option_map}
use Rattle.js_values.specs.declared.value.Value.{Value}
use Rattle.js_values.specs.declared.value.Value.TheVariants as value
use Rattle.object_heap.specs.declared.built_in.BuiltIn.TheVariants as built
use Rattle.object_heap.specs.declared.object.Attrs.{Attrs}
use Rattle.object_heap.specs.declared.object.Class.{Class}
use Rattle.object_heap.specs.declared.object.Class.TheVariants as class
use Rattle.object_heap.specs.Answers.{IsPlainName, IsUnshared}
use Rattle.object_heap.specs.Changes.{defined}
use Rattle.object_heap.specs.Get.{has_property}
use Rattle.object_heap.specs.Names.{Name}
use Rattle.object_heap.specs.Objects.{Heap, Property, attributes_of, class_of, own_of}
use Rattle.object_heap.specs.Put.{put, written}
use Rattle.js_tree.specs.declared.tree.Expr.{Expr}
use Rattle.js_tree.specs.declared.tree.Stmt.{Stmt}
use Rattle.js_tree.specs.declared.tree.VarItem.{VarItem}
use Rattle.js_tree.specs.Plain.{expr, stmt}
use Rattle.js_tree.specs.Parts as parts
use Rattle.js_tree.specs.Tree as tree
use Rattle.js_code.specs.Cursors.{var_items_from}
use Rattle.js_code.specs.Projections.{loop_parts}
use Rattle.js_machine.specs.declared.frame.Frame.{Frame}
use Rattle.js_machine.specs.declared.frame.Frame.TheVariants as frame
use Rattle.js_machine.specs.declared.frame.Control.TheVariants as control
use Rattle.js_machine.specs.declared.hosts.HostCall.{HostCall}
use Rattle.js_machine.specs.Asks.{Program, AnExpr}
use Rattle.js_machine.specs.Entries.{declared, define_variable, define_variables}
use Rattle.js_machine.specs.Frames.{done, on_value}
use Rattle.js_machine.specs.Globals.{initialised, is_initialised, with_variable, with_variable_by, with_variables}
use Rattle.js_machine.specs.Page.{script_env}
use Rattle.js_machine.specs.Programs.{program}
use Rattle.js_machine.specs.References.{error_object, global_object, if_global, put_value}
use Rattle.js_machine.specs.Rest.{Outside, in_header, in_stmt, in_turn, in_value, in_variables, rest, running, stack, state_of, turning}
use Rattle.js_machine.specs.Run.{due}
use Rattle.js_machine.specs.Skipped.{Skips}
use Rattle.js_machine.specs.Stacks.{top, below}
use Rattle.js_machine.specs.State.{is_length, object_value}
use Rattle.js_machine.specs.Statements.{statement}
use Rattle.js_machine.specs.Variables.{variables}
use Rattle.js_machine.proofs.NameLaws.{put_ok, put_bad}

-- ---- 10.2.1

unshared_if : (own : Option Property) → None ≡ option_map (λ p. p.attributes) own → IsUnshared own
unshared_if None e = tt
unshared_if (Some p) e = cc

-- a name that the object has not itself shares nothing
pub unshared : (heap : Heap) (o : ℕ) (name : Name) → None ≡ attributes_of heap o name → IsUnshared (own_of heap o name)
unshared heap o name e = unshared_if (own_of heap o name) e

plain_if : (c : Option Class) (name : Name) → c ≡ Some class.Plain → IsPlainName c name
plain_if None name e = tt
plain_if (Some class.Array) name e = cc
plain_if (Some class.Plain) name e = tt
plain_if (Some class.Function) name e = tt
plain_if (Some class.Arguments) name e = tt
plain_if (Some class.Error) name e = tt
plain_if (Some class.Math) name e = tt

pub plain_name : (heap : Heap) (o : ℕ) (name : Name) → class_of heap o ≡ Some class.Plain → IsPlainName (class_of heap o) name
plain_name heap o name e = plain_if (class_of heap o) name e

pub made_new : (heap : Heap) (o : ℕ) (name : Name) → o ≡ global_object → None ≡ attributes_of heap o name → defined o name value.Undefined declared heap ≡ with_variable name heap
made_new heap o name e f =
    ap (λ o. defined o name value.Undefined declared heap) e
    ∙ ap (λ own. with_variable_by own name heap) (f ∙ ap (λ o. attributes_of heap o name) e)

pub stays_old : (heap : Heap) (o : ℕ) (name : Name) (attributes : Attrs) → o ≡ global_object → Some attributes ≡ attributes_of heap o name → heap ≡ with_variable name heap
stays_old heap o name attributes e f = ap (λ own. with_variable_by own name heap) (f ∙ ap (λ o. attributes_of heap o name) e)

pub one_more : (names : List Name) (name : Name) (heap : Heap) → with_variables (names ++ name ∷ []) heap ≡ with_variable name (with_variables names heap)
one_more [] name heap = refl
one_more (n ∷ names) name heap = one_more names name (with_variable n heap)

-- ---- items without an initialiser

pub skips_none : (items : List VarItem) (i : ℕ) → Skips items i i
skips_none items i = λ p. refl

pub skips_one : (items : List VarItem) (i j : ℕ) (name : Name) → Skips items i j → var_items_from items j ≡ tree.MoreVarItems name tree.NoExpr (var_items_from items (j + 1)) → Skips items i (j + 1)
skips_one items i j name h e = λ p. h p ∙ ap (λ vs. variables vs script_env p) e

pub ends : (items : List VarItem) (i : ℕ) → var_items_from items i ≡ tree.NoVarItems → is_initialised (var_items_from items i) ≡ true
ends items i e = ap is_initialised e

pub is_found : (items : List VarItem) (i : ℕ) (name : Name) (e : tree.Expr) → var_items_from items i ≡ tree.MoreVarItems name (tree.AnExpr e) (var_items_from items (i + 1)) → is_initialised (var_items_from items i) ≡ true
is_found items i name e f = ap is_initialised f

module _ (n : ℕ) (fs : List Frame) (vs : List Value) (heap : Heap) (hosts : List HostCall) (beats steps : ℕ) (out : Outside) where
  -- ---- 12.2

  begun : (name : Name) (e : tree.Expr) (rest : tree.VarItems) (p : Program) (b : Bool)
      → due out.world n (program (AnExpr e) script_env) (on_value (λ v. put_value (if_global name b) v (variables rest script_env p)) ∷ stack fs vs) (state_of heap hosts beats steps out)
      ≡ due out.world n (program (AnExpr e) script_env) (on_value (initialised (tree.MoreVarItems name (tree.AnExpr e) rest) p) ∷ stack fs vs) (state_of heap hosts beats steps out)
  begun name e rest p true = refl
  begun name e rest p false = refl

  waits_for : (items : List VarItem) (i j : ℕ) (name : Name) (e : tree.Expr) (p : Program) → Skips items i j → var_items_from items j ≡ tree.MoreVarItems name (tree.AnExpr e) (var_items_from items (j + 1))
      → running (variables (var_items_from items i) script_env p) n fs vs heap hosts beats steps out
      ≡ due out.world n (program (AnExpr e) script_env) (on_value (initialised (var_items_from items j) p) ∷ stack fs vs) (state_of heap hosts beats steps out)
  waits_for items i j name e p h f =
      ap (λ q. running q n fs vs heap hosts beats steps out) (h p)
      ∙ (ap (λ vs'. running (variables vs' script_env p) n fs vs heap hosts beats steps out) f
      ∙ (begun name e (var_items_from items (j + 1)) p (has_property heap global_object name)
      ∙ sym (ap (λ vs'. due out.world n (program (AnExpr e) script_env) (on_value (initialised vs' p) ∷ stack fs vs) (state_of heap hosts beats steps out)) f)))

  pub in_var : (s : Stmt) (items : List VarItem) → stmt s ≡ tree.Variables (parts.var_items items) → in_stmt (stmt s) n fs vs heap hosts beats steps out ≡ in_variables items 0 n fs vs heap hosts beats steps out
  unfolding in_stmt in_variables
  in_var s items e = ap (λ q. running (statement [] q script_env) n fs vs heap hosts beats steps out) e

  pub var_waits : (items : List VarItem) (i j : ℕ) (name : Name) (e : Expr) → Skips items i j → var_items_from items j ≡ tree.MoreVarItems name (tree.AnExpr (expr e)) (var_items_from items (j + 1))
      → in_variables items i n fs vs heap hosts beats steps out ≡ rest (control.Expr e) n (frame.Var j items ∷ fs) vs heap hosts beats steps out
  unfolding in_variables rest
  var_waits items i j name e h f = waits_for items i j name (expr e) done h f

  pub var_ends : (items : List VarItem) (i j : ℕ) → Skips items i j → var_items_from items j ≡ tree.NoVarItems
      → in_variables items i n fs vs heap hosts beats steps out ≡ rest control.Done n fs vs heap hosts beats steps out
  unfolding in_variables rest
  var_ends items i j h e =
      ap (λ q. running q n fs vs heap hosts beats steps out) (h done)
      ∙ ap (λ vs'. running (variables vs' script_env done) n fs vs heap hosts beats steps out) e

  pub v_var_none : (items : List VarItem) (i : ℕ) → var_items_from items i ≡ tree.NoVarItems → in_value (frame.Var i items) n fs vs heap hosts beats steps out ≡ rest control.Done n fs (below vs) heap hosts beats steps out
  unfolding in_value rest
  v_var_none items i e = ap (λ vs'. running (initialised vs' done (top vs)) n fs (below vs) heap hosts beats steps out) e

  pub v_var_ok : (items : List VarItem) (i : ℕ) (name : Name) (e : tree.MaybeExpr) → var_items_from items i ≡ tree.MoreVarItems name e (var_items_from items (i + 1)) → is_length (put heap global_object name (top vs)) ≡ true
      → in_value (frame.Var i items) n fs vs heap hosts beats steps out ≡ in_variables items (i + 1) n fs (below vs) (written heap global_object name (top vs)) hosts beats steps out
  unfolding in_value in_variables
  v_var_ok items i name e f h =
      ap (λ vs'. running (initialised vs' done (top vs)) n fs (below vs) heap hosts beats steps out) f
      ∙ put_ok n fs (below vs) heap hosts beats steps out global_object name (top vs) (variables (var_items_from items (i + 1)) script_env done) h

  pub v_var_bad : (items : List VarItem) (i : ℕ) (name : Name) (e : tree.MaybeExpr) (v : Value) (ws : List Value) (after : Heap) → var_items_from items i ≡ tree.MoreVarItems name e (var_items_from items (i + 1)) → v ≡ top vs → ws ≡ below vs → after ≡ written heap global_object name v → is_length (put heap global_object name v) ≡ false
      → in_value (frame.Var i items) n fs vs heap hosts beats steps out ≡ rest control.Throw n fs (object_value (length after) ∷ ws) (after ++ error_object built.RangeErrorPrototype ∷ []) hosts beats steps out
  unfolding in_value
  v_var_bad items i name e v ws after f is rest_is g h =
      ap (λ vs'. running (initialised vs' done (top vs)) n fs (below vs) heap hosts beats steps out) f
      ∙ (sym (ap (λ v. running (initialised (tree.MoreVarItems name e (var_items_from items (i + 1))) done v) n fs (below vs) heap hosts beats steps out) is)
      ∙ (put_bad n fs (below vs) heap hosts beats steps out global_object name v (variables (var_items_from items (i + 1)) script_env done) h
      ∙ (sym (ap (λ after. rest control.Throw n fs (object_value (length after) ∷ below vs) (after ++ error_object built.RangeErrorPrototype ∷ []) hosts beats steps out) g)
      ∙ sym (ap (λ ws. rest control.Throw n fs (object_value (length after) ∷ ws) (after ++ error_object built.RangeErrorPrototype ∷ []) hosts beats steps out) rest_is))))

  -- ---- 12.6.3: in the header of a loop

  pub in_for_var : (s : Stmt) (items : List VarItem) (t u : tree.MaybeExpr) (b : tree.Stmt) → stmt s ≡ tree.For (tree.Vars (parts.var_items items)) t u b
      → in_stmt (stmt s) n fs vs heap hosts beats steps out ≡ in_header items 0 s n fs vs heap hosts beats steps out
  unfolding in_stmt in_header
  in_for_var s items t u b e =
      ap (λ q. running (statement [] q script_env) n fs vs heap hosts beats steps out) e
      ∙ sym (ap (λ q. running (variables (parts.var_items items) script_env (turning (loop_parts q))) n fs vs heap hosts beats steps out) e)

  pub header_waits : (items : List VarItem) (i j : ℕ) (s : Stmt) (name : Name) (e : Expr) → Skips items i j → var_items_from items j ≡ tree.MoreVarItems name (tree.AnExpr (expr e)) (var_items_from items (j + 1))
      → in_header items i s n fs vs heap hosts beats steps out ≡ rest (control.Expr e) n (frame.ForVar j items s ∷ fs) vs heap hosts beats steps out
  unfolding in_header rest
  header_waits items i j s name e h f = waits_for items i j name (expr e) (turning (loop_parts (stmt s))) h f

  pub header_ends : (items : List VarItem) (i j : ℕ) (s : Stmt) → Skips items i j → var_items_from items j ≡ tree.NoVarItems
      → in_header items i s n fs vs heap hosts beats steps out ≡ in_turn s n fs vs heap hosts beats steps out
  unfolding in_header in_turn
  header_ends items i j s h e =
      ap (λ q. running q n fs vs heap hosts beats steps out) (h (turning (loop_parts (stmt s))))
      ∙ ap (λ vs'. running (variables vs' script_env (turning (loop_parts (stmt s)))) n fs vs heap hosts beats steps out) e

  pub v_for_none : (items : List VarItem) (i : ℕ) (s : Stmt) → var_items_from items i ≡ tree.NoVarItems → in_value (frame.ForVar i items s) n fs vs heap hosts beats steps out ≡ in_turn s n fs (below vs) heap hosts beats steps out
  unfolding in_value in_turn
  v_for_none items i s e = ap (λ vs'. running (initialised vs' (turning (loop_parts (stmt s))) (top vs)) n fs (below vs) heap hosts beats steps out) e

  pub v_for_ok : (items : List VarItem) (i : ℕ) (s : Stmt) (name : Name) (e : tree.MaybeExpr) → var_items_from items i ≡ tree.MoreVarItems name e (var_items_from items (i + 1)) → is_length (put heap global_object name (top vs)) ≡ true
      → in_value (frame.ForVar i items s) n fs vs heap hosts beats steps out ≡ in_header items (i + 1) s n fs (below vs) (written heap global_object name (top vs)) hosts beats steps out
  unfolding in_value in_header
  v_for_ok items i s name e f h =
      ap (λ vs'. running (initialised vs' (turning (loop_parts (stmt s))) (top vs)) n fs (below vs) heap hosts beats steps out) f
      ∙ put_ok n fs (below vs) heap hosts beats steps out global_object name (top vs) (variables (var_items_from items (i + 1)) script_env (turning (loop_parts (stmt s)))) h

  pub v_for_bad : (items : List VarItem) (i : ℕ) (s : Stmt) (name : Name) (e : tree.MaybeExpr) (v : Value) (ws : List Value) (after : Heap) → var_items_from items i ≡ tree.MoreVarItems name e (var_items_from items (i + 1)) → v ≡ top vs → ws ≡ below vs → after ≡ written heap global_object name v → is_length (put heap global_object name v) ≡ false
      → in_value (frame.ForVar i items s) n fs vs heap hosts beats steps out ≡ rest control.Throw n fs (object_value (length after) ∷ ws) (after ++ error_object built.RangeErrorPrototype ∷ []) hosts beats steps out
  unfolding in_value
  v_for_bad items i s name e v ws after f is rest_is g h =
      ap (λ vs'. running (initialised vs' (turning (loop_parts (stmt s))) (top vs)) n fs (below vs) heap hosts beats steps out) f
      ∙ (sym (ap (λ v. running (initialised (tree.MoreVarItems name e (var_items_from items (i + 1))) (turning (loop_parts (stmt s))) v) n fs (below vs) heap hosts beats steps out) is)
      ∙ (put_bad n fs (below vs) heap hosts beats steps out global_object name v (variables (var_items_from items (i + 1)) script_env (turning (loop_parts (stmt s)))) h
      ∙ (sym (ap (λ after. rest control.Throw n fs (object_value (length after) ∷ below vs) (after ++ error_object built.RangeErrorPrototype ∷ []) hosts beats steps out) g)
      ∙ sym (ap (λ ws. rest control.Throw n fs (object_value (length after) ∷ ws) (after ++ error_object built.RangeErrorPrototype ∷ []) hosts beats steps out) rest_is))))

-- ---- 10.2.1: the variables of a script are defined

module _ (n : ℕ) (fs : List Frame) (vs : List Value) (hosts : List HostCall) (beats steps : ℕ) (out : Outside) (p : Program) where
  by_own : (name : Name) (q : Program) (heap : Heap) (own : Option Attrs) → running (define_variable name q own) n fs vs heap hosts beats steps out ≡ running q n fs vs (with_variable_by own name heap) hosts beats steps out
  by_own name q heap None = refl
  by_own name q heap (Some attributes) = refl

  pub declares : (names : List Name) (heap : Heap) → running (define_variables names p) n fs vs heap hosts beats steps out ≡ running p n fs vs (with_variables names heap) hosts beats steps out
  declares [] heap = refl
  declares (name ∷ names) heap = by_own name (define_variables names p) heap (attributes_of heap global_object name) ∙ declares names (with_variable name heap)

-- ---- the cases of one call each

pub ruleset declare_laws = (unshared, plain_name, made_new, stays_old)

pub ruleset skip_laws = (skips_none, skips_one, ends, is_found)

pub ruleset variables_laws = (var_waits, var_ends)

pub ruleset header_laws = (header_waits, header_ends)

pub ruleset var_laws = (v_var_none, v_var_ok)

pub ruleset for_var_laws = (v_for_none, v_for_ok)
