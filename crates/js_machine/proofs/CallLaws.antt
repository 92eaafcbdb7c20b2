-- What is left of a run in calls of properties.
use Rattle.std.proofs.Common.{◌≡◌, ℕ, suc, ◌+◌, ◌-◌, true, false, List, [], ◌∷◌, ◌++◌, length, Option, Some, None, arith, take, refl, sym, ap, ◌∙◌}
use Rattle.std.specs.Prelude.{option_map}
use Rattle.std.proofs.lemmas.List.{reverse-append}
use Rattle.js_values.specs.declared.value.ObjectId.{ObjectId}
use Rattle.js_values.specs.declared.value.Value.{Value}
use Rattle.js_values.specs.declared.value.Value.TheVariants as value
use Rattle.js_values.specs.Shown.{shown_of_all}
use Rattle.exceptions_core.specs.declared.completion.Completion.TheVariants as completion
use Rattle.object_heap.specs.declared.built_in.BuiltIn.{BuiltIn}
use Rattle.object_heap.specs.declared.built_in.BuiltIn.TheVariants as built
use Rattle.object_heap.specs.declared.object.Class.{Class}
use Rattle.object_heap.specs.declared.object.Class.TheVariants as class
use Rattle.object_heap.specs.BuiltIns.{which}
use Rattle.object_heap.specs.Names.{Name}
use Rattle.object_heap.specs.Objects.{Heap, class_of}
use Rattle.js_tree.specs.declared.tree.Expr.{Expr}
use Rattle.js_tree.specs.Plain.{expr}
use Rattle.js_tree.specs.Tree.{MoreExprs, NoExprs}
use Rattle.js_tree.specs.Tree as tree
use Rattle.js_code.specs.Cursors.{exprs_from}
use Rattle.js_machine.specs.declared.frame.Frame.{Frame}
use Rattle.js_machine.specs.declared.frame.Frame.TheVariants as frame
use Rattle.js_machine.specs.declared.frame.Control.{Control}
use Rattle.js_machine.specs.declared.frame.Control.TheVariants as control
use Rattle.js_machine.specs.declared.frame.End.TheVariants as end
use Rattle.js_machine.specs.declared.frame.Unbuilt.TheVariants as unbuilt
use Rattle.js_machine.specs.declared.hosts.HostCall.{HostCall}
use Rattle.js_machine.specs.declared.machine.Machine.{Machine}
use Rattle.js_machine.specs.Asks.{AnExpr, Ends, Enter, Ret, TellCall}
use Rattle.js_machine.specs.Calls.{arguments, dot}
use Rattle.js_machine.specs.Conversions.{to_object}
use Rattle.js_machine.specs.Expressions.{expression}
use Rattle.js_machine.specs.Frames.{gives, on_value}
use Rattle.js_machine.specs.Given.{Asked, Called, LeadsTo, Tells, after_call}
use Rattle.js_machine.specs.HostCalls.{host_call_by, host_call_in, host_name}
use Rattle.js_machine.specs.Members.{arguments_on, base_on, dot_name, is_base, is_native, is_native_by, member_called, property_in}
use Rattle.js_machine.specs.Operated.{is_object}
use Rattle.js_machine.specs.Page.{script_env}
use Rattle.js_machine.specs.Programs.{program}
use Rattle.js_machine.specs.References.{error_object, get_value}
use Rattle.js_machine.specs.Rest.{Outside, at, in_arguments, in_expr, in_value, rest, running, stack, state_of}
use Rattle.js_machine.specs.Run.{Trace, Call, Say, due, entered, go, if_entered, pop, reply}
use Rattle.js_machine.specs.Stacks.{below, top, without}
use Rattle.js_machine.specs.State.{Callee, State, callee_by, callee_of, function_callee, object_value, value_read, with_object}
use Rattle.js_machine.specs.State as state
use Rattle.js_machine.proofs.HostLaws.{callee_is}
use Rattle.js_machine.proofs.MemberLaws.{base_goes, base_throws, property_read}
use Rattle.js_machine.proofs.StepLaws.{none, step}

-- ---- the stack of arguments

-- one argument more
one_more : (i : ℕ) (v : Value) (vs : List Value) → arguments_on (suc i) (v ∷ vs) ≡ arguments_on i vs ++ v ∷ []
one_more i v vs = reverse-append (v ∷ []) (take i vs)

-- ---- what an object runs when it is entered

module _ (heap : Heap) (hosts : List HostCall) (beats steps : ℕ) (out : Outside) where
  abbrev s : State
  s = state_of heap hosts beats steps out

  host_by : (o : ℕ) (c : Option Class) (b : Option BuiltIn) (host : Name) → b ≡ which o → host_call_by c b hosts o ≡ Some host → callee_by c s o ≡ Some (state.HostCall host)
  host_by o None b host h e = cc
  host_by o (Some class.Array) b host h e = cc
  host_by o (Some class.Plain) b host h e = cc
  host_by o (Some class.Function) None host h e =
      sym (ap (λ b. function_callee b s.bodies o) h) ∙ (callee_is hosts o ∙ ap (option_map state.HostCall) e)
  host_by o (Some class.Function) (Some b) host h e = cc
  host_by o (Some class.Arguments) b host h e = cc
  host_by o (Some class.Error) b host h e = cc
  host_by o (Some class.Math) b host h e = cc

  host_entered : (o : ObjectId) (host : Name) → host_call_in heap hosts o.0 ≡ Some host → callee_of s (value.Object o) ≡ Some (state.HostCall host)
  host_entered o host e = host_by o.0 (class_of heap o.0) (which o.0) host refl e

  none_by : (o : ℕ) (c : Option Class) (b : Option BuiltIn) → b ≡ which o → is_native_by c b ≡ false → host_call_by c b hosts o ≡ None → callee_by c s o ≡ None
  none_by o None b h g e = refl
  none_by o (Some class.Array) b h g e = refl
  none_by o (Some class.Plain) b h g e = refl
  none_by o (Some class.Function) None h g e =
      sym (ap (λ b. function_callee b s.bodies o) h) ∙ (callee_is hosts o ∙ ap (option_map state.HostCall) e)
  none_by o (Some class.Function) (Some b) h g e = cc
  none_by o (Some class.Arguments) b h g e = refl
  none_by o (Some class.Error) b h g e = refl
  none_by o (Some class.Math) b h g e = refl

  none_entered : (o : ObjectId) → is_native heap o.0 ≡ false → host_call_in heap hosts o.0 ≡ None → callee_of s (value.Object o) ≡ None
  none_entered o g e = none_by o.0 (class_of heap o.0) (which o.0) refl g e

  -- a value that is no object is not entered
  no_callee : (f : Value) → is_object f ≡ false → callee_of s f ≡ None
  no_callee value.Undefined e = refl
  no_callee value.Null e = refl
  no_callee (value.Bool b) e = refl
  no_callee (value.Num n) e = refl
  no_callee (value.Str text) e = refl
  no_callee (value.Object o) e = cc

module _ (n : ℕ) (fs : List Frame) (vs : List Value) (heap : Heap) (hosts : List HostCall) (beats steps : ℕ) (out : Outside) where
  -- ---- where the callee is begun

  pub call_out : (callee object : Expr) (es : List Expr) (name : Name) → expr callee ≡ tree.Dot (expr object) name → n ≡ 0
      → in_expr (tree.Call (expr callee) (exprs_from es 0)) n fs vs heap hosts beats steps out ≡ rest (control.End end.OutOfSteps) n fs vs heap hosts beats steps out
  unfolding in_expr
  call_out callee object es name e h =
      ap (λ q. running (expression (tree.Call q (exprs_from es 0)) script_env) n fs vs heap hosts beats steps out) e
      ∙ none n fs vs heap hosts beats steps out (dot (expr object) name script_env (λ it. arguments (exprs_from es 0) script_env [] (λ args. get_value it (λ f. Enter f (Rattle.js_machine.specs.Calls.base_of it) args Ret)))) h

  pub call_on : (callee object : Expr) (es : List Expr) (name : Name) → expr callee ≡ tree.Dot (expr object) name → (n ≡ 0 → ⊥)
      → in_expr (tree.Call (expr callee) (exprs_from es 0)) n fs vs heap hosts beats steps out ≡ rest (control.Expr object) (n - 1) (frame.Callee callee es ∷ fs) vs heap hosts beats (steps + 1) out
  unfolding in_expr rest
  call_on callee object es name e h =
      ap (λ q. running (expression (tree.Call q (exprs_from es 0)) script_env) n fs vs heap hosts beats steps out) e
      ∙ (step n fs vs heap hosts beats steps out (dot (expr object) name script_env (λ it. arguments (exprs_from es 0) script_env [] (λ args. get_value it (λ f. Enter f (Rattle.js_machine.specs.Calls.base_of it) args Ret)))) h
      ∙ sym (ap (λ q. due out.world (n - 1) (program (AnExpr (expr object)) script_env) (on_value (λ base. to_object base (arguments (exprs_from es 0) script_env [] (member_called (dot_name q) base))) ∷ stack fs vs) (state_of heap hosts beats (steps + 1) out)) e))

  -- ---- the base and the arguments

  pub base_bad : (callee : Expr) (es : List Expr) (v : Value) → v ≡ top vs → is_base v ≡ false
      → in_value (frame.Callee callee es) n fs vs heap hosts beats steps out ≡ rest control.Throw n fs (object_value (length heap) ∷ below vs) (heap ++ error_object built.TypeErrorPrototype ∷ []) hosts beats steps out
  unfolding in_value rest
  base_bad callee es v e h =
      ap (λ p. running p n fs (below vs) heap hosts beats steps out) (base_throws (top vs) (arguments (exprs_from es 0) script_env [] (member_called (dot_name (expr callee)) (top vs))) (sym (ap is_base e) ∙ h))

  pub base_ok : (callee : Expr) (es : List Expr) (v : Value) (ws : List Value) → v ≡ top vs → ws ≡ v ∷ below vs → is_base v ≡ true
      → in_value (frame.Callee callee es) n fs vs heap hosts beats steps out ≡ in_arguments 0 callee es n fs ws heap hosts beats steps out
  unfolding in_value in_arguments
  base_ok callee es v ws e f h =
      ap (λ p. running p n fs (below vs) heap hosts beats steps out) (base_goes (top vs) (arguments (exprs_from es 0) script_env [] (member_called (dot_name (expr callee)) (top vs))) (sym (ap is_base e) ∙ h))
      ∙ sym (ap (λ ws. running (arguments (exprs_from es 0) script_env (arguments_on 0 ws) (member_called (dot_name (expr callee)) (base_on 0 ws))) n fs (below (without 0 ws)) heap hosts beats steps out) (f ∙ ap (λ v. v ∷ below vs) e))

  pub argument_ok : (callee : Expr) (es : List Expr) (i : ℕ) (v : Value) (ws : List Value) → v ≡ top vs → ws ≡ v ∷ below vs
      → in_value (frame.Argument i callee es) n fs vs heap hosts beats steps out ≡ in_arguments (i + 1) callee es n fs ws heap hosts beats steps out
  unfolding in_value in_arguments
  argument_ok callee es i v ws e f =
      let next : i + 1 ≡ suc i = omega arith in
      sym (ap (λ ws. running (arguments (exprs_from es (i + 1)) script_env (arguments_on (i + 1) ws) (member_called (dot_name (expr callee)) (base_on (i + 1) ws))) n fs (below (without (i + 1) ws)) heap hosts beats steps out) (f ∙ ap (λ v. v ∷ below vs) e)
      ∙ (ap (λ k. running (arguments (exprs_from es (i + 1)) script_env (arguments_on k (top vs ∷ below vs)) (member_called (dot_name (expr callee)) (base_on k (top vs ∷ below vs)))) n fs (below (without k (top vs ∷ below vs))) heap hosts beats steps out) next
      ∙ ap (λ done. running (arguments (exprs_from es (i + 1)) script_env done (member_called (dot_name (expr callee)) (base_on i (below vs)))) n fs (below (without i (below vs))) heap hosts beats steps out) (one_more i (top vs) (below vs))))

  pub next_none : (i : ℕ) (callee : Expr) (es : List Expr) → exprs_from es i ≡ NoExprs → in_arguments i callee es n fs vs heap hosts beats steps out ≡ rest (control.Call i callee) n fs vs heap hosts beats steps out
  unfolding in_arguments rest
  next_none i callee es e = ap (λ more. running (arguments more script_env (arguments_on i vs) (member_called (dot_name (expr callee)) (base_on i vs))) n fs (below (without i vs)) heap hosts beats steps out) e

  pub next_more : (i : ℕ) (callee e : Expr) (es : List Expr) → exprs_from es i ≡ MoreExprs (expr e) (exprs_from es (i + 1)) → in_arguments i callee es n fs vs heap hosts beats steps out ≡ rest (control.Expr e) n (frame.Argument i callee es ∷ fs) vs heap hosts beats steps out
  unfolding in_arguments rest
  next_more i callee e es h = ap (λ more. running (arguments more script_env (arguments_on i vs) (member_called (dot_name (expr callee)) (base_on i vs))) n fs (below (without i vs)) heap hosts beats steps out) h

  -- ---- the call and the entry

  abbrev refusing : State → Value → Value → List Value → List Value → Option Callee → Trace
  refusing s f this args ws callee =
      if_entered (entered callee this args) (λ p. due out.world n p (Ret ∷ stack fs ws) s)
      (go out.world (due out.world n) (Ret (Ends (completion.Throw (object_value (length heap))))) (pop out.world (due out.world n) (stack fs ws)) (stack fs ws) (with_object (error_object built.TypeErrorPrototype) s))

  -- what has no callee throws
  throws : (f this : Value) (args ws : List Value) → callee_of (state_of heap hosts beats steps out) f ≡ None
      → running (Enter f this args Ret) n fs ws heap hosts beats steps out ≡ rest control.Throw n fs (object_value (length heap) ∷ ws) (heap ++ error_object built.TypeErrorPrototype ∷ []) hosts beats steps out
  unfolding rest
  throws f this args ws e = ap (refusing (state_of heap hosts beats steps out) f this args ws) e

  -- a host call is entered with a step
  asks_host : (f this : Value) (host : Name) (args ws : List Value) → callee_of (state_of heap hosts beats steps out) f ≡ Some (state.HostCall host)
      → running (Enter f this args Ret) n fs ws heap hosts beats steps out ≡ due out.world n (TellCall host args gives) (Ret ∷ stack fs ws) (state_of heap hosts beats steps out)
  asks_host f this host args ws e = ap (refusing (state_of heap hosts beats steps out) f this args ws) e

  told : (k : ℕ) (host : Name) (args ws : List Value) (v : Value) → n ≡ suc k → reply out.world out.called host ≡ v
      → due out.world n (TellCall host args gives) (Ret ∷ stack fs ws) (state_of heap hosts beats steps out)
      ≡ Say (Call host (shown_of_all out.passed args)) (suc steps) (rest control.Give k fs (v ∷ ws) heap hosts beats (suc steps) (after_call host args out))
  unfolding rest
  told k host args ws v e f =
      ap (λ m. due out.world m (TellCall host args gives) (Ret ∷ stack fs ws) (state_of heap hosts beats steps out)) e
      ∙ ap (λ v. Say (Call host (shown_of_all out.passed args)) (suc steps) (rest control.Give k fs (v ∷ ws) heap hosts beats (suc steps) (after_call host args out))) f

  pub host_tells : (count : ℕ) (o : ObjectId) (host : Name) (v : Value) → host_call_in heap hosts o.0 ≡ Some host → (n ≡ 0 → ⊥) → reply out.world out.called host ≡ v
      → Tells (Call host (shown_of_all out.passed (arguments_on count vs))) (rest (control.Enter count o) n fs vs heap hosts beats steps out) (rest control.Give (n - 1) fs (v ∷ below (without count vs)) heap hosts beats (steps + 1) (after_call host (arguments_on count vs) out))
  unfolding rest
  host_tells count o host v h e f =
      let left : n ≡ suc (n - 1) = omega arith in
      let more : suc steps ≡ steps + 1 = omega arith in (
        suc steps,
        asks_host (value.Object o) (base_on count vs) host (arguments_on count vs) (below (without count vs)) (host_entered heap hosts beats steps out o host h)
            ∙ (told (n - 1) host (arguments_on count vs) (below (without count vs)) v left f
            ∙ ap (λ k. Say (Call host (shown_of_all out.passed (arguments_on count vs))) (suc steps) (rest control.Give (n - 1) fs (v ∷ below (without count vs)) heap hosts beats k (after_call host (arguments_on count vs) out))) more),
      )

  pub host_out : (count : ℕ) (o : ObjectId) (host : Name) → host_call_in heap hosts o.0 ≡ Some host → n ≡ 0
      → rest (control.Enter count o) n fs vs heap hosts beats steps out ≡ rest (control.End end.OutOfSteps) n fs vs heap hosts beats steps out
  unfolding rest
  host_out count o host h e =
      asks_host (value.Object o) (base_on count vs) host (arguments_on count vs) (below (without count vs)) (host_entered heap hosts beats steps out o host h)
      ∙ ap (λ m. due out.world m (TellCall host (arguments_on count vs) gives) (Ret ∷ stack fs (below (without count vs))) (state_of heap hosts beats steps out)) e

  pub e_other : (count : ℕ) (o : ObjectId) → is_native heap o.0 ≡ false → host_call_in heap hosts o.0 ≡ None
      → rest (control.Enter count o) n fs vs heap hosts beats steps out ≡ rest control.Throw n fs (object_value (length heap) ∷ below (without count vs)) (heap ++ error_object built.TypeErrorPrototype ∷ []) hosts beats steps out
  unfolding rest
  e_other count o g h = throws (value.Object o) (base_on count vs) (arguments_on count vs) (below (without count vs)) (none_entered heap hosts beats steps out o g h)

  pub e_unbuilt : (count : ℕ) (o : ObjectId) → rest (control.Enter count o) n fs vs heap hosts beats steps out ≡ rest (control.Unbuilt (unbuilt.Enter count o)) n fs vs heap hosts beats steps out
  unfolding rest
  e_unbuilt count o = refl

  pub c_none : (i : ℕ) (callee : Expr) → dot_name (expr callee) ≡ None → rest (control.Call i callee) n fs vs heap hosts beats steps out ≡ rest control.Done n fs (below (without i vs)) heap hosts beats steps out
  unfolding rest
  c_none i callee e = ap (λ name. running (member_called name (base_on i vs) (arguments_on i vs)) n fs (below (without i vs)) heap hosts beats steps out) e

  -- the property of the base is entered
  property_entered : (i : ℕ) (callee object : Expr) (name : Name) (f : Value) → expr callee ≡ tree.Dot (expr object) name → f ≡ property_in heap (base_on i vs) name
      → running (member_called (dot_name (expr callee)) (base_on i vs) (arguments_on i vs)) n fs (below (without i vs)) heap hosts beats steps out
      ≡ running (Enter f (base_on i vs) (arguments_on i vs) Ret) n fs (below (without i vs)) heap hosts beats steps out
  property_entered i callee object name f e h =
      ap (λ q. running (member_called (dot_name q) (base_on i vs) (arguments_on i vs)) n fs (below (without i vs)) heap hosts beats steps out) e
      ∙ (property_read n fs (below (without i vs)) heap hosts beats steps out (base_on i vs) name (λ f. Enter f (base_on i vs) (arguments_on i vs) Ret)
      ∙ sym (ap (λ f. running (Enter f (base_on i vs) (arguments_on i vs) Ret) n fs (below (without i vs)) heap hosts beats steps out) h))

  pub c_other : (i : ℕ) (callee object : Expr) (name : Name) (f : Value) → expr callee ≡ tree.Dot (expr object) name → f ≡ property_in heap (base_on i vs) name → is_object f ≡ false
      → rest (control.Call i callee) n fs vs heap hosts beats steps out ≡ rest control.Throw n fs (object_value (length heap) ∷ below (without i vs)) (heap ++ error_object built.TypeErrorPrototype ∷ []) hosts beats steps out
  unfolding rest
  c_other i callee object name f e h g =
      property_entered i callee object name f e h
      ∙ throws f (base_on i vs) (arguments_on i vs) (below (without i vs)) (no_callee heap hosts beats steps out f g)

  pub c_object : (i : ℕ) (callee object : Expr) (name : Name) (o : ObjectId) → expr callee ≡ tree.Dot (expr object) name → value.Object o ≡ property_in heap (base_on i vs) name
      → rest (control.Call i callee) n fs vs heap hosts beats steps out ≡ rest (control.Enter i o) n fs vs heap hosts beats steps out
  unfolding rest
  c_object i callee object name o e h = property_entered i callee object name (value.Object o) e h

-- the machine asked the host
pub host_asked : (m new : Machine) (given told : List Asked) (count : ℕ) (o : ObjectId) (host : Name) (args values : List Value) (v : Value) (clock : ℕ × ℕ) (next : Control)
    → host_call_in m.heap m.hosts o.0 ≡ Some host → (m.clock.1 ≡ 0 → ⊥) → args ≡ arguments_on count m.values → told ≡ given ++ Called host args v ∷ []
    → clock ≡ (m.clock.0 + 1, m.clock.1 - 1) → values ≡ below (without count m.values) → next ≡ control.Give → new ≡ record m { clock = clock; values = v ∷ values }
    → LeadsTo (rest (control.Enter count o)) m given next new told
host_asked m new given told count o host args values v clock next due n e is_told is_clock is_below is_give is =
    let passed = arguments_on count m.values in (
      Called host passed v ∷ [],
      (
        is_told ∙ ap (λ args. given ++ Called host args v ∷ []) e,
        λ out answers.
            let behind = after_call host passed out in (
              rest control.Give (m.clock.1 - 1) m.frames (v ∷ below (without count m.values)) m.heap m.hosts m.beats (m.clock.0 + 1) behind,
              (
                host_tells m.clock.1 m.frames m.values m.heap m.hosts m.beats m.clock.0 out count o host v due n answers.0,
                sym (ap (λ c. at (rest c) new behind) is_give
                    ∙ (ap (λ x. at (rest control.Give) x behind) is
                    ∙ (ap (λ c. rest control.Give c.1 m.frames (v ∷ values) m.heap m.hosts m.beats c.0 behind) is_clock
                    ∙ ap (λ vs. rest control.Give (m.clock.1 - 1) m.frames (v ∷ vs) m.heap m.hosts m.beats (m.clock.0 + 1) behind) is_below))),
              ),
            ),
      ),
    )

-- ---- the host call that an object is

pub name_is : (heap : Heap) (hosts : List HostCall) (o : ℕ) (name : Option Name) → Some class.Function ≡ class_of heap o → None ≡ which o → host_name hosts o ≡ name → host_call_in heap hosts o ≡ name
name_is heap hosts o name c b e =
    sym (ap (λ c. host_call_by c (which o) hosts o) c)
    ∙ (sym (ap (λ b. host_call_by (Some class.Function) b hosts o) b) ∙ e)

-- ---- the cases of one call each

pub ruleset call_laws = (call_out, call_on)

pub ruleset argument_laws = (next_none, next_more)

pub ruleset base_laws = (base_bad, base_ok)

pub ruleset given_laws = (argument_ok)

pub ruleset member_laws = (c_none, c_other, c_object)

pub ruleset other_laws = (e_other, e_unbuilt)

pub ruleset name_laws = (name_is)
