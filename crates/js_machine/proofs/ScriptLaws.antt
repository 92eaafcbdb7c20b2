-- What is left of a run where a script is entered, and how it ends.
use Rattle.std.proofs.Common.{◌≡◌, ℕ, ◌+◌, ◌-◌, List, [], ◌∷◌, length, refl, sym, ap, ◌∙◌}
use Rattle.std.specs.Prelude.{false, reverse}
use Rattle.std.proofs.lemmas.List.{length-reverse, reverse-reverse}
use Rattle.std.proofs.Math.Seq.{take-append_seam}
use Rattle.js_values.specs.declared.value.ObjectId.{ObjectId}
use Rattle.js_values.specs.declared.value.Value.{Value}
use Rattle.js_values.specs.declared.value.Value.TheVariants as value
use Rattle.object_heap.specs.Objects.{Heap}
use Rattle.js_tree.specs.declared.tree.Stmt.{Stmt}
use Rattle.js_tree.specs.Plain as view
use Rattle.js_tree.specs.Tree.{Func}
use Rattle.object_heap.specs.Names.{Name}
use Rattle.js_calls.specs.Declared.{functions_of, vars_in_all}
use Rattle.js_machine.specs.declared.frame.Frame.{Frame}
use Rattle.js_machine.specs.declared.frame.Control.TheVariants as control
use Rattle.js_machine.specs.declared.frame.End.TheVariants as end
use Rattle.js_machine.specs.declared.frame.Unbuilt.TheVariants as unbuilt
use Rattle.js_machine.specs.declared.hosts.HostCall.{HostCall}
use Rattle.js_machine.specs.Entries.{define_functions, define_variables, enter_script}
use Rattle.js_machine.specs.Globals.{with_variables}
use Rattle.js_machine.specs.NotBuilt.{has_functions}
use Rattle.js_machine.specs.Page.{script_env}
use Rattle.js_machine.specs.Statements.{statements}
use Rattle.js_machine.specs.declared.machine.Machine.{Machine}
use Rattle.js_machine.specs.Asks.{Enter, Ret}
use Rattle.js_machine.specs.References.{global_value}
use Rattle.js_machine.specs.Stacks.{top, below, without}
use Rattle.js_machine.specs.Members.{arguments_on}
use Rattle.js_machine.specs.Rest.{Outside, Same, entering, rest, running, starting, in_list}
use Rattle.js_machine.specs.Halts.{CallsAreEntered, called_with, in_script}
use Rattle.js_machine.proofs.StackLists.{without_front}
use Rattle.js_machine.proofs.StepLaws.{none, step}
use Rattle.js_machine.proofs.VariableLaws.{declares}

no_functions : (codes : List Func) → has_functions codes ≡ false → codes ≡ []
no_functions [] d = refl
no_functions (f ∷ codes) d = cc

module _ (n : ℕ) (fs : List Frame) (vs : List Value) (heap : Heap) (hosts : List HostCall) (beats steps : ℕ) (out : Outside) where
  pub script_none : (body : List Stmt) → n ≡ 0 → in_script (view.body body) n fs vs heap hosts beats steps out ≡ rest (control.End end.OutOfSteps) n fs vs heap hosts beats steps out
  unfolding in_script
  script_none body h = none n fs vs heap hosts beats steps out (enter_script (view.body body) script_env) h

  pub script_step : (body : List Stmt) (names : List Name) (after : Heap) → has_functions (functions_of (view.body body)) ≡ false → (n ≡ 0 → ⊥) → names ≡ vars_in_all (view.body body) → after ≡ with_variables names heap
      → in_script (view.body body) n fs vs heap hosts beats steps out ≡ in_list body 0 (n - 1) fs vs after hosts beats (steps + 1) out
  unfolding in_script in_list
  script_step body names after d h e f =
      ap (λ codes. starting (define_functions codes script_env.chain (define_variables (vars_in_all (view.body body)) (statements (view.body body) script_env))) n fs vs heap hosts beats steps out) (no_functions (functions_of (view.body body)) d)
      ∙ (step n fs vs heap hosts beats steps out (define_variables (vars_in_all (view.body body)) (statements (view.body body) script_env)) h
      ∙ (declares (n - 1) fs vs hosts beats (steps + 1) out (statements (view.body body) script_env) (vars_in_all (view.body body)) heap
      ∙ sym (ap (λ after. running (statements (view.body body) script_env) (n - 1) fs vs after hosts beats (steps + 1) out) (f ∙ ap (λ names. with_variables names heap) e))))

  pub script_unbuilt : (body : List Stmt) → in_script (view.body body) n fs vs heap hosts beats steps out ≡ rest (control.Unbuilt (unbuilt.Script body)) n fs vs heap hosts beats steps out
  unfolding in_script rest
  script_unbuilt body = refl

-- a function is to be entered
pub call_begun : (m : Machine) (count : ℕ) (f : ObjectId) → Same (entering count f) m (control.Enter count f) m
unfolding rest
call_begun m count f = λ out. refl

-- its arguments stand above the global object
pub calls_are_entered : CallsAreEntered
calls_are_entered f arguments n heap hosts beats steps out =
    let vs = called_with arguments in
    let count = length arguments in
    let under : without count vs ≡ global_value ∷ [] =
    ap (λ n. without n vs) (sym (length-reverse arguments)) ∙ without_front (reverse arguments) (global_value ∷ []) in
    let taken : arguments_on count vs ≡ arguments =
    ap (λ n. arguments_on n vs) (sym (length-reverse arguments))
    ∙ (ap reverse (take-append_seam (reverse arguments) (global_value ∷ [])) ∙ reverse-reverse arguments) in
    ap (λ ws. running (Enter (value.Object f) (top ws) (arguments_on count vs) Ret) n [] (below ws) heap hosts beats steps out) under
    ∙ ap (λ ws. running (Enter (value.Object f) global_value ws Ret) n [] [] heap hosts beats steps out) taken

-- ---- the cases of one call each

pub ruleset script_laws = (script_none, script_step, script_unbuilt)
