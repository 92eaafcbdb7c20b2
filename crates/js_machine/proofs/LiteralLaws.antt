-- What is left of a run in array and object literals.
use Rattle.std.proofs.Common.{◌≡◌, ℕ, suc, ◌+◌, true, false, List, [], ◌∷◌, ◌++◌, length, Option, refl, sym, ap, ◌∙◌, arith}
use Rattle.std.specs.Prelude.{codes}
use Rattle.std.specs.Str.{chars}
use Rattle.dl_text.specs.Utf16.{utf16}
use Rattle.js_values.specs.declared.value.Value.{Value}
use Rattle.object_heap.specs.declared.built_in.BuiltIn.TheVariants as built
use Rattle.object_heap.specs.Arrays.{whole}
use Rattle.object_heap.specs.Names.{Name, decimal, length_name}
use Rattle.object_heap.specs.Objects.{Heap}
use Rattle.object_heap.specs.Put.{put, written}
use Rattle.js_tree.specs.declared.tree.Expr.{Expr}
use Rattle.js_tree.specs.declared.tree.Pair.{Pair}
use Rattle.js_tree.specs.Plain.{expr}
use Rattle.js_tree.specs.Tree as tree
use Rattle.js_tree.specs.Tree.{AnExpr, Elements, MoreElements, NoElements, NoExpr}
use Rattle.js_tree.specs.Tree.{MorePairs, NoPairs, Pairs}
use Rattle.js_code.specs.Cursors.{elements_from, pairs_from}
use Rattle.js_machine.specs.declared.frame.Frame.{Frame}
use Rattle.js_machine.specs.declared.frame.Frame.TheVariants as frame
use Rattle.js_machine.specs.declared.frame.Control.TheVariants as control
use Rattle.js_machine.specs.declared.hosts.HostCall.{HostCall}
use Rattle.js_machine.specs.Asks.{Program}
use Rattle.js_machine.specs.Frames.{gives}
use Rattle.js_machine.specs.Literals.{Skips, elements_left, object_number, pair_given, pairs_left}
use Rattle.js_machine.specs.Primary.{new_array, new_plain}
use Rattle.js_machine.specs.References.{error_object}
use Rattle.js_machine.specs.References as references
use Rattle.js_machine.specs.Rest.{Outside, in_array_end, in_elements, in_expr, in_pairs, in_value, rest, running}
use Rattle.js_machine.specs.Stacks.{top, below}
use Rattle.js_machine.specs.State.{is_length, object_value}
use Rattle.js_machine.proofs.NameLaws.{put_bad, put_ok}

length_units : utf16 (chars (codes "length")) ≡ length_name
unfolding chars
length_units = refl

module _ (n : ℕ) (fs : List Frame) (vs : List Value) (heap : Heap) (hosts : List HostCall) (beats steps : ℕ) (out : Outside) where
  -- ---- a property of the object of the literal is written

  putting : (o p : ℕ) (name x : Name) (v w : Value) (after : Heap) (q : Program) → o ≡ p → name ≡ x → v ≡ w → is_length (put heap o name v) ≡ true → after ≡ written heap o name v
      → running (references.put p x w q) n fs vs heap hosts beats steps out ≡ running q n fs vs after hosts beats steps out
  putting o p name x v w after q e f g h k =
      sym (ap (λ o. running (references.put o name v q) n fs vs heap hosts beats steps out) e
      ∙ (ap (λ name. running (references.put p name v q) n fs vs heap hosts beats steps out) f
      ∙ ap (λ v. running (references.put p x v q) n fs vs heap hosts beats steps out) g))
      ∙ (put_ok n fs vs heap hosts beats steps out o name v q h
      ∙ sym (ap (λ after. running q n fs vs after hosts beats steps out) k))

  refused : (o p : ℕ) (name x : Name) (v w : Value) (after : Heap) (ws : List Value) (q : Program) → o ≡ p → name ≡ x → v ≡ w → is_length (put heap o name v) ≡ false → after ≡ written heap o name v → ws ≡ vs
      → running (references.put p x w q) n fs vs heap hosts beats steps out
      ≡ rest control.Throw n fs (object_value (length after) ∷ ws) (after ++ error_object built.RangeErrorPrototype ∷ []) hosts beats steps out
  refused o p name x v w after ws q e f g h k l =
      sym (ap (λ o. running (references.put o name v q) n fs vs heap hosts beats steps out) e
      ∙ (ap (λ name. running (references.put p name v q) n fs vs heap hosts beats steps out) f
      ∙ ap (λ v. running (references.put p x v q) n fs vs heap hosts beats steps out) g))
      ∙ (put_bad n fs vs heap hosts beats steps out o name v q h
      ∙ (sym (ap (λ after. rest control.Throw n fs (object_value (length after) ∷ vs) (after ++ error_object built.RangeErrorPrototype ∷ []) hosts beats steps out) k)
      ∙ sym (ap (λ ws. rest control.Throw n fs (object_value (length after) ∷ ws) (after ++ error_object built.RangeErrorPrototype ∷ []) hosts beats steps out) l)))

module _ (n : ℕ) (fs : List Frame) (vs : List Value) (heap : Heap) (hosts : List HostCall) (beats steps : ℕ) (out : Outside) where
  -- ---- 11.1.4

  pub array_begun : (es : List (Option Expr)) → in_expr (tree.Array (elements_from es 0)) n fs vs heap hosts beats steps out ≡ in_elements 0 es n fs (object_value (length heap) ∷ vs) (heap ++ new_array ∷ []) hosts beats steps out
  unfolding in_expr in_elements
  array_begun es = refl

  pub element_more : (from i : ℕ) (e : Expr) (es : List (Option Expr)) → Skips (elements_from es from) from (elements_from es i) i → elements_from es i ≡ MoreElements (AnExpr (expr e)) (elements_from es (i + 1))
      → in_elements from es n fs vs heap hosts beats steps out ≡ rest (control.Expr e) n (frame.Element i es ∷ fs) vs heap hosts beats steps out
  unfolding in_elements rest
  element_more from i e es skips h =
      ap (λ p. running p n fs (below vs) heap hosts beats steps out) (skips (object_number (top vs)))
      ∙ ap (λ more. running (elements_left more (object_number (top vs)) i) n fs (below vs) heap hosts beats steps out) h

  pub element_none : (from i : ℕ) (es : List (Option Expr)) → Skips (elements_from es from) from (elements_from es i) i → elements_from es i ≡ NoElements
      → in_elements from es n fs vs heap hosts beats steps out ≡ in_array_end i n fs vs heap hosts beats steps out
  unfolding in_elements in_array_end
  element_none from i es skips h =
      ap (λ p. running p n fs (below vs) heap hosts beats steps out) (skips (object_number (top vs)))
      ∙ ap (λ more. running (elements_left more (object_number (top vs)) i) n fs (below vs) heap hosts beats steps out) h

  pub end_ok : (o count : ℕ) (name : Name) (v w : Value) (after : Heap) → o ≡ object_number (top vs) → name ≡ utf16 (chars (codes "length")) → v ≡ whole count → w ≡ object_value o → is_length (put heap o name v) ≡ true → after ≡ written heap o name v
      → in_array_end count n fs vs heap hosts beats steps out ≡ rest control.Give n fs (w ∷ below vs) after hosts beats steps out
  unfolding in_array_end rest
  end_ok o count name v w after e f g k h l =
      putting n fs (below vs) heap hosts beats steps out o (object_number (top vs)) name length_name v (whole count) after (gives (object_value (object_number (top vs)))) e (f ∙ length_units) g h l
      ∙ sym (ap (λ w. running (gives w) n fs (below vs) after hosts beats steps out) (k ∙ ap object_value e))

  pub end_bad : (o count : ℕ) (name : Name) (v : Value) (after : Heap) (ws : List Value) → o ≡ object_number (top vs) → name ≡ utf16 (chars (codes "length")) → v ≡ whole count → is_length (put heap o name v) ≡ false → after ≡ written heap o name v → ws ≡ below vs
      → in_array_end count n fs vs heap hosts beats steps out ≡ rest control.Throw n fs (object_value (length after) ∷ ws) (after ++ error_object built.RangeErrorPrototype ∷ []) hosts beats steps out
  unfolding in_array_end
  end_bad o count name v after ws e f g h l k =
      refused n fs (below vs) heap hosts beats steps out o (object_number (top vs)) name length_name v (whole count) after ws (gives (object_value (object_number (top vs)))) e (f ∙ length_units) g h l k

  pub v_element : (i o : ℕ) (es : List (Option Expr)) (name : Name) (v : Value) (after : Heap) → o ≡ object_number (top (below vs)) → name ≡ decimal i → v ≡ top vs → is_length (put heap o name v) ≡ true → after ≡ written heap o name v
      → in_value (frame.Element i es) n fs vs heap hosts beats steps out ≡ in_elements (i + 1) es n fs (below vs) after hosts beats steps out
  unfolding in_value in_elements
  v_element i o es name v after e f g h l =
      let next : suc i ≡ i + 1 = omega arith in
      putting n fs (below (below vs)) heap hosts beats steps out o (object_number (top (below vs))) name (decimal i) v (top vs) after (elements_left (elements_from es (i + 1)) (object_number (top (below vs))) (suc i)) e f g h l
      ∙ ap (λ k. running (elements_left (elements_from es (i + 1)) (object_number (top (below vs))) k) n fs (below (below vs)) after hosts beats steps out) next

  pub element_bad : (i o : ℕ) (es : List (Option Expr)) (name : Name) (v : Value) (after : Heap) (ws : List Value) → o ≡ object_number (top (below vs)) → name ≡ decimal i → v ≡ top vs → is_length (put heap o name v) ≡ false → after ≡ written heap o name v → ws ≡ below (below vs)
      → in_value (frame.Element i es) n fs vs heap hosts beats steps out ≡ rest control.Throw n fs (object_value (length after) ∷ ws) (after ++ error_object built.RangeErrorPrototype ∷ []) hosts beats steps out
  unfolding in_value
  element_bad i o es name v after ws e f g h l k =
      refused n fs (below (below vs)) heap hosts beats steps out o (object_number (top (below vs))) name (decimal i) v (top vs) after ws (elements_left (elements_from es (i + 1)) (object_number (top (below vs))) (suc i)) e f g h l k

  -- ---- 11.1.5

  pub object_begun : (ps : List Pair) → in_expr (tree.Object (pairs_from ps 0)) n fs vs heap hosts beats steps out ≡ in_pairs 0 ps n fs (object_value (length heap) ∷ vs) (heap ++ new_plain ∷ []) hosts beats steps out
  unfolding in_expr in_pairs
  object_begun ps = refl

  pub pair_none : (i o : ℕ) (ps : List Pair) (v : Value) → pairs_from ps i ≡ NoPairs → o ≡ object_number (top vs) → v ≡ object_value o
      → in_pairs i ps n fs vs heap hosts beats steps out ≡ rest control.Give n fs (v ∷ below vs) heap hosts beats steps out
  unfolding in_pairs rest
  pair_none i o ps v h e f =
      ap (λ more. running (pairs_left more (object_number (top vs))) n fs (below vs) heap hosts beats steps out) h
      ∙ sym (ap (λ v. running (gives v) n fs (below vs) heap hosts beats steps out) (f ∙ ap object_value e))

  pub pair_more : (i : ℕ) (key : Name) (e : Expr) (ps : List Pair) → pairs_from ps i ≡ MorePairs key (expr e) (pairs_from ps (i + 1))
      → in_pairs i ps n fs vs heap hosts beats steps out ≡ rest (control.Expr e) n (frame.Pair i ps ∷ fs) vs heap hosts beats steps out
  unfolding in_pairs rest
  pair_more i key e ps h =
      ap (λ more. running (pairs_left more (object_number (top vs))) n fs (below vs) heap hosts beats steps out) h
      ∙ sym (ap (λ more. rest_of more) h)
    where
      rest_of : Pairs → Rattle.js_machine.specs.Run.Trace
      rest_of more = Rattle.js_machine.specs.Run.due out.world n (Rattle.js_machine.specs.Programs.program (Rattle.js_machine.specs.Asks.AnExpr (expr e)) Rattle.js_machine.specs.Page.script_env) (Rattle.js_machine.specs.Frames.on_value (pair_given more (object_number (top vs))) ∷ Rattle.js_machine.specs.Rest.stack fs (below vs)) (Rattle.js_machine.specs.Rest.state_of heap hosts beats steps out)

  pub pair_lost : (i : ℕ) (ps : List Pair) (ws : List Value) → pairs_from ps i ≡ NoPairs → ws ≡ below (below vs) → in_value (frame.Pair i ps) n fs vs heap hosts beats steps out ≡ rest control.Done n fs ws heap hosts beats steps out
  unfolding in_value rest
  pair_lost i ps ws h e =
      ap (λ more. running (pair_given more (object_number (top (below vs))) (top vs)) n fs (below (below vs)) heap hosts beats steps out) h
      ∙ sym (ap (λ ws. running Rattle.js_machine.specs.Frames.done n fs ws heap hosts beats steps out) e)

  pub v_pair : (i o : ℕ) (ps : List Pair) (key : Name) (e : tree.Expr) (v : Value) (after : Heap) → pairs_from ps i ≡ MorePairs key e (pairs_from ps (i + 1)) → o ≡ object_number (top (below vs)) → v ≡ top vs → is_length (put heap o key v) ≡ true → after ≡ written heap o key v
      → in_value (frame.Pair i ps) n fs vs heap hosts beats steps out ≡ in_pairs (i + 1) ps n fs (below vs) after hosts beats steps out
  unfolding in_value in_pairs
  v_pair i o ps key e v after f g k h l =
      ap (λ more. running (pair_given more (object_number (top (below vs))) (top vs)) n fs (below (below vs)) heap hosts beats steps out) f
      ∙ putting n fs (below (below vs)) heap hosts beats steps out o (object_number (top (below vs))) key key v (top vs) after (pairs_left (pairs_from ps (i + 1)) (object_number (top (below vs)))) g refl k h l

  pub pair_bad : (i o : ℕ) (ps : List Pair) (key : Name) (e : tree.Expr) (v : Value) (after : Heap) (ws : List Value) → pairs_from ps i ≡ MorePairs key e (pairs_from ps (i + 1)) → o ≡ object_number (top (below vs)) → v ≡ top vs → is_length (put heap o key v) ≡ false → after ≡ written heap o key v → ws ≡ below (below vs)
      → in_value (frame.Pair i ps) n fs vs heap hosts beats steps out ≡ rest control.Throw n fs (object_value (length after) ∷ ws) (after ++ error_object built.RangeErrorPrototype ∷ []) hosts beats steps out
  unfolding in_value
  pair_bad i o ps key e v after ws f g k h l m =
      ap (λ more. running (pair_given more (object_number (top (below vs))) (top vs)) n fs (below (below vs)) heap hosts beats steps out) f
      ∙ refused n fs (below (below vs)) heap hosts beats steps out o (object_number (top (below vs))) key key v (top vs) after ws (pairs_left (pairs_from ps (i + 1)) (object_number (top (below vs)))) g refl k h l m

-- ---- holes

pub skips_none : (es : Elements) (i : ℕ) → Skips es i es i
skips_none es i = λ o. refl

pub skips_more : (es fs gs : Elements) (i j k : ℕ) → Skips es i fs j → fs ≡ MoreElements NoExpr gs → k ≡ j + 1 → Skips es i gs k
skips_more es fs gs i j k skips h e =
    let next : suc j ≡ k = omega (arith, e) in
    λ o. skips o ∙ (ap (λ fs. elements_left fs o j) h ∙ ap (λ k. elements_left gs o k) next)

-- ---- the cases of one call each

pub ruleset hole_laws = (skips_none, skips_more)

pub ruleset element_laws = (element_more, element_none)

pub ruleset end_laws = (end_ok, end_bad)

pub ruleset element_values = (v_element, element_bad)

pub ruleset pair_laws = (pair_none, pair_more)

pub ruleset pair_values = (pair_lost, v_pair, pair_bad)
