-- An expression without effects, with its steps left, gives its value at once.
use Rattle.std.proofs.Common.{◌≡◌, ◌≤◌, ℕ, zero, suc, ◌+◌, ◌-◌, Bool, List, ◌∷◌, Option, Some, None, Ok, Err, ◌⊎◌, inl, inr, refl, sym, ap, subst, ◌∙◌, arith}
use Rattle.std.specs.Prelude.{ℤ, pos, IfSome}
use Rattle.js_values.specs.declared.number.Num.TheVariants as number
use Rattle.js_values.specs.declared.value.Value.{Value}
use Rattle.js_values.specs.declared.value.Value.TheVariants as value
use Rattle.object_heap.specs.Names.{Name}
use Rattle.object_heap.specs.Objects.{Heap}
use Rattle.js_tree.specs.declared.tree.BinaryOp.{BinaryOp}
use Rattle.js_tree.specs.declared.tree.BinaryOp.TheVariants as op
use Rattle.js_tree.specs.declared.tree.Expr as declared_expr
use Rattle.js_tree.specs.Plain.{expr}
use Rattle.js_tree.specs.Tree as tree
use Rattle.js_tree.specs.Tree.{Expr}
use Rattle.js_code.specs.Costs.{binary_cost, cost, joined}
use Rattle.js_machine.specs.declared.frame.Frame.{Frame}
use Rattle.js_machine.specs.declared.frame.Control.TheVariants as control
use Rattle.js_machine.specs.declared.hosts.HostCall.{HostCall}
use Rattle.js_machine.specs.declared.machine.Machine.{Machine}
use Rattle.js_machine.specs.Asks.{Program, AnExpr}
use Rattle.js_machine.specs.AtOnce.{Pushed, by_both, given, value_at_once}
use Rattle.js_machine.specs.Frames.{gives, on_value}
use Rattle.js_machine.specs.Globals.{value_of_global}
use Rattle.js_machine.specs.Operated.{Operated, operated, on_two, number_result}
use Rattle.js_machine.specs.Operators.{operate}
use Rattle.js_machine.specs.Page.{script_env}
use Rattle.js_machine.specs.Programs.{program}
use Rattle.js_machine.specs.References.{get_value, global_object, if_global, or_undefined}
use Rattle.object_heap.specs.Get.{met}
use Rattle.js_machine.specs.Rest.{Outside, in_value, rest, stack, state_of}
use Rattle.js_machine.specs.Run.{Stack, Trace, due, pop, run}
use Rattle.js_machine.proofs.FlowLaws.{give_frame}
use Rattle.js_machine.proofs.NameLaws.{is_met}
use Rattle.js_machine.proofs.Operating.{operator_gives}

-- ---- what an operator gives

is_given : (o : Operated) (v : Value) → given o ≡ Some v → o ≡ Some (Ok v)
is_given None v e = cc
is_given (Some (Err stop)) v e = cc
is_given (Some (Ok w)) v e = cc

pub computes_whole : (o : BinaryOp) (a b n : ℤ) → on_two o (number.Whole a) (number.Whole b) ≡ Ok (number.Whole n)
    → operated o (value.Num (number.Whole a)) (value.Num (number.Whole b)) ≡ Some (Ok (value.Num (number.Whole n)))
computes_whole op.Multiply a b n e = ap (λ r. Some (number_result r)) e
computes_whole op.Divide a b n e = ap (λ r. Some (number_result r)) e
computes_whole op.Remainder a b n e = ap (λ r. Some (number_result r)) e
computes_whole op.Add a b n e = ap (λ r. Some (number_result r)) e
computes_whole op.Subtract a b n e = ap (λ r. Some (number_result r)) e
computes_whole op.ShiftLeft a b n e = ap (λ r. Some (number_result r)) e
computes_whole op.ShiftRight a b n e = ap (λ r. Some (number_result r)) e
computes_whole op.ShiftRightUnsigned a b n e = ap (λ r. Some (number_result r)) e
computes_whole op.Less a b n e = cc
computes_whole op.Greater a b n e = cc
computes_whole op.LessEqual a b n e = cc
computes_whole op.GreaterEqual a b n e = cc
computes_whole op.InstanceOf a b n e = cc
computes_whole op.In a b n e = cc
computes_whole op.Equal a b n e = cc
computes_whole op.NotEqual a b n e = cc
computes_whole op.Same a b n e = cc
computes_whole op.NotSame a b n e = cc
computes_whole op.BitAnd a b n e = ap (λ r. Some (number_result r)) e
computes_whole op.BitXor a b n e = ap (λ r. Some (number_result r)) e
computes_whole op.BitOr a b n e = ap (λ r. Some (number_result r)) e

-- ---- the value of a node, by those of its operands

pub of_literal : (e : tree.Expr) (n : ℕ) (k : ℤ) (heap : Heap) → e ≡ tree.Num n → k ≡ pos n → value_at_once e heap ≡ Some (value.Num (number.Whole k))
of_literal e n k heap f g = ap (λ e. value_at_once e heap) f ∙ sym (ap (λ k. Some (value.Num (number.Whole k))) g)

pub of_text : (e : tree.Expr) (text : List ℕ) (heap : Heap) → e ≡ tree.Str text → value_at_once e heap ≡ Some (value.Str text)
of_text e text heap f = ap (λ e. value_at_once e heap) f

pub of_truth : (e : tree.Expr) (b : Bool) (heap : Heap) → e ≡ tree.Truth b → value_at_once e heap ≡ Some (value.Bool b)
of_truth e b heap f = ap (λ e. value_at_once e heap) f

pub of_null : (e : tree.Expr) (heap : Heap) → e ≡ tree.Null → value_at_once e heap ≡ Some value.Null
of_null e heap f = ap (λ e. value_at_once e heap) f

pub of_name : (e : tree.Expr) (name : Name) (v : Value) (heap : Heap) → e ≡ tree.Ident name → value_of_global heap name ≡ Some v → value_at_once e heap ≡ Some v
of_name e name v heap f g = ap (λ e. value_at_once e heap) f ∙ g

pub of_both : (e left right : tree.Expr) (o : BinaryOp) (v w r : Value) (heap : Heap) → e ≡ tree.Binary o left right
    → value_at_once left heap ≡ Some v → value_at_once right heap ≡ Some w → operated o v w ≡ Some (Ok r) → value_at_once e heap ≡ Some r
of_both e left right o v w r heap f g h i =
    ap (λ e. value_at_once e heap) f
    ∙ (ap (λ p. by_both o p (value_at_once right heap)) g
    ∙ (ap (λ q. by_both o (Some v) q) h
    ∙ ap given i))

pub ruleset whole_laws = (of_literal, of_name, of_both)

pub ruleset truth_laws = (of_both)

pub ruleset value_laws = (of_literal, of_text, of_truth, of_null, of_name, of_both)

-- ---- costs

pub is_cost : (k : ℕ) (e : tree.Expr) → (k ≡ 0) ⊎ (k ≡ cost e) → (k ≡ 0 → ⊥) → k ≡ cost e
is_cost k e (inl f) h = absurd (h f)
is_cost k e (inr f) h = f

joined_is : (m n : ℕ) → (m ≡ 0 → ⊥) → (n ≡ 0 → ⊥) → joined m n ≡ m + n + 1
joined_is zero n h k = absurd (h refl)
joined_is (suc m) zero h k = absurd (k refl)
joined_is (suc m) (suc n) h k = refl

both_cost : (o : BinaryOp) (v w r : Value) (m n : ℕ) → operated o v w ≡ Some (Ok r) → binary_cost o m n ≡ joined m n
both_cost op.Multiply v w r m n e = refl
both_cost op.Divide v w r m n e = refl
both_cost op.Remainder v w r m n e = refl
both_cost op.Add v w r m n e = refl
both_cost op.Subtract v w r m n e = refl
both_cost op.ShiftLeft v w r m n e = refl
both_cost op.ShiftRight v w r m n e = refl
both_cost op.ShiftRightUnsigned v w r m n e = refl
both_cost op.Less v w r m n e = refl
both_cost op.Greater v w r m n e = refl
both_cost op.LessEqual v w r m n e = refl
both_cost op.GreaterEqual v w r m n e = refl
both_cost op.InstanceOf v w r m n e = cc
both_cost op.In v w r m n e = cc
both_cost op.Equal v w r m n e = refl
both_cost op.NotEqual v w r m n e = refl
both_cost op.Same v w r m n e = refl
both_cost op.NotSame v w r m n e = refl
both_cost op.BitAnd v w r m n e = refl
both_cost op.BitXor v w r m n e = refl
both_cost op.BitOr v w r m n e = refl

-- the operands of an operation that has a value
record Operands (o : BinaryOp) (p q : Option Value) (r : Value) : Type 0 where
  pub left : Value
  pub right : Value
  pub is_left : p ≡ Some left
  pub is_right : q ≡ Some right
  pub gives : operated o left right ≡ Some (Ok r)

operands : (o : BinaryOp) (p q : Option Value) (r : Value) → by_both o p q ≡ Some r → Operands o p q r
operands o None q r e = absurd cc
operands o (Some v) None r e = absurd cc
operands o (Some v) (Some w) r e = record { left = v; right = w; is_left = refl; is_right = refl; gives = is_given (operated o v w) r e }

cost_some : (e : tree.Expr) (heap : Heap) (v : Value) → value_at_once e heap ≡ Some v → cost e ≡ 0 → ⊥
cost_some (tree.Num n) heap v e z = omega (arith, z)
cost_some (tree.Str text) heap v e z = omega (arith, z)
cost_some (tree.Truth b) heap v e z = omega (arith, z)
cost_some tree.Null heap v e z = omega (arith, z)
cost_some tree.This heap v e z = absurd cc
cost_some (tree.Ident name) heap v e z = omega (arith, z)
cost_some (tree.Array es) heap v e z = absurd cc
cost_some (tree.Object ps) heap v e z = absurd cc
cost_some (tree.Function f) heap v e z = absurd cc
cost_some (tree.Dot object name) heap v e z = absurd cc
cost_some (tree.Index object key) heap v e z = absurd cc
cost_some (tree.Call callee es) heap v e z = absurd cc
cost_some (tree.New callee es) heap v e z = absurd cc
cost_some (tree.Postfix target o) heap v e z = absurd cc
cost_some (tree.Prefix o operand) heap v e z = absurd cc
cost_some (tree.Binary o left right) heap v e z =
    let it = operands o (value_at_once left heap) (value_at_once right heap) v e in
    let c = both_cost o it.left it.right v (cost left) (cost right) it.gives in
    omega (arith, z, c, joined_is (cost left) (cost right) (cost_some left heap it.left it.is_left) (cost_some right heap it.right it.is_right))
cost_some (tree.And left right) heap v e z = absurd cc
cost_some (tree.Or left right) heap v e z = absurd cc
cost_some (tree.Comma left right) heap v e z = absurd cc
cost_some (tree.Cond test first second) heap v e z = absurd cc
cost_some (tree.Assign o target right) heap v e z = absurd cc
cost_some (tree.Late number) heap v e z = absurd cc

pub is_there : (found : Option Value) (P : Value → Type 0) (v : Value) → IfSome found P → found ≡ Some v → P v
is_there None P v p e = absurd cc
is_there (Some w) P v p e = let f : w ≡ v = cc in subst P f p

-- ---- runs

module _ (heap : Heap) (hosts : List HostCall) (beats : ℕ) (out : Outside) where
  abbrev left_of : ℕ → Program → Stack → ℕ → Trace
  left_of n p ks steps = run out.world n p ks (state_of heap hosts beats steps out)

  abbrev due_of : ℕ → Program → Stack → ℕ → Trace
  due_of n p ks steps = due out.world n p ks (state_of heap hosts beats steps out)

  one : (m n : ℕ) (p : Program) (ks : Stack) (steps : ℕ) → m ≡ suc n → due_of m p ks steps ≡ left_of n p ks (steps + 1)
  one m n p ks steps h =
      let f : suc steps ≡ steps + 1 = omega arith in
      ap (λ k. due_of k p ks steps) h ∙ ap (λ k. left_of n p ks k) f

  at_one : (n : ℕ) (p : Program) (v w : Value) (ks : Stack) (steps : ℕ) → p ≡ gives w → Some w ≡ Some v → due_of (1 + n) p ks steps ≡ left_of n (gives v) ks (steps + 1)
  at_one n p v w ks steps e f =
      let m : 1 + n ≡ suc n = omega arith in
      let g : w ≡ v = cc in
      one (1 + n) n p ks steps m ∙ (ap (λ p. left_of n p ks (steps + 1)) e ∙ ap (λ v. left_of n (gives v) ks (steps + 1)) g)

  name_goes : (n : ℕ) (name : Name) (v : Value) (ks : Stack) (steps : ℕ) → value_of_global heap name ≡ Some v
      → left_of n (program (AnExpr (tree.Ident name)) script_env) ks steps ≡ left_of n (gives v) ks steps
  name_goes n name v ks steps e =
      ap (λ b. left_of n (get_value (if_global name b) gives) ks steps) (is_met (met heap global_object name) v e)
      ∙ ap (λ found. left_of n (gives (or_undefined found)) ks steps) e

  pub quick : (e : Expr) (v : Value) (n : ℕ) (ks : Stack) (steps : ℕ) → value_at_once e heap ≡ Some v
      → due_of (cost e + n) (program (AnExpr e) script_env) ks steps ≡ left_of n (gives v) ks (steps + cost e)
  quick (tree.Num k) v n ks steps e = at_one n (program (AnExpr (tree.Num k)) script_env) v (value.Num (number.Whole (pos k))) ks steps refl e
  quick (tree.Str text) v n ks steps e = at_one n (program (AnExpr (tree.Str text)) script_env) v (value.Str text) ks steps refl e
  quick (tree.Truth b) v n ks steps e = at_one n (program (AnExpr (tree.Truth b)) script_env) v (value.Bool b) ks steps refl e
  quick tree.Null v n ks steps e = at_one n (program (AnExpr tree.Null) script_env) v value.Null ks steps refl e
  quick tree.This v n ks steps e = absurd cc
  quick (tree.Ident name) v n ks steps e =
      let m : 1 + n ≡ suc n = omega arith in
      one (1 + n) n (program (AnExpr (tree.Ident name)) script_env) ks steps m ∙ name_goes n name v ks (steps + 1) e
  quick (tree.Array es) v n ks steps e = absurd cc
  quick (tree.Object ps) v n ks steps e = absurd cc
  quick (tree.Function f) v n ks steps e = absurd cc
  quick (tree.Dot object name) v n ks steps e = absurd cc
  quick (tree.Index object key) v n ks steps e = absurd cc
  quick (tree.Call callee es) v n ks steps e = absurd cc
  quick (tree.New callee es) v n ks steps e = absurd cc
  quick (tree.Postfix target o) v n ks steps e = absurd cc
  quick (tree.Prefix o operand) v n ks steps e = absurd cc
  quick (tree.Binary o left right) v n ks steps e =
      let it = operands o (value_at_once left heap) (value_at_once right heap) v e in
      let b = both_cost o it.left it.right v (cost left) (cost right) it.gives in
      let j = joined_is (cost left) (cost right) (cost_some left heap it.left it.is_left) (cost_some right heap it.right it.is_right) in
      let c : cost (tree.Binary o left right) ≡ cost left + cost right + 1 = b ∙ j in
      let m : cost (tree.Binary o left right) + n ≡ suc (cost left + (cost right + n)) = omega (arith, c) in
      let t : steps + 1 + cost left + cost right ≡ steps + cost (tree.Binary o left right) = omega (arith, c) in
      one (cost (tree.Binary o left right) + n) (cost left + (cost right + n)) (program (AnExpr (tree.Binary o left right)) script_env) ks steps m
      ∙ (quick left it.left (cost right + n) _ (steps + 1) it.is_left
      ∙ (quick right it.right n (on_value (λ w. operate o it.left w gives) ∷ ks) (steps + 1 + cost left) it.is_right
      ∙ (operator_gives out.world (due out.world n) (pop out.world (due out.world n) ks) ks (state_of heap hosts beats (steps + 1 + cost left + cost right) out) o it.left it.right gives v it.gives
      ∙ ap (λ k. left_of n (gives v) ks k) t)))
  quick (tree.And left right) v n ks steps e = absurd cc
  quick (tree.Or left right) v n ks steps e = absurd cc
  quick (tree.Comma left right) v n ks steps e = absurd cc
  quick (tree.Cond test first second) v n ks steps e = absurd cc
  quick (tree.Assign o target right) v n ks steps e = absurd cc
  quick (tree.Late number) v n ks steps e = absurd cc

-- ---- the same for the machine

module _ (n : ℕ) (fs : List Frame) (vs : List Value) (heap : Heap) (hosts : List HostCall) (beats steps : ℕ) (out : Outside) where
  pub passes : (e : declared_expr.Expr) (v : Value) (k : ℕ) → value_at_once (expr e) heap ≡ Some v → k ≡ cost (expr e) → k ≤ n
      → rest (control.Expr e) n fs vs heap hosts beats steps out ≡ rest control.Give (n - k) fs (v ∷ vs) heap hosts beats (steps + k) out
  unfolding rest
  passes e v k h c l =
      let m : n ≡ cost (expr e) + (n - k) = omega (arith, c, l) in
      ap (λ n. due out.world n (program (AnExpr (expr e)) script_env) (stack fs vs) (state_of heap hosts beats steps out)) m
      ∙ (quick heap hosts beats out (expr e) v (n - k) (stack fs vs) steps h
      ∙ ap (λ i. run out.world (n - k) (gives v) (stack fs vs) (state_of heap hosts beats (steps + i) out)) (sym c))

pub pushed : (e : declared_expr.Expr) (v : Value) (old new : Machine) (k : ℕ) → value_at_once (expr e) old.heap ≡ Some v → k ≡ cost (expr e) → (k ≡ 0 → ⊥) → k ≤ old.clock.1
    → new.values ≡ v ∷ old.values → new.clock ≡ (old.clock.0 + k, old.clock.1 - k) → new.frames ≡ old.frames → new.heap ≡ old.heap → new.hosts ≡ old.hosts → new.beats ≡ old.beats → Pushed e old new
pushed e v old new k h c z l g d frames heap hosts beats =
    record {
      same = λ f out. given_under (f ∷ old.frames) out
          ∙ (give_frame new.clock.1 old.frames new.values new.heap new.hosts new.beats new.clock.0 out f (f ∷ old.frames) refl
          ∙ ap (λ fs. in_value f new.clock.1 fs new.values new.heap new.hosts new.beats new.clock.0 out) (sym frames));
      gives = λ out. given_under old.frames out
          ∙ ap (λ fs. rest control.Give new.clock.1 fs new.values new.heap new.hosts new.beats new.clock.0 out) (sym frames);
      frames = frames;
      left = let m : new.clock.1 ≡ old.clock.1 - k = ap (λ d. d.1) d in omega (arith, m, z, l);
    }
  where
    given_under : (fs : List Frame) (out : Outside) → rest (control.Expr e) old.clock.1 fs old.values old.heap old.hosts old.beats old.clock.0 out ≡ rest control.Give new.clock.1 fs new.values new.heap new.hosts new.beats new.clock.0 out
    given_under fs out =
        passes old.clock.1 fs old.values old.heap old.hosts old.beats old.clock.0 out e v k h c l
        ∙ (ap (λ ws. rest control.Give (old.clock.1 - k) fs ws old.heap old.hosts old.beats (old.clock.0 + k) out) (sym g)
        ∙ (ap (λ d. rest control.Give d.1 fs new.values old.heap old.hosts old.beats d.0 out) (sym d)
        ∙ (ap (λ h. rest control.Give new.clock.1 fs new.values h old.hosts old.beats new.clock.0 out) (sym heap)
        ∙ (ap (λ hs. rest control.Give new.clock.1 fs new.values new.heap hs old.beats new.clock.0 out) (sym hosts)
        ∙ ap (λ b. rest control.Give new.clock.1 fs new.values new.heap new.hosts b new.clock.0 out) (sym beats)))))
