-- What is left of a run where a statement ended, or a jump or an exception passes.
use Rattle.std.proofs.Common.{◌≡◌, ℕ, Bool, true, false, List, [], ◌∷◌, refl, ap}
use Rattle.js_values.specs.declared.value.Value.{Value}
use Rattle.object_heap.specs.Objects.{Heap}
use Rattle.js_tree.specs.declared.tree.Stmt.{Stmt}
use Rattle.js_machine.specs.declared.frame.Frame.{Frame}
use Rattle.js_machine.specs.declared.frame.Frame.TheVariants as frame
use Rattle.js_machine.specs.declared.frame.Control.TheVariants as control
use Rattle.js_machine.specs.declared.frame.End.TheVariants as end
use Rattle.js_machine.specs.declared.hosts.HostCall.{HostCall}
use Rattle.js_machine.specs.Stacks.{top, below}
use Rattle.js_machine.specs.Rest.{Outside, rest, under, in_list, in_value, in_done, in_break, in_continue, in_throw}

-- a frame that takes a value, and lets all else pass
abbrev takes_value : Frame → Bool
takes_value (frame.Next ss i) = false
takes_value (frame.Turn s) = false
takes_value (frame.Visit left s) = false
takes_value _ = true

-- a frame that takes what leaves the body of a loop
abbrev is_turn : Frame → Bool
is_turn (frame.Turn s) = true
is_turn (frame.Visit left s) = true
is_turn _ = false

module _ (n : ℕ) (fs : List Frame) (vs : List Value) (heap : Heap) (hosts : List HostCall) (beats steps : ℕ) (out : Outside) where
  pub d_next : (ss : List Stmt) (i : ℕ) → in_done (frame.Next ss i) n fs vs heap hosts beats steps out ≡ in_list ss i n fs vs heap hosts beats steps out
  unfolding in_done in_list
  d_next ss i = refl

  pub done_passes : (f : Frame) → takes_value f ≡ true → in_done f n fs vs heap hosts beats steps out ≡ rest control.Done n fs (under f vs) heap hosts beats steps out
  unfolding in_done rest
  done_passes (frame.Left op right) h = refl
  done_passes (frame.Right op) h = refl
  done_passes (frame.And right) h = refl
  done_passes (frame.Or right) h = refl
  done_passes (frame.Comma right) h = refl
  done_passes (frame.Cond first second) h = refl
  done_passes frame.Do h = refl
  done_passes (frame.Next ss i) h = cc
  done_passes (frame.If s) h = refl
  done_passes (frame.Test s) h = refl
  done_passes (frame.Turn s) h = cc
  done_passes (frame.Again s) h = refl
  done_passes (frame.Store t) h = refl
  done_passes (frame.StoreWith op t) h = refl
  done_passes (frame.Unary op) h = refl
  done_passes frame.Type h = refl
  done_passes (frame.Var i items) h = refl
  done_passes (frame.ForVar i items s) h = refl
  done_passes (frame.Callee callee es) h = refl
  done_passes (frame.Argument i callee es) h = refl
  done_passes (frame.Base e) h = refl
  done_passes (frame.Key e) h = refl
  done_passes frame.Put h = refl
  done_passes (frame.PutWith op) h = refl
  done_passes (frame.Changed op gives_new) h = refl
  done_passes (frame.Element i es) h = refl
  done_passes (frame.Pair i ps) h = refl
  done_passes frame.In h = refl
  done_passes (frame.VisitsFrom s) h = refl
  done_passes (frame.Visits s) h = refl
  done_passes (frame.Visit left s) h = cc
  done_passes (frame.VisitBase left s) h = refl
  done_passes (frame.VisitKey left s) h = refl

  pub break_passes : (f : Frame) → is_turn f ≡ false → in_break f n fs vs heap hosts beats steps out ≡ rest control.Break n fs (under f vs) heap hosts beats steps out
  unfolding in_break rest
  break_passes (frame.Left op right) h = refl
  break_passes (frame.Right op) h = refl
  break_passes (frame.And right) h = refl
  break_passes (frame.Or right) h = refl
  break_passes (frame.Comma right) h = refl
  break_passes (frame.Cond first second) h = refl
  break_passes frame.Do h = refl
  break_passes (frame.Next ss i) h = refl
  break_passes (frame.If s) h = refl
  break_passes (frame.Test s) h = refl
  break_passes (frame.Turn s) h = cc
  break_passes (frame.Again s) h = refl
  break_passes (frame.Store t) h = refl
  break_passes (frame.StoreWith op t) h = refl
  break_passes (frame.Unary op) h = refl
  break_passes frame.Type h = refl
  break_passes (frame.Var i items) h = refl
  break_passes (frame.ForVar i items s) h = refl
  break_passes (frame.Callee callee es) h = refl
  break_passes (frame.Argument i callee es) h = refl
  break_passes (frame.Base e) h = refl
  break_passes (frame.Key e) h = refl
  break_passes frame.Put h = refl
  break_passes (frame.PutWith op) h = refl
  break_passes (frame.Changed op gives_new) h = refl
  break_passes (frame.Element i es) h = refl
  break_passes (frame.Pair i ps) h = refl
  break_passes frame.In h = refl
  break_passes (frame.VisitsFrom s) h = refl
  break_passes (frame.Visits s) h = refl
  break_passes (frame.Visit left s) h = cc
  break_passes (frame.VisitBase left s) h = refl
  break_passes (frame.VisitKey left s) h = refl

  pub continue_passes : (f : Frame) → is_turn f ≡ false → in_continue f n fs vs heap hosts beats steps out ≡ rest control.Continue n fs (under f vs) heap hosts beats steps out
  unfolding in_continue rest
  continue_passes (frame.Left op right) h = refl
  continue_passes (frame.Right op) h = refl
  continue_passes (frame.And right) h = refl
  continue_passes (frame.Or right) h = refl
  continue_passes (frame.Comma right) h = refl
  continue_passes (frame.Cond first second) h = refl
  continue_passes frame.Do h = refl
  continue_passes (frame.Next ss i) h = refl
  continue_passes (frame.If s) h = refl
  continue_passes (frame.Test s) h = refl
  continue_passes (frame.Turn s) h = cc
  continue_passes (frame.Again s) h = refl
  continue_passes (frame.Store t) h = refl
  continue_passes (frame.StoreWith op t) h = refl
  continue_passes (frame.Unary op) h = refl
  continue_passes frame.Type h = refl
  continue_passes (frame.Var i items) h = refl
  continue_passes (frame.ForVar i items s) h = refl
  continue_passes (frame.Callee callee es) h = refl
  continue_passes (frame.Argument i callee es) h = refl
  continue_passes (frame.Base e) h = refl
  continue_passes (frame.Key e) h = refl
  continue_passes frame.Put h = refl
  continue_passes (frame.PutWith op) h = refl
  continue_passes (frame.Changed op gives_new) h = refl
  continue_passes (frame.Element i es) h = refl
  continue_passes (frame.Pair i ps) h = refl
  continue_passes frame.In h = refl
  continue_passes (frame.VisitsFrom s) h = refl
  continue_passes (frame.Visits s) h = refl
  continue_passes (frame.Visit left s) h = cc
  continue_passes (frame.VisitBase left s) h = refl
  continue_passes (frame.VisitKey left s) h = refl

  pub throw_passes : (f : Frame) → in_throw f n fs vs heap hosts beats steps out ≡ rest control.Throw n fs (top vs ∷ under f (below vs)) heap hosts beats steps out
  unfolding in_throw rest
  throw_passes (frame.Left op right) = refl
  throw_passes (frame.Right op) = refl
  throw_passes (frame.And right) = refl
  throw_passes (frame.Or right) = refl
  throw_passes (frame.Comma right) = refl
  throw_passes (frame.Cond first second) = refl
  throw_passes frame.Do = refl
  throw_passes (frame.Next ss i) = refl
  throw_passes (frame.If s) = refl
  throw_passes (frame.Test s) = refl
  throw_passes (frame.Turn s) = refl
  throw_passes (frame.Again s) = refl
  throw_passes (frame.Store t) = refl
  throw_passes (frame.StoreWith op t) = refl
  throw_passes (frame.Unary op) = refl
  throw_passes frame.Type = refl
  throw_passes (frame.Var i items) = refl
  throw_passes (frame.ForVar i items s) = refl
  throw_passes (frame.Callee callee es) = refl
  throw_passes (frame.Argument i callee es) = refl
  throw_passes (frame.Base e) = refl
  throw_passes (frame.Key e) = refl
  throw_passes frame.Put = refl
  throw_passes (frame.PutWith op) = refl
  throw_passes (frame.Changed op gives_new) = refl
  throw_passes (frame.Element i es) = refl
  throw_passes (frame.Pair i ps) = refl
  throw_passes frame.In = refl
  throw_passes (frame.VisitsFrom s) = refl
  throw_passes (frame.Visits s) = refl
  throw_passes (frame.Visit left s) = refl
  throw_passes (frame.VisitBase left s) = refl
  throw_passes (frame.VisitKey left s) = refl

  -- ---- the newest frame, and the last one

  pub give_frame : (f : Frame) (gs : List Frame) → gs ≡ f ∷ fs → rest control.Give n gs vs heap hosts beats steps out ≡ in_value f n fs vs heap hosts beats steps out
  unfolding rest in_value
  give_frame f gs e = ap (λ gs. rest control.Give n gs vs heap hosts beats steps out) e

  pub done_frame : (f : Frame) (gs : List Frame) → gs ≡ f ∷ fs → rest control.Done n gs vs heap hosts beats steps out ≡ in_done f n fs vs heap hosts beats steps out
  unfolding rest in_done
  done_frame f gs e = ap (λ gs. rest control.Done n gs vs heap hosts beats steps out) e

  pub break_frame : (f : Frame) (gs : List Frame) → gs ≡ f ∷ fs → rest control.Break n gs vs heap hosts beats steps out ≡ in_break f n fs vs heap hosts beats steps out
  unfolding rest in_break
  break_frame f gs e = ap (λ gs. rest control.Break n gs vs heap hosts beats steps out) e

  pub continue_frame : (f : Frame) (gs : List Frame) → gs ≡ f ∷ fs → rest control.Continue n gs vs heap hosts beats steps out ≡ in_continue f n fs vs heap hosts beats steps out
  unfolding rest in_continue
  continue_frame f gs e = ap (λ gs. rest control.Continue n gs vs heap hosts beats steps out) e

  pub throw_frame : (f : Frame) (gs : List Frame) → gs ≡ f ∷ fs → rest control.Throw n gs vs heap hosts beats steps out ≡ in_throw f n fs vs heap hosts beats steps out
  unfolding rest in_throw
  throw_frame f gs e = ap (λ gs. rest control.Throw n gs vs heap hosts beats steps out) e

  pub give_end : fs ≡ [] → rest control.Give n fs vs heap hosts beats steps out ≡ rest (control.End end.Gave) n fs vs heap hosts beats steps out
  unfolding rest
  give_end e = ap (λ fs. rest control.Give n fs vs heap hosts beats steps out) e

  pub done_end : fs ≡ [] → rest control.Done n fs vs heap hosts beats steps out ≡ rest (control.End end.Done) n fs vs heap hosts beats steps out
  unfolding rest
  done_end e = ap (λ fs. rest control.Done n fs vs heap hosts beats steps out) e

  pub break_end : fs ≡ [] → rest control.Break n fs vs heap hosts beats steps out ≡ rest (control.End end.Broke) n fs vs heap hosts beats steps out
  unfolding rest
  break_end e = ap (λ fs. rest control.Break n fs vs heap hosts beats steps out) e

  pub continue_end : fs ≡ [] → rest control.Continue n fs vs heap hosts beats steps out ≡ rest (control.End end.Continued) n fs vs heap hosts beats steps out
  unfolding rest
  continue_end e = ap (λ fs. rest control.Continue n fs vs heap hosts beats steps out) e

  pub throw_end : fs ≡ [] → rest control.Throw n fs vs heap hosts beats steps out ≡ rest (control.End end.Threw) n fs vs heap hosts beats steps out
  unfolding rest
  throw_end e = ap (λ fs. rest control.Throw n fs vs heap hosts beats steps out) e

-- ---- the cases of one call each

pub ruleset give_laws = (give_frame, give_end)

pub ruleset done_laws = (done_frame, done_end)

pub ruleset break_laws = (break_frame, break_end)

pub ruleset continue_laws = (continue_frame, continue_end)

pub ruleset throw_laws = (throw_frame, throw_end)

pub ruleset ended_laws = (d_next, done_passes)
