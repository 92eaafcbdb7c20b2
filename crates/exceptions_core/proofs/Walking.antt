-- One frame of a walk over the open frames.
use Rattle.std.proofs.Common.{◌≡◌, List, [], ◌∷◌, Some, None, Bool, true, false, refl, ap, ◌∙◌}
use Rattle.std.specs.Prelude.{if◌then◌else◌}
use Rattle.exceptions_core.specs.declared.completion.Completion.{Completion}
use Rattle.exceptions_core.specs.declared.completion.Completion.TheVariants as completion
use Rattle.exceptions_core.specs.declared.completion.Frame.{Frame}
use Rattle.exceptions_core.specs.declared.completion.Frame.TheVariants as frame
use Rattle.exceptions_core.specs.declared.completion.Landing.TheVariants as landing
use Rattle.exceptions_core.specs.declared.table.Way.TheVariants as way
use Rattle.exceptions_core.specs.Table.{Taken, Passes, Stays, Goes, taken, aims_at, names_one}
use Rattle.exceptions_core.specs.Unwind.{landed, unwind}
use Rattle.exceptions_core.specs.Ways.{answer_of, left_by, way_at, way_in}

-- ---- the table in its two parts

abbrev Tells : Frame → Completion → Taken → Type 0
Tells frame c t = (way_in t ≡ way.Passes → t ≡ Passes) × ((way_in t ≡ way.Stays → t ≡ Stays landing.Next) × (way_in t ≡ way.Goes → t ≡ Goes (answer_of frame c)))

passed : (frame : Frame) (c : Completion) → Tells frame c Passes
passed frame c = ((λ e. refl), ((λ e. cc), (λ e. cc)))

stayed : (frame : Frame) (c : Completion) → Tells frame c (Stays landing.Next)
stayed frame c = ((λ e. cc), ((λ e. refl), (λ e. cc)))

gone : (frame : Frame) (c : Completion) → Tells frame c (Goes (answer_of frame c))
gone frame c = ((λ e. cc), ((λ e. cc), (λ e. refl)))

goes_if : (frame : Frame) (c : Completion) (b : Bool) → Tells frame c (if b then Goes (answer_of frame c) else Passes)
goes_if frame c true = gone frame c
goes_if frame c false = passed frame c

stays_if : (frame : Frame) (c : Completion) (b : Bool) → Tells frame c (if b then Stays landing.Next else Passes)
stays_if frame c true = stayed frame c
stays_if frame c false = passed frame c

tells : (f : Frame) (c : Completion) → Tells f c (taken f c)
tells (frame.Loop labels) completion.Normal = stayed (frame.Loop labels) completion.Normal
tells (frame.Loop labels) (completion.Continue label) = stays_if (frame.Loop labels) (completion.Continue label) (aims_at labels label)
tells (frame.Loop labels) (completion.Break label) = goes_if (frame.Loop labels) (completion.Break label) (aims_at labels label)
tells (frame.Loop labels) (completion.Return v) = passed (frame.Loop labels) (completion.Return v)
tells (frame.Loop labels) (completion.Throw v) = passed (frame.Loop labels) (completion.Throw v)
tells (frame.Switch labels) completion.Normal = gone (frame.Switch labels) completion.Normal
tells (frame.Switch labels) (completion.Break label) = goes_if (frame.Switch labels) (completion.Break label) (aims_at labels label)
tells (frame.Switch labels) (completion.Continue label) = passed (frame.Switch labels) (completion.Continue label)
tells (frame.Switch labels) (completion.Return v) = passed (frame.Switch labels) (completion.Return v)
tells (frame.Switch labels) (completion.Throw v) = passed (frame.Switch labels) (completion.Throw v)
tells (frame.Label labels) completion.Normal = gone (frame.Label labels) completion.Normal
tells (frame.Label labels) (completion.Break label) = goes_if (frame.Label labels) (completion.Break label) (names_one labels label)
tells (frame.Label labels) (completion.Continue label) = passed (frame.Label labels) (completion.Continue label)
tells (frame.Label labels) (completion.Return v) = passed (frame.Label labels) (completion.Return v)
tells (frame.Label labels) (completion.Throw v) = passed (frame.Label labels) (completion.Throw v)
tells frame.Catch completion.Normal = gone frame.Catch completion.Normal
tells frame.Catch (completion.Throw v) = gone frame.Catch (completion.Throw v)
tells frame.Catch (completion.Break label) = passed frame.Catch (completion.Break label)
tells frame.Catch (completion.Continue label) = passed frame.Catch (completion.Continue label)
tells frame.Catch (completion.Return v) = passed frame.Catch (completion.Return v)
tells frame.Finally c = gone frame.Finally c
tells frame.Call c = gone frame.Call c

-- ---- one frame

pub nowhere : (frames : List Frame) (c : Completion) → way_at frames c ≡ None → unwind frames c ≡ (landing.Bottom c, frames)
nowhere [] c h = refl
nowhere (frame ∷ outer) c h = cc

pub stays : (frames : List Frame) (c : Completion) → way_at frames c ≡ Some way.Stays → unwind frames c ≡ (landing.Next, frames)
stays [] c h = cc
stays (frame ∷ outer) c h = let e : way_in (taken frame c) ≡ way.Stays = cc in ap (λ t. landed t frame outer (unwind outer c)) ((tells frame c).1.0 e)

pub goes : (frames : List Frame) (c : Completion) → way_at frames c ≡ Some way.Goes → unwind frames c ≡ left_by frames c
goes [] c h = cc
goes (frame ∷ outer) c h = let e : way_in (taken frame c) ≡ way.Goes = cc in ap (λ t. landed t frame outer (unwind outer c)) ((tells frame c).1.1 e)

pub passes : (frame : Frame) (outer frames : List Frame) (c : Completion) → way_at frames c ≡ Some way.Passes → frames ≡ frame ∷ outer → unwind frames c ≡ unwind outer c
passes frame outer [] c h e = cc
passes frame outer (first ∷ rest) c h e = let w : way_in (taken first c) ≡ way.Passes = cc in let k : rest ≡ outer = cc in ap (λ t. landed t first rest (unwind rest c)) ((tells first c).0 w) ∙ ap (λ l. unwind l c) k

-- what a turn of the walk does
pub ruleset walks = (nowhere, stays, goes, passes)
