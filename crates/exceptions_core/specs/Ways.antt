-- The table of frames in two parts, as it is read: whether a frame takes a completion, and what it
-- answers where it goes.
use Rattle.std.specs.Prelude.{List, [], ◌∷◌, Option, Some, None}
use Rattle.exceptions_core.specs.declared.completion.Completion.{Completion}
use Rattle.exceptions_core.specs.declared.completion.Completion.TheVariants as completion
use Rattle.exceptions_core.specs.declared.completion.Frame.{Frame}
use Rattle.exceptions_core.specs.declared.completion.Frame.TheVariants as frame
use Rattle.exceptions_core.specs.declared.completion.Landing.{Landing}
use Rattle.exceptions_core.specs.declared.completion.Landing.TheVariants as landing
use Rattle.exceptions_core.specs.declared.table.Way.{Way}
use Rattle.exceptions_core.specs.declared.table.Way.TheVariants as way
use Rattle.exceptions_core.specs.Table.{Taken, Passes, Stays, Goes, taken}
use Rattle.exceptions_core.specs.Unwind.{Landed}

-- the answer of a frame that takes the completion and goes
abbrev pub answer_of : Frame → Completion → Landing
answer_of frame.Catch (completion.Throw v) = landing.Catch v
answer_of frame.Catch completion.Normal = landing.Left
answer_of frame.Catch (completion.Break label) = landing.Left
answer_of frame.Catch (completion.Continue label) = landing.Left
answer_of frame.Catch (completion.Return v) = landing.Left
answer_of frame.Finally c = landing.Finally c
answer_of frame.Call c = landing.Caller c
answer_of (frame.Loop labels) c = landing.Left
answer_of (frame.Switch labels) c = landing.Left
answer_of (frame.Label labels) c = landing.Left

-- whether it takes it, and whether it stays then
abbrev pub way_in : Taken → Way
way_in Passes = way.Passes
way_in (Stays landing) = way.Stays
way_in (Goes landing) = way.Goes

-- what the innermost frame does
abbrev pub way_at : List Frame → Completion → Option Way
way_at [] c = None
way_at (frame ∷ outer) c = Some (way_in (taken frame c))

-- the innermost frame goes with its answer
abbrev pub left_by : List Frame → Completion → Landed
left_by [] c = (landing.Bottom c, [])
left_by (frame ∷ outer) c = (answer_of frame c, outer)
