-- Where a completion lands among the open frames, of which the innermost stands first.
use Rattle.std.specs.Prelude.{List, [], ◌∷◌}
use Rattle.exceptions_core.specs.declared.completion.Completion.{Completion}
use Rattle.exceptions_core.specs.declared.completion.Frame.{Frame}
use Rattle.exceptions_core.specs.declared.completion.Landing.{Landing}
use Rattle.exceptions_core.specs.declared.completion.Landing.TheVariants.{Bottom}
use Rattle.exceptions_core.specs.Table.{Taken, Passes, Stays, Goes, taken}

-- the landing, and the frames that stand then
abbrev pub Landed : Type 0
Landed = Landing × List Frame

-- by what a frame does, with the frames around it and what comes where it does not take it
abbrev pub landed : Taken → Frame → List Frame → Landed → Landed
landed Passes frame outer further_out = further_out
landed (Stays answer) frame outer further_out = (answer, frame ∷ outer)
landed (Goes answer) frame outer further_out = (answer, outer)

-- at the innermost frame that takes it, and at the bottom where there is none
abbrev pub unwind : List Frame → Completion → Landed
unwind [] c = (Bottom c, [])
unwind (frame ∷ outer) c = landed (taken frame c) frame outer (unwind outer c)
