-- Where a completion lands, told by which frames take it.
use Rattle.std.specs.Prelude.{◌≡◌, List, [], ◌∷◌, ◌++◌}
use Rattle.exceptions_core.specs.declared.completion.Completion.{Completion}
use Rattle.exceptions_core.specs.declared.completion.Frame.{Frame}
use Rattle.exceptions_core.specs.declared.completion.Landing.{Landing}
use Rattle.exceptions_core.specs.declared.completion.Landing.TheVariants.{Bottom}
use Rattle.exceptions_core.specs.Table.{Passes, Stays, Goes, taken}
use Rattle.exceptions_core.specs.Unwind.{unwind}

-- none of these frames takes the completion
abbrev pub AllPass : Completion → List Frame → Type 0
AllPass c [] = Unit {0}
AllPass c (frame ∷ outer) = (taken frame c ≡ Passes) × AllPass c outer

-- where a frame takes it and those inside it do not, these go, and the frame stays or goes too
pub record LandsThere (inner : List Frame) (frame : Frame) (outer : List Frame) (c : Completion)
    : Type 0 where
  pub stays : (answer : Landing) → taken frame c ≡ Stays answer
      → unwind (inner ++ frame ∷ outer) c ≡ (answer, frame ∷ outer)
  pub goes : (answer : Landing) → taken frame c ≡ Goes answer
      → unwind (inner ++ frame ∷ outer) c ≡ (answer, outer)

abbrev pub LandsAtTheInnermost : Type 0
LandsAtTheInnermost =
    (inner : List Frame) (frame : Frame) (outer : List Frame) (c : Completion)
    → AllPass c inner → LandsThere inner frame outer c

abbrev pub FallsToTheBottom : Type 0
FallsToTheBottom =
    (frames : List Frame) (c : Completion) → AllPass c frames → unwind frames c ≡ (Bottom c, [])
