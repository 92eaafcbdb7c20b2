-- Where a completion lands.
use Rattle.std.proofs.Common.{◌≡◌, List, [], ◌∷◌, ◌++◌, refl, ap}
use Rattle.exceptions_core.specs.declared.completion.Completion.{Completion}
use Rattle.exceptions_core.specs.declared.completion.Frame.{Frame}
use Rattle.exceptions_core.specs.Table.{Taken, Stays, Goes, taken}
use Rattle.exceptions_core.specs.Unwind.{landed, unwind}
use Rattle.exceptions_core.specs.Laws.{AllPass, LandsAtTheInnermost, FallsToTheBottom}

pub falls : FallsToTheBottom
falls [] c passes = refl
falls (frame ∷ outer) c passes = rw (passes.0) (falls outer c passes.1)

-- frames that do not take it change nothing
pub passed_by : (inner outer : List Frame) (c : Completion) → AllPass c inner → unwind (inner ++ outer) c ≡ unwind outer c
passed_by [] outer c passes = refl
passed_by (frame ∷ inner) outer c passes = rw (passes.0) (passed_by inner outer c passes.1)

at_the_frame : (frame : Frame) (outer : List Frame) (c : Completion) (t : Taken) → taken frame c ≡ t → unwind (frame ∷ outer) c ≡ landed t frame outer (unwind outer c)
at_the_frame frame outer c t e = ap (λ t. landed t frame outer (unwind outer c)) e

pub lands : LandsAtTheInnermost
lands inner frame outer c passes = record {
  stays = λ answer e. rw (passed_by inner (frame ∷ outer) c passes) (at_the_frame frame outer c (Stays answer) e);
  goes = λ answer e. rw (passed_by inner (frame ∷ outer) c passes) (at_the_frame frame outer c (Goes answer) e);
}
