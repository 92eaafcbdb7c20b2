-- Which completions a frame takes, what is then answered, and whether the frame stays.
use Rattle.std.specs.Prelude.{ℕ, Bool, true, false, if◌then◌else◌, List, Option, Some, None, nat_eq}
use Rattle.std.specs.List.{list_any}
use Rattle.std.specs.Cmp.Lexicographic.{pointwise}
use Rattle.exceptions_core.specs.declared.completion.Completion.{Completion}
use Rattle.exceptions_core.specs.declared.completion.Completion.TheVariants.{Normal, Break}
use Rattle.exceptions_core.specs.declared.completion.Completion.TheVariants.{Continue, Return}
use Rattle.exceptions_core.specs.declared.completion.Completion.TheVariants.{Throw}
use Rattle.exceptions_core.specs.declared.completion.Frame.{Frame}
use Rattle.exceptions_core.specs.declared.completion.Frame.TheVariants as frame
use Rattle.exceptions_core.specs.declared.completion.Landing.{Landing}
use Rattle.exceptions_core.specs.declared.completion.Landing.TheVariants as landing

-- ---- labels (ES3 12.12)

abbrev pub Label : Type 0
Label = List ℕ

-- whether the label is one of these
abbrev pub has_label : List Label → Label → Bool
has_label labels label = list_any (λ own. pointwise nat_eq own label) labels

-- whether a jump has one of these labels
abbrev pub names_one : List Label → Option Label → Bool
names_one labels None = false
names_one labels (Some label) = has_label labels label

-- whether it has one of these labels, or none
abbrev pub aims_at : List Label → Option Label → Bool
aims_at labels None = true
aims_at labels (Some label) = has_label labels label

-- ---- the table

-- what a frame does with a completion
pub data Taken : Type 0 where
  -- it does not take it, and goes
  Passes : Taken
  -- it takes it, and stays
  Stays : (landing : Landing) → Taken
  -- it takes it, and goes
  Goes : (landing : Landing) → Taken

abbrev pub taken : Frame → Completion → Taken
-- loops (ES3 12.6.1 to 12.6.4): a turn that ended, `continue` (12.7) and `break` (12.8)
taken (frame.Loop labels) Normal = Stays landing.Next
taken (frame.Loop labels) (Continue label) =
    if aims_at labels label then Stays landing.Next else Passes
taken (frame.Loop labels) (Break label) =
    if aims_at labels label then Goes landing.Left else Passes
taken (frame.Loop labels) (Return v) = Passes
taken (frame.Loop labels) (Throw v) = Passes
-- `switch` (ES3 12.11)
taken (frame.Switch labels) Normal = Goes landing.Left
taken (frame.Switch labels) (Break label) =
    if aims_at labels label then Goes landing.Left else Passes
taken (frame.Switch labels) (Continue label) = Passes
taken (frame.Switch labels) (Return v) = Passes
taken (frame.Switch labels) (Throw v) = Passes
-- other statements behind labels (ES3 12.12): a `break` without label goes further out
taken (frame.Label labels) Normal = Goes landing.Left
taken (frame.Label labels) (Break label) =
    if names_one labels label then Goes landing.Left else Passes
taken (frame.Label labels) (Continue label) = Passes
taken (frame.Label labels) (Return v) = Passes
taken (frame.Label labels) (Throw v) = Passes
-- `catch` (ES3 12.14)
taken frame.Catch Normal = Goes landing.Left
taken frame.Catch (Throw v) = Goes (landing.Catch v)
taken frame.Catch (Break label) = Passes
taken frame.Catch (Continue label) = Passes
taken frame.Catch (Return v) = Passes
-- `finally` (ES3 12.14), which runs whatever came
taken frame.Finally c = Goes (landing.Finally c)
-- calls (ES3 13.2.1)
taken frame.Call c = Goes (landing.Caller c)
