-- Frames and completions of the rows.
use Rattle.std.specs.Prelude.{List, [], ◌∷◌, codes, Some, None, pos, map}
use Rattle.js_values.specs.declared.number.Num.TheVariants.{Whole}
use Rattle.js_values.specs.declared.value.Value.{Value}
use Rattle.js_values.specs.declared.value.Value.TheVariants as value
use Rattle.exceptions_core.specs.declared.completion.Completion.{Completion}
use Rattle.exceptions_core.specs.declared.completion.Completion.TheVariants.{Normal, Break}
use Rattle.exceptions_core.specs.declared.completion.Completion.TheVariants.{Continue, Return}
use Rattle.exceptions_core.specs.declared.completion.Completion.TheVariants.{Throw}
use Rattle.exceptions_core.specs.declared.completion.Frame.{Frame}
use Rattle.exceptions_core.specs.declared.completion.Frame.TheVariants as frame
use Rattle.exceptions_core.specs.Table.{Label, Taken, taken}

-- two labels of the frame, and one of none
abbrev pub a : Label
a = codes "a"

abbrev pub b : Label
b = codes "b"

abbrev pub x : Label
x = codes "x"

-- a value
abbrev pub five : Value
five = value.Num (Whole (pos 5))

abbrev pub labelled_loop : Frame
labelled_loop = frame.Loop (a ∷ b ∷ [])

abbrev pub labelled_switch : Frame
labelled_switch = frame.Switch (a ∷ b ∷ [])

abbrev pub labelled_block : Frame
labelled_block = frame.Label (a ∷ b ∷ [])

-- a loop without labels
abbrev pub bare_loop : Frame
bare_loop = frame.Loop []

-- jumps without a label, with the first label, with the second and with another
abbrev pub breaks : List Completion
breaks = Break None ∷ Break (Some a) ∷ Break (Some b) ∷ Break (Some x) ∷ []

abbrev pub continues : List Completion
continues = Continue None ∷ Continue (Some a) ∷ Continue (Some b) ∷ Continue (Some x) ∷ []

-- the others
abbrev pub ends : List Completion
ends = Normal ∷ Return five ∷ Throw five ∷ []

-- what the frame does with each
abbrev pub all_taken : Frame → List Completion → List Taken
all_taken frame completions = map (taken frame) completions
