-- The text of a report: one line per mark, and the end line, each ended by a line feed.
use Rattle.std.specs.Prelude.{ℕ, List, [], ◌∷◌, ◌++◌, codes}
use Rattle.std.specs.List.{flat_map}
use Rattle.std.specs.Fmt.{decimal}
use Rattle.dl_text.specs.Quote.{quoted}
use Rattle.js_tree.specs.Tree.{Name}
use Rattle.play.specs.Value.{Shown, ShownUndefined, ShownText, ShownObject}

-- ---- the lines of a report but the last

pub data Line : Type 0 where
  CallLine : (name : Name) → (args : List Shown) → Line
  UncaughtLine : (v : Shown) → Line
  IdleLine : Line
  EventLine : (k : ℕ) → Line
  WaitLine : (c : ℕ) → Line
  AskLine : (c : ℕ) → Line
  HereLine : (c : ℕ) → Line
  LostLine : (c : ℕ) → Line
  CutLine : (c : ℕ) → Line

-- ---- their text

abbrev pub shown_text : Shown → List ℕ
shown_text ShownUndefined = codes "undefined"
shown_text (ShownText units) = quoted units
shown_text (ShownObject rank) = 35 ∷ decimal rank

abbrev pub argument_text : Shown → List ℕ
argument_text v = 32 ∷ shown_text v

abbrev pub numbered_line : List ℕ → ℕ → List ℕ
numbered_line word n = word ++ (32 ∷ (decimal n ++ 10 ∷ []))

abbrev pub line_text : Line → List ℕ
line_text (CallLine name args) = codes "call " ++ (name ++ (flat_map argument_text args ++ 10 ∷ []))
line_text (UncaughtLine v) = codes "uncaught" ++ (argument_text v ++ 10 ∷ [])
line_text IdleLine = codes "idle\n"
line_text (EventLine k) = numbered_line (codes "event") k
line_text (WaitLine c) = numbered_line (codes "wait") c
line_text (AskLine c) = numbered_line (codes "ask") c
line_text (HereLine c) = numbered_line (codes "here") c
line_text (LostLine c) = numbered_line (codes "lost") c
line_text (CutLine c) = numbered_line (codes "cut") c

abbrev pub lines_text : List Line → List ℕ
lines_text lines = flat_map line_text lines

-- the last line
abbrev pub ended_text : ℕ → List ℕ
ended_text steps = numbered_line (codes "end ended") steps

abbrev pub out_of_steps_text : ℕ → List ℕ
out_of_steps_text steps = numbered_line (codes "end out-of-steps") steps
