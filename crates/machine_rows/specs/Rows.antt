-- Runs of the rows.
use Rattle.std.specs.Prelude.{ℕ, List, [], ◌∷◌, ◌++◌, codes, pos, neg_ℤ, Bool}
use Rattle.js_values.specs.declared.number.Num.TheVariants.{Whole}
use Rattle.js_values.specs.declared.shown.Shown.{Shown}
use Rattle.js_values.specs.declared.shown.Shown.TheVariants as shown
use Rattle.object_heap.specs.Names.{Name}
use Rattle.js_tree.specs.Tree.{Expr, Stmt}
use Rattle.js_machine.specs.Run.{Mark, Trace, Call}
use Rattle.js_machine.specs.Page.{Page, original}
use Rattle.js_machine.specs.Logs.{Ending, Ended, marks_of, ending_of, seen, steps_of, beats_of}
use Rattle.machine_rows.specs.Writing.{block, shows, tries}

-- ---- pages

-- one host call, `out`, without replies, and no events
abbrev pub page : Page
page = record { host = codes "out" ∷ []; replies = []; events = [] }

abbrev pub bare_page : Page
bare_page = record { host = []; replies = []; events = [] }

-- ---- runs of one script

-- a budget that no row uses up
abbrev pub ample : ℕ
ample = 1000

abbrev pub of_page : Page → List Stmt → Trace
of_page page ss = original (block ss ∷ []) page ample

abbrev pub under : ℕ → List Stmt → Trace
under n ss = original (block ss ∷ []) page n

abbrev pub run_of : List Stmt → Trace
run_of ss = under ample ss

-- ---- what they tell, and how they end

pub record Report : Type 0 where
  pub marks : List Mark
  pub ending : Ending
  pub steps : ℕ
  pub beats : ℕ

abbrev pub report : Trace → Report
report t =
    record { marks = marks_of t; ending = ending_of t; steps = steps_of t; beats = beats_of t }

abbrev pub ended : List Mark → ℕ → ℕ → Report
ended marks steps beats =
    record { marks = marks; ending = Ended; steps = steps; beats = beats }

-- what the host sees of a script
abbrev pub lines : List Stmt → List Mark
lines ss = seen (marks_of (run_of ss))

-- of a script that calls `host.out` with these, behind these statements
abbrev pub behind : List Stmt → List Expr → List Mark
behind ss es = lines (ss ++ shows es ∷ [])

abbrev pub values : List Expr → List Mark
values es = behind [] es

-- of `try{..}catch(e){host.out(e.name);}`
abbrev pub caught : List Stmt → List Mark
caught ss = lines (tries ss ∷ [])

-- its end, with the steps
abbrev pub end_of : List Stmt → Ending × ℕ
end_of ss = (ending_of (run_of ss), steps_of (run_of ss))

-- ---- marks

abbrev pub out : List Shown → Mark
out values = Call (codes "out") values

abbrev pub number : ℕ → Shown
number n = shown.Num (Whole (pos n))

abbrev pub minus : ℕ → Shown
minus n = shown.Num (Whole (neg_ℤ (pos n)))

abbrev pub text : Name → Shown
text x = shown.Str x

abbrev pub truth : Bool → Shown
truth b = shown.Bool b

-- a call with one number, or with one text
abbrev pub numbers : ℕ → Mark
numbers n = out (number n ∷ [])

abbrev pub texts : Name → Mark
texts x = out (text x ∷ [])
