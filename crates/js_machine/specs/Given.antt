-- What a run asks of the world around it, and what it was answered.
use Rattle.std.specs.Prelude.{◌≡◌, ℕ, Bool, List, [], ◌∷◌, ◌++◌, is_some}
use Rattle.js_values.specs.declared.value.Value.{Value}
use Rattle.js_values.specs.Shown.{passed_with_all, shown_of_all}
use Rattle.object_heap.specs.Names.{Name}
use Rattle.js_tree.specs.Tree.{Func}
use Rattle.js_machine.specs.declared.frame.Control.{Control}
use Rattle.js_machine.specs.declared.machine.Machine.{Machine}
use Rattle.js_machine.specs.Rest.{Left, Outside, at, rest}
use Rattle.js_machine.specs.Run.{Mark, Call, Entry, Need, Trace, Say, entry_in, reply}

pub data Asked : Type 0 where
  -- a host call with its arguments was answered with a value
  Called : (name : Name) → (arguments : List Value) → (answer : Value) → Asked
  -- a numbered function was entered, at its beat, and the run goes on or not
  Entered : (number beat : ℕ) → (goes_on : Bool) → Asked
  -- a late function was needed, and was there or not
  Needed : (number : ℕ) → (is_there : Bool) → Asked

-- a list of functions by their numbers has all that stood in another, and first
abbrev pub GrowsTo : List (ℕ × Func) → List (ℕ × Func) → Type 0
GrowsTo bodies bodies' = (more : List (ℕ × Func)) × (bodies' ≡ bodies ++ more)

-- what the host has seen behind a call
abbrev pub after_call : Name → List Value → Outside → Outside
after_call name arguments out = record {
  world = out.world;
  called = out.called ++ name ∷ [];
  passed = passed_with_all out.passed arguments;
}

abbrev pub after_one : Asked → Outside → Outside
after_one (Called name arguments answer) out = after_call name arguments out
after_one (Entered number beat goes_on) out = out
after_one (Needed number is_there) out = out

abbrev pub after : List Asked → Outside → Outside
after [] out = out
after (a ∷ asked) out = after asked (after_one a out)

-- the page's replies are the host's answers, and its entries are those that were there
abbrev pub IsAnswer : Asked → Outside → Type 0
IsAnswer (Called name arguments answer) out = reply out.world out.called name ≡ answer
IsAnswer (Entered number beat goes_on) out = Unit {0}
IsAnswer (Needed number is_there) out = is_some (entry_in out.world.entries number) ≡ is_there

abbrev pub Answers : List Asked → Outside → Type 0
Answers [] out = Unit {0}
Answers (a ∷ asked) out = IsAnswer a out × Answers asked (after_one a out)

-- what a run tells of it
abbrev pub mark_of : Asked → Outside → Mark
mark_of (Called name arguments answer) out = Call name (shown_of_all out.passed arguments)
mark_of (Entered number beat goes_on) out = Entry number beat
mark_of (Needed number is_there) out = Need number

abbrev pub Tells : Mark → Trace → Trace → Type 0
Tells mark t u = (steps : ℕ) × (t ≡ Say mark steps u)

-- a run goes on as another behind what was asked
abbrev pub Goes : List Asked → Outside → Trace → Trace → Type 0
Goes [] out t u = t ≡ u
Goes (a ∷ asked) out t u =
    (v : Trace) × (Tells (mark_of a out) t v × Goes asked (after_one a out) v u)

-- The machine went from old to new, and what is left is the same but for what was asked.
abbrev pub LeadsTo : Left → Machine → List Asked → Control → Machine → List Asked → Type 0
LeadsTo before old given next new given' =
    (asked : List Asked) × ((given' ≡ given ++ asked)
    × ((out : Outside) → Answers asked out →
    Goes asked out (at before old out) (at (rest next) new (after asked out))))
