-- How programs go on with outcomes.
use Rattle.std.proofs.Common.{Bool, true, false}
use Rattle.std.specs.Prelude.{if◌then◌else◌}
use Rattle.js_values.specs.declared.value.Value.{Value}
use Rattle.exceptions_core.specs.declared.completion.Completion.{Completion}
use Rattle.exceptions_core.specs.declared.completion.Frame.{Frame}
use Rattle.exceptions_core.specs.declared.completion.Frame.TheVariants as frame
use Rattle.exceptions_core.specs.declared.completion.Landing.{Landing}
use Rattle.exceptions_core.specs.declared.completion.Landing.TheVariants as landing
use Rattle.exceptions_core.specs.Table.{Taken, Passes, Stays, Goes, aims_at, names_one, taken}
use Rattle.js_tree.specs.Tree.{Expr}
use Rattle.js_machine.specs.Asks.{Program, Env, Outcome}
use Rattle.js_machine.specs.Frames.{gives, completes, done, on_value, value_of, after_completion, after_statement, at_landing, completion_of, at_frame}
use Rattle.js_machine.specs.Reachable as fits
use Rattle.js_machine.specs.Reachable.{Counts, ValueFits, EnvFits, CompletionFits, OutcomeFits}
use Rattle.js_machine.proofs.fitting.Growth.{Grows, stays, grows_on}
use Rattle.js_machine.proofs.fitting.Family as asks
use Rattle.js_machine.proofs.fitting.Family.{ProgramFits, OnOutcomes, OnValues, later_program}

-- ---- choices

pub if_fits : (b : Bool) {w : Counts} {p q : Program} → ProgramFits w p → ProgramFits w q → ProgramFits w (if b then p else q)
if_fits true p q = p
if_fits false p q = q

-- ---- ends

pub gives_fits : {w : Counts} {a : Value} → ValueFits w a → ProgramFits w (gives a)
gives_fits a = asks.ret (fits.gives a)

pub completes_fits : {w : Counts} {c : Completion} → CompletionFits w c → ProgramFits w (completes c)
completes_fits c = asks.ret (fits.ends c)

pub done_fits : {w : Counts} → ProgramFits w done
done_fits = asks.ret (fits.ends fits.normal)

-- ---- what waits

pub on_value_fits : {w : Counts} {k : Value → Program} → OnValues w k → OnOutcomes w (on_value k)
on_value_fits h v g o (fits.gives {v = a} p) = h v g a p
on_value_fits h v g o (fits.ends c) = completes_fits c

pub value_of_fits : (e : Expr) {w : Counts} {env : Env} {k : Value → Program} → EnvFits w env → OnValues w k → ProgramFits w (value_of e env k)
value_of_fits e env h = asks.begin env (on_value_fits h)

after_completion_fits : {w : Counts} {p : Program} {c : Completion} → ProgramFits w p → CompletionFits w c → ProgramFits w (after_completion p c)
after_completion_fits p fits.normal = p
after_completion_fits p fits.a_break = completes_fits fits.a_break
after_completion_fits p fits.a_continue = completes_fits fits.a_continue
after_completion_fits p (fits.a_return a) = completes_fits (fits.a_return a)
after_completion_fits p (fits.a_throw a) = completes_fits (fits.a_throw a)

pub after_statement_fits : {w : Counts} {p : Program} → ProgramFits w p → OnOutcomes w (after_statement p)
after_statement_fits p v g o (fits.gives a) = later_program p g
after_statement_fits p v g o (fits.ends c) = after_completion_fits (later_program p g) c

pub all_fit : {w : Counts} → OnOutcomes w Program.Ret
all_fit v g o h = asks.ret h

-- ---- frames

pub data LandingFits (w : Counts) : Landing → Type 0 where
  next : LandingFits w landing.Next
  left : LandingFits w landing.Left
  catch : {a : Value} → ValueFits w a → LandingFits w (landing.Catch a)
  finally : {c : Completion} → CompletionFits w c → LandingFits w (landing.Finally c)
  caller : {c : Completion} → CompletionFits w c → LandingFits w (landing.Caller c)
  bottom : {c : Completion} → CompletionFits w c → LandingFits w (landing.Bottom c)

abbrev pub OnLandings : Counts → (Landing → Program) → Type 0
OnLandings w k = (v : Counts) → Grows w v → (l : Landing) → LandingFits v l → ProgramFits v (k l)

data TakenFits (w : Counts) : Taken → Type 0 where
  passes : TakenFits w Passes
  stays_at : {l : Landing} → LandingFits w l → TakenFits w (Stays l)
  goes_to : {l : Landing} → LandingFits w l → TakenFits w (Goes l)

either : (b : Bool) {w : Counts} {x y : Taken} → TakenFits w x → TakenFits w y → TakenFits w (if b then x else y)
either true h g = h
either false h g = g

taken_fits : (f : Frame) {w : Counts} {c : Completion} → CompletionFits w c → TakenFits w (taken f c)
taken_fits (frame.Loop labels) fits.normal = stays_at next
taken_fits (frame.Loop labels) (fits.a_continue {label = label}) = either (aims_at labels label) (stays_at next) passes
taken_fits (frame.Loop labels) (fits.a_break {label = label}) = either (aims_at labels label) (goes_to left) passes
taken_fits (frame.Loop labels) (fits.a_return a) = passes
taken_fits (frame.Loop labels) (fits.a_throw a) = passes
taken_fits (frame.Switch labels) fits.normal = goes_to left
taken_fits (frame.Switch labels) (fits.a_break {label = label}) = either (aims_at labels label) (goes_to left) passes
taken_fits (frame.Switch labels) fits.a_continue = passes
taken_fits (frame.Switch labels) (fits.a_return a) = passes
taken_fits (frame.Switch labels) (fits.a_throw a) = passes
taken_fits (frame.Label labels) fits.normal = goes_to left
taken_fits (frame.Label labels) (fits.a_break {label = label}) = either (names_one labels label) (goes_to left) passes
taken_fits (frame.Label labels) fits.a_continue = passes
taken_fits (frame.Label labels) (fits.a_return a) = passes
taken_fits (frame.Label labels) (fits.a_throw a) = passes
taken_fits frame.Catch fits.normal = goes_to left
taken_fits frame.Catch (fits.a_throw a) = goes_to (catch a)
taken_fits frame.Catch fits.a_break = passes
taken_fits frame.Catch fits.a_continue = passes
taken_fits frame.Catch (fits.a_return a) = passes
taken_fits frame.Finally c = goes_to (finally c)
taken_fits frame.Call c = goes_to (caller c)

at_landing_fits : {w : Counts} {k : Landing → Program} {c : Completion} {t : Taken} → OnLandings w k → CompletionFits w c → TakenFits w t → ProgramFits w (at_landing k c t)
at_landing_fits h c passes = completes_fits c
at_landing_fits {w = w} h c (stays_at l) = h w (stays w) _ l
at_landing_fits {w = w} h c (goes_to l) = h w (stays w) _ l

completion_of_fits : {w : Counts} {o : Outcome} → OutcomeFits w o → CompletionFits w (completion_of o)
completion_of_fits (fits.gives a) = fits.normal
completion_of_fits (fits.ends c) = c

pub at_frame_fits : (f : Frame) {w : Counts} {k : Landing → Program} → OnLandings w k → OnOutcomes w (at_frame f k)
at_frame_fits f h v g o p =
    let c = completion_of_fits p in
    at_landing_fits (λ u i. h u (grows_on g i)) c (taken_fits f c)
