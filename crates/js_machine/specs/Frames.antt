-- How a program goes on with outcomes: after an expression, after a statement, and where a frame
-- takes completions (ES3 8.9, 12).
use Rattle.js_values.specs.declared.value.Value.{Value}
use Rattle.exceptions_core.specs.declared.completion.Completion.{Completion}
use Rattle.exceptions_core.specs.declared.completion.Completion.TheVariants.{Normal, Break}
use Rattle.exceptions_core.specs.declared.completion.Completion.TheVariants.{Continue, Return}
use Rattle.exceptions_core.specs.declared.completion.Completion.TheVariants.{Throw}
use Rattle.exceptions_core.specs.declared.completion.Frame.{Frame}
use Rattle.exceptions_core.specs.declared.completion.Landing.{Landing}
use Rattle.exceptions_core.specs.Table.{Taken, Passes, Stays, Goes, taken}
use Rattle.js_tree.specs.Tree.{Expr}
use Rattle.js_machine.specs.Asks.{Program, Ret, Begin, Env, AnExpr, Outcome, Gives, Ends}

-- ---- asks in `do` notation: each ends in a program

-- what asks, and goes on with an A
abbrev pub Asks : Type 0 → Type 0
Asks A = (A → Program) → Program

infixl 1 ◌>>=◌
abbrev pub ◌>>=◌ : {A : Type 0} → Asks A → (A → Program) → Program
m >>= k = m k

infixl 1 ◌>>◌
abbrev pub ◌>>◌ : (Program → Program) → Program → Program
m >> p = m p

-- ---- ends

abbrev pub gives : Value → Program
gives v = Ret (Gives v)

abbrev pub completes : Completion → Program
completes c = Ret (Ends c)

-- a statement is done
abbrev pub done : Program
done = completes Normal

-- ---- what waits

-- for the value of an expression; what is thrown passes
abbrev pub on_value : (Value → Program) → Outcome → Program
on_value k (Gives v) = k v
on_value k (Ends c) = completes c

-- the value of an expression, which is begun
abbrev pub value_of : Expr → Env → Asks Value
value_of e env k = Begin (AnExpr e) env (on_value k)

-- for a statement, behind which there are others; a jump, what is returned and what is thrown pass
abbrev pub after_completion : Program → Completion → Program
after_completion rest Normal = rest
after_completion rest (Break label) = completes (Break label)
after_completion rest (Continue label) = completes (Continue label)
after_completion rest (Return v) = completes (Return v)
after_completion rest (Throw v) = completes (Throw v)

abbrev pub after_statement : Program → Outcome → Program
after_statement rest (Gives v) = rest
after_statement rest (Ends c) = after_completion rest c

-- for what a frame takes, by the table of frames; what it does not take passes
abbrev pub at_landing : (Landing → Program) → Completion → Taken → Program
at_landing k c Passes = completes c
at_landing k c (Stays landing) = k landing
at_landing k c (Goes landing) = k landing

abbrev pub completion_of : Outcome → Completion
completion_of (Gives v) = Normal
completion_of (Ends c) = c

abbrev pub at_frame : Frame → (Landing → Program) → Outcome → Program
at_frame frame k o = at_landing k (completion_of o) (taken frame (completion_of o))
