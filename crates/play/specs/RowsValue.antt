-- Programs whose errors pass the host border in another order than they were made, small scripts
-- and their traces.
use Rattle.std.specs.Prelude.{ℕ, List, [], ◌∷◌, codes, Some, None, Option, cond, nat_eq}
use Rattle.js_tree.specs.Tree.{Name, Func}
use Rattle.first_grammar.specs.declared.script.FirstStatement.{FirstStatement}
use Rattle.first_grammar.specs.declared.script.FirstStatement.TheVariants.{Call, Out}
use Rattle.first_grammar.specs.declared.script.FirstBody.TheVariants.{Statements, Stub}
use Rattle.first_grammar.specs.declared.script.FirstItem.{FirstItem}
use Rattle.first_grammar.specs.declared.script.FirstItem.TheVariants.{Statement, Function}
use Rattle.play.specs.Value.{Value, Undefined, Global, Outcome, Normal, Returned, Thrown, Shown}
use Rattle.play.specs.Program.{Program, Ret, Tell, TellUncaught, Fail, Enter}
use Rattle.play.specs.Page.{no_entries, start, written}
use Rattle.play.specs.Site.{late_function, site_tree}
use Rattle.play.specs.Run.{Mark, Trace, run, Say, Called, Entered, Needed, End}
use Rattle.play.specs.Rows as rows
use Rattle.play.specs.Rows.{Timed}

abbrev pub out : Name
out = codes "out"

-- ---- errors that pass

-- a host call that shows these objects
abbrev pub shows : List Shown → Mark
shows args = Called out args

-- the marks of a program alone
abbrev pub marks_of : Program → List Timed
marks_of p = rows.marks (run no_entries 10 p [] start)

-- two errors are made, and the second passes first
abbrev pub second_first : Program
second_first = Fail (λ one. Fail (λ two.
    Tell out (two ∷ []) (λ v. Tell out (one ∷ two ∷ []) (λ w. TellUncaught one (Ret (Normal w))))))

abbrev pub on_thrown : (Value → Program) → Outcome → Program
on_thrown k (Thrown v) = k v
on_thrown k (Normal v) = Ret (Normal v)
on_thrown k (Returned v) = Ret (Returned v)

-- an error is made, and another by a call of no function, which leaves the script first
abbrev pub thrown_first : Program
thrown_first = Fail (λ one. Enter Undefined Global []
    (on_thrown (λ two. TellUncaught two (Tell out (one ∷ two ∷ []) (λ v. Ret (Normal v))))))

-- ---- scripts

abbrev pub function : ℕ → List FirstStatement → FirstItem
function letter ss = Function (record { name = letter; body = Statements ss })

abbrev pub stub : ℕ → ℕ → FirstItem
stub letter k = Function (record { name = letter; body = Stub k })

abbrev pub calls : ℕ → FirstItem
calls letter = Statement (Call letter)

abbrev pub outs : List ℕ → FirstItem
outs text = Statement (Out text)

-- the run of a script whose plain functions are numbered 1, 3, 4, and whose entry 2 is this body
abbrev pub entry_of : List FirstStatement → ℕ → Option Func
entry_of ss k = cond (nat_eq k 2) (Some (late_function 2 (record { number = 2; body = ss }))) None

abbrev pub run_with : List FirstStatement → List FirstItem → ℕ → Trace
run_with ss items n = written (entry_of ss) (site_tree (1 ∷ 3 ∷ 4 ∷ []) items) n

-- ---- traces

abbrev pub ended : Trace
ended = End (Normal Undefined) start

abbrev pub entered : ℕ → Trace → Trace
entered k t = Say (Entered k 1) 5 t

abbrev pub needed : ℕ → Trace → Trace
needed k t = Say (Needed k) 9 t
