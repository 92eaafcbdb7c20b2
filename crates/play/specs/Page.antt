-- The runs of a page of one script: the script is entered, and then comes Idle.
use Rattle.std.specs.Prelude.{ℕ, [], Option, None}
use Rattle.js_tree.specs.Tree.{Script, Func}
use Rattle.play.specs.Value.{global_env}
use Rattle.play.specs.Program.{Program, Begin, ScriptCode, after_script}
use Rattle.play.specs.Run.{State, Trace, run}

abbrev pub start : State
start = record { functions = []; errors = 0; passed = []; beats = 0; steps = 0 }

abbrev pub page : Script → Program
page script = Begin (ScriptCode script) global_env after_script

-- the written run: late functions are those of the entries
abbrev pub written : (ℕ → Option Func) → Script → ℕ → Trace
written entries script n = run entries n (page script) [] start

-- an original has no late functions
abbrev pub no_entries : ℕ → Option Func
no_entries k = None

abbrev pub original : Script → ℕ → Trace
original script n = written no_entries script n
