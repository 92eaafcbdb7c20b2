-- Entries of functions (ES3 10.1, 10.2, 13.2.1): what runs once the step of the entry is taken.
use Rattle.std.specs.Prelude.{ℕ, false, true, List, [], ◌∷◌, Option, Some, None, option_map}
use Rattle.js_values.specs.declared.value.Value.{Value}
use Rattle.js_values.specs.declared.value.Value.TheVariants as value
use Rattle.exceptions_core.specs.declared.completion.Completion.{Completion}
use Rattle.exceptions_core.specs.declared.completion.Completion.TheVariants.{Normal, Break}
use Rattle.exceptions_core.specs.declared.completion.Completion.TheVariants.{Continue, Return}
use Rattle.exceptions_core.specs.declared.completion.Completion.TheVariants.{Throw}
use Rattle.exceptions_core.specs.declared.completion.Frame.TheVariants as frame
use Rattle.exceptions_core.specs.declared.completion.Landing.{Landing}
use Rattle.exceptions_core.specs.declared.completion.Landing.TheVariants as landing
use Rattle.object_heap.specs.declared.object.Attrs.{Attrs}
use Rattle.object_heap.specs.Names.{Name}
use Rattle.js_natives.specs.declared.native.Native.{Native}
use Rattle.js_natives.specs.declared.native.Native.TheVariants as native
use Rattle.js_natives.specs.Natives.{calls_of, program_of}
use Rattle.js_tree.specs.declared.tree.Role.{Role}
use Rattle.js_tree.specs.declared.tree.Role.TheVariants as role
use Rattle.js_tree.specs.Tree.{Func, Code, Stmts}
use Rattle.js_calls.specs.Declared.{functions_of, vars_in_all}
use Rattle.js_calls.specs.Entry.{this_at_entry}
use Rattle.js_machine.specs.Asks.{Program, Under, TellCall, TellEntry, Activate, MakeFunction, Own}
use Rattle.js_machine.specs.Asks.{Define, Env, Outcome}
use Rattle.js_machine.specs.State.{object_value, Callee}
use Rattle.js_machine.specs.State as state
use Rattle.js_machine.specs.Frames.{◌>>=◌, ◌>>◌, gives, completes, at_frame}
use Rattle.js_machine.specs.References.{global_object}
use Rattle.js_machine.specs.Conversions.{or_stop}
use Rattle.js_machine.specs.Functions.{name_of}
use Rattle.js_machine.specs.Statements.{statements}
use Rattle.js_machine.specs.Applying.{apply, call}
use Rattle.js_machine.specs.Embed.{embed}

-- ---- 13.2.1 [[Call]], of a script's function

-- the entries of late functions and wrappers have no beat and no mark; that of a stub is the entry
-- of its number
abbrev pub counted : Role → ℕ → Program → Program
counted role.Plain number p = TellEntry number p
counted role.Stub number p = TellEntry number p
counted role.Wrapper number p = p
counted role.Late number p = p

-- a primitive `this` that is neither undefined nor null stops the run before the beat (10.2.3);
-- then all is bound in a new scope (10.1.3), and the body runs
abbrev pub enter_code : Func → List ℕ → Value → List Value → Program
enter_code (Code number name formals body role) chain this args = do
  this ← or_stop (this_at_entry this)
  counted role number
  scope ← Activate (Code number name formals body role) chain args
  statements body (record { chain = scope ∷ chain; this = this })

-- steps 4 to 7: what the call gives
abbrev pub returned : Completion → Program
returned Normal = gives value.Undefined
returned (Break label) = gives value.Undefined
returned (Continue label) = gives value.Undefined
returned (Return v) = gives v
returned (Throw v) = completes (Throw v)

abbrev pub to_caller : Landing → Program
to_caller (landing.Caller c) = returned c
to_caller _ = gives value.Undefined

-- what waits for the body
abbrev pub after_body : Outcome → Program
after_body = at_frame frame.Call to_caller

-- ---- of natives

abbrev pub enter_native : Native → Value → List Value → Program
enter_native native.Apply this args = apply this args
enter_native native.Call this args = call this args
enter_native n this args = embed (program_of n this args)

-- ---- all of them; None where it cannot be called

abbrev pub entry : Callee → Value → List Value → Option Program
entry (state.Script code chain) this args =
    Some (Under (enter_code code chain this args) after_body)
entry (state.Native b) this args = option_map (λ n. enter_native n this args) (calls_of b).called
-- a host call is told, and answered
entry (state.HostCall name) this args = Some (TellCall name args gives)

-- ---- 10.2.1, the entry of a script

-- functions and variables of scripts are fixed properties of the global object
abbrev pub declared : Attrs
declared = record { read_only = false; hidden = false; fixed = true }

abbrev pub define_function : Option Name → Value → Program → Program
define_function None v p = p
define_function (Some name) v p = Define global_object name v declared p

abbrev pub define_functions : List Func → List ℕ → Program → Program
define_functions [] chain p = p
define_functions (code ∷ rest) chain p = do
  f ← MakeFunction code chain
  define_function (name_of code) (object_value f)
  define_functions rest chain p

-- a variable that the global object has itself stays as it is
abbrev pub define_variable : Name → Program → Option Attrs → Program
define_variable name p (Some attributes) = p
define_variable name p None = Define global_object name value.Undefined declared p

abbrev pub define_variables : List Name → Program → Program
define_variables [] p = p
define_variables (name ∷ names) p =
    Own global_object name (define_variable name (define_variables names p))

abbrev pub enter_script : Stmts → Env → Program
enter_script script env = do
  define_functions (functions_of script) env.chain
  define_variables (vars_in_all script)
  statements script env
