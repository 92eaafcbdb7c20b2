-- Entries of functions and scripts, and the program of each node.
use Rattle.std.proofs.Common.{ℕ, List, [], ◌∷◌}
use Rattle.std.specs.Prelude.{Option, Some, None, option_map}
use Rattle.js_values.specs.declared.value.Value.{Value}
use Rattle.exceptions_core.specs.declared.completion.Completion.{Completion}
use Rattle.exceptions_core.specs.declared.completion.Frame.TheVariants as frame
use Rattle.object_heap.specs.declared.built_in.BuiltIn.{BuiltIn}
use Rattle.object_heap.specs.declared.object.Attrs.{Attrs}
use Rattle.object_heap.specs.Names.{Name}
use Rattle.js_natives.specs.declared.native.Native.{Native}
use Rattle.js_natives.specs.declared.native.Native.TheVariants as native
use Rattle.js_natives.specs.Natives.{calls_of}
use Rattle.js_tree.specs.declared.tree.Role.{Role}
use Rattle.js_tree.specs.declared.tree.Role.TheVariants as role
use Rattle.js_tree.specs.Tree.{Func, Code, Stmts}
use Rattle.js_calls.specs.Declared.{functions_of, vars_in_all}
use Rattle.js_calls.specs.Entry.{this_at_entry}
use Rattle.js_machine.specs.Asks.{Program, Node, AnExpr, AStmt, ATurn, AScript, Env}
use Rattle.js_machine.specs.Conversions.{or_stop}
use Rattle.js_machine.specs.Entries.{counted, enter_code, returned, to_caller, after_body, enter_native, entry, define_function, define_functions, define_variable, define_variables, enter_script}
use Rattle.js_machine.specs.Functions.{name_of}
use Rattle.js_machine.specs.Programs.{program}
use Rattle.js_machine.specs.State.{Callee}
use Rattle.js_machine.specs.State as state
use Rattle.js_machine.specs.Reachable as fits
use Rattle.js_machine.specs.Reachable.{Each, IfAny, Counts, IsScope, ValueFits, EnvFits, CompletionFits}
use Rattle.js_machine.proofs.fitting.Growth.{later_value, later_chain}
use Rattle.js_machine.proofs.fitting.Family as asks
use Rattle.js_machine.proofs.fitting.Family.{ProgramFits, OnOutcomes, later_program}
use Rattle.js_machine.proofs.fitting.Frames as landings
use Rattle.js_machine.proofs.fitting.Frames.{gives_fits, completes_fits, OnLandings, at_frame_fits}
use Rattle.js_machine.proofs.fitting.References.{global_there, global_fits}
use Rattle.js_machine.proofs.fitting.Embed.{embed_fits}
use Rattle.js_machine.proofs.fitting.natives.Natives.{native_fits}
use Rattle.js_machine.proofs.fitting.Expressions.{expression_fits}
use Rattle.js_machine.proofs.fitting.Statements.{statements_fit, statement_fits}
use Rattle.js_machine.proofs.fitting.Applying.{apply_fits, call_fits}

-- ---- a script's function

counted_fits : (r : Role) (number : ℕ) {w : Counts} {p : Program} → ProgramFits w p → ProgramFits w (counted r number p)
counted_fits role.Plain number p = asks.tell_entry p
counted_fits role.Stub number p = asks.tell_entry p
counted_fits role.Wrapper number p = p
counted_fits role.Late number p = p

this_at_entry_fits : {w : Counts} {this : Value} {k : Value → Program} → ValueFits w this → ((a : Value) → ValueFits w a → ProgramFits w (k a)) → ProgramFits w (or_stop (this_at_entry this) k)
this_at_entry_fits fits.undefined h = h _ global_fits
this_at_entry_fits fits.null h = h _ global_fits
this_at_entry_fits fits.bool h = asks.stop
this_at_entry_fits fits.num h = asks.stop
this_at_entry_fits fits.str h = asks.stop
this_at_entry_fits (fits.object o) h = h _ (fits.object o)

enter_code_fits : (code : Func) {w : Counts} {chain : List ℕ} {this : Value} {args : List Value} → Each (IsScope w) chain → ValueFits w this → Each (ValueFits w) args → ProgramFits w (enter_code code chain this args)
enter_code_fits (Code number name formals body r) chain this args =
    this_at_entry_fits this (λ a p. counted_fits r number (asks.activate chain args (λ v g scope s.
    statements_fit body (record { chain = fits.more s (later_chain g chain); this = later_value g p }))))

returned_fits : {w : Counts} {c : Completion} → CompletionFits w c → ProgramFits w (returned c)
returned_fits fits.normal = gives_fits fits.undefined
returned_fits fits.a_break = gives_fits fits.undefined
returned_fits fits.a_continue = gives_fits fits.undefined
returned_fits (fits.a_return a) = gives_fits a
returned_fits (fits.a_throw a) = completes_fits (fits.a_throw a)

to_caller_fits : {w : Counts} → OnLandings w to_caller
to_caller_fits v g l (landings.caller c) = returned_fits c
to_caller_fits v g l landings.next = gives_fits fits.undefined
to_caller_fits v g l landings.left = gives_fits fits.undefined
to_caller_fits v g l (landings.catch a) = gives_fits fits.undefined
to_caller_fits v g l (landings.finally c) = gives_fits fits.undefined
to_caller_fits v g l (landings.bottom c) = gives_fits fits.undefined

after_body_fits : {w : Counts} → OnOutcomes w after_body
after_body_fits = at_frame_fits frame.Call to_caller_fits

-- ---- all that can be entered

enter_native_fits : (n : Native) {w : Counts} {this : Value} {args : List Value} → ValueFits w this → Each (ValueFits w) args → ProgramFits w (enter_native n this args)
enter_native_fits native.Apply this args = apply_fits this args
enter_native_fits native.Call this args = call_fits this args
enter_native_fits n this args = embed_fits (native_fits n this args)

pub data CalleeFits (w : Counts) : Callee → Type 0 where
  a_script : {code : Func} {chain : List ℕ} → Each (IsScope w) chain → CalleeFits w (state.Script code chain)
  a_native : {b : BuiltIn} → CalleeFits w (state.Native b)
  a_host_call : {name : Name} → CalleeFits w (state.HostCall name)

called_fits : (n : Option Native) {w : Counts} {this : Value} {args : List Value} → ValueFits w this → Each (ValueFits w) args → IfAny (ProgramFits w) (option_map (λ n. enter_native n this args) n)
called_fits None this args = fits.nothing
called_fits (Some n) this args = fits.just (enter_native_fits n this args)

pub entry_fits : {w : Counts} {callee : Callee} {this : Value} {args : List Value} → CalleeFits w callee → ValueFits w this → Each (ValueFits w) args → IfAny (ProgramFits w) (entry callee this args)
entry_fits (a_script {code = code} chain) this args = fits.just (asks.under (enter_code_fits code chain this args) after_body_fits)
entry_fits (a_native {b = b}) this args = called_fits (calls_of b).called this args
entry_fits a_host_call this args = fits.just (asks.tell_call args (λ v g a p. gives_fits p))

-- ---- a script

define_function_fits : (name : Option Name) {w : Counts} {a : Value} {p : Program} → ValueFits w a → ProgramFits w p → ProgramFits w (define_function name a p)
define_function_fits None a p = p
define_function_fits (Some name) a p = asks.define global_there a p

define_functions_fit : (codes : List Func) {w : Counts} {chain : List ℕ} {p : Program} → Each (IsScope w) chain → ProgramFits w p → ProgramFits w (define_functions codes chain p)
define_functions_fit [] chain p = p
define_functions_fit (code ∷ rest) chain p =
    asks.make_function chain (λ v g f q. define_function_fits (name_of code) (fits.object q) (define_functions_fit rest (later_chain g chain) (later_program p g)))

define_variable_fits : (attributes : Option Attrs) (name : Name) {w : Counts} {p : Program} → ProgramFits w p → ProgramFits w (define_variable name p attributes)
define_variable_fits (Some attributes) name p = p
define_variable_fits None name p = asks.define global_there fits.undefined p

define_variables_fit : (names : List Name) {w : Counts} {p : Program} → ProgramFits w p → ProgramFits w (define_variables names p)
define_variables_fit [] p = p
define_variables_fit (name ∷ names) p =
    let rest = define_variables_fit names p in
    asks.own global_there (λ v g attributes. define_variable_fits attributes name (later_program rest g))

enter_script_fits : (script : Stmts) {w : Counts} {env : Env} → EnvFits w env → ProgramFits w (enter_script script env)
enter_script_fits script env = define_functions_fit (functions_of script) env.chain (define_variables_fit (vars_in_all script) (statements_fit script env))

-- ---- all nodes

pub node_fits : (node : Node) {w : Counts} {env : Env} → EnvFits w env → ProgramFits w (program node env)
node_fits (AnExpr e) env = expression_fits e env
node_fits (AStmt labels s) env = statement_fits labels s env
node_fits (ATurn body) env = asks.count_turn (statement_fits [] body env)
node_fits (AScript script) env = enter_script_fits script env
