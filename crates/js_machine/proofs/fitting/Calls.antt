-- Member access, calls and `new`.
use Rattle.std.proofs.Common.{ℕ, List}
use Rattle.js_values.specs.declared.value.Value.{Value}
use Rattle.object_heap.specs.Names.{Name}
use Rattle.js_calls.specs.Construct.{result_of}
use Rattle.js_tree.specs.Tree.{Expr, Exprs, NoExprs, MoreExprs}
use Rattle.js_tree.specs.Tree as tree
use Rattle.js_machine.specs.Frames.{value_of}
use Rattle.js_machine.specs.Asks.{Program, Env, Kind, NotObject, NotFunction, ScriptFunction, NativeFunction, HostFunction}
use Rattle.js_machine.specs.Calls.{dot, index, reference, arguments, base_of, call, after_construction, construct_script, construct, construct_value, new, read}
use Rattle.js_machine.specs.References.{Reference, NoReference}
use Rattle.js_machine.specs.Reachable as fits
use Rattle.js_machine.specs.Reachable.{Each, Counts, IsInReach, ValueFits, EnvFits}
use Rattle.js_machine.proofs.fitting.Lists.{each_joined}
use Rattle.js_machine.proofs.fitting.Growth.{stays, grows_on, is_there, later_reach, later_value, later_values, later_env}
use Rattle.js_machine.proofs.fitting.Family as asks
use Rattle.js_machine.proofs.fitting.Family.{ProgramFits, OnOutcomes, OnLists, later_program}
use Rattle.js_machine.proofs.fitting.Frames.{gives_fits, on_value_fits, value_of_fits, all_fit}
use Rattle.js_machine.proofs.fitting.References.{ReferenceFits, no_reference, in_scope, on_base, unbound, OnReferences, later_reference, resolve_fits, get_value_fits, type_error_fits}
use Rattle.js_machine.proofs.fitting.Conversions.{to_object_fits, to_name_fits}
use Rattle.js_machine.proofs.fitting.Embed.{construct_native_fits}

-- ---- 11.2.1

dot_fits : (object : Expr) (name : Name) {w : Counts} {env : Env} {k : Reference → Program} → EnvFits w env → OnReferences w k → ProgramFits w (dot object name env k)
dot_fits object name env h = value_of_fits object env (λ v g base p. to_object_fits p (h v g _ (on_base p)))

index_fits : (object key : Expr) {w : Counts} {env : Env} {k : Reference → Program} → EnvFits w env → OnReferences w k → ProgramFits w (index object key env k)
index_fits object key env h =
    value_of_fits object env (λ v g base p. value_of_fits key (later_env g env) (λ u f a q.
    to_object_fits (later_value f p) (to_name_fits q (λ t e name. h t (grows_on (grows_on g f) e) _ (on_base {name = name} (later_value (grows_on f e) p))))))

value_reference : (e : Expr) {w : Counts} {env : Env} {k : Reference → Program} → EnvFits w env → OnReferences w k → ProgramFits w (value_of e env (λ v. k (NoReference v)))
value_reference e env h = value_of_fits e env (λ v g a p. h v g _ (no_reference p))

pub reference_fits : (e : Expr) {w : Counts} {env : Env} {k : Reference → Program} → EnvFits w env → OnReferences w k → ProgramFits w (reference e env k)
reference_fits (tree.Ident name) env h = asks.tick (resolve_fits name env.chain h)
reference_fits (tree.Dot object name) env h = asks.tick (dot_fits object name env h)
reference_fits (tree.Index object key) env h = asks.tick (index_fits object key env h)
reference_fits e env h = value_reference e env h

-- ---- 11.2.4

pub arguments_fit : (es : Exprs) {w : Counts} {env : Env} {done : List Value} {k : List Value → Program} → EnvFits w env → Each (ValueFits w) done → OnLists w k → ProgramFits w (arguments es env done k)
arguments_fit NoExprs {w = w} env done h = h w (stays w) _ done
arguments_fit (MoreExprs e es) env done h =
    value_of_fits e env (λ v g a p. arguments_fit es (later_env g env) (each_joined (later_values g done) (fits.more p fits.empty)) (λ u f. h u (grows_on g f)))

-- ---- 11.2.3

base_of_fits : {w : Counts} {r : Reference} → ReferenceFits w r → ValueFits w (base_of r)
base_of_fits (no_reference a) = fits.undefined
base_of_fits (in_scope chain) = fits.undefined
base_of_fits (on_base base) = base
base_of_fits unbound = fits.undefined

pub call_fits : (callee : Expr) (es : Exprs) {w : Counts} {env : Env} → EnvFits w env → ProgramFits w (call callee es env)
call_fits callee es env =
    reference_fits callee env (λ v g r p. arguments_fit es (later_env g env) fits.empty (λ u f args q.
    get_value_fits (later_reference f p) (λ t e a m. asks.enter m (base_of_fits (later_reference (grows_on f e) p)) (later_values e q) all_fit)))

-- ---- 11.2.2

result_of_fits : {w : Counts} {new a : Value} → ValueFits w new → ValueFits w a → ValueFits w (result_of new a)
result_of_fits new (fits.object o) = fits.object o
result_of_fits new fits.undefined = new
result_of_fits new fits.null = new
result_of_fits new fits.bool = new
result_of_fits new fits.num = new
result_of_fits new fits.str = new

after_construction_fits : {w : Counts} {new : ℕ} → IsInReach w new → OnOutcomes w (after_construction new)
after_construction_fits new = on_value_fits (λ v g a p. gives_fits (result_of_fits (fits.object (later_reach g new)) p))

construct_script_fits : {w : Counts} {f : ℕ} {args : List Value} → IsInReach w f → Each (ValueFits w) args → ProgramFits w (construct_script f args)
construct_script_fits f args =
    asks.make_new (is_there f) (λ v g new p. asks.enter (fits.object (later_reach g f)) (fits.object p) (later_values g args) (after_construction_fits p))

construct_fits : (kind : Kind) {w : Counts} {f : ℕ} {args : List Value} → IsInReach w f → Each (ValueFits w) args → ProgramFits w (construct f args kind)
construct_fits NotObject f args = type_error_fits
construct_fits (NotFunction class) f args = type_error_fits
construct_fits ScriptFunction f args = construct_script_fits f args
construct_fits (NativeFunction b) f args = construct_native_fits b args
construct_fits HostFunction f args = type_error_fits

construct_value_fits : {w : Counts} {a : Value} {args : List Value} → ValueFits w a → Each (ValueFits w) args → ProgramFits w (construct_value a args)
construct_value_fits (fits.object f) args = asks.kind_of (fits.object f) (λ v g kind. construct_fits kind (later_reach g f) (later_values g args))
construct_value_fits fits.undefined args = type_error_fits
construct_value_fits fits.null args = type_error_fits
construct_value_fits fits.bool args = type_error_fits
construct_value_fits fits.num args = type_error_fits
construct_value_fits fits.str args = type_error_fits

pub new_fits : (callee : Expr) (es : Exprs) {w : Counts} {env : Env} → EnvFits w env → ProgramFits w (new callee es env)
new_fits callee es env = value_of_fits callee env (λ v g f p. arguments_fit es (later_env g env) fits.empty (λ u e args q. construct_value_fits (later_value e p) q))

-- ---- the value of a dot or an index

pub dot_read : (object : Expr) (name : Name) {w : Counts} {env : Env} → EnvFits w env → ProgramFits w (read (dot object name env))
dot_read object name env = dot_fits object name env (λ v g r p. get_value_fits p (λ u f a q. gives_fits q))

pub index_read : (object key : Expr) {w : Counts} {env : Env} → EnvFits w env → ProgramFits w (read (index object key env))
index_read object key env = index_fits object key env (λ v g r p. get_value_fits p (λ u f a q. gives_fits q))
