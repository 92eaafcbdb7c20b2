-- Function expressions.
use Rattle.std.proofs.Common.{ℕ, List}
use Rattle.std.specs.Prelude.{Option, Some, None}
use Rattle.object_heap.specs.Names.{Name}
use Rattle.js_tree.specs.Tree.{Func}
use Rattle.js_machine.specs.Asks.{Program, Env}
use Rattle.js_machine.specs.Functions.{name_of, named_function, function_expression, made_late, late_function}
use Rattle.js_machine.specs.Reachable as fits
use Rattle.js_machine.specs.Reachable.{Each, Counts, IsScope, EnvFits}
use Rattle.js_machine.proofs.fitting.Growth.{grows_on, later_scope, later_chain}
use Rattle.js_machine.proofs.fitting.Family as asks
use Rattle.js_machine.proofs.fitting.Family.{ProgramFits, OnObjects}
use Rattle.js_machine.proofs.fitting.Frames.{gives_fits}

named_function_fits : (name : Option Name) (code : Func) {w : Counts} {chain : List ℕ} {k : ℕ → Program} → Each (IsScope w) chain → OnObjects w k → ProgramFits w (named_function name code chain k)
named_function_fits None code chain h = asks.make_function chain h
named_function_fits (Some name) code chain h =
    asks.open_scope chain (λ v g scope s. asks.make_function (fits.more s (later_chain g chain)) (λ u e f p.
    let here = later_scope e s in
    asks.write (fits.more here fits.empty) (fits.object p) (asks.fix here (h u (grows_on g e) f p))))

pub function_expression_fits : (code : Func) {w : Counts} {env : Env} → EnvFits w env → ProgramFits w (function_expression code env)
function_expression_fits code env = named_function_fits (name_of code) code env.chain (λ v g f p. gives_fits (fits.object p))

made_late_fits : (entry : Option Func) {w : Counts} {chain : List ℕ} {k : ℕ → Program} → Each (IsScope w) chain → OnObjects w k → ProgramFits w (made_late entry chain k)
made_late_fits None chain h = asks.broken
made_late_fits (Some code) chain h = asks.make_function chain h

pub late_function_fits : (number : ℕ) {w : Counts} {env : Env} → EnvFits w env → ProgramFits w (late_function number env)
late_function_fits number env = asks.tell_need (λ v g entry. made_late_fits entry (later_chain g env.chain) (λ u e f p. gives_fits (fits.object p)))
