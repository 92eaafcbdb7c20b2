-- Variable statements.
use Rattle.object_heap.specs.Names.{Name}
use Rattle.js_tree.specs.Tree.{MaybeExpr, NoExpr, AnExpr, VarItems, NoVarItems, MoreVarItems}
use Rattle.js_machine.specs.Asks.{Program, Env}
use Rattle.js_machine.specs.Variables.{variable, variables}
use Rattle.js_machine.specs.Reachable.{Counts, EnvFits}
use Rattle.js_machine.proofs.fitting.Growth.{grows_on, later_env}
use Rattle.js_machine.proofs.fitting.Family.{ProgramFits, later_program}
use Rattle.js_machine.proofs.fitting.Frames.{value_of_fits}
use Rattle.js_machine.proofs.fitting.References.{later_reference, resolve_fits, put_value_fits}

pub variable_fits : (name : Name) (e : MaybeExpr) {w : Counts} {env : Env} {p : Program} → EnvFits w env → ProgramFits w p → ProgramFits w (variable name e env p)
variable_fits name NoExpr env p = p
variable_fits name (AnExpr e) env p =
    resolve_fits name env.chain (λ v g r q. value_of_fits e (later_env g env) (λ u f a m.
    put_value_fits (later_reference f q) m (later_program p (grows_on g f))))

pub variables_fit : (items : VarItems) {w : Counts} {env : Env} {p : Program} → EnvFits w env → ProgramFits w p → ProgramFits w (variables items env p)
variables_fit NoVarItems env p = p
variables_fit (MoreVarItems name e rest) env p = variable_fits name e env (variables_fit rest env p)
