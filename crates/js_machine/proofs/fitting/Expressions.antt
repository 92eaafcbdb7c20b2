-- Expressions.
use Rattle.std.specs.Prelude.{Option, Some, None}
use Rattle.js_values.specs.Values.{truth_of}
use Rattle.js_tree.specs.declared.tree.BinaryOp.{BinaryOp}
use Rattle.js_tree.specs.Tree.{Expr}
use Rattle.js_tree.specs.Tree as tree
use Rattle.js_machine.specs.Asks.{Env}
use Rattle.js_machine.specs.Expressions.{binary, and, or, conditional, assign, comma, expression}
use Rattle.js_machine.specs.Reachable as fits
use Rattle.js_machine.specs.Reachable.{Counts, ValueFits, EnvFits}
use Rattle.js_machine.proofs.fitting.Growth.{grows_on, later_value, later_env}
use Rattle.js_machine.proofs.fitting.Family as asks
use Rattle.js_machine.proofs.fitting.Family.{ProgramFits}
use Rattle.js_machine.proofs.fitting.Frames.{if_fits, gives_fits, value_of_fits}
use Rattle.js_machine.proofs.fitting.References.{later_reference, get_value_fits, put_value_fits}
use Rattle.js_machine.proofs.fitting.Functions.{function_expression_fits, late_function_fits}
use Rattle.js_machine.proofs.fitting.Primary.{identifier_fits, array_literal_fits, object_literal_fits}
use Rattle.js_machine.proofs.fitting.Calls.{reference_fits, dot_read, index_read, call_fits, new_fits}
use Rattle.js_machine.proofs.fitting.Unary.{postfix_operation_fits, prefix_operation_fits}
use Rattle.js_machine.proofs.fitting.Operators.{operate_fits}

binary_fits : (op : BinaryOp) (left right : Expr) {w : Counts} {env : Env} → EnvFits w env → ProgramFits w (binary op left right env)
binary_fits op left right env =
    value_of_fits left env (λ v g a p. value_of_fits right (later_env g env) (λ u f b q.
    operate_fits op (later_value f p) q (λ t e r m. gives_fits m)))

and_fits : (left right : Expr) {w : Counts} {env : Env} → EnvFits w env → ProgramFits w (and left right env)
and_fits left right env = value_of_fits left env (λ v g a p. if_fits (truth_of a) (asks.tail (later_env g env)) (gives_fits p))

or_fits : (left right : Expr) {w : Counts} {env : Env} → EnvFits w env → ProgramFits w (or left right env)
or_fits left right env = value_of_fits left env (λ v g a p. if_fits (truth_of a) (gives_fits p) (asks.tail (later_env g env)))

conditional_fits : (test first second : Expr) {w : Counts} {env : Env} → EnvFits w env → ProgramFits w (conditional test first second env)
conditional_fits test first second env = value_of_fits test env (λ v g a p. if_fits (truth_of a) (asks.tail (later_env g env)) (asks.tail (later_env g env)))

assign_fits : (op : Option BinaryOp) (target right : Expr) {w : Counts} {env : Env} → EnvFits w env → ProgramFits w (assign op target right env)
assign_fits None target right env =
    reference_fits target env (λ v g r p. value_of_fits right (later_env g env) (λ u f a q.
    put_value_fits (later_reference f p) q (gives_fits q)))
assign_fits (Some op) target right env =
    reference_fits target env (λ v g r p. get_value_fits p (λ u f a q. value_of_fits right (later_env (grows_on g f) env) (λ t e b m.
    operate_fits op (later_value e q) m (λ s d c n.
    put_value_fits (later_reference (grows_on (grows_on f e) d) p) n (gives_fits n)))))

comma_fits : (left right : Expr) {w : Counts} {env : Env} → EnvFits w env → ProgramFits w (comma left right env)
comma_fits left right env = value_of_fits left env (λ v g a p. asks.tail (later_env g env))

-- ---- all of them

pub expression_fits : (e : Expr) {w : Counts} {env : Env} → EnvFits w env → ProgramFits w (expression e env)
expression_fits tree.This env = gives_fits env.this
expression_fits (tree.Ident name) env = identifier_fits name env
expression_fits (tree.Num n) env = gives_fits fits.num
expression_fits (tree.Str text) env = gives_fits fits.str
expression_fits (tree.Truth b) env = gives_fits fits.bool
expression_fits tree.Null env = gives_fits fits.null
expression_fits (tree.Array es) env = array_literal_fits es env
expression_fits (tree.Object ps) env = object_literal_fits ps env
expression_fits (tree.Function f) env = function_expression_fits f env
expression_fits (tree.Dot object name) env = dot_read object name env
expression_fits (tree.Index object key) env = index_read object key env
expression_fits (tree.New callee es) env = new_fits callee es env
expression_fits (tree.Call callee es) env = call_fits callee es env
expression_fits (tree.Postfix target op) env = postfix_operation_fits op target env
expression_fits (tree.Prefix op operand) env = prefix_operation_fits op operand env
expression_fits (tree.Binary op left right) env = binary_fits op left right env
expression_fits (tree.And left right) env = and_fits left right env
expression_fits (tree.Or left right) env = or_fits left right env
expression_fits (tree.Cond test first second) env = conditional_fits test first second env
expression_fits (tree.Assign op target right) env = assign_fits op target right env
expression_fits (tree.Comma left right) env = comma_fits left right env
expression_fits (tree.Late number) env = late_function_fits number env
