-- Postfix and unary operators.
use Rattle.std.proofs.Common.{ℕ, Bool, true, not, List}
use Rattle.std.specs.Prelude.{Result}
use Rattle.js_values.specs.declared.number.Num.{Num}
use Rattle.js_values.specs.declared.reason.Reason.{Reason}
use Rattle.js_values.specs.declared.value.Value.{Value}
use Rattle.js_values.specs.Numbers.{sum_of, difference_of, negation_of}
use Rattle.js_values.specs.Values.{type_of}
use Rattle.object_heap.specs.Names.{Name, is_same_name, length_name}
use Rattle.js_tree.specs.declared.tree.PostfixOp.{PostfixOp}
use Rattle.js_tree.specs.declared.tree.PostfixOp.TheVariants as postfix
use Rattle.js_tree.specs.declared.tree.PrefixOp.{PrefixOp}
use Rattle.js_tree.specs.declared.tree.PrefixOp.TheVariants as prefix
use Rattle.js_tree.specs.Tree.{Expr}
use Rattle.js_machine.specs.Asks.{Program, Env}
use Rattle.js_machine.specs.Kinds.{is_function}
use Rattle.js_machine.specs.References.{Reference, get_value}
use Rattle.js_machine.specs.Unary.{one, changed, postfix_operation, delete_on, delete_reference, type_name, type_of_reference, number_operation, as_it_is, complement, prefix_operation}
use Rattle.js_machine.specs.Reachable as fits
use Rattle.js_machine.specs.Reachable.{Counts, ValueFits, EnvFits}
use Rattle.js_machine.proofs.fitting.Growth.{Grows, stays, grows_on, is_there}
use Rattle.js_machine.proofs.fitting.Family as asks
use Rattle.js_machine.proofs.fitting.Family.{ProgramFits, OnAll}
use Rattle.js_machine.proofs.fitting.Frames.{gives_fits, value_of_fits}
use Rattle.js_machine.proofs.fitting.References.{ReferenceFits, no_reference, in_scope, on_base, unbound, later_reference, get_value_fits, put_value_fits}
use Rattle.js_machine.proofs.fitting.Conversions.{or_stop_fits, to_number_fits}
use Rattle.js_machine.proofs.fitting.Calls.{reference_fits}

-- ---- a target changes by one

changed_fits : (compute : Num → Num → Result Num Reason) (target : Expr) {w : Counts} {env : Env} {k : Num → Num → Program} → EnvFits w env
    → ((v : Counts) → Grows w v → (before after : Num) → ProgramFits v (k before after)) → ProgramFits w (changed compute target env k)
changed_fits compute target env h =
    reference_fits target env (λ v g r p. get_value_fits p (λ u f old q. to_number_fits q (λ t e before.
    or_stop_fits (compute before one) (λ after. put_value_fits (later_reference (grows_on f e) p) fits.num (h t (grows_on (grows_on g f) e) before after)))))

pub postfix_operation_fits : (op : PostfixOp) (target : Expr) {w : Counts} {env : Env} → EnvFits w env → ProgramFits w (postfix_operation op target env)
postfix_operation_fits postfix.Increment target env = changed_fits sum_of target env (λ v g before after. gives_fits fits.num)
postfix_operation_fits postfix.Decrement target env = changed_fits difference_of target env (λ v g before after. gives_fits fits.num)

-- ---- `delete`

delete_on_fits : (name : Name) {w : Counts} {base : Value} {k : Bool → Program} → ValueFits w base → OnAll Bool w k → ProgramFits w (delete_on base name k)
delete_on_fits name (fits.object o) h = asks.delete (is_there o) h
delete_on_fits name {w = w} fits.str h = h w (stays w) (not (is_same_name name length_name))
delete_on_fits name {w = w} fits.num h = h w (stays w) true
delete_on_fits name {w = w} fits.bool h = h w (stays w) true
delete_on_fits name {w = w} fits.null h = h w (stays w) true
delete_on_fits name {w = w} fits.undefined h = h w (stays w) true

delete_reference_fits : {w : Counts} {r : Reference} {k : Bool → Program} → ReferenceFits w r → OnAll Bool w k → ProgramFits w (delete_reference r k)
delete_reference_fits {w = w} (no_reference a) h = h w (stays w) true
delete_reference_fits {w = w} (in_scope chain) h = h w (stays w) (not true)
delete_reference_fits (on_base {name = name} base) h = delete_on_fits name base h
delete_reference_fits {w = w} unbound h = h w (stays w) true

-- ---- `typeof`

type_name_fits : {w : Counts} {a : Value} {k : List ℕ → Program} → ValueFits w a → OnAll (List ℕ) w k → ProgramFits w (type_name a k)
type_name_fits {a = a} p h = asks.kind_of p (λ v g kind. h v g (type_of (is_function kind) a))

type_of_value : {w : Counts} {r : Reference} {k : List ℕ → Program} → ReferenceFits w r → OnAll (List ℕ) w k → ProgramFits w (get_value r (λ a. type_name a k))
type_of_value r h = get_value_fits r (λ v g a p. type_name_fits p (λ u f. h u (grows_on g f)))

type_of_reference_fits : {w : Counts} {r : Reference} {k : List ℕ → Program} → ReferenceFits w r → OnAll (List ℕ) w k → ProgramFits w (type_of_reference r k)
type_of_reference_fits unbound h = type_name_fits fits.undefined h
type_of_reference_fits (no_reference a) h = type_of_value (no_reference a) h
type_of_reference_fits (in_scope {chain = chain} {name = name} s) h = type_of_value (in_scope {chain = chain} {name = name} s) h
type_of_reference_fits (on_base {base = base} {name = name} p) h = type_of_value (on_base {base = base} {name = name} p) h

-- ---- numbers

number_operation_fits : (compute : Num → Num) (operand : Expr) {w : Counts} {env : Env} → EnvFits w env → ProgramFits w (number_operation compute operand env)
number_operation_fits compute operand env = value_of_fits operand env (λ v g a p. to_number_fits p (λ u f n. gives_fits fits.num))

-- ---- all of them

pub prefix_operation_fits : (op : PrefixOp) (operand : Expr) {w : Counts} {env : Env} → EnvFits w env → ProgramFits w (prefix_operation op operand env)
prefix_operation_fits prefix.Delete operand env = reference_fits operand env (λ v g r p. delete_reference_fits p (λ u f b. gives_fits fits.bool))
prefix_operation_fits prefix.Void operand env = value_of_fits operand env (λ v g a p. gives_fits fits.undefined)
prefix_operation_fits prefix.TypeOf operand env = reference_fits operand env (λ v g r p. type_of_reference_fits p (λ u f text. gives_fits fits.str))
prefix_operation_fits prefix.Increment operand env = changed_fits sum_of operand env (λ v g before after. gives_fits fits.num)
prefix_operation_fits prefix.Decrement operand env = changed_fits difference_of operand env (λ v g before after. gives_fits fits.num)
prefix_operation_fits prefix.Plus operand env = number_operation_fits as_it_is operand env
prefix_operation_fits prefix.Minus operand env = number_operation_fits negation_of operand env
prefix_operation_fits prefix.BitNot operand env = number_operation_fits complement operand env
prefix_operation_fits prefix.Not operand env = value_of_fits operand env (λ v g a p. gives_fits fits.bool)
