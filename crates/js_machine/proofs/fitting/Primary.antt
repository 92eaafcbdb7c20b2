-- Primary expressions.
use Rattle.std.proofs.Common.{ℕ, suc, arith}
use Rattle.object_heap.specs.declared.built_in.BuiltIn.TheVariants as built
use Rattle.object_heap.specs.declared.object.Class.TheVariants as class
use Rattle.object_heap.specs.BuiltIns.{number_of}
use Rattle.object_heap.specs.Names.{Name, length_name, decimal}
use Rattle.js_tree.specs.Tree.{Elements, NoElements, MoreElements, NoExpr, AnExpr, Pairs, NoPairs, MorePairs}
use Rattle.js_machine.specs.Asks.{Program, Env}
use Rattle.js_machine.specs.Primary.{identifier, new_array, elements, array_literal, new_plain, pairs, object_literal}
use Rattle.js_machine.specs.Reachable as fits
use Rattle.js_machine.specs.Reachable.{Counts, IsInReach, ObjectFits, EnvFits}
use Rattle.js_machine.proofs.fitting.Growth.{started, is_there, later_reach, later_env}
use Rattle.js_machine.proofs.fitting.Family as asks
use Rattle.js_machine.proofs.fitting.Family.{ProgramFits, later_program}
use Rattle.js_machine.proofs.fitting.Frames.{gives_fits, value_of_fits}
use Rattle.js_machine.proofs.fitting.References.{new_object_fits, resolve_fits, get_value_fits, put_fits}

pub identifier_fits : (name : Name) {w : Counts} {env : Env} → EnvFits w env → ProgramFits w (identifier name env)
identifier_fits name env = resolve_fits name env.chain (λ v g r p. get_value_fits p (λ u f a q. gives_fits q))

pub new_array_fits : {w : Counts} → ObjectFits w new_array
new_array_fits = new_object_fits class.Array (started (number_of built.ArrayPrototype) (omega arith))

pub new_plain_fits : {w : Counts} → ObjectFits w new_plain
new_plain_fits = new_object_fits class.Plain (started (number_of built.ObjectPrototype) (omega arith))

elements_fits : (es : Elements) (index : ℕ) {w : Counts} {array : ℕ} {env : Env} {p : Program} → IsInReach w array → EnvFits w env → ProgramFits w p → ProgramFits w (elements es array index env p)
elements_fits NoElements index array env p = put_fits length_name (is_there array) fits.num p
elements_fits (MoreElements NoExpr rest) index array env p = elements_fits rest (suc index) array env p
elements_fits (MoreElements (AnExpr e) rest) index array env p =
    value_of_fits e env (λ v g a q. put_fits (decimal index) (is_there (later_reach g array)) q
    (elements_fits rest (suc index) (later_reach g array) (later_env g env) (later_program p g)))

pub array_literal_fits : (es : Elements) {w : Counts} {env : Env} → EnvFits w env → ProgramFits w (array_literal es env)
array_literal_fits es env = asks.make new_array_fits (λ v g array p. elements_fits es 0 p (later_env g env) (gives_fits (fits.object p)))

pairs_fits : (ps : Pairs) {w : Counts} {o : ℕ} {env : Env} {p : Program} → IsInReach w o → EnvFits w env → ProgramFits w p → ProgramFits w (pairs ps o env p)
pairs_fits NoPairs o env p = p
pairs_fits (MorePairs key e rest) o env p =
    value_of_fits e env (λ v g a q. put_fits key (is_there (later_reach g o)) q
    (pairs_fits rest (later_reach g o) (later_env g env) (later_program p g)))

pub object_literal_fits : (ps : Pairs) {w : Counts} {env : Env} → EnvFits w env → ProgramFits w (object_literal ps env)
object_literal_fits ps env = asks.make new_plain_fits (λ v g o p. pairs_fits ps p (later_env g env) (gives_fits (fits.object p)))
