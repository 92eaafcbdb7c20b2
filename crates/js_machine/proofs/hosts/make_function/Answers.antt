use Rattle.std.proofs.Common.{ap, ◌∙◌}
use Rattle.js_values.specs.declared.value.Value.TheVariants as value
use Rattle.object_heap.specs.Changes.{all_three, defined}
use Rattle.js_machine.proofs.HostLaws.{fresh_plain, fresh_unshared, function_made, length_units}
use Rattle.js_machine.proofs.hosts.make_function.Goals as goal

pub define-requires-clause-unshared : goal.define-requires-clause-unshared
define-requires-clause-unshared c =
    fresh_unshared c.args.heap.now c.make.new.self c.in_ok-function.function.0
    c.built_in-prototype.result.0 c.in_ok-length.length c.in_ok-function.ensures.number
    c.in_ok-function.ensures.ok

pub define-requires-clause-plain : goal.define-requires-clause-plain
define-requires-clause-plain c =
    fresh_plain c.args.heap.now c.make.new.self c.in_ok-function.function.0
    c.built_in-prototype.result.0 c.in_ok-length.length c.in_ok-function.ensures.number
    c.in_ok-function.ensures.ok

pub returns-clause-made : goal.returns-clause-made
returns-clause-made c =
    let o = c.in_ok-function.function.0 in
    let name = c.in_ok-length.length in
    c.in_ok-define.ensures.ok
    ∙ (ap (λ n. defined o name (value.Num n) all_three c.make.new.self) c.from.ensures
    ∙ function_made c.args.heap.now c.make.new.self o c.built_in-prototype.result.0 name
    c.in_ok-function.ensures.number c.built_in-prototype.ensures.number c.in_ok-function.ensures.ok
    (c.in_ok-length.ensures ∙ length_units))
