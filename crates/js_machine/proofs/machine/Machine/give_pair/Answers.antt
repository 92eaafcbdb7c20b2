use Rattle.std.proofs.Common.{List, sym, ap, ◌∙◌}
use Rattle.object_heap.specs.declared.built_in.BuiltIn.TheVariants as built
use Rattle.js_tree.specs.Plain.{expr}
use Rattle.js_machine.specs.declared.frame.Frame.TheVariants as frame
use Rattle.js_machine.specs.declared.machine.Machine.{Machine}
use Rattle.js_values.specs.declared.value.Value.{Value}
use Rattle.js_machine.specs.Literals.{object_number}
use Rattle.js_machine.specs.Rest.{in_value}
use Rattle.js_machine.specs.Stacks.{below, top}
use Rattle.js_machine.proofs.LiteralLaws.{pair_bad}
use Rattle.js_machine.proofs.ThrowLaws.{raised}
use Rattle.js_machine.proofs.machine.Machine.give_pair.Goals as goal

pub returns-else-branch-clause-same : goal.returns-else-branch-clause-same
returns-else-branch-clause-same c =
    let m = c.args.self.now in
    let popped = c.pop-object-else-branch.new.self in
    let now = record c.put.new.self { values = popped } in
    let is = c.in_ok-put.ensures.after in
    raised (in_value (frame.Pair c.args.i c.args.pairs)) m now c.throw_error.new.self
    built.RangeErrorPrototype _ _ c.throw_error.result (ap {A = Machine} (λ m. record m { values = popped }) is)
    (λ out. pair_bad m.clock.1 m.frames m.values m.heap m.hosts m.beats m.clock.0 out c.args.i
    c.newest_object-object.result.0 c.args.pairs c.in-Some.pair.now.key (expr c.in-Some.pair.now.value)
    c.pop-v.result now.heap popped c.in-Some.ensures
    (c.newest_object-object.ensures ∙ ap {A = List Value} (λ vs. object_number (top vs)) c.pop-v.ensures.rest)
    c.pop-v.ensures.value (sym c.in_ok-put.ensures.told ∙ c.if-branch.false) (ap {A = Machine} (λ m. m.heap) is)
    (c.pop-object-else-branch.ensures.rest ∙ (ap {A = Machine} (λ m. below m.values) is
    ∙ ap below c.pop-v.ensures.rest)))
    c.throw_error.ensures
