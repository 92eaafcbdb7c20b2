use Rattle.std.proofs.Common.{refl, sym, ap, ◌∙◌}
use Rattle.object_heap.specs.declared.built_in.BuiltIn.TheVariants as built
use Rattle.js_machine.specs.declared.machine.Machine.{Machine}
use Rattle.js_machine.specs.Members.{text_in}
use Rattle.js_machine.specs.Rest.{in_visit_put}
use Rattle.js_machine.specs.Visiting.{without_visits}
use Rattle.js_machine.proofs.ForInLaws.{put_refused}
use Rattle.js_machine.proofs.ThrowLaws.{raised}
use Rattle.js_machine.proofs.machine.Machine.put_visit.Goals as goal

pub returns-else-branch-clause-same : goal.returns-else-branch-clause-same
returns-else-branch-clause-same c =
    let m = c.args.self.now in
    let under = without_visits c.args.left c.put_on.new.self.values in
    let now = record c.put_on.new.self { values = under } in
    let is = c.in_ok-put_on.ensures.after in
    raised (in_visit_put c.args.left c.args.s c.args.base.now c.args.x.now) m now
    c.throw_at_visit.new.self built.RangeErrorPrototype _ _ c.throw_at_visit.result
    (ap {A = Machine} (λ m. record m { values = under }) is)
    (λ out. put_refused m.clock.1 m.frames m.values m.heap m.hosts m.beats m.clock.0 out
    c.args.left c.args.s c.args.base.now _ c.args.x.now c.name_in-name.result under now.heap
    (c.name_in-name.ensures ∙ ap text_in c.pop.ensures.value) refl
    (ap {A = Machine} (λ m. without_visits c.args.left m.values) is
    ∙ ap (without_visits c.args.left) c.pop.ensures.rest) (ap {A = Machine} (λ m. m.heap) is)
    (sym c.in_ok-put_on.ensures.told ∙ c.if-branch.false))
    c.throw_at_visit.ensures
