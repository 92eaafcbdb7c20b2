use Rattle.std.proofs.Common.{sym, ap, ◌∙◌}
use Rattle.object_heap.specs.declared.built_in.BuiltIn.TheVariants as built
use Rattle.js_machine.specs.Rest.{in_put}
use Rattle.js_machine.proofs.MemberLaws.{put_refused}
use Rattle.js_machine.proofs.ThrowLaws.{raised}
use Rattle.js_machine.proofs.machine.Machine.put_member.Goals as goal

pub returns-else-branch-clause-same : goal.returns-else-branch-clause-same
returns-else-branch-clause-same c =
    let m = c.args.self.now in
    let now = c.put_on.new.self in
    let is = c.in_ok-put_on.ensures.after in
    raised (in_put c.args.base.now c.args.name.now c.args.v c.args.given) m now c.throw_error.new.self
    built.RangeErrorPrototype _ _ c.throw_error.result is
    (λ out. put_refused m.clock.1 m.frames m.values m.heap m.hosts m.beats m.clock.0 out
    c.args.base.now c.args.name.now c.args.v c.args.given now.values now.heap (ap (λ m. m.values) is)
    (ap (λ m. m.heap) is) (sym c.in_ok-put_on.ensures.told ∙ c.if-branch.false))
    c.throw_error.ensures
