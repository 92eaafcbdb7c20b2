use Rattle.std.proofs.Common.{◌∙◌, ◌∷◌, [], ◌++◌, sym, ap, take}
use Rattle.std.specs.Prelude.{map}
use Rattle.std.proofs.lemmas.Grind.{take_at_read}
use Rattle.js_machine.specs.Globals.{host_body}
use Rattle.js_machine.specs.HostCalls.{heap_with_host, state_with}
use Rattle.js_machine.specs.Page.{with_host_call, with_host_calls}
use Rattle.js_machine.proofs.HostLaws.{one_host}
use Rattle.js_machine.proofs.hosts.add_hosts.Goals as goal

pub loop-name-preserved : goal.loop-name-preserved
loop-name-preserved c =
    let items = c.items-name-items.result.now in
    let i = c.loop-name.name-index in
    let name = c.name-item.result in
    let first = state_with c.args.heap.now (map host_body c.args.hosts.now) in
    let more = (take_at_read items i name c.loop-name-test.true).1 in (
      ap (λ heap. state_with heap (map host_body c.add_host.new.hosts)) c.in_ok-add_host.ensures.heap
          ∙ (ap (λ hosts. state_with (heap_with_host name c.loop-name.heap) (map host_body hosts))
          c.in_ok-add_host.ensures.hosts
          ∙ (ap (with_host_call name) c.loop-name.invariant.0
          ∙ sym (ap (λ names. with_host_calls names first) (more ∙ ap (λ x. take i items ++ x ∷ []) (sym c.name-item.is))
          ∙ one_host (take i items) name first))),
      c.in_ok-add_host.ensures.holds,
    )
