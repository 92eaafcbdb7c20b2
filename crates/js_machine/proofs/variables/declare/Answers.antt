use Rattle.std.proofs.Common.{◌∙◌, [], ◌∷◌, ◌++◌, sym, ap, take}
use Rattle.std.proofs.lemmas.Grind.{take_at_read}
use Rattle.js_machine.specs.Globals.{with_variable, with_variables}
use Rattle.js_machine.proofs.VariableLaws.{one_more}
use Rattle.js_machine.proofs.variables.declare.Goals as goal

pub loop-name-preserved : goal.loop-name-preserved
loop-name-preserved c =
    let items = c.items-name-items.result.now in
    let i = c.loop-name.name-index in
    let name = c.name-item.result in
    let first = c.args.heap.now in
    let more = (take_at_read items i name c.loop-name-test.true).1 in
    c.in_ok-declare_one.ensures
    ∙ (ap (with_variable name) c.loop-name.invariant
    ∙ sym (ap (λ names. with_variables names first) (more ∙ ap (λ x. take i items ++ x ∷ []) (sym c.name-item.is))
    ∙ one_more (take i items) name first))
