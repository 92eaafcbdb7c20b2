use Rattle.std.proofs.Common.{◌≡◌, ◌∙◌, ◌-◌, ◌<◌, length, get_or, ap, sym, arith}
use Rattle.js_values.specs.declared.value.Value.TheVariants.{Undefined}
use Rattle.js_machine.specs.Stacks.{top, without}
use Rattle.js_machine.proofs.StackLists.{none_under, read_at, value_under}
use Rattle.js_machine.proofs.stacks.Values.under.Goals as goal

pub returns-then-n-count : goal.returns-then-n-count
returns-then-n-count c =
    let xs = c.self.inside.items.items in
    let v = c.index.result.now in
    let i = c.len-count.result - 1 - c.args.n in
    let below : c.args.n < length xs = grind (arith, c.if-n-count.true, c.len-count.ensures) in
    let inside : i < length xs = grind (arith, c.if-n-count.true, c.len-count.ensures) in
    let count : c.len-count.result ≡ length xs = grind (arith, c.len-count.ensures) in
    read_at xs i v inside c.index.ensures
    ∙ (ap (λ k. get_or xs (k - 1 - c.args.n) Undefined) count
    ∙ (value_under xs c.args.n below ∙ ap (λ vs. top (without c.args.n vs)) c.self.view_is))

pub returns-else-n-count : goal.returns-else-n-count
returns-else-n-count c =
    ap (λ vs. top (without c.args.n vs)) (sym c.self.view_is)
    ∙ none_under c.self.inside.items.items c.args.n (grind (arith, c.if-n-count.false, c.len-count.ensures))
