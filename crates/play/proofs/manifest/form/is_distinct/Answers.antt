use Rattle.play.proofs.ManifestForm.{sorted_rises}
use Rattle.play.proofs.manifest.form.is_distinct.Goals as goal

pub returns : goal.returns
returns c =
    let e = sorted_rises c.args.numbers.items c.sort_unstable.new.self.items c.requires c.sort_unstable.ensures.permutation c.sort_unstable.ensures.sorted in
    let now = c.deref.ensures.value in
    let done = c.rises.ensures in
    cc
