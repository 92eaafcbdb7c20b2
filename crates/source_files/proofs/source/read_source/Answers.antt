use Rattle.std.specs.Option.{IfSome}
use Rattle.std.proofs.Common.{◌≡◌, Some, sym, ap, ◌∙◌, subst}
use Rattle.dl_ports.specs.Files.{bytes_of}
use Rattle.source_files.proofs.Sources.{of_file}
use Rattle.source_files.proofs.source.read_source.Goals as goal

pub returns-in-Some-clause-gives : goal.returns-in-Some-clause-gives
returns-in-Some-clause-gives g c files told =
    let read = subst (λ o. IfSome o (λ fs. bytes_of c.in_ok-read.field-0 ≡ fs c.args.name.now)) told c.in_ok-read.ensures.file in
    of_file files c.args.name.now c.args.room _ _ c.as_slice.result.now c.source_of.result
    (sym read ∙ (ap bytes_of c.in-Some.is ∙ ap Some (sym c.as_slice.ensures.value)))
    c.in_ok-read.ensures.asked c.source_of.ensures.gives
