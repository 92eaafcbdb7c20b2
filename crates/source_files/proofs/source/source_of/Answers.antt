use Rattle.std.proofs.Common.{subst}
use Rattle.source_files.specs.Reading.{Gives}
use Rattle.source_files.proofs.Sources.{exact}
use Rattle.source_files.proofs.source.source_of.Goals as goal

pub returns-clause-exactly : goal.returns-clause-exactly
returns-clause-exactly c tree a =
    exact c.args.room c.args.bytes.now c.script_of.result
    (subst (λ bytes. Gives c.args.room bytes c.script_of.result) c.in-Ok.ensures.cases.0 c.script_of.ensures.gives) tree a
