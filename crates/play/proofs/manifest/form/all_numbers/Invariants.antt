use Rattle.std.proofs.Common.{◌≡◌, ◌++◌, take}
use Rattle.std.specs.List.{flat_map}
use Rattle.play.proofs.manifest.form.all_numbers.Given as goal

abbrev pub invariant-loop-line : goal.invariant-loop-line
invariant-loop-line l = l.numbers.items ≡ l.manifest.plain ++ flat_map (λ c. c.entries) (take l.line-index l.line-items)
