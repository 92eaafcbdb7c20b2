use Rattle.std.proofs.Common.{◌≡◌}
use Rattle.dl_text.specs.Utf16.{utf16}
use Rattle.dl_text.proofs.utf.units_of.Given as goal

abbrev pub invariant-loop-character : goal.invariant-loop-character
invariant-loop-character l = l.units ≡ utf16 l.yielded
