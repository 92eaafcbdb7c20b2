use Rattle.std.proofs.Common.{◌≡◌, ◌+◌, ℕ, Bool, drop}
use Rattle.std.specs.List.{prefix_len}
use Rattle.text_reader.specs.Gives.{Decides}
use Rattle.text_reader.proofs.cursor.front_length.Given as goal

abbrev pub invariant-loop-i : goal.invariant-loop-i
invariant-loop-i g l =
    (test : ℕ → Bool) → Decides (goal.F-post g l.passes) test → l.i + prefix_len test (drop l.i l.bytes) ≡ prefix_len test l.bytes
