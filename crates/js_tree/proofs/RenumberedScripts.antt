-- Renumbered scripts are numbered, as many, and alike, and they are the only ones.
use Rattle.std.proofs.Common.{◌≡◌, List, length, ap, sym, ◌∙◌}
use Rattle.js_tree.specs.Tree.{Script}
use Rattle.js_tree.specs.Numbering.{functions, IsNumbered}
use Rattle.js_tree.specs.Renumbering.{counted, all_zero, renumbered, Alike}
use Rattle.js_tree.proofs.AsMany.{scripts_count}
use Rattle.js_tree.proofs.OldNumbers.{scripts_again}
use Rattle.js_tree.proofs.NewNumbers.{scripts_numbers, scripts_stay}

pub numbered : (scripts : List Script) → IsNumbered (renumbered 1 scripts)
numbered scripts = (scripts_numbers 1 scripts).are

pub as_many : (scripts : List Script) → length (functions (renumbered 1 scripts)) ≡ length (functions scripts)
as_many scripts = (scripts_count counted 1 scripts).same

pub alike : (scripts : List Script) → Alike scripts (renumbered 1 scripts)
alike scripts = sym (scripts_again all_zero counted 0 1 scripts)

pub only : (scripts others : List Script) → Alike scripts others → IsNumbered others
    → others ≡ renumbered 1 scripts
only scripts others are_alike are_numbered =
    sym (scripts_stay 1 others are_numbered) ∙ sym (scripts_again counted all_zero 1 0 others)
    ∙ ap (renumbered 1) (sym are_alike) ∙ scripts_again counted all_zero 1 0 scripts
