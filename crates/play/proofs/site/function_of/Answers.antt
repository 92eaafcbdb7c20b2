use Rattle.std.proofs.Common.{ℕ, List, length, refl, sym, ap, ◌∙◌, arith}
use Rattle.std.specs.Prelude.{slice_get}
use Rattle.play.proofs.ListLemmas.{got_index}
use Rattle.play.proofs.Distinct.{not_listed}
use Rattle.play.proofs.site.function_of.Goals as goal

pub returns-in_ok-code-in-Statements-clause-body : goal.returns-in_ok-code-in-Statements-clause-body
returns-in_ok-code-in-Statements-clause-body c =
    let within = rw c.in-Statements.is at c.requires.plain in
    not_listed c.args.manifest.now c.args.next _ c.requires.form
    (ap (λ l. slice_get l c.args.next) (sym c.as_slice.ensures) ∙ got_index c.as_slice.result.now c.args.next _ 0 (omega (arith, within, ap (λ (l : List ℕ). length l) c.as_slice.ensures)) refl)
