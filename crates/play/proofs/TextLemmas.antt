-- Lines of a report as the machine writes them.
use Rattle.std.proofs.Common.{◌≡◌, ℕ, List, [], ◌∷◌, ◌++◌, codes, refl, sym, ap, ◌∙◌, append_assoc, append-nil}
use Rattle.std.specs.List.{flat_map}
use Rattle.std.specs.Fmt.{digits}
use Rattle.dl_text.specs.Quote.{quoted_unit}
use Rattle.first_grammar.specs.First.{out_name}
use Rattle.play.specs.Value.{ShownText, ShownObject}
use Rattle.play.specs.Report.{CallLine, UncaughtLine, IdleLine, line_text}

closes : (xs : List ℕ) → ((xs ++ 34 ∷ []) ++ []) ++ 10 ∷ [] ≡ xs ++ (34 ∷ 10 ∷ [])
closes xs = ap (λ ys. ys ++ 10 ∷ []) (append-nil (xs ++ 34 ∷ [])) ∙ append_assoc xs (34 ∷ []) (10 ∷ [])

pub call_line : (text : List ℕ) → line_text (CallLine out_name (ShownText text ∷ [])) ≡ codes "call out \"" ++ (flat_map quoted_unit text ++ codes "\"\n")
call_line text = ap (λ xs. codes "call out \"" ++ xs) (closes (flat_map quoted_unit text))

-- what was written piece by piece is the line
pub call_written : (report text : List ℕ) → ((report ++ codes "call out \"") ++ flat_map quoted_unit text) ++ codes "\"\n" ≡ report ++ line_text (CallLine out_name (ShownText text ∷ []))
call_written report text =
    append_assoc (report ++ codes "call out \"") (flat_map quoted_unit text) (codes "\"\n")
    ∙ (append_assoc report (codes "call out \"") (flat_map quoted_unit text ++ codes "\"\n")
    ∙ ap (λ xs. report ++ xs) (sym (call_line text)))

pub idle_line : line_text IdleLine ≡ codes "idle\n"
idle_line = refl

pub uncaught_line : line_text (UncaughtLine (ShownObject 1)) ≡ codes "uncaught #1\n"
unfolding digits
uncaught_line = refl
