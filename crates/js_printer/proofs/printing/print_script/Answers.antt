use Rattle.std.proofs.Common.{◌≡◌, [], ◌∷◌, ◌++◌, ◌∙◌}
use Rattle.std.proofs.lemmas.Result.{IfOk-weaker}
use Rattle.js_tree.specs.Plain as view
use Rattle.js_printer.specs.Parts as parts
use Rattle.js_printer.specs.PrintedText.{script_bytes}
use Rattle.js_printer.proofs.Whole.{ended_text}
use Rattle.js_printer.proofs.printing.print_script.Goals as goal

pub returns : goal.returns
returns c =
    let whole = ended_text _ _ (parts.stmts c.args.script.now.body) _ c.new-printer.ensures.text c.new-printer.ensures.last c.in_ok-write_stmts.ensures c.into_text.ensures in
    IfOk-weaker c.end_line.result (λ line. line ≡ c.into_text.result ++ (10 ∷ [])) (λ line. line ≡ script_bytes (view.script c.args.script.now)) (λ line e. e ∙ whole) c.end_line.ensures
