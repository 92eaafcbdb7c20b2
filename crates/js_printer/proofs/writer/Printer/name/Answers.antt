use Rattle.std.proofs.Common.{◌∙◌, ap}
use Rattle.std.proofs.lemmas.Result.{IfOk-equal}
use Rattle.std.specs.Prelude.{encode_utf8_all}
use Rattle.std.specs.Char.Utf16.{utf16_lossy_chars}
use Rattle.js_printer.proofs.Spelling.{name_written}
use Rattle.js_printer.proofs.writer.Printer.name.Goals as goal

pub returns : goal.returns
returns c =
    IfOk-equal _ _ _ _ c.write.ensures
    (name_written c.args.self.now c.args.name.now c.as_str.result.now c.as_str.utf8 (c.as_str.ensures.value ∙ c.in_ok-spelled.ensures ∙ ap (λ units. encode_utf8_all (utf16_lossy_chars units)) c.items.ensures))
