use Rattle.std.proofs.lemmas.Result.{IfOk-equal}
use Rattle.js_printer.proofs.Spelling.{mark_written}
use Rattle.js_printer.proofs.writer.Printer.mark.Goals as goal

pub returns : goal.returns
returns c = IfOk-equal _ _ _ _ c.write.ensures (mark_written c.args.self.now c.args.mark _ c.spelling.ensures)
