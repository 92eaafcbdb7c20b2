use Rattle.std.proofs.lemmas.Result.{IfOk-equal}
use Rattle.js_printer.proofs.Spelling.{word_written}
use Rattle.js_printer.proofs.writer.Printer.word.Goals as goal

pub returns : goal.returns
returns c = IfOk-equal _ _ _ _ c.write.ensures (word_written c.args.self.now c.args.word _ c.spelling.ensures)
