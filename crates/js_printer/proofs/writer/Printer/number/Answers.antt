use Rattle.std.proofs.lemmas.Result.{IfOk-equal}
use Rattle.js_printer.proofs.Spelling.{number_written}
use Rattle.js_printer.proofs.writer.Printer.number.Goals as goal

pub returns : goal.returns
returns c = IfOk-equal _ _ _ _ c.write.ensures (number_written c.args.self.now c.args.number _ c.format.ensures.ascii c.format.ensures.text)
