use Rattle.std.proofs.lemmas.Result.{IfOk-equal}
use Rattle.js_printer.proofs.Spelling.{use_written}
use Rattle.js_printer.proofs.writer.Printer.use_name.Goals as goal

pub returns : goal.returns
returns c = IfOk-equal _ _ _ _ c.write.ensures (use_written c.args.self.now)
