use Rattle.std.proofs.lemmas.Result.{IfOk-equal}
use Rattle.js_printer.proofs.Spelling.{get_written}
use Rattle.js_printer.proofs.writer.Printer.get_name.Goals as goal

pub returns : goal.returns
returns c = IfOk-equal _ _ _ _ c.write.ensures (get_written c.args.self.now)
