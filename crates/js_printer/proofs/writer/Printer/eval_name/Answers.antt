use Rattle.std.proofs.lemmas.Result.{IfOk-equal}
use Rattle.js_printer.proofs.Spelling.{eval_written}
use Rattle.js_printer.proofs.writer.Printer.eval_name.Goals as goal

pub returns : goal.returns
returns c = IfOk-equal _ _ _ _ c.write.ensures (eval_written c.args.self.now)
