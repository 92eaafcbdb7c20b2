use Rattle.js_printer.proofs.Quoted.{string_written}
use Rattle.js_printer.proofs.writer.Printer.string.Goals as goal

pub returns : goal.returns
returns c =
    string_written c.args.self.now c.args.text.now _ _ c.in_ok-push_quoted.ensures c.nothing-self.ensures
