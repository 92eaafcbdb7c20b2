use Rattle.js_printer.specs.Parts as parts
use Rattle.js_printer.specs.Printed.{enclosed}
use Rattle.js_printer.proofs.Whole.{printed_text}
use Rattle.js_printer.proofs.printing.print_entry.Goals as goal

pub returns : goal.returns
returns c =
    printed_text _ _ (enclosed (parts.func c.args.func.now)) _ c.new-printer.ensures.text c.new-printer.ensures.last c.in_ok-write_entry.ensures c.into_text.ensures
